-- The fields of a block, one more at the end.
use Rattle.std.proofs.Common.{◌≡◌, List, [], ◌∷◌, ◌++◌, length, refl, ap, arith}
use Rattle.ddl_types.specs.Value.{field, Value, fields}
use Rattle.ddl_typed.specs.Blocks.{add_field, fields_or}
use Rattle.ddl_typed.specs.declared.shared.Part.{Part}
use Rattle.ddl_typed.specs.SharedView.{part_view, parts_view}

pub one_more_field : (ps : List Part) (p : Part) → parts_view (ps ++ p ∷ []) ≡ add_field (parts_view ps) (part_view p).0 (part_view p).1
one_more_field [] p = refl
one_more_field (q ∷ ps) p = ap (field (part_view q).0 (part_view q).1) (one_more_field ps p)

pub no_fields_or : (ps : List Part) (last : Value) → length ps ≡ 0 → fields_or (parts_view ps) last ≡ last
no_fields_or [] last h = refl
no_fields_or (p ∷ ps) last h = absurd (omega arith)

pub some_fields_or : (ps : List Part) (last : Value) → (length ps ≡ 0 → ⊥) → fields_or (parts_view ps) last ≡ fields (parts_view ps)
some_fields_or [] last h = absurd (h refl)
some_fields_or (p ∷ ps) last h = refl

pub ruleset building = (one_more_field, no_fields_or, some_fields_or)
