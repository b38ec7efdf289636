-- Fields, tags and patterns: which a type has, and of which type they are.
use Rattle.std.specs.Prelude.{◌≡◌, ℕ, Bool, true, false, List, [], ◌∷◌, map, bytes_eq, Option, Some, None}
use Rattle.ddl_types.specs.declared.num.NumType.{NumType}
use Rattle.ddl_types.specs.Layout.{Layout, Parts, no_parts, part, fixed, free, inner, named_con, no_cons, one_of, only_con}
use Rattle.ddl_types.specs.Types.{Ty, con, none, uint, maybe_of, bits, place}
use Rattle.ddl_types.specs.Types as t
use Rattle.ddl_ops.specs.declared.pattern.Pattern.{Pattern}
use Rattle.ddl_ops.specs.declared.pattern.Pattern.TheVariants.{Any, Number, Truth, Nothing, Just, Tag}
use Rattle.ddl_ops.specs.Bitdata.{layout_at}
use Rattle.ddl_ops.specs.Numbers.{number_type}
use Rattle.ddl_typed.specs.Specification.{Place}
use Rattle.ddl_sound.specs.HasType.{place_at, tag_type, at_arguments}
use Rattle.ddl_sound.specs.BasicTypes.{unit_type, IsBool, field_type}

-- the first statement where a test holds, else the second
abbrev pub IfSame : Bool → Type 0 → Type 0 → Type 0
IfSame true A B = A
IfSame false A B = B

module _ (layouts : List Layout) where
  -- the type of a bitdata with this layout
  abbrev pub IsBitsOf : Layout → Ty → Type 0
  IsBitsOf l ty = (m : ℕ) × (layout_at layouts m ≡ Some l) × (ty ≡ con (bits m) none)

  -- the field of a name among the parts of a bitdata's constructor: a number, or again a bitdata
  abbrev pub PartType : Parts → List ℕ → Ty → Type 0
  PartType no_parts label ty = ⊥
  PartType (part (fixed n w) ps) label ty = PartType ps label ty
  PartType (part (free None w) ps) label ty = PartType ps label ty
  PartType (part (inner None l) ps) label ty = PartType ps label ty
  PartType (part (free (Some other) w) ps) label ty =
      IfSame (bytes_eq other label) (ty ≡ con (uint w) none) (PartType ps label ty)
  PartType (part (inner (Some other) l) ps) label ty =
      IfSame (bytes_eq other label) (IsBitsOf l ty) (PartType ps label ty)

  -- only a bitdata written with `=` has fields
  abbrev pub OnlyPart : Option Parts → List ℕ → Ty → Type 0
  OnlyPart (Some ps) label ty = PartType ps label ty
  OnlyPart None label ty = ⊥

  -- the names and types of the fields of a bitdata's constructor
  abbrev pub PartsAre : Parts → List (List ℕ) → List Ty → Type 0
  PartsAre no_parts [] [] = Unit {0}
  PartsAre (part (fixed n w) ps) xs tys = PartsAre ps xs tys
  PartsAre (part (free None w) ps) xs tys = PartsAre ps xs tys
  PartsAre (part (inner None l) ps) xs tys = PartsAre ps xs tys
  PartsAre (part (free (Some other) w) ps) (x ∷ xs) (ty ∷ tys) =
      (other ≡ x) × (ty ≡ con (uint w) none) × PartsAre ps xs tys
  PartsAre (part (inner (Some other) l) ps) (x ∷ xs) (ty ∷ tys) = (other ≡ x) × IsBitsOf l ty × PartsAre ps xs tys
  PartsAre ps xs tys = ⊥

module _ (places : List Place) where
  -- a record of these names and types; without names it is `{}`
  abbrev pub IsRecord : List (List ℕ) → List Ty → Ty → Type 0
  IsRecord [] [] ty = ty ≡ unit_type
  IsRecord (x ∷ xs) tys (con (place m) ts) =
      (p : Place) × (place_at places m ≡ Some p) × (p.tagged ≡ false) × (p.names ≡ x ∷ xs) ×
      (map (λ ty. at_arguments ty ts) p.types ≡ tys)
  IsRecord xs tys ty = ⊥

  -- a union with this tag, whose content is of this type
  abbrev pub HasTag : List ℕ → Ty → Ty → Type 0
  HasTag label u (con (place m) ts) =
      (p : Place) × (place_at places m ≡ Some p) × (p.tagged ≡ true) ×
      ((ty : Ty) × (tag_type label p.names p.types ≡ Some ty) × (at_arguments ty ts ≡ u))
  HasTag label u ty = ⊥

module _ (places : List Place) (layouts : List Layout) where
  -- a record or a bitdata with this field, which is of this type
  abbrev pub HasField : List ℕ → Ty → Ty → Type 0
  HasField label u (con (place m) ts) =
      (p : Place) × (place_at places m ≡ Some p) × (p.tagged ≡ false) ×
      ((ty : Ty) × (field_type label p.names p.types ≡ Some ty) × (at_arguments ty ts ≡ u))
  HasField label u (con (bits m) ts) =
      (l : Layout) × (layout_at layouts m ≡ Some l) × OnlyPart layouts (only_con l) label u
  HasField label u ty = ⊥

  -- each constructor of the name has the fields of this record
  abbrev pub ConsAre : Layout → List ℕ → Ty → Type 0
  ConsAre no_cons label ty = Unit {0}
  ConsAre (one_of (named_con other ps) cs) label ty =
      (bytes_eq label other ≡ true →
      (xs : List (List ℕ)) × ((tys : List Ty) × PartsAre layouts ps xs tys × IsRecord places xs tys ty)) ×
      ConsAre cs label ty

  -- a pattern of a subject of one type, whose content is of another: that of a `just` or a tag, else `{}`
  abbrev pub PatternRule : Pattern → Ty → Ty → Type 0
  PatternRule Any subject inside = inside ≡ unit_type
  PatternRule (Number n) subject inside = ((s : NumType) × (number_type subject ≡ Some s)) × (inside ≡ unit_type)
  PatternRule (Truth b) subject inside = IsBool subject × (inside ≡ unit_type)
  PatternRule Nothing (con maybe_of (t.more ty ts)) inside = inside ≡ unit_type
  PatternRule (Just x) (con maybe_of (t.more ty ts)) inside = inside ≡ ty
  PatternRule (Tag label x) (con (place m) ts) inside = HasTag places label inside (con (place m) ts)
  PatternRule (Tag label x) (con (bits m) ts) inside =
      (l : Layout) × (layout_at layouts m ≡ Some l) × ConsAre l label inside
  PatternRule p subject inside = ⊥
