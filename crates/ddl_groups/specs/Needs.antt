-- Which declarations each declaration of bound modules uses.
use Rattle.std.specs.Prelude.{◌≡◌, ℕ, List, [], ◌∷◌, length, map, flat_map, nat_lt, if◌then◌else◌, Option, Some, None, refl}
use Rattle.ddl_base.specs.declared.span.Span.{Span}
use Rattle.ddl_kinds.specs.declared.bound.Bound.{Bound}
use Rattle.ddl_kinds.specs.declared.bound.Bound.TheVariants as bound
use Rattle.ddl_names.specs.declared.resolved.DeclInfo.{DeclInfo}
use Rattle.ddl_kinds.specs.declared.bound.Use.{Use}
use Rattle.ddl_names.specs.Cutting.{cut_at}
use Rattle.ddl_names.specs.Resolves.{firsts_of}

-- the number of the declaration that binds the name, among so many
abbrev pub declared : ℕ → Bound → Option ℕ
declared count (bound.Decl n) = if nat_lt n count then Some n else None
declared count b = None

-- the list of what there is, if there is something
abbrev pub listed : Option ℕ → List ℕ
listed None = []
listed (Some n) = n ∷ []

-- the declarations that these uses are bound to
abbrev pub needs_in : ℕ → List Use → List ℕ
needs_in count uses = flat_map (λ u. listed (declared count u.bound)) uses

-- for each of these declarations, in which these uses stand, those that it uses
abbrev pub needs_of : List DeclInfo → List Use → List (List ℕ)
needs_of ds us = map (needs_in (length ds)) (cut_at us (firsts_of ds))

-- ---- worked

-- a use of a declaration beyond so many, of a parameter or of a built-in name is no need
three_uses : (s : Span) → needs_in 3 (record { span = s; bound = bound.Decl 2 } ∷ record { span = s; bound = bound.Local s } ∷ record {
  span = s;
  bound =
      bound.Decl 3;
} ∷ []) ≡ 2 ∷ []
three_uses s = refl
