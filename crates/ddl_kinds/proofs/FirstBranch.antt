-- The first branch of a `case`.
use Rattle.std.proofs.Common.{◌≡◌, List, [], ◌∷◌, length, refl, ap, arith}
use Rattle.ddl_tree.specs.declared.expr.Alt.{Alt}
use Rattle.ddl_tree.specs.View.{alt_view, alts_view}
use Rattle.ddl_kinds.specs.Kinds.{first_want, free_want}

pub first_branch : (xs : List Alt) (x : Alt) (ys : List Alt) → xs ≡ x ∷ ys → first_want (alts_view xs) ≡ free_want (alt_view x).body
first_branch xs x ys e = ap (λ zs. first_want (alts_view zs)) e

pub no_first : (xs : List Alt) → length xs ≡ 0 → first_want (alts_view xs) ≡ first_want (alts_view [])
no_first [] h = refl
no_first (x ∷ xs) h = absurd (omega arith)

pub ruleset firsts = (first_branch, no_first)
