-- `Match` has one argument.
use Rattle.std.proofs.Common.{◌≡◌, ◌≢◌, List, [], ◌∷◌, map, length, refl}
use Rattle.ddl_typed.specs.Tree.{uint8}
use Rattle.ddl_typed.specs.declared.expr.TExpr.{TExpr}
use Rattle.ddl_typed.specs.View.{view}
use Rattle.ddl_rules.specs.BuiltInTypes.{matched}

pub not_one : (es : List TExpr) → length es ≢ 1 → matched (map view es) ≡ uint8
not_one [] h = refl
not_one (e ∷ []) h = absurd (h refl)
not_one (e ∷ f ∷ es) h = refl
