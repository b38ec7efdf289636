use Rattle.std.proofs.Common.{◌++◌, ◌∷◌, [], Bool, false, ℕ, List, sym, subst}
use Rattle.ddl_unify.specs.Kept.{Kept}
use Rattle.ddl_unify.specs.Named.{Named}
use Rattle.ddl_unify.proofs.Equating.{kept_fresh}
use Rattle.ddl_unify.proofs.Naming.{named_fresh}
use Rattle.ddl_unify.proofs.trail.Trail.fresh.Goals as goal

pub invariant_of-self-2 : goal.invariant_of-self-2
invariant_of-self-2 c =
    let P : List ℕ → Type 0 = λ z. Kept z c.self.inside.bindings.items in
    let Q : List Bool → Type 0 = λ z. Named z c.push-2.new.self.items c.self.inside.bindings.items in
    let R : List ℕ → Type 0 = λ z. Named (c.self.inside.named.items ++ false ∷ []) z c.self.inside.bindings.items in (
      subst P (sym c.in_ok-push-2.ensures.items) (kept_fresh c.self.inside.place.items c.self.inside.bindings.items c.self.invariant.0),
      subst Q (sym c.in_ok-push.ensures.items) (subst R (sym c.in_ok-push-2.ensures.items)
          (named_fresh c.self.inside.named.items c.self.inside.place.items c.self.inside.bindings.items c.self.invariant.1)),
    )
