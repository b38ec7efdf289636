-- The variables of a group are one list.
use Rattle.std.proofs.Common.{◌≡◌, List, ap, refl}
use Rattle.std.specs.Prelude.{ℕ}
use Rattle.ddl_types.specs.Types.{Ty, Sub}
use Rattle.ddl_judging.specs.Shapes.{Shapes}
use Rattle.ddl_schemes.specs.Order.{AreVariables, Seen, Walks}

-- two walks from one place end in one
one_walk : (ss : Shapes) (f : Sub) (ts : List Ty) (s y z : Seen) → Walks ss f ts s y → Walks ss f ts s z → y ≡ z
one_walk ss f ts s y z Walks.ends Walks.ends = refl
one_walk ss f ts s y z (Walks.variable v) (Walks.variable w) = one_walk ss f _ _ y z v w
one_walk ss f ts s y z (Walks.head v) (Walks.head w) = one_walk ss f _ _ y z v w

pub one_list : (ss : Shapes) (f : Sub) (roots : List Ty) (ms ns : List ℕ) → AreVariables ss f roots ms → AreVariables ss f roots ns → ms ≡ ns
one_list ss f roots ms ns a b = ap (λ (s : Seen). s.variables) (one_walk ss f _ _ _ _ a.walk b.walk)
