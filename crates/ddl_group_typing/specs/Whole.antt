-- The typing of a group, given those of the groups before it, and the typing of all groups.
use Rattle.std.specs.Prelude.{◌≡◌, ℕ, List, [], ◌∷◌, ◌++◌, length}
use Rattle.ddl_types.specs.Types.{Ty, Sub}
use Rattle.ddl_unify.specs.Equations.{Equation}
use Rattle.ddl_conditions.specs.Growing.{State}
use Rattle.ddl_conditions.specs.Settled.{AreKept, IsEnd}
use Rattle.ddl_schemes.specs.Order.{AreVariables}
use Rattle.ddl_schemes.specs.Renaming.{seen}
use Rattle.ddl_group_typing.specs.Finals.{final_bodies, final_places, kept_of, with_final}
use Rattle.ddl_typing.specs.Groups.{equations_of}
use Rattle.ddl_group_typing.specs.Tables.{Opening, Table, asked_in, elaborated_in}

-- the list of the group's equations has grown to its end, with this most general solution; each demand holds or is kept; and
-- the variables of the group's types are these
pub record IsSolved (o : Opening) (z : Table) (f : Sub) (kept variables : List ℕ) : Type 0 where
  pub accepted : List Equation
  pub grown : State
  pub ended : IsEnd (asked_in o z) (equations_of (elaborated_in o z).asks) (elaborated_in o z).state.next grown accepted f
  pub are_kept : AreKept (asked_in o z) f 0 (asked_in o z).asked kept
  pub numbered : AreVariables (asked_in o z).shapes f o.roots variables

-- the table with a group of n variables, whose types are changed so, and whose kept demands have these places
abbrev pub with_group : Opening → Table → ℕ → (Ty → Ty) → List ℕ → Table
with_group o z n final kept = let it = elaborated_in o z in record {
  known = with_final n final (kept_of (asked_in o z).asked kept) o.own z.known;
  done = z.done ++ final_bodies n final o.members o.members it.trees;
  places = final_places n final (length z.places) it.state.places;
  bitdata = o.bitdata;
  declared = o.declared;
  texts = it.state.texts;
  sites = it.state.sites;
}

-- this is the table with the group
pub record IsGroup (o : Opening) (before after : Table) : Type 0 where
  pub solution : Sub
  pub kept : List ℕ
  pub variables : List ℕ
  pub solved : IsSolved o before solution kept variables
  pub table : after ≡ with_group o before (length variables) (seen (length before.places) variables solution) kept

-- the groups one after another; what the headers of a group give hangs on the table before it
pub data AreTyped (opened : List ℕ → Table → Opening) : List (List ℕ) → Table → Table → Type 0 where
  none_left : {z : Table} → AreTyped opened [] z z
  group : {g : List ℕ} {gs : List (List ℕ)} {x y z : Table} → IsGroup (opened g x) x y → AreTyped opened gs y z → AreTyped opened (g ∷ gs) x z
