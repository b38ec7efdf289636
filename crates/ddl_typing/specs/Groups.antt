-- The typing of a group of declarations, given what is known of the others.
use Rattle.std.specs.Prelude.{◌≡◌, ◌<◌, ℕ, List, [], ◌∷◌, ◌++◌}
use Rattle.ddl_tree.specs.ExprTree as ex
use Rattle.ddl_kinds.specs.declared.bound.Use.{Use}
use Rattle.ddl_types.specs.Types.{Ty, Ty.var, Sub, on}
use Rattle.ddl_unify.specs.Equations.{Equation}
use Rattle.ddl_judging.specs.Demands.{Asked}
use Rattle.ddl_typed.specs.Tree as t
use Rattle.ddl_rules.specs.Asks.{Ask, equates, demands, wants, Env, Known, Local, State}
use Rattle.ddl_typing.specs.Typed.{Typed, tree_of}
use Rattle.ddl_typing.specs.Making.{made}
use Rattle.ddl_typing.specs.Typing.{Typing}
use Rattle.ddl_typing.specs.Replaced.{asks_on, all_known_on, locals_on, state_on, trees_on}

-- the body of a declaration: its parameters, which are in scope in it, the type that it is wanted to have, what its header asks
-- (that the declaration's type is the written one), the uses of names in it, and its tree
pub record Body : Type 0 where
  pub locals : List Local
  pub of : Ty
  pub header : List Ask
  pub uses : List Use
  pub tree : ex.Expr

-- the typed bodies of a group, what they ask in text order, and what is left and noted
pub record TypedGroup : Type 0 where
  pub trees : List t.Expr
  pub asks : List Ask
  pub state : State

abbrev pub no_bodies : State → TypedGroup
no_bodies z = record { trees = []; asks = []; state = z }

-- a body is wanted to be of its declaration's type
abbrev pub one_body : Body → Typed → TypedGroup → TypedGroup
one_body b l r = record { trees = tree_of l ∷ r.trees; asks = b.header ++ wants b.of l.of l.at ∷ l.asks ++ r.asks; state = r.state }

abbrev pub in_body : Body → (ℕ → Known) → Env
in_body b known = record { locals = b.locals; known = known }

-- the names in a body are bound by its own uses
abbrev pub at_body : Body → State → State
at_body b z = record z { uses = b.uses }

-- these are typings of the bodies, one after the other
abbrev pub TypingGroup : List Body → (ℕ → Known) → State → TypedGroup → Type 0
TypingGroup [] known z m = m ≡ no_bodies z
TypingGroup (b ∷ bs) known z m =
    (l : Typed) × Typing b.tree (in_body b known) (at_body b z) l × ((r : TypedGroup) × TypingGroup bs known l.state r × (m ≡ one_body b l r))

-- the typing in which the n-th type that the rules leave free is that of a map at n
abbrev pub made_group : Sub → List Body → (ℕ → Known) → State → TypedGroup
made_group free [] known z = no_bodies z
made_group free (b ∷ bs) known z = let l = made free b.tree (in_body b known) (at_body b z) in one_body b l (made_group free bs known l.state)

-- each free type is a variable of its own
abbrev pub elaborated_group : List Body → (ℕ → Known) → State → TypedGroup
elaborated_group bs known z = made_group var bs known z

-- ---- with each type replaced

abbrev pub body_on : Body → Sub → Body
body_on b f = record { locals = locals_on b.locals f; of = on b.of f; header = asks_on b.header f; uses = b.uses; tree = b.tree }

abbrev pub bodies_on : List Body → Sub → List Body
bodies_on [] f = []
bodies_on (b ∷ bs) f = body_on b f ∷ bodies_on bs f

abbrev pub group_on : TypedGroup → Sub → TypedGroup
group_on m f = record { trees = trees_on m.trees f; asks = asks_on m.asks f; state = state_on m.state f }

-- ---- what is asked

-- the equations of a list of asks, in order, and its demands
abbrev pub equations_of : List Ask → List Equation
equations_of [] = []
equations_of (equates e s ∷ as_) = e ∷ equations_of as_
equations_of (demands d s ∷ as_) = equations_of as_

abbrev pub demands_of : List Ask → List Asked
demands_of [] = []
demands_of (equates e s ∷ as_) = demands_of as_
demands_of (demands d s ∷ as_) = record { what = d; span = s } ∷ demands_of as_

-- each equation has two equal sides
abbrev pub AreMet : List Ask → Type 0
AreMet [] = Unit {0}
AreMet (equates e s ∷ as_) = (e.left ≡ e.right) × AreMet as_
AreMet (demands d s ∷ as_) = AreMet as_

-- the group's own types are over the variables below the first free one: maps that agree there give the same types
pub record IsOwn (bs : List Body) (known : ℕ → Known) (z : State) : Type 0 where
  pub bodies : (f g : Sub) → ((v : ℕ) → v < z.next → f v ≡ g v) → bodies_on bs f ≡ bodies_on bs g
  pub knowns : (f g : Sub) → ((v : ℕ) → v < z.next → f v ≡ g v) → all_known_on known f ≡ all_known_on known g
  pub state : (f g : Sub) → ((v : ℕ) → v < z.next → f v ≡ g v) → state_on z f ≡ state_on z g
