-- Which typed bodies are well typed: some typing has these trees, each of its equations is met, and each demand holds or is assumed.
use Rattle.std.specs.Prelude.{◌≡◌, ◌⊎◌, ℕ, ◌+◌, Contains, List, [], ◌∷◌, length, Bool, true, false, Option, Some, None}
use Rattle.ddl_types.specs.Types.{Ty, Ty.con, Tys, Tys.none, Tys.more, Head.uint, Head.array_of, Head.map_of, Head.bits, Head.place}
use Rattle.ddl_types.specs.Conditions.{Condition, key, cat, field, tag, loops}
use Rattle.ddl_judging.specs.Demands.{Demand, condition, make, gather}
use Rattle.ddl_judging.specs.Judging.{Judged, holds}
use Rattle.ddl_judging.specs.Shapes.{BitShape, Shape, Shapes, place_at, bits_at, found}
use Rattle.ddl_schemes.specs.Order.{parts}
use Rattle.ddl_typed.specs.Tree as t
use Rattle.ddl_rules.specs.Asks.{Ask, equates, demands, Known, State}
use Rattle.ddl_typing.specs.Closed.{EachIsBelow}
use Rattle.ddl_typing.specs.Groups.{AreMet, Body, TypedGroup, TypingGroup}
use Rattle.ddl_typing.specs.Names.{at_types}

-- ---- what a demand that holds says of its types

-- arrays are compared by bytes
abbrev pub IsOfBytes : Ty → Type 0
IsOfBytes (con array_of (more u none)) = u ≡ con (uint 8) none
IsOfBytes u = Unit {0}

-- two words side by side are as wide as both
abbrev pub IsAsWide : Ty → Ty → Ty → Type 0
IsAsWide (con (uint m) us) (con (uint n) vs) r = r ≡ con (uint (m + n)) none
IsAsWide s t r = Unit {0}

-- a member of a shape of so many variables, at as many types of a place
abbrev pub IsMember : Option Ty → ℕ → Tys → Ty → Type 0
IsMember None n us r = Unit {0}
IsMember (Some u) n us r = (length (parts us) ≡ n) × (r ≡ at_types n (parts us) u)

abbrev pub IsBitMember : Option Ty → Ty → Type 0
IsBitMember None r = Unit {0}
IsBitMember (Some u) r = r ≡ u

-- the field or the tag of a name is of this type
abbrev pub IsMemberOf : Shapes → Bool → Ty → List ℕ → Ty → Type 0
IsMemberOf ss tagged (con (place p) us) x r = IsMember (found tagged x (place_at ss.places p)) (place_at ss.places p).vars us r
IsMemberOf ss tagged (con (bits b) us) x r = IsBitMember (found tagged x (bits_at ss.bitdata b).shape) r
IsMemberOf ss tagged u x r = Unit {0}

-- the key and the value of each turn
abbrev pub AreTurns : Ty → Ty → Ty → Type 0
AreTurns (con array_of (more u none)) k v = (k ≡ con (uint 64) none) × (v ≡ u)
AreTurns (con map_of (more s (more u none))) k v = (k ≡ s) × (v ≡ u)
AreTurns u k v = Unit {0}

-- what a `map` makes of bodies of a type
abbrev pub IsGathered : Ty → Ty → Ty → Type 0
IsGathered (con array_of (more u none)) b r = r ≡ con array_of (more b none)
IsGathered (con map_of (more s (more u none))) b r = r ≡ con map_of (more s (more b none))
IsGathered u b r = Unit {0}

abbrev pub IsGiven : Shapes → Demand → Type 0
IsGiven ss (condition (key u)) = IsOfBytes u
IsGiven ss (condition (cat a b r)) = IsAsWide a b r
IsGiven ss (condition (field u x r)) = IsMemberOf ss false u x r
IsGiven ss (condition (tag u x r)) = IsMemberOf ss true u x r
IsGiven ss (condition (loops u k v)) = AreTurns u k v
IsGiven ss (make u x r) = IsMemberOf ss true u x r
IsGiven ss (gather u k v b r) = AreTurns u k v × IsGathered u b r
IsGiven ss d = Unit {0}

-- ---- well typed bodies

-- a demand holds, and its types are as it says
abbrev pub IsMetFully : Shapes → Demand → Type 0
IsMetFully ss d = Judged ss d holds × IsGiven ss d

-- it does, or is one of those that are assumed
abbrev pub IsGranted : Shapes → List Condition → Demand → Type 0
IsGranted ss assumed d = IsMetFully ss d ⊎ ((c : Condition) × Contains assumed c × (d ≡ condition c))

abbrev pub AreGranted : Shapes → List Condition → List Ask → Type 0
AreGranted ss assumed [] = Unit {0}
AreGranted ss assumed (equates q s ∷ as_) = AreGranted ss assumed as_
AreGranted ss assumed (demands d s ∷ as_) = IsGranted ss assumed d × AreGranted ss assumed as_

-- these trees of these bodies are well typed
pub record AreWellTyped (ss : Shapes) (assumed : List Condition) (known : ℕ → Known) (bs : List Body) (z : State) (trees : List t.Expr) : Type 0 where
  pub typing : TypedGroup
  pub typed : TypingGroup bs known z typing
  pub same : trees ≡ typing.trees
  pub met : AreMet typing.asks
  pub granted : AreGranted ss assumed typing.asks

-- the types of each record, union and bitdata are over its own variables alone
abbrev pub IsClosedShape : Shape → Type 0
IsClosedShape s = EachIsBelow s.types s.vars

abbrev pub AreClosed : List Shape → Type 0
AreClosed [] = Unit {0}
AreClosed (s ∷ ss) = IsClosedShape s × AreClosed ss

abbrev pub AreClosedBits : List BitShape → Type 0
AreClosedBits [] = Unit {0}
AreClosedBits (b ∷ bs) = EachIsBelow b.shape.types 0 × AreClosedBits bs

pub record AreClosedShapes (ss : Shapes) : Type 0 where
  pub places : AreClosed ss.places
  pub bitdata : AreClosedBits ss.bitdata
