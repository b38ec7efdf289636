-- What the parts of a turn leave of a solver.
use Rattle.std.specs.Prelude.{◌≡◌, ℕ, zero, suc, List, [], ◌∷◌, ◌++◌, Bool, true, false, Option, Some, None, Result, MatchResult}
use Rattle.ddl_base.specs.declared.span.Span.{Span}
use Rattle.ddl_types.specs.Types.{Ty, Ty.var, Ty.con, Tys.none, Tys.more, Sub, on, Head, Head.array_of, Head.map_of, Head.uint, Head.bits, Head.place}
use Rattle.ddl_types.specs.Conditions.{field, tag}
use Rattle.ddl_types.specs.TyView.{ty_view}
use Rattle.ddl_unify.specs.Equations.{Equation, equal}
use Rattle.ddl_growing.specs.declared.adding.Sides.{Sides}
use Rattle.ddl_growing.specs.declared.heads.Known.TheVariants as known
use Rattle.ddl_growing.specs.declared.heads.Known.{Known}
use Rattle.ddl_growing.specs.declared.refusal.SettleError.{SettleError}
use Rattle.ddl_growing.specs.declared.turn.Turn.{Turn}
use Rattle.ddl_growing.specs.declared.turn.Turn.TheVariants as turn
use Rattle.ddl_judging.specs.Demands.{Asked, Demand, condition}
use Rattle.ddl_growing.specs.Giving.{Given, gathered, turns}
use Rattle.ddl_growing.specs.Heads.{heads_of}
use Rattle.ddl_judging.specs.Shapes.{Shapes, at, fresh}
use Rattle.ddl_growing.specs.Turns.{AreStopped, HasAdded, IsNoTurn, IsTurn, Solved}

abbrev pub asking : Demand → Span → Asked
asking d s = record { what = d; span = s }

abbrev pub IsTaken : Shapes → Asked → Solved → Solved → Result Turn SettleError → Type 0
IsTaken ss a old new r = MatchResult r (IsTurn ss a old new) (IsNoTurn ss a old new)

-- a field or a tag is asked for
abbrev pub for_member : Bool → Ty → List ℕ → Ty → Demand
for_member false t x r = condition (field t x r)
for_member true t x r = condition (tag t x r)

-- whether it is a head that no demand looks for
abbrev pub is_other : Option Head → Bool
is_other None = false
is_other (Some array_of) = false
is_other (Some map_of) = false
is_other (Some (uint w)) = false
is_other (Some (bits b)) = false
is_other (Some (place p)) = false
is_other o = true

-- what the program knows of a head
abbrev pub IsKnown : Known → Option Head → Type 0
IsKnown known.Unknown o = o ≡ None
IsKnown known.Array o = o ≡ Some array_of
IsKnown known.Map o = o ≡ Some map_of
IsKnown (known.Uint w) o = o ≡ Some (uint w)
IsKnown (known.Bits b) o = o ≡ Some (bits b)
IsKnown (known.Place p) o = o ≡ Some (place p)
IsKnown known.Other o = is_other o ≡ true

-- whether all heads of subjects are known
abbrev pub IsHeard : Turn → List Ty → Sub → Type 0
IsHeard turn.Waits ts f = heads_of ts f ≡ None
IsHeard turn.Silent ts f = (hs : List Head) × (heads_of ts f ≡ Some hs)
IsHeard turn.Adds ts f = ⊥

-- what is given is nothing, or is added
abbrev pub IsCarried : Given → Solved → Solved → Turn → Type 0
IsCarried g old new turn.Waits = ⊥
IsCarried g old new turn.Silent = ((g.equations ≡ []) × (g.vars ≡ 0)) × (new ≡ old)
IsCarried g old new turn.Adds = HasAdded g.equations g.vars old new

-- it is, or one of its equations is refused
abbrev pub Carries : Given → Span → Solved → Solved → Result Turn SettleError → Type 0
Carries g s old new r = MatchResult r (IsCarried g old new) (AreStopped g.equations s old new)

-- these equations, and so many variables
abbrev pub given : List Equation → ℕ → Given
given es n = record { equations = es; vars = n }

-- that a type is an array of bytes
abbrev pub byte_array : Ty → ℕ → Given
byte_array t n = given (equal (con array_of (more (var n) none)) t ∷ equal (con (uint 8) none) (var n) ∷ []) 1

-- what a `map` gives at a head
abbrev pub gathering : Head → Ty → Ty → Ty → Ty → Ty → ℕ → Given
gathering h t k v b r n = given ((turns h t k v n).equations ++ gathered h b r n) (turns h t k v n).vars

abbrev pub sides_view : Sides → Equation
sides_view s = equal (ty_view s.left.now) (ty_view s.right.now)

-- so many variables, from the n-th on
abbrev pub listed : ℕ → ℕ → List Ty
listed zero n = []
listed (suc k) n = var n ∷ listed k (suc n)

-- a member of a place: the place at its types, and the member at these
abbrev pub of_found : ℕ → ℕ → ℕ → Ty → Ty → Ty → Given
of_found p vars n u t r = given (equal (con (place p) (fresh vars n)) t ∷ equal (on u (at vars n)) r ∷ []) vars
