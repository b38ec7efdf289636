-- A type that has been read whole, one form at a time.
use Rattle.std.proofs.Common.{◌≡◌, ℕ, List, ◌∷◌, refl, ap, sym, ◌∙◌}
use Rattle.ddl_tree.specs.TypeTree as ty
use Rattle.ddl_reader.specs.Frames.{Frame, State, Found, FoundType}
use Rattle.ddl_reader.specs.Frames as m
use Rattle.ddl_reader.specs.StepType.{type_done, found_type}
use Rattle.ddl_states.specs.Ends.{TypeEnd, wider, made, stays, ends_type}

-- the state after a type, by what the innermost form makes of it
abbrev pub type_on : TypeEnd → Frame → List Frame → FoundType → State
type_on (wider u) f fs t = type_done fs u.type u.deep
type_on (made a) f fs t = (fs, m.have a)
type_on stays f fs t = (f ∷ fs, m.have_type t)

pub type_done_on : (f : Frame) (fs : List Frame) (t : ty.TypeExpr) (n : ℕ)
    → type_done (f ∷ fs) t n ≡ type_on (ends_type f (found_type t n)) f fs (found_type t n)
type_done_on (m.in_maybe s) fs t n = refl
type_done_on (m.in_cast o a) fs t n = refl
type_done_on _ fs t n = refl

pub type_widens : (f : Frame) (gs fs : List Frame) (t u : FoundType) → gs ≡ f ∷ fs → ends_type f t ≡ wider u
    → type_done gs t.type t.deep ≡ type_done fs u.type u.deep
type_widens f gs fs t u e h = ap (λ z. type_done z t.type t.deep) e ∙ type_done_on f fs t.type t.deep ∙ ap (λ z. type_on z f fs t) h

pub type_makes : (f : Frame) (gs fs : List Frame) (t : FoundType) (a : Found) → gs ≡ f ∷ fs → ends_type f t ≡ made a
    → type_done gs t.type t.deep ≡ (fs, m.have a)
type_makes f gs fs t a e h = ap (λ z. type_done z t.type t.deep) e ∙ type_done_on f fs t.type t.deep ∙ ap (λ z. type_on z f fs t) h

pub type_stops : (f : Frame) (gs fs : List Frame) (t : FoundType) → gs ≡ f ∷ fs → ends_type f t ≡ stays → type_done gs t.type t.deep ≡ (f ∷ fs, m.have_type t)
type_stops f gs fs t e h = ap (λ z. type_done z t.type t.deep) e ∙ type_done_on f fs t.type t.deep ∙ ap (λ z. type_on z f fs t) h
