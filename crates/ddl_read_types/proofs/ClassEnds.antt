-- A factor of a class that has been read whole, one form at a time.
use Rattle.std.proofs.Common.{◌≡◌, ℕ, List, ◌∷◌, refl, ap, sym, ◌∙◌}
use Rattle.ddl_tree.specs.ClassTree as cls
use Rattle.ddl_reader.specs.Frames.{Frame, State, FoundClass}
use Rattle.ddl_reader.specs.Frames as m
use Rattle.ddl_reader.specs.StepClass.{class_done, found_class}
use Rattle.ddl_states.specs.Ends.{ClassEnd, other, joins, alone, ends_class}

-- the state after a factor, by what the innermost form makes of it
abbrev pub class_at : ClassEnd → Frame → List Frame → FoundClass → State
class_at (other d) f fs c = class_done fs d.class d.deep
class_at (joins d) f fs c = (fs, m.have_class d)
class_at alone f fs c = (f ∷ fs, m.have_class c)

class_done_at : (f : Frame) (fs : List Frame) (c : cls.Cls) (n : ℕ) → class_done (f ∷ fs) c n ≡ class_at (ends_class f (found_class c n)) f fs (found_class c n)
class_done_at (m.in_other s) fs c n = refl
class_done_at (m.in_union a) fs c n = refl
class_done_at _ fs c n = refl

pub class_widens : (f : Frame) (gs fs : List Frame) (c d : FoundClass) → gs ≡ f ∷ fs → ends_class f c ≡ other d
    → class_done gs c.class c.deep ≡ class_done fs d.class d.deep
class_widens f gs fs c d e h = ap (λ z. class_done z c.class c.deep) e ∙ class_done_at f fs c.class c.deep ∙ ap (λ z. class_at z f fs c) h

pub class_joins : (f : Frame) (gs fs : List Frame) (c d : FoundClass) → gs ≡ f ∷ fs → ends_class f c ≡ joins d
    → class_done gs c.class c.deep ≡ (fs, m.have_class d)
class_joins f gs fs c d e h = ap (λ z. class_done z c.class c.deep) e ∙ class_done_at f fs c.class c.deep ∙ ap (λ z. class_at z f fs c) h

pub class_stops : (f : Frame) (gs fs : List Frame) (c : FoundClass) → gs ≡ f ∷ fs → ends_class f c ≡ alone
    → class_done gs c.class c.deep ≡ (f ∷ fs, m.have_class c)
class_stops f gs fs c e h = ap (λ z. class_done z c.class c.deep) e ∙ class_done_at f fs c.class c.deep ∙ ap (λ z. class_at z f fs c) h
