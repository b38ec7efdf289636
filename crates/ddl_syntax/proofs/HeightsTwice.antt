-- A module that is shallow enough leaves room to count the depths of the forms that are open.
use Rattle.std.proofs.Common.{◌≤◌, ◌+◌, ℕ, max, List, [], ◌∷◌, arith}
use Rattle.ddl_tree.specs.ExprTree as ex
use Rattle.ddl_reader.specs.Depths.{around, around_in, low, lowest, need}
use Rattle.ddl_reader.specs.Frames.{Frame, Focus, State}
use Rattle.ddl_reader.specs.Frames as m
use Rattle.ddl_states.specs.Heights.{coming, height}

around_twice : (f : Frame) (n k : ℕ) → n ≤ k + k → around f n ≤ around f k + around f k
around_twice (m.in_class_body s x) n k h = h
around_twice _ n k h = omega arith

-- a parenthesis that may yet be that of a bound is counted here, and stands in a form that is counted twice
pub height_twice : (fs : List Frame) (n k : ℕ) → n ≤ k + k → height fs n ≤ low fs k + low fs k
height_twice [] n k h = h
height_twice (m.in_paren s ∷ m.in_many r ex.Free d ∷ fs) n k h = height_twice fs (1 + max d (1 + n)) (1 + max d k) (omega arith)
height_twice (f ∷ fs) n k h = height_twice fs (around f n) (around_in f fs k) (around_twice f n k h)

coming_most : (fs : List Frame) (f : Focus) → coming f ≤ need fs f
coming_most fs m.want = omega arith
coming_most fs _ = omega arith

pub room : (z : State) → lowest z ≤ 200 → height z.0 (coming z.1) ≤ 400
room z h = omega (arith, height_twice z.0 (coming z.1) (need z.0 z.1) (omega (arith, coming_most z.0 z.1)))
