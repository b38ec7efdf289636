-- The least depth in two numbers, which change by one form at a time: what the parts that are read come to, and how many
-- levels stand around the hole.
use Rattle.std.proofs.Common.{◌≡◌, ℕ, ◌+◌, max, List, [], ◌∷◌, arith}
use Rattle.ddl_tree.specs.ExprTree as ex
use Rattle.ddl_reader.specs.Frames.{Frame}
use Rattle.ddl_reader.specs.Frames as frame
use Rattle.ddl_reader.specs.Depths.{around, around_in, low, adds, adds_in, levels}

around_flat : (f : Frame) (n : ℕ) → around f n ≡ max (around f 0) (adds f + n)
around_flat (frame.in_class_body s x) n = omega arith
around_flat _ n = omega arith

around_in_flat : (f : Frame) (fs : List Frame) (n : ℕ) → around_in f fs n ≡ max (around_in f fs 0) (adds_in f fs + n)
around_in_flat (frame.in_paren s) (frame.in_many r ex.Free m ∷ fs) n = omega arith
around_in_flat f fs n = around_flat f n

pub low_flat : (fs : List Frame) (n : ℕ) → low fs n ≡ max (low fs 0) (levels fs + n)
low_flat [] n = omega arith
low_flat (f ∷ fs) n = omega (arith, low_flat fs (around_in f fs n), low_flat fs (around_in f fs 0), around_in_flat f fs n)
