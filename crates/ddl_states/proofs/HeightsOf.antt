-- The module is at least as deep as any part that it will have, and no token of a class changes what it is.
use Rattle.std.proofs.Common.{◌≡◌, ◌≤◌, ◌+◌, ℕ, List, [], ◌∷◌, refl, arith}
use Rattle.ddl_tree.specs.ClassTree as cls
use Rattle.ddl_tree.specs.ClassTree.{class_span}
use Rattle.ddl_reader.specs.Depths.{around}
use Rattle.ddl_reader.specs.Frames.{Frame}
use Rattle.ddl_reader.specs.Frames as m
use Rattle.ddl_reader.specs.StepClass.{class_done}
use Rattle.ddl_reader.specs.StepType.{joined}
use Rattle.ddl_states.specs.Heights.{coming, height}

pub around_most : (f : Frame) (n : ℕ) → n ≤ around f n
around_most (m.in_class_body s x) n = omega arith
around_most _ n = omega arith

pub height_most : (fs : List Frame) (n : ℕ) → n ≤ height fs n
height_most [] n = omega arith
height_most (f ∷ fs) n = omega (arith, around_most f n, height_most fs (around f n))

-- a whole factor of a class ends forms that were counted
pub class_height : (fs : List Frame) (c : cls.Cls) (n : ℕ) → height (class_done fs c n).0 (coming (class_done fs c n).1) ≡ height fs n
class_height (m.in_other s ∷ fs) c n = class_height fs (cls.Other c (joined s (class_span c))) (1 + n)
class_height (m.in_union a ∷ fs) c n = refl
class_height fs c n = refl
