-- The open forms that a stack of the code stands for.
use Rattle.std.specs.Prelude.{List, [], ◌∷◌}
use Rattle.ddl_states.specs.declared.frame.Frame as code_frame
use Rattle.ddl_states.specs.declared.stack.Stack.{Stack}
use Rattle.ddl_states.specs.FrameView.{frame_view}
use Rattle.ddl_reader.specs.Frames.{Frame}

-- the innermost form is the last of the vector and the first of the list
abbrev pub stack_view : List code_frame.Frame → List Frame → List Frame
stack_view [] fs = fs
stack_view (f ∷ others) fs = stack_view others (frame_view f ∷ fs)

abbrev pub forms : Stack → List Frame
forms s = stack_view s.frames.items []
