-- What a step of the code gives is what the machine's gives, unless memory runs out.
use Rattle.std.specs.Prelude.{◌≡◌, Option, Some, None, Result, Ok, Err}
use Rattle.ddl_base.specs.declared.memory.NoMemory.{NoMemory}
use Rattle.ddl_states.specs.declared.stack.Stack.{Stack}
use Rattle.ddl_states.specs.declared.focus.Focus as code_focus
use Rattle.ddl_states.specs.declared.refusal.Refusal as code_refusal
use Rattle.ddl_states.specs.declared.refusal.Refusal.TheVariants as r
use Rattle.ddl_states.specs.StackView.{forms}
use Rattle.ddl_states.specs.FocusView.{focus_view}
use Rattle.ddl_reader.specs.Frames.{State}

-- the state of the code, as the machine has it
abbrev pub state_of : Stack → code_focus.Focus → State
state_of stack f = (forms stack, focus_view f)

-- a refusal has its cause
abbrev pub Refuses : code_refusal.Refusal → Option State → Type 0
Refuses r.NoMemory o = Unit {0}
Refuses r.Unexpected o = o ≡ None

abbrev pub Gives : Option State → Result code_focus.Focus code_refusal.Refusal → Stack → Type 0
Gives o (Ok f) stack = o ≡ Some (state_of stack f)
Gives o (Err e) stack = Refuses e o

-- a step that only want of memory stops
abbrev pub Comes : State → Result code_focus.Focus NoMemory → Stack → Type 0
Comes z (Ok f) stack = z ≡ state_of stack f
Comes z (Err e) stack = Unit {0}
