-- Runs of code with a budget, and what they count.
use Rattle.std.specs.Prelude.{ℕ, zero, suc, max, List, [], ◌∷◌, Option, Some, None}
use Rattle.ddl_types.specs.Value.{Stream}
use Rattle.ddl_types.specs.Outcome.{Outcome, Deep, ends, tick, ticks}
use Rattle.ddl_blocks.specs.Code.{Code, Function}
use Rattle.ddl_blocks.specs.State.{Thread, State, live, doing, Stepped, on, ended, misses, parses, and_then}
use Rattle.ddl_blocks.specs.Machine.{enter, step}

-- from a state on, with a budget of so many counted steps; Deep stands for a budget that is spent
abbrev pub run : List Function → ℕ → State → Outcome
run fs zero st = ends Deep
run fs (suc m) st = tick (and_then (step fs st) (run fs m))

-- the first thread, in the first block of the entry, without values
abbrev pub first_thread : Code → Stream → Thread
first_thread code s = record { number = 0; function = code.entry; values = []; at = s; frames = [] }

abbrev pub first : Code → Stream → Stepped
first code s = enter code.functions 0 (first_thread code s) [] 1

-- the run of a code on a stream: counted steps are ticks, failures that are noted are misses
abbrev pub Run : ℕ → Code → Stream → Outcome
Run m code s = and_then (first code s) (run code.functions m)

-- the state that a step leads to
abbrev pub state_of : Stepped → Option State
state_of (on st) = Some st
state_of (ended e) = None
state_of (misses why source at span x) = state_of x
state_of (parses v s x) = state_of x

-- the states of a run, each but the first one counted step after the one before it
abbrev pub states : List Function → ℕ → Option State → List State
states fs m None = []
states fs zero (Some st) = st ∷ []
states fs (suc m) (Some st) = st ∷ states fs m (state_of (step fs st))

-- the greatest number that states have
abbrev pub greatest : {A : Type 0} → (A → ℕ) → List A → ℕ
greatest f [] = 0
greatest f (x ∷ xs) = max (f x) (greatest f xs)

-- how many threads have begun
abbrev pub begun : State → ℕ
begun (live is e h ws n) = n
begun (doing o t is e h ws n) = n

-- what a run counts: its steps, and the threads that it began; in the plain reading no slot is ever live
pub record Counts : Type 0 where
  pub steps : ℕ
  pub threads : ℕ
  pub most_slots : ℕ

abbrev pub counts : ℕ → Code → Stream → Counts
counts m code s = record { steps = ticks (Run m code s); threads = greatest begun (states code.functions m (state_of (first code s))); most_slots = 0 }
