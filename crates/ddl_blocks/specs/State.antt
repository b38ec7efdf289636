-- States of the machine in the plain reading: values stand in the threads themselves, and a continuation is a list of frames.
use Rattle.std.specs.Prelude.{ℕ, List, Bool}
use Rattle.ddl_base.specs.declared.span.Span.{Span}
use Rattle.ddl_base.specs.declared.why.Why.{Why}
use Rattle.ddl_types.specs.Value.{Value, Stream, Source}
use Rattle.ddl_types.specs.Outcome.{Outcome, Ending, ends, miss, parse}
use Rattle.ddl_blocks.specs.Code.{Instr, Exit, Targets}

-- where a call comes back, with the values that are kept
pub record Frame : Type 0 where
  pub function : ℕ
  pub block : ℕ
  pub values : List Value

-- a thread, but for its place in a block: its number, its function, its values, its stream, its continuation
pub record Thread : Type 0 where
  pub number : ℕ
  pub function : ℕ
  pub values : List Value
  pub at : Stream
  pub frames : List Frame

-- a suspended thread, which resumes at a block, or ends there where it is flagged
pub record Waiting : Type 0 where
  pub flagged : Bool
  pub block : ℕ
  pub thread : Thread

-- a running thread at the rest of its block, the suspended ones, the last spawned first, and how many threads have begun; and
-- one in the middle of an operation, with the rest of what that does
pub data State : Type 0 where
  live : List Instr → Exit → Thread → List Waiting → ℕ → State
  doing : Outcome → Targets → List Instr → Exit → Thread → List Waiting → ℕ → State

-- what a step leads to: a state, or an ending, after failures and parses
pub data Stepped : Type 0 where
  on : State → Stepped
  ended : Ending → Stepped
  misses : Why → Source → ℕ → Span → Stepped → Stepped
  parses : Value → Stream → Stepped → Stepped

-- its events, and then those of what follows from its state
abbrev pub and_then : Stepped → (State → Outcome) → Outcome
and_then (on st) rest = rest st
and_then (ended e) rest = ends e
and_then (misses why source at span x) rest = miss why source at span (and_then x rest)
and_then (parses v s x) rest = parse v s (and_then x rest)
