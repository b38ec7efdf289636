-- States of the machine in the slot reading: values are words, and a continuation is a word too.
use Rattle.std.specs.Prelude.{ℕ, zero, suc, nat_eq, List, [], ◌∷◌, ◌++◌, map, Bool, true, false, if◌then◌else◌, Option, Some, None}
use Rattle.ddl_base.specs.declared.span.Span.{Span}
use Rattle.ddl_base.specs.declared.why.Why.{Why}
use Rattle.ddl_types.specs.Value.{Value, Source}
use Rattle.ddl_types.specs.Value as values
use Rattle.ddl_types.specs.Outcome.{Outcome, Ending, Stuck, ends, miss, parse}
use Rattle.ddl_slots.specs.declared.word.Stream.{Stream}
use Rattle.ddl_slots.specs.declared.word.Word.{Word}
use Rattle.ddl_slots.specs.declared.word.Word.TheVariants as W
use Rattle.ddl_slots.specs.Slots.{Slots, release_all}
use Rattle.ddl_blocks.specs.Code.{Instr, Exit, Prim, ValueType}
use Rattle.ddl_blocks.specs.Places.{is_reference}
use Rattle.ddl_blocks.specs.Reading.{and_there}

-- a value of a block: its type, its word, and how many references it still holds
pub record Cell : Type 0 where
  pub type : ValueType
  pub word : Word
  pub credit : ℕ

-- a thread, but for its place in a block and its values: its number, its function, its stream, its continuation
pub record SlotThread : Type 0 where
  pub number : ℕ
  pub function : ℕ
  pub at : Stream
  pub continuation : Word

-- a suspended thread
pub record SlotWaiting : Type 0 where
  pub flagged : Bool
  pub block : ℕ
  pub words : List Word
  pub thread : SlotThread

-- a parse that was given and is not given back: its value, and the stream after it
pub record Given : Type 0 where
  pub word : Word
  pub at : Stream

-- the suspended threads, how many have begun, the parses that are out, the slots
pub record World : Type 0 where
  pub waiting : List SlotWaiting
  pub begun : ℕ
  pub out : List Given
  pub map : Slots

-- a running thread at the rest of its block; and one in the middle of an operation, with the rest of what that does and the
-- arguments that it took over
pub data SlotState : Type 0 where
  slot_live : List Instr → Exit → List Cell → SlotThread → World → SlotState
  slot_doing : Outcome → Prim → List Cell → List Instr → Exit → List Cell → SlotThread → World → SlotState

-- what a step leads to
pub data SlotStepped : Type 0 where
  slot_on : SlotState → SlotStepped
  slot_ended : Ending → World → SlotStepped
  slot_stuck : SlotStepped
  slot_misses : Why → Source → ℕ → Span → SlotStepped → SlotStepped
  slot_parses : Value → values.Stream → SlotStepped → SlotStepped

-- its events, and then those of what follows from its state
abbrev pub slot_then : SlotStepped → (SlotState → Outcome) → Outcome
slot_then (slot_on st) rest = rest st
slot_then (slot_ended e w) rest = ends e
slot_then slot_stuck rest = ends Stuck
slot_then (slot_misses why source at span x) rest = miss why source at span (slot_then x rest)
slot_then (slot_parses v s x) rest = parse v s (slot_then x rest)

-- the same world with other slots
abbrev pub with_map : World → Slots → World
with_map w m = record { waiting = w.waiting; begun = w.begun; out = w.out; map = m }

-- the words, the types of cells
abbrev pub words_of : List Cell → List Word
words_of cs = map (λ c. c.word) cs

abbrev pub types_of : List Cell → List ValueType
types_of cs = map (λ c. c.type) cs

-- one reference of a value less; it must hold one
abbrev pub less_credit : ℕ → Cell → Option Cell
less_credit zero c = None
less_credit (suc k) c = Some (record { type = c.type; word = c.word; credit = k })

abbrev pub spent : Cell → Option Cell
spent c = if is_reference c.type then less_credit c.credit c else Some c

abbrev pub gained : Cell → Cell
gained c = record { type = c.type; word = c.word; credit = suc c.credit }

-- a value of a number changed
abbrev pub changed_at : ℕ → (Cell → Option Cell) → List Cell → Option (List Cell)
changed_at i f [] = None
changed_at zero f (c ∷ cs) = and_there (f c) (λ d. Some (d ∷ cs))
changed_at (suc i) f (c ∷ cs) = and_there (changed_at i f cs) (λ ds. Some (c ∷ ds))

-- these values are taken over, each with one reference
abbrev pub taken : List ℕ → List Cell → Option (List Cell)
taken [] cs = Some cs
taken (i ∷ is) cs = and_there (changed_at i spent cs) (λ ds. taken is ds)

-- what is handed on to another block: each value but the references that are used up; none may hold more than one
abbrev pub handed_by : Bool → ℕ → Word → List Word → Option (List Word)
handed_by false k w ws = Some (w ∷ ws)
handed_by true zero w ws = Some ws
handed_by true (suc zero) w ws = Some (w ∷ ws)
handed_by true (suc (suc k)) w ws = None

abbrev pub handed : List Cell → Option (List Word)
handed [] = Some []
handed (c ∷ cs) = and_there (handed cs) (λ ws. handed_by (is_reference c.type) c.credit c.word ws)

-- where nothing is handed on, each reference is used up
abbrev pub used_up : List Cell → Bool
used_up [] = true
used_up (c ∷ cs) = if is_reference c.type then (if nat_eq c.credit 0 then used_up cs else false) else used_up cs

-- the values that a block begins with, each with one reference
abbrev pub cells_for : List ValueType → List Word → Option (List Cell)
cells_for [] [] = Some []
cells_for (ty ∷ types) (w ∷ ws) = and_there (cells_for types ws) (λ cs. Some (record { type = ty; word = w; credit = 1 } ∷ cs))
cells_for types ws = None

-- one value more
abbrev pub with_result : List Cell → ValueType → Word → List Cell
with_result cs ty w = cs ++ record { type = ty; word = w; credit = 1 } ∷ []

-- the references of a thread beside its values
abbrev pub thread_words : SlotThread → List Word
thread_words h = h.continuation ∷ W.Stream h.at ∷ []

-- those of suspended threads
abbrev pub waiting_words : List SlotWaiting → List Word
waiting_words [] = []
waiting_words (t ∷ ts) = thread_words t.thread ++ (t.words ++ waiting_words ts)

-- those of parses that are out
abbrev pub out_words : List Given → List Word
out_words [] = []
out_words (g ∷ gs) = g.word ∷ W.Stream g.at ∷ out_words gs

-- a word so many times
abbrev pub times : ℕ → Word → List Word
times zero w = []
times (suc k) w = w ∷ times k w

-- those of a thread's values, each as often as its credit
abbrev pub cell_words : List Cell → List Word
cell_words [] = []
cell_words (c ∷ cs) = times (if is_reference c.type then c.credit else 0) c.word ++ cell_words cs

-- arguments that are taken over hold one each
abbrev pub argument_words : List Cell → List Word
argument_words [] = []
argument_words (c ∷ cs) = times (if is_reference c.type then 1 else 0) c.word ++ argument_words cs

-- all references of the threads of a state
abbrev pub held_words : SlotState → List Word
held_words (slot_live is e cs h w) = cell_words cs ++ (thread_words h ++ waiting_words w.waiting)
held_words (slot_doing o p args is e cs h w) = argument_words args ++ (cell_words cs ++ (thread_words h ++ waiting_words w.waiting))

abbrev pub world_of : SlotState → World
world_of (slot_live is e cs h w) = w
world_of (slot_doing o p args is e cs h w) = w

-- the slots of a state once its threads are stopped
abbrev pub let_go : SlotState → Slots
let_go st = release_all (held_words st) (world_of st).map
