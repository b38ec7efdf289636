-- Runs in the slot reading, what they count, and that counts are references.
use Rattle.std.specs.Prelude.{◌≡◌, ℕ, ◌+◌, List, [], ◌∷◌, length, Option, Some, None}
use Rattle.ddl_types.specs.Outcome.{Outcome, Deep, ends, tick, ticks}
use Rattle.ddl_slots.specs.Counted.{Counted, refs}
use Rattle.ddl_slots.specs.Slots.{live}
use Rattle.ddl_slots.specs.declared.word.Origin.TheVariants as O
use Rattle.ddl_slots.specs.declared.word.Word.TheVariants as W
use Rattle.ddl_blocks.specs.Code.{Code}
use Rattle.ddl_blocks.specs.Run.{greatest}
use Rattle.ddl_blocks.specs.SlotMachine.{Setting, slot_enter, slot_step}
use Rattle.ddl_blocks.specs.SlotState.{SlotThread, World, SlotState, SlotStepped, slot_on, slot_ended, slot_stuck, slot_misses, slot_parses, slot_then}
use Rattle.ddl_blocks.specs.SlotState.{held_words, out_words, world_of, let_go}

-- what a code runs on, with an input
abbrev pub setting : Code → List ℕ → Setting
setting code bs = record { functions = code.functions; places = code.places; input = bs }

-- the first thread, in the first block of the entry, at the beginning of the input
abbrev pub slot_first_thread : Code → List ℕ → SlotThread
slot_first_thread code bs = record { number = 0; function = code.entry; at = record { origin = O.Input; from = 0; to = length bs }; continuation = W.Unit }

abbrev pub no_world : World
no_world = record { waiting = []; begun = 1; out = []; map = [] }

abbrev pub slot_first : Code → List ℕ → SlotStepped
slot_first code bs = slot_enter (setting code bs) 0 [] (slot_first_thread code bs) no_world

-- from a state on; each counted step is offered a number for the slot that it makes, and the budget is how many there are
abbrev pub slot_run : Setting → List ℕ → SlotState → Outcome
slot_run c [] st = ends Deep
slot_run c (x ∷ xs) st = tick (slot_then (slot_step c x st) (slot_run c xs))

-- the run of a code on an input
abbrev pub SlotRun : List ℕ → Code → List ℕ → Outcome
SlotRun xs code bs = slot_then (slot_first code bs) (slot_run (setting code bs) xs)

-- the state that a step leads to
abbrev pub slot_state_of : SlotStepped → Option SlotState
slot_state_of (slot_on st) = Some st
slot_state_of (slot_ended e w) = None
slot_state_of slot_stuck = None
slot_state_of (slot_misses why source at span x) = slot_state_of x
slot_state_of (slot_parses v s x) = slot_state_of x

-- the states of a run
abbrev pub slot_states : Setting → List ℕ → Option SlotState → List SlotState
slot_states c xs None = []
slot_states c [] (Some st) = st ∷ []
slot_states c (x ∷ xs) (Some st) = st ∷ slot_states c xs (slot_state_of (slot_step c x st))

-- the slots that are live once the run is over, or is stopped where its budget is spent
abbrev pub left_by : (SlotState → ℕ) → SlotStepped → ℕ
left_by later (slot_on st) = later st
left_by later (slot_ended e w) = live w.map
left_by later slot_stuck = 0
left_by later (slot_misses why source at span x) = left_by later x
left_by later (slot_parses v s x) = left_by later x

abbrev pub left_from : Setting → List ℕ → SlotState → ℕ
left_from c [] st = live (let_go st)
left_from c (x ∷ xs) st = left_by (left_from c xs) (slot_step c x st)

-- what a run counts: its steps, the threads that have begun, the greatest number of slots that were live after a step, and those
-- that are left where no parse is given back
pub record SlotCounts : Type 0 where
  pub steps : ℕ
  pub threads : ℕ
  pub most_slots : ℕ
  pub left : ℕ

abbrev pub slot_counts : List ℕ → Code → List ℕ → SlotCounts
slot_counts xs code bs =
    let sts : List SlotState = slot_states (setting code bs) xs (slot_state_of (slot_first code bs)) in
    record {
      steps = ticks (SlotRun xs code bs);
      threads = greatest (λ st. (world_of st).begun) sts;
      most_slots = greatest (λ st. live (world_of st).map) sts;
      left = left_by (left_from (setting code bs) xs) (slot_first code bs);
    }

-- in a state each slot's count is the number of references to it: of the running and suspended threads, of parses that are out,
-- and of words of live slots
abbrev pub IsCounted : SlotState → Type 0
IsCounted st = Counted (world_of st).map (λ x. refs x (held_words st) + refs x (out_words (world_of st).out))

-- a state that steps lead to, whatever numbers they are offered
pub data Reached (code : Code) (bs : List ℕ) : SlotState → Type 0 where
  start : (st : SlotState) → slot_state_of (slot_first code bs) ≡ Some st → Reached code bs st
  next : {st : SlotState} (x : ℕ) (after : SlotState) → Reached code bs st → slot_state_of (slot_step (setting code bs) x st) ≡ Some after
      → Reached code bs after

-- in every state that steps lead to counts are references
abbrev pub CountsAreReferences : Code → List ℕ → Type 0
CountsAreReferences code bs = (st : SlotState) → Reached code bs st → IsCounted st
