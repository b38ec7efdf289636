-- More numbers give the same run in the slot reading, or one that goes on where the first is spent.
use Rattle.std.proofs.Common.{ℕ, ◌≤◌, List, [], ◌∷◌, ◌++◌, length, arith}
use Rattle.ddl_types.specs.Outcome.{Outcome, ends, ticks}
use Rattle.ddl_types.specs.Growth.{Grows, at_deep, at_stuck, at_tick, at_miss, at_parse}
use Rattle.ddl_types.proofs.Growing.{grows_same, grown_begins}
use Rattle.ddl_blocks.specs.Laws.{MoreNumbers, WithinNumbers}
use Rattle.ddl_blocks.specs.SlotMachine.{Setting, slot_step}
use Rattle.ddl_blocks.specs.SlotRun.{setting, slot_first, slot_run}
use Rattle.ddl_blocks.specs.SlotState.{SlotState, SlotStepped, slot_on, slot_ended, slot_stuck, slot_misses, slot_parses, slot_then}

step_grows : (x : SlotStepped) (k k' : SlotState → Outcome) → ((st : SlotState) → Grows (k st) (k' st)) → Grows (slot_then x k) (slot_then x k')
step_grows (slot_on st) k k' h = h st
step_grows (slot_ended e w) k k' h = grows_same (ends e)
step_grows slot_stuck k k' h = at_stuck
step_grows (slot_misses why source at span x) k k' h = at_miss (step_grows x k k' h)
step_grows (slot_parses v s x) k k' h = at_parse (step_grows x k k' h)

run_grows : (c : Setting) (xs ys : List ℕ) (st : SlotState) → Grows (slot_run c xs st) (slot_run c (xs ++ ys) st)
run_grows c [] ys st = at_deep
run_grows c (x ∷ xs) ys st = at_tick (step_grows (slot_step c x st) (slot_run c xs) (slot_run c (xs ++ ys)) (run_grows c xs ys))

pub more_numbers : MoreNumbers
more_numbers xs ys code bs =
    let c : Setting = setting code bs in
    grown_begins (step_grows (slot_first code bs) (slot_run c xs) (slot_run c (xs ++ ys)) (run_grows c xs ys))

step_within : (x : SlotStepped) (k : SlotState → Outcome) (m : ℕ) → ((st : SlotState) → ticks (k st) ≤ m) → ticks (slot_then x k) ≤ m
step_within (slot_on st) k m h = h st
step_within (slot_ended e w) k m h = omega arith
step_within slot_stuck k m h = omega arith
step_within (slot_misses why source at span x) k m h = step_within x k m h
step_within (slot_parses v s x) k m h = step_within x k m h

run_within : (c : Setting) (xs : List ℕ) (st : SlotState) → ticks (slot_run c xs st) ≤ length xs
run_within c [] st = omega arith
run_within c (x ∷ xs) st =
    let h : ticks (slot_then (slot_step c x st) (slot_run c xs)) ≤ length xs = step_within (slot_step c x st) (slot_run c xs) (length xs) (run_within c xs)
    in omega arith

pub within_numbers : WithinNumbers
within_numbers xs code bs = step_within (slot_first code bs) (slot_run (setting code bs) xs) (length xs) (run_within (setting code bs) xs)
