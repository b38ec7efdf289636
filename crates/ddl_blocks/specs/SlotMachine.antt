-- One step of the machine, in the slot reading: records, unions, `just`, arrays, maps, builders and continuations stand in slots.
use Rattle.std.specs.Prelude.{ℕ, suc, List, [], ◌∷◌, ◌++◌, Option, Some, None, Bool, true, false, nat_eq, if◌then◌else◌, slice_get}
use Rattle.ddl_types.specs.Types.{Ty}
use Rattle.ddl_types.specs.Value.{Value}
use Rattle.ddl_types.specs.Value as values
use Rattle.ddl_types.specs.Outcome.{Outcome, End, Faulted, Deep, Stuck, ends, tick, miss, parse}
use Rattle.ddl_ops.specs.Patterns.{Matched, has_it, has_another, has_none, matched}
use Rattle.ddl_ops.specs.declared.operators.Primitive.TheVariants.{SetStream}
use Rattle.ddl_core.specs.Core.{Operation, primitive}
use Rattle.ddl_core.specs.Meaning.{listed}
use Rattle.ddl_core.specs.Operations.{performed}
use Rattle.ddl_slots.specs.declared.node.Node.{Node}
use Rattle.ddl_slots.specs.declared.node.NodeKind.{NodeKind}
use Rattle.ddl_slots.specs.declared.node.NodeKind.TheVariants as K
use Rattle.ddl_slots.specs.declared.word.Stream.{Stream}
use Rattle.ddl_slots.specs.declared.word.Word.{Word}
use Rattle.ddl_slots.specs.declared.word.Word.TheVariants as W
use Rattle.ddl_slots.specs.Slots.{Slots, picked, made, dup_all, release_all}
use Rattle.ddl_slots.specs.Slots as slots
use Rattle.ddl_blocks.specs.Code.{Prim, Instr, do_, build, choose, content, spawn, notify, dup, free, note, Exit, jump, branch, switch_to, call_to, return}
use Rattle.ddl_core.specs.Places.{PlaceShape}
use Rattle.ddl_blocks.specs.Code.{fail_, halt, Function, ValueType, of_type, builder}
use Rattle.ddl_blocks.specs.Machine.{block_at, picks, target_of, choice_of, truth_in, number_in}
use Rattle.ddl_blocks.specs.OperationTypes.{array, count, unit}
use Rattle.ddl_blocks.specs.Placing.{Placed, as_word, as_node, node_of, array_of, placed, placed_content}
use Rattle.ddl_blocks.specs.Reading.{and_there, node_at, items_at, stream_at, value_of}
use Rattle.ddl_blocks.specs.SlotState.{Cell, SlotThread, SlotWaiting, World, SlotState, slot_live, slot_doing, SlotStepped, slot_on, slot_ended, slot_stuck}
use Rattle.ddl_blocks.specs.SlotState.{slot_misses, slot_parses, with_map, words_of, types_of, spent, gained, changed_at, taken, handed, used_up, cells_for}
use Rattle.ddl_blocks.specs.SlotState.{with_result, thread_words, waiting_words}
use Rattle.ddl_blocks.specs.WellTyped.{spawned_type}

-- what the machine runs on: functions, the places and bitdata of their types, the bytes of the input
pub record Setting : Type 0 where
  pub functions : List Function
  pub places : List PlaceShape
  pub input : List ℕ

-- what must be there
abbrev pub with_there : {A : Type 0} → Option A → (A → SlotStepped) → SlotStepped
with_there (Some x) rest = rest x
with_there None rest = slot_stuck

-- what must hold
abbrev pub where_so : Bool → SlotStepped → SlotStepped
where_so true x = x
where_so false x = slot_stuck

-- a word with the slots after it was made
pub record Settled : Type 0 where
  pub word : Word
  pub map : Slots

-- a result gets its references, those of the arguments go, and a new node gets a number that no live slot has
abbrev pub settled : ℕ → Slots → List Word → Placed → Settled
settled x m args (as_word w) = record { word = w; map = release_all args (slots.dup w m) }
settled x m args (as_node n) =
    let after : Slots = release_all args (dup_all n.words m) in
    record { word = W.Ref (record { key = picked x after }); map = made (picked x after) n after }

-- the thread's stream after an operation: SetStream sets another one, else it is the same from another place on
abbrev pub stream_after : Operation → List Word → Stream → values.Stream → Stream
stream_after (primitive SetStream) (W.Stream s ∷ []) at t = s
stream_after op ws at t = record { origin = at.origin; from = t.from; to = at.to }

abbrev pub at_stream : SlotThread → Stream → SlotThread
at_stream h s = record { number = h.number; function = h.function; at = s; continuation = h.continuation }

-- a builder's elements as an array
abbrev pub grown_type : ValueType → Option Ty
grown_type (builder ty) = Some ty
grown_type ty = None

abbrev pub built_in : Slots → List Cell → Option Placed
built_in m (k ∷ []) = and_there (grown_type k.type) (λ ty. and_there (items_at m k.word) (array_of ty))
built_in m ks = None

abbrev pub array_type : ValueType → ValueType
array_type (builder ty) = of_type (array ty)
array_type ty = ty

abbrev pub built_type : List Cell → ValueType
built_type (k ∷ ks) = array_type k.type
built_type [] = of_type unit

-- the suspended thread of this number is flagged
abbrev pub slot_flag : SlotWaiting → SlotWaiting
slot_flag t = record { flagged = true; block = t.block; words = t.words; thread = t.thread }

abbrev pub slot_mark : ℕ → List SlotWaiting → List SlotWaiting
slot_mark k [] = []
slot_mark k (t ∷ ts) = if nat_eq t.thread.number k then slot_flag t ∷ ts else t ∷ slot_mark k ts

-- the number of a thread, as a word
abbrev pub thread_in : Word → Option ℕ
thread_in (W.Thread n) = Some n
thread_in w = None

abbrev pub spawn_word : Bool → ℕ → Word
spawn_word true n = W.Thread n
spawn_word false n = W.Unit

-- a world with one suspended thread more, with other ones, with one parse more that is out
abbrev pub with_spawned : World → SlotWaiting → Slots → World
with_spawned w t m = record { waiting = t ∷ w.waiting; begun = suc w.begun; out = w.out; map = m }

abbrev pub with_waiting : World → List SlotWaiting → World
with_waiting w ts = record { waiting = ts; begun = w.begun; out = w.out; map = w.map }

abbrev pub with_given_out : World → Word → Stream → World
with_given_out w v s = record { waiting = w.waiting; begun = w.begun; out = record { word = v; at = s } ∷ w.out; map = w.map }

-- the world without these references
abbrev pub without : World → List Word → World
without w ws = with_map w (release_all ws w.map)

-- where a frame goes on
pub record Frame : Type 0 where
  pub function : ℕ
  pub block : ℕ
  pub continuation : Word
  pub words : List Word

abbrev pub frame_by : NodeKind → List Word → Option Frame
frame_by (K.Frame f b) (w ∷ ws) = Some (record { function = f; block = b; continuation = w; words = ws })
frame_by kind ws = None

module _ (c : Setting) where
  -- the plain value of a cell, and of each of a list
  abbrev pub cell_value : Slots → Cell → Option Value
  cell_value m k = value_of c.places c.input m k.type k.word

  abbrev pub cell_values : Slots → List Cell → Option (List Value)
  cell_values m [] = Some []
  cell_values m (k ∷ ks) = and_there (cell_value m k) (λ v. and_there (cell_values m ks) (λ vs. Some (v ∷ vs)))

  -- a thread at the beginning of a block, with these values
  abbrev pub slot_enter : ℕ → List Word → SlotThread → World → SlotStepped
  slot_enter b ws h w =
      with_there (block_at c.functions h.function b) (λ k. with_there (cells_for k.params ws) (λ cs. slot_on (slot_live k.body k.exit cs h w)))

  -- the suspended thread that was spawned last resumes; one that is flagged gives back its references and ends at once
  abbrev pub slot_resume : List SlotWaiting → World → SlotStepped
  slot_resume [] w = slot_ended End (with_waiting w [])
  slot_resume (t ∷ ts) w =
      if t.flagged then slot_resume ts (without w (t.words ++ thread_words t.thread)) else slot_enter t.block t.words t.thread (with_waiting w ts)

  -- a thread ends: its references go
  abbrev pub thread_ends : SlotThread → World → SlotStepped
  thread_ends h w = let after : World = without w (thread_words h) in slot_resume after.waiting after

  -- on at another block, with the values that are left, and without the arguments that were taken over
  abbrev pub handed_on : Option ℕ → List Cell → List Cell → SlotThread → World → SlotStepped
  handed_on target args cs h w = with_there target (λ b. with_there (handed cs) (λ ws. slot_enter b ws h (without w (words_of args))))

  -- a value goes back to the last call, or is a parse
  abbrev pub frame_back : Word → Word → SlotThread → World → SlotStepped
  frame_back frame v h w =
      with_there (node_at w.map frame) (λ n. with_there (frame_by n.kind n.words) (λ f.
      slot_enter f.block (f.words ++ v ∷ [])
      (record { number = h.number; function = f.function; at = h.at; continuation = f.continuation })
      (with_map w (release_all (frame ∷ []) (dup_all n.words w.map)))))

  abbrev pub slot_back : Word → Cell → SlotThread → World → SlotStepped
  slot_back W.Unit v h w =
      with_there (cell_value w.map v) (λ x. with_there (stream_at c.places c.input w.map h.at) (λ s.
      slot_parses x s (let after : World = with_given_out w v.word h.at in slot_resume after.waiting after)))
  slot_back frame v h w = frame_back frame v.word h w

  module _ (x : ℕ) where
    -- a result that stands somewhere is the next value
    abbrev pub given_result : Option Placed → ValueType → List Cell → List Instr → Exit → List Cell → SlotThread → World → SlotStepped
    given_result o ty args is e cs h w =
        with_there o (λ p. let r : Settled = settled x w.map (words_of args) p in slot_on (slot_live is e (with_result cs ty r.word) h (with_map w r.map)))

    -- the same of an operation, which leads to another stream, too
    abbrev pub given_parse : Prim → List Cell → Value → values.Stream → List Instr → Exit → List Cell → SlotThread → World → SlotStepped
    given_parse p args v s is e cs h w =
        with_there (cell_values w.map args) (λ vs.
        let at : Stream = stream_after p.operation (words_of args) h.at s in
        let new : World = with_map w (slots.dup (W.Stream at) w.map) in
        let old : World → World = λ u. without u (W.Stream h.at ∷ []) in
        with_there (placed c.places w.map h.at p.operation p.of (types_of args) (words_of args) vs v) (λ q.
        let r : Settled = settled x new.map (words_of args) q in
        slot_on (slot_live is e (with_result cs p.of r.word) (at_stream h at) (old (with_map w r.map)))))

    -- one step of an operation, by what it does on the values that its arguments stand for
    abbrev pub slot_went : Outcome → Prim → List Cell → List Instr → Exit → List Cell → SlotThread → World → SlotStepped
    slot_went (tick o) p args is e cs h w = slot_on (slot_doing o p args is e cs h w)
    slot_went (parse v s o) p args is e cs h w = given_parse p args v s is e cs h w
    slot_went (miss why source at span o) p args is e cs h w = slot_misses why source at span (handed_on p.targets.fail args cs h w)
    slot_went (ends (Faulted fault span)) p args is e cs h w = handed_on (target_of p.targets.faults fault) args cs h w
    slot_went (ends End) p args is e cs h w = slot_stuck
    slot_went (ends Deep) p args is e cs h w = slot_stuck
    slot_went (ends Stuck) p args is e cs h w = slot_stuck

    -- an operation begins: its arguments are taken over
    abbrev pub slot_do : Prim → List Instr → Exit → List Cell → SlotThread → World → SlotStepped
    slot_do p is e cs h w =
        with_there (picks p.arguments cs) (λ args. with_there (taken p.arguments cs) (λ left.
        with_there (cell_values w.map args) (λ vs. with_there (stream_at c.places c.input w.map h.at) (λ s.
        slot_went (performed p.operation (listed vs) p.span s) p args is e left h w))))

    -- the content of a value that has a pattern; else on at the other block
    abbrev pub slot_met : Matched → ValueType → ℕ → List Cell → List Instr → Exit → List Cell → SlotThread → World → SlotStepped
    slot_met (has_it v) ty other args is e cs h w = given_result (placed_content w.map (words_of args) v) ty args is e cs h w
    slot_met has_another ty other args is e cs h w = handed_on (Some other) args cs h w
    slot_met has_none ty other args is e cs h w = slot_stuck

    -- the end of a block
    abbrev pub slot_finish : Exit → List Cell → SlotThread → World → SlotStepped
    slot_finish (jump b xs) cs h w =
        with_there (picks xs cs) (λ args. with_there (taken xs cs) (λ left. where_so (used_up left) (slot_enter b (words_of args) h w)))
    slot_finish (branch i a b) cs h w =
        with_there (slice_get cs i) (λ k. with_there (cell_value w.map k) (λ v. with_there (truth_in v) (λ t.
        with_there (handed cs) (λ ws. slot_enter (if t then a else b) ws h w))))
    slot_finish (switch_to i bs) cs h w =
        with_there (slice_get cs i) (λ k. with_there (cell_value w.map k) (λ v. with_there (number_in v) (λ n.
        with_there (slice_get bs n) (λ b. with_there (handed cs) (λ ws. slot_enter b ws h w)))))
    slot_finish (call_to f xs b keep opened) cs h w =
        with_there (picks xs cs) (λ args. with_there (picks keep cs) (λ kept. with_there (taken (xs ++ keep) cs) (λ left.
        let frame : Node = node_of (K.Frame h.function b) (h.continuation ∷ words_of kept) in
        let at : ℕ = picked x w.map in
        where_so (used_up left) (slot_enter 0 (words_of args)
        (record { number = h.number; function = f; at = h.at; continuation = W.Ref (record { key = at }) })
        (with_map w (made at frame w.map))))))
    slot_finish (return i) cs h w =
        with_there (slice_get cs i) (λ k. with_there (taken (i ∷ []) cs) (λ left. where_so (used_up left) (slot_back h.continuation k h w)))
    slot_finish fail_ cs h w = where_so (used_up cs) (thread_ends h w)
    slot_finish (halt fault span) cs h w =
        where_so (used_up cs) (slot_ended (Faulted fault span) (with_waiting (without w (thread_words h ++ waiting_words w.waiting)) []))

    -- the next instruction with the Dups and Frees before it, or the end where there is none
    abbrev pub slot_act : List Instr → Exit → List Cell → SlotThread → World → SlotStepped
    slot_act [] e cs h w = slot_finish e cs h w
    slot_act (do_ p ∷ is) e cs h w = slot_do p is e cs h w
    slot_act (build i ∷ is) e cs h w =
        with_there (picks (i ∷ []) cs) (λ args. with_there (taken (i ∷ []) cs) (λ left.
        given_result (built_in w.map args) (built_type args) args is e left h w))
    slot_act (choose i ps ∷ is) e cs h w =
        with_there (picks (i ∷ []) cs) (λ args. with_there (taken (i ∷ []) cs) (λ left.
        with_there (slice_get cs i) (λ k. with_there (cell_value w.map k) (λ v.
        with_there (choice_of ps v) (λ n. given_result (Some (as_word (W.Uint n))) (of_type count) args is e left h w)))))
    slot_act (content i p ty other ∷ is) e cs h w =
        with_there (picks (i ∷ []) cs) (λ args. with_there (taken (i ∷ []) cs) (λ left.
        with_there (slice_get cs i) (λ k. with_there (cell_value w.map k) (λ v. slot_met (matched p v) (of_type ty) other args is e left h w))))
    slot_act (spawn b xs biased ∷ is) e cs h w =
        with_there (picks xs cs) (λ args. with_there (taken xs cs) (λ left.
        let new : SlotThread = record { number = w.begun; function = h.function; at = h.at; continuation = h.continuation } in
        let later : SlotWaiting = record { flagged = false; block = b; words = words_of args; thread = new } in
        let shared : World = with_spawned w later (dup_all (thread_words h) w.map) in
        slot_on (slot_live is e (with_result left (spawned_type biased) (spawn_word biased w.begun)) h shared)))
    slot_act (notify i ∷ is) e cs h w =
        with_there (slice_get cs i) (λ k. with_there (thread_in k.word) (λ n. slot_on (slot_live is e cs h (with_waiting w (slot_mark n w.waiting)))))
    slot_act (dup i ∷ is) e cs h w =
        with_there (slice_get cs i) (λ k. with_there (changed_at i spent cs) (λ left. with_there (changed_at i (λ d. Some (gained d)) cs) (λ more.
        slot_act is e more h (with_map w (slots.dup k.word w.map)))))
    slot_act (free i ∷ is) e cs h w =
        with_there (slice_get cs i) (λ k. with_there (changed_at i spent cs) (λ left. slot_act is e left h (without w (k.word ∷ []))))
    slot_act (note why span opened ∷ is) e cs h w =
        with_there (stream_at c.places c.input w.map h.at) (λ s. slot_misses why s.source s.from span (slot_on (slot_live is e cs h w)))

    -- one step, which is offered a number for the slot that it makes
    abbrev pub slot_step : SlotState → SlotStepped
    slot_step (slot_live is e cs h w) = slot_act is e cs h w
    slot_step (slot_doing o p args is e cs h w) = slot_went o p args is e cs h w
