-- One step of the machine, in the plain reading.
use Rattle.std.specs.Prelude.{ℕ, suc, List, [], ◌∷◌, ◌++◌, Option, Some, None, Bool, true, false, slice_get, nat_eq, if◌then◌else◌, pos}
use Rattle.ddl_types.specs.declared.fault.Fault.{Fault}
use Rattle.ddl_types.specs.declared.fault.Fault.TheVariants.{Overflow, DivZero, Shift, DeepResult}
use Rattle.ddl_types.specs.declared.num.NumType.TheVariants.{Uint}
use Rattle.ddl_types.specs.Value.{Value, Stream, number, boolean, unit, array}
use Rattle.ddl_types.specs.Outcome.{Outcome, End, Faulted, Deep, Stuck, ends, tick, miss, parse}
use Rattle.ddl_ops.specs.declared.pattern.Pattern.{Pattern}
use Rattle.ddl_ops.specs.Patterns.{Matched, has_it, has_another, has_none, matched}
use Rattle.ddl_core.specs.Meaning.{listed}
use Rattle.ddl_core.specs.Operations.{performed}
use Rattle.ddl_blocks.specs.Code.{Target, Targets, Instr, do_, build, choose, content, spawn, notify, dup, free, note, Exit, jump, branch, switch_to, call_to}
use Rattle.ddl_blocks.specs.Code.{return, fail_, halt, Block, Function}
use Rattle.ddl_blocks.specs.State.{Frame, Thread, Waiting, State, live, doing, Stepped, on, ended, misses, parses}

-- what must be there
abbrev pub with_given : {A : Type 0} → Option A → (A → Stepped) → Stepped
with_given (Some v) rest = rest v
with_given None rest = ended Stuck

-- the values of numbers; each must be there
abbrev pub with_first : {A : Type 0} → Option A → Option (List A) → Option (List A)
with_first (Some v) (Some vs) = Some (v ∷ vs)
with_first (Some v) None = None
with_first None vs = None

abbrev pub picks : {A : Type 0} → List ℕ → List A → Option (List A)
picks [] vs = Some []
picks (i ∷ is) vs = with_first (slice_get vs i) (picks is vs)

-- the block of a number in a function
abbrev pub block_in : Option Function → ℕ → Option Block
block_in None b = None
block_in (Some f) b = slice_get f.blocks b

abbrev pub block_at : List Function → ℕ → ℕ → Option Block
block_at fs f b = block_in (slice_get fs f) b

-- a thread at the beginning of a block
abbrev pub enter : List Function → ℕ → Thread → List Waiting → ℕ → Stepped
enter fs b h ws n = with_given (block_at fs h.function b) (λ k. on (live k.body k.exit h ws n))

-- the same at a block that is named
abbrev pub enter_named : List Function → Option ℕ → Thread → List Waiting → ℕ → Stepped
enter_named fs named h ws n = with_given named (λ b. enter fs b h ws n)

-- the suspended thread that was spawned last resumes; one that is flagged ends at once; without any the run ends
abbrev pub resume : List Function → List Waiting → ℕ → Stepped
resume fs [] n = ended End
resume fs (w ∷ ws) n = if w.flagged then resume fs ws n else enter fs w.block w.thread ws n

-- the suspended thread of this number is flagged
abbrev pub flag : Waiting → Waiting
flag w = record { flagged = true; block = w.block; thread = w.thread }

abbrev pub mark : ℕ → List Waiting → List Waiting
mark k [] = []
mark k (w ∷ ws) = if nat_eq w.thread.number k then flag w ∷ ws else w ∷ mark k ws

-- a thread with other values, with one value more, at another stream
abbrev pub with_values : Thread → List Value → Thread
with_values h vs = record { number = h.number; function = h.function; values = vs; at = h.at; frames = h.frames }

abbrev pub pushed : Thread → Value → Thread
pushed h v = with_values h (h.values ++ v ∷ [])

abbrev pub at_stream : Thread → Stream → Thread
at_stream h s = record { number = h.number; function = h.function; values = h.values; at = s; frames = h.frames }

-- the number of a thread or of a choice, as a value
abbrev pub number_value : ℕ → Value
number_value n = number (Uint 64) (pos n)

abbrev pub number_in : Value → Option ℕ
number_in (number (Uint width) (pos k)) = Some k
number_in v = None

abbrev pub truth_in : Value → Option Bool
truth_in (boolean b) = Some b
truth_in v = None

-- the block that is named for a fault
abbrev pub same_fault : Fault → Fault → Bool
same_fault Overflow Overflow = true
same_fault DivZero DivZero = true
same_fault Shift Shift = true
same_fault DeepResult DeepResult = true
same_fault f g = false

abbrev pub target_of : List Target → Fault → Option ℕ
target_of [] fault = None
target_of (t ∷ ts) fault = if same_fault t.fault fault then Some t.block else target_of ts fault

-- one step of an operation, by what it does: it goes on in it, or with a value, or notes a failure, and is then where it was
-- before at the block for that, or goes on at the block of a fault
abbrev pub went : List Function → Outcome → Targets → List Instr → Exit → Thread → List Waiting → ℕ → Stepped
went fs (tick o) t is e h ws n = on (doing o t is e h ws n)
went fs (parse v s o) t is e h ws n = on (live is e (pushed (at_stream h s) v) ws n)
went fs (miss why source at span o) t is e h ws n = misses why source at span (enter_named fs t.fail h ws n)
went fs (ends (Faulted fault span)) t is e h ws n = enter_named fs (target_of t.faults fault) h ws n
went fs (ends End) t is e h ws n = ended Stuck
went fs (ends Deep) t is e h ws n = ended Stuck
went fs (ends Stuck) t is e h ws n = ended Stuck

-- a builder is an array
abbrev pub built : Value → Option Value
built (array vs) = Some (array vs)
built v = None

-- the number of the first pattern that a value has, and how many there are where it has none of them
abbrev pub one_more : Option ℕ → Option ℕ
one_more (Some k) = Some (suc k)
one_more None = None

abbrev pub choice_at : Matched → Option ℕ → Option ℕ
choice_at (has_it w) later = Some 0
choice_at has_another later = one_more later
choice_at has_none later = None

abbrev pub choice_of : List Pattern → Value → Option ℕ
choice_of [] v = Some 0
choice_of (p ∷ ps) v = choice_at (matched p v) (choice_of ps v)

-- the content of a value that has a pattern; else on at the other block
abbrev pub met : List Function → Matched → ℕ → List Instr → Exit → Thread → List Waiting → ℕ → Stepped
met fs (has_it w) other is e h ws n = on (live is e (pushed h w) ws n)
met fs has_another other is e h ws n = enter fs other h ws n
met fs has_none other is e h ws n = ended Stuck

-- a new thread is this one, with its own number and values
abbrev pub spawned : Thread → ℕ → List Value → Thread
spawned h n vs = record { number = n; function = h.function; values = vs; at = h.at; frames = h.frames }

abbrev pub waiting : ℕ → Thread → Waiting
waiting b h = record { flagged = false; block = b; thread = h }

-- its number is a value where the choice is biased
abbrev pub spawn_result : Bool → ℕ → Value
spawn_result true n = number_value n
spawn_result false n = unit

-- a value goes back to the last call, or is a parse
abbrev pub back : List Function → Thread → List Frame → Value → List Waiting → ℕ → Stepped
back fs h [] v ws n = parses v h.at (resume fs ws n)
back fs h (f ∷ fr) v ws n = enter fs f.block (record { number = h.number; function = f.function; values = f.values ++ v ∷ []; at = h.at; frames = fr }) ws n

-- a call begins a function with a frame more
abbrev pub called : Thread → ℕ → List Value → ℕ → List Value → Thread
called h f vs b ks =
    let frame : Frame = record { function = h.function; block = b; values = ks } in
    record { number = h.number; function = f; values = vs; at = h.at; frames = frame ∷ h.frames }

-- the end of a block
abbrev pub finish : List Function → Exit → Thread → List Waiting → ℕ → Stepped
finish fs (jump b xs) h ws n = with_given (picks xs h.values) (λ vs. enter fs b (with_values h vs) ws n)
finish fs (branch x a b) h ws n = with_given (slice_get h.values x) (λ v. with_given (truth_in v) (λ t. enter fs (if t then a else b) h ws n))
finish fs (switch_to x bs) h ws n =
    with_given (slice_get h.values x) (λ v. with_given (number_in v) (λ k. with_given (slice_get bs k) (λ b. enter fs b h ws n)))
finish fs (call_to f xs b keep opened) h ws n =
    with_given (picks xs h.values) (λ vs. with_given (picks keep h.values) (λ ks. enter fs 0 (called h f vs b ks) ws n))
finish fs (return x) h ws n = with_given (slice_get h.values x) (λ v. back fs h h.frames v ws n)
finish fs fail_ h ws n = resume fs ws n
finish fs (halt fault span) h ws n = ended (Faulted fault span)

-- the next instruction, or the end where there is none; Dup and Free do nothing and are not counted
abbrev pub act : List Function → List Instr → Exit → Thread → List Waiting → ℕ → Stepped
act fs [] e h ws n = finish fs e h ws n
act fs (do_ p ∷ is) e h ws n = with_given (picks p.arguments h.values) (λ vs. went fs (performed p.operation (listed vs) p.span h.at) p.targets is e h ws n)
act fs (build x ∷ is) e h ws n = with_given (slice_get h.values x) (λ v. with_given (built v) (λ w. on (live is e (pushed h w) ws n)))
act fs (choose x ps ∷ is) e h ws n =
    with_given (slice_get h.values x) (λ v. with_given (choice_of ps v) (λ k. on (live is e (pushed h (number_value k)) ws n)))
act fs (content x p ty other ∷ is) e h ws n = with_given (slice_get h.values x) (λ v. met fs (matched p v) other is e h ws n)
act fs (spawn b xs biased ∷ is) e h ws n =
    with_given (picks xs h.values) (λ vs. on (live is e (pushed h (spawn_result biased n)) (waiting b (spawned h n vs) ∷ ws) (suc n)))
act fs (notify x ∷ is) e h ws n = with_given (slice_get h.values x) (λ v. with_given (number_in v) (λ k. on (live is e h (mark k ws) n)))
act fs (dup x ∷ is) e h ws n = act fs is e h ws n
act fs (free x ∷ is) e h ws n = act fs is e h ws n
act fs (note why span opened ∷ is) e h ws n = misses why h.at.source h.at.from span (on (live is e h ws n))

-- one step
abbrev pub step : List Function → State → Stepped
step fs (live is e h ws n) = act fs is e h ws n
step fs (doing o t is e h ws n) = went fs o t is e h ws n
