-- Worked rows of operations in the slot reading: a run on slots is the run on plain values.
use Rattle.std.proofs.Common.{◌≡◌, ℕ, zero, suc, List, [], ◌∷◌, length, refl, None, Some, false, Option}
use Rattle.ddl_base.specs.declared.span.Span.{Span}
use Rattle.ddl_base.specs.declared.why.Why.TheVariants as why
use Rattle.ddl_types.specs.declared.fault.Fault.TheVariants.{Overflow}
use Rattle.ddl_types.specs.declared.num.NumType.TheVariants.{Uint}
use Rattle.ddl_types.specs.Value.{Stream, in_input, array}
use Rattle.ddl_types.specs.Outcome.{Outcome, End, Faulted, ends, tick, miss, parsed}
use Rattle.ddl_ops.specs.Casts.{to_same}
use Rattle.ddl_ops.specs.Primitives.{byte_value, byte_values}
use Rattle.ddl_ops.specs.declared.operators.Builtin.TheVariants.{Concat, BytesOfStream, Empty, InsertInto}
use Rattle.ddl_ops.specs.declared.operators.Cast.TheVariants.{Keep}
use Rattle.ddl_ops.specs.declared.operators.Primitive.TheVariants.{GetStream, Take, Index, Lookup, Insert}
use Rattle.ddl_ops.specs.declared.pattern.Pattern.TheVariants.{Just, Number}
use Rattle.ddl_core.specs.Core.{Operation, text, literal, truth, just_, list, cast, element_at, key_at, gather, guard, builtin, primitive}
use Rattle.ddl_blocks.specs.Code.{ValueType, of_type, Instr, do_, choose, free, Exit, jump, branch, switch_to, return, fail_, halt, Block, Code}
use Rattle.ddl_blocks.specs.OperationTypes as types
use Rattle.ddl_blocks.specs.Run.{Run}
use Rattle.ddl_blocks.specs.SlotRun.{SlotRun, slot_counts}

abbrev span : Span
span = record { «module» = 0; from = 11; to = 21 }

abbrev byte : ValueType
byte = of_type types.byte

abbrev count : ValueType
count = of_type types.count

abbrev bytes : ValueType
bytes = of_type (types.array types.byte)

abbrev stream : ValueType
stream = of_type types.stream

abbrev map_type : ValueType
map_type = of_type (types.mapping types.byte types.byte)

abbrev op_to : Operation → List ℕ → ValueType → Option ℕ → Instr
op_to o xs ty fails = do_ (record { operation = o; arguments = xs; of = ty; span = span; opened = []; targets = record { fail = fails; faults = [] } })

abbrev op_of : Operation → List ℕ → ValueType → Instr
op_of o xs ty = op_to o xs ty None

abbrev text_of : List ℕ → Instr
text_of bs = op_of (text bs) [] bytes

abbrev a_byte : ℕ → Instr
a_byte n = op_of (literal n (Some (Uint 8))) [] byte

abbrev a_count : ℕ → Instr
a_count n = op_of (literal n (Some (Uint 64))) [] count

abbrev block : List ValueType → List Instr → Exit → Block
block params body exit = record { params = params; body = body; exit = exit }

abbrev code_of : List Block → Code
code_of bs = record {
  functions = record { params = 0; blocks = bs; result = bytes; name = None } ∷ [];
  entry = 0;
  texts = [];
  units = [];
  decls = [];
  places = [];
  entry_name = span;
  result = types.array types.byte;
}

-- instructions, the value that is returned, and what the block for a failure begins with
abbrev straight : List Instr → ℕ → List ValueType → Code
straight is x params = code_of (block [] is (return x) ∷ block params [] fail_ ∷ [])

abbrev ab : List ℕ
ab = 97 ∷ 98 ∷ []

abbrev input : List ℕ → Stream
input bs = record { bytes = bs; source = in_input; from = 0; to = length bs }

abbrev zeros : ℕ → List ℕ
zeros zero = []
zeros (suc n) = 0 ∷ zeros n

abbrev ticking : ℕ → Outcome → Outcome
ticking zero o = o
ticking (suc n) o = tick (ticking n o)

-- arrays one after the other: a step for each element of the result
abbrev concatenates : Code
concatenates = straight (
    text_of ab ∷ text_of (99 ∷ []) ∷ op_of list (0 ∷ 1 ∷ []) (of_type (types.array (types.array types.byte))) ∷ op_of (builtin Concat) (2 ∷ []) bytes ∷ []
    ) 3 []

concatenates_run : SlotRun (zeros 8) concatenates [] ≡ Run 8 concatenates (input [])
concatenates_run = refl

concatenates_counts : slot_counts (zeros 8) concatenates [] ≡ record { steps = 8; threads = 1; most_slots = 3; left = 1 }
concatenates_counts = refl

-- the first byte of the input, by its stream
abbrev takes : Code
takes = straight (
    op_of (primitive GetStream) [] stream ∷ a_count 1 ∷ op_to (primitive Take) (1 ∷ 0 ∷ []) stream (Some 1) ∷ op_of (builtin BytesOfStream) (2 ∷ []) bytes ∷ []
    ) 3 (count ∷ [])

takes_run : SlotRun (zeros 6) takes ab ≡ Run 6 takes (input ab)
takes_run = refl

takes_too_much : SlotRun (zeros 6) takes [] ≡ ticking 3 (miss why.Take in_input 0 span (tick (ends End)))
takes_too_much = refl

-- an element of an array: a byte is a word
abbrev elements : Operation → Option ℕ → Code
elements o fails = straight (text_of ab ∷ a_count 1 ∷ op_to o (0 ∷ 1 ∷ []) byte fails ∷ []) 2 (count ∷ [])

element_run : SlotRun (zeros 4) (elements element_at None) [] ≡ ticking 4 (parsed (byte_value 98) (input []))
element_run = refl

index_run : SlotRun (zeros 4) (elements (primitive Index) (Some 1)) [] ≡ ticking 4 (parsed (byte_value 98) (input []))
index_run = refl

element_counts : slot_counts (zeros 4) (elements element_at None) [] ≡ record { steps = 4; threads = 1; most_slots = 1; left = 0 }
element_counts = refl

-- a map of one entry, and what is done with it
abbrev with_map : List Instr → ℕ → List ValueType → Code
with_map is x params = straight (op_of (builtin Empty) [] map_type ∷ a_byte 2 ∷ a_byte 5 ∷ op_of (builtin InsertInto) (1 ∷ 2 ∷ 0 ∷ []) map_type ∷ is) x params

abbrev gathers : Code
gathers = with_map (a_byte 9 ∷ op_of list (4 ∷ []) bytes ∷ op_of gather (3 ∷ 5 ∷ []) map_type ∷ []) 6 []

gathers_run : SlotRun (zeros 8) gathers [] ≡ Run 8 gathers (input [])
gathers_run = refl

abbrev key_there : Code
key_there = with_map (a_count 0 ∷ op_of key_at (3 ∷ 4 ∷ []) byte ∷ []) 5 []

key_run : SlotRun (zeros 7) key_there [] ≡ ticking 7 (parsed (byte_value 2) (input []))
key_run = refl

abbrev looks_up : Code
looks_up = with_map (op_to (primitive Lookup) (1 ∷ 3 ∷ []) byte (Some 1) ∷ []) 4 (byte ∷ byte ∷ [])

looks_up_run : SlotRun (zeros 6) looks_up [] ≡ ticking 6 (parsed (byte_value 5) (input []))
looks_up_run = refl

-- a second entry goes before the first, where its key is less
abbrev inserts : Code
inserts = with_map (a_byte 1 ∷ a_byte 7 ∷ op_to (primitive Insert) (4 ∷ 5 ∷ 3 ∷ []) map_type (Some 1) ∷ []) 6 (byte ∷ byte ∷ byte ∷ byte ∷ [])

inserts_run : SlotRun (zeros 8) inserts [] ≡ Run 8 inserts (input [])
inserts_run = refl

inserts_counts : slot_counts (zeros 8) inserts [] ≡ record { steps = 8; threads = 1; most_slots = 1; left = 1 }
inserts_counts = refl

-- what a key had is replaced
abbrev replaces : Code
replaces = with_map (a_byte 7 ∷ op_of (builtin InsertInto) (1 ∷ 4 ∷ 3 ∷ []) map_type ∷ []) 5 []

replaces_run : SlotRun (zeros 7) replaces [] ≡ Run 7 replaces (input [])
replaces_run = refl

-- the content of a pattern, and a cast to the type that a value has, are where they were
abbrev contents : Code
contents = straight (
    text_of ab ∷ op_of just_ (0 ∷ []) (of_type (types.maybe (types.array types.byte))) ∷ op_to (guard (Just None)) (1 ∷ []) bytes (Some 1)
    ∷ op_of (cast Keep to_same) (2 ∷ []) bytes ∷ []
    ) 3 []

contents_run : SlotRun (zeros 5) contents [] ≡ Run 5 contents (input [])
contents_run = refl

contents_counts : slot_counts (zeros 5) contents [] ≡ record { steps = 5; threads = 1; most_slots = 2; left = 1 }
contents_counts = refl

-- a table, a Switch, a Branch and a Jump, which hand values on
abbrev goes_round : Code
goes_round = code_of (
    block [] (text_of ab ∷ a_byte 5 ∷ choose 1 (Number 5 ∷ []) ∷ []) (switch_to 2 (1 ∷ 2 ∷ []))
    ∷ block (bytes ∷ byte ∷ count ∷ []) (op_of (truth false) [] (of_type types.bool) ∷ []) (branch 3 2 3)
    ∷ block (bytes ∷ byte ∷ count ∷ []) (free 0 ∷ []) fail_
    ∷ block (bytes ∷ byte ∷ count ∷ of_type types.bool ∷ []) [] (jump 4 (0 ∷ []))
    ∷ block (bytes ∷ []) [] (return 0)
    ∷ []
    )

goes_round_run : SlotRun (zeros 8) goes_round [] ≡ ticking 8 (parsed (array (byte_values ab)) (input []))
goes_round_run = refl

-- a Halt ends the run, and nothing is left
abbrev halts : Code
halts = code_of (block [] (text_of ab ∷ free 0 ∷ []) (halt Overflow span) ∷ [])

halts_run : SlotRun (zeros 3) halts [] ≡ ticking 2 (ends (Faulted Overflow span))
halts_run = refl

halts_counts : slot_counts (zeros 3) halts [] ≡ record { steps = 2; threads = 1; most_slots = 1; left = 0 }
halts_counts = refl
