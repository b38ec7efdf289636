-- Well typed code: each argument, target and result has the type that the machine's case wants.
use Rattle.std.specs.Prelude.{◌≡◌, ℕ, zero, suc, ◌-◌, List, [], ◌∷◌, ◌++◌, map, length, Bool, true, false, Option, Some, None, slice_get}
use Rattle.ddl_types.specs.declared.fault.Fault.{Fault}
use Rattle.ddl_types.specs.Types.{Ty}
use Rattle.ddl_core.specs.Core.{Operation}
use Rattle.ddl_blocks.specs.Code.{ValueType, of_type, builder, thread, Target, Targets, Instr, do_, build, choose, content, spawn, notify, dup, free, note}
use Rattle.ddl_core.specs.Places.{PlaceShape}
use Rattle.ddl_blocks.specs.Code.{Exit, jump, branch, switch_to, call_to, return, fail_, halt, Block, Function, Code}
use Rattle.ddl_blocks.specs.Failing.{may_fail, faults_of}
use Rattle.ddl_blocks.specs.Machine.{block_at, picks, target_of}
use Rattle.ddl_blocks.specs.OperationTypes.{array, bool, count, unit, HasPattern, HasTypes}
use Rattle.ddl_blocks.specs.Places.{Each, IsThere, IsType, IsValueType, is_reference}

-- what is known of a value of a block: its type, of how many patterns it is a table's answer, and how many references it holds
pub record Known : Type 0 where
  pub type : ValueType
  pub answers : Option ℕ
  pub credit : ℕ

abbrev pub typed : ValueType → Known
typed ty = record { type = ty; answers = None; credit = 1 }

abbrev pub answer : ℕ → Known
answer k = record { type = of_type count; answers = Some k; credit = 1 }

-- values that are taken over hold one reference less each
abbrev pub with_credit : ℕ → Known → Known
with_credit n k = record { type = k.type; answers = k.answers; credit = n }

abbrev pub lessened : ℕ → List Known → List Known
lessened i [] = []
lessened zero (k ∷ ks) = with_credit (k.credit - 1) k ∷ ks
lessened (suc i) (k ∷ ks) = k ∷ lessened i ks

abbrev pub raised : ℕ → List Known → List Known
raised i [] = []
raised zero (k ∷ ks) = with_credit (suc k.credit) k ∷ ks
raised (suc i) (k ∷ ks) = k ∷ raised i ks

abbrev pub used : List ℕ → List Known → List Known
used [] ks = ks
used (i ∷ is) ks = used is (lessened i ks)

-- the types of values
abbrev pub types_of : List Known → List ValueType
types_of ks = map (λ k. k.type) ks

-- the two readings of the machine
pub data Reading : Type 0 where
  plain : Reading
  in_slots : Reading

-- the types of what is handed on to another block: of all values; in the slot reading without the references that are used up
abbrev pub left_out : Bool → ℕ → ValueType → List ValueType → List ValueType
left_out true zero ty types = types
left_out r c ty types = ty ∷ types

abbrev pub without_used : List Known → List ValueType
without_used [] = []
without_used (k ∷ ks) = left_out (is_reference k.type) k.credit k.type (without_used ks)

abbrev pub handed_types : Reading → List Known → List ValueType
handed_types plain ks = types_of ks
handed_types in_slots ks = without_used ks

-- the values of these numbers are there, with these types
abbrev pub HaveTypes : List Known → List ℕ → List ValueType → Type 0
HaveTypes known xs types = (ks : List Known) × (picks xs known ≡ Some ks) × (types_of ks ≡ types)

abbrev pub HasType : List Known → ℕ → ValueType → Type 0
HasType known x ty = (k : Known) × (slice_get known x ≡ Some k) × (k.type ≡ ty)

-- a value is the answer of a table of so many patterns
abbrev pub IsAnswer : List Known → ℕ → ℕ → Type 0
IsAnswer known x n = (k : Known) × (slice_get known x ≡ Some k) × (k.answers ≡ Some n)

-- the result of a Spawn: a thread's number where the choice is biased
abbrev pub spawned_type : Bool → ValueType
spawned_type true = thread
spawned_type false = of_type unit

-- a fault goes on at a block
abbrev pub HasBlock : List Target → Fault → Type 0
HasBlock ts fault = IsThere (target_of ts fault)

module _ (r : Reading) (ps : List PlaceShape) (fs : List Function) (here : ℕ) (result : ValueType) where
  -- a block of the same function takes values of these types
  abbrev pub Takes : ℕ → List ValueType → Type 0
  Takes b types = (k : Block) × (block_at fs here b ≡ Some k) × (k.params ≡ types)

  -- a failure goes on exactly where the operation may fail
  abbrev pub HasFailTarget : Bool → Option ℕ → List ValueType → Type 0
  HasFailTarget true (Some b) types = Takes b types
  HasFailTarget true None types = ⊥
  HasFailTarget false (Some b) types = ⊥
  HasFailTarget false None types = Unit {0}

  -- each fault that the operation may have goes on at a block
  abbrev pub HasTargets : Operation → Targets → List ValueType → Type 0
  HasTargets op targets types =
      HasFailTarget (may_fail op) targets.fail types
      × Each (λ t. Takes t.block types) targets.faults × Each (HasBlock targets.faults) (faults_of op)

  -- a function that is called takes these values; its results go on at a block, after the values that are kept
  abbrev pub Calls : ℕ → List ValueType → ℕ → List ValueType → Type 0
  Calls f types b keep =
      (d : Function) × (k : Block) × (slice_get fs f ≡ Some d) × (block_at fs f 0 ≡ Some k) × (k.params ≡ types)
      × Takes b (keep ++ d.result ∷ [])

  -- the end of a block whose values are these
  abbrev pub EndsTyped : List Known → Exit → Type 0
  EndsTyped known (jump b xs) = (types : List ValueType) × HaveTypes known xs types × Takes b types
  EndsTyped known (branch x a b) = HasType known x (of_type bool) × Takes a (handed_types r known) × Takes b (handed_types r known)
  EndsTyped known (switch_to x bs) = (k : ℕ) × IsAnswer known x k × (length bs ≡ suc k) × Each (λ b. Takes b (handed_types r known)) bs
  EndsTyped known (call_to f xs b keep opened) =
      (types : List ValueType) × (kept : List ValueType) × HaveTypes known xs types × HaveTypes known keep kept × Calls f types b kept
  EndsTyped known (return x) = HasType known x result
  EndsTyped known fail_ = Unit {0}
  EndsTyped known (halt fault span) = Unit {0}

  -- the rest of a block whose values so far are these
  abbrev pub IsTyped : List Known → List Instr → Exit → Type 0
  IsTyped known [] e = EndsTyped known e
  IsTyped known (do_ p ∷ is) e =
      ((types : List ValueType) × HaveTypes known p.arguments types × HasTypes ps p.operation types p.of)
      × IsValueType ps p.of × HasTargets p.operation p.targets (handed_types r (used p.arguments known))
      × IsTyped (used p.arguments known ++ typed p.of ∷ []) is e
  IsTyped known (build x ∷ is) e =
      (ty : Ty) × HasType known x (builder ty) × IsTyped (used (x ∷ []) known ++ typed (of_type (array ty)) ∷ []) is e
  IsTyped known (choose x qs ∷ is) e =
      ((ty : Ty) × HasType known x (of_type ty) × Each (λ q. (of : Ty) × HasPattern ps q ty of) qs)
      × IsTyped (used (x ∷ []) known ++ answer (length qs) ∷ []) is e
  IsTyped known (content x q of other ∷ is) e =
      ((ty : Ty) × HasType known x (of_type ty) × HasPattern ps q ty of)
      × IsType ps of × Takes other (handed_types r (used (x ∷ []) known))
      × IsTyped (used (x ∷ []) known ++ typed (of_type of) ∷ []) is e
  IsTyped known (spawn b xs biased ∷ is) e =
      ((types : List ValueType) × HaveTypes known xs types × Takes b types) × IsTyped (used xs known ++ typed (spawned_type biased) ∷ []) is e
  IsTyped known (notify x ∷ is) e = HasType known x thread × IsTyped known is e
  IsTyped known (dup x ∷ is) e = IsThere (slice_get known x) × IsTyped (raised x known) is e
  IsTyped known (free x ∷ is) e = IsThere (slice_get known x) × IsTyped (lessened x known) is e
  IsTyped known (note why span opened ∷ is) e = IsTyped known is e

  abbrev pub IsTypedBlock : Block → Type 0
  IsTypedBlock b = Each (IsValueType ps) b.params × IsTyped (map typed b.params) b.body b.exit

-- a function: it has a first block, which takes its parameters, its result's type is there, and each block is typed
abbrev pub IsTypedFunction : Reading → List PlaceShape → List Function → ℕ → Function → Type 0
IsTypedFunction r ps fs n f =
    ((k : Block) × (slice_get f.blocks 0 ≡ Some k) × (length k.params ≡ f.params))
    × IsValueType ps f.result × Each (IsTypedBlock r ps fs n f.result) f.blocks

-- functions, from this number on
abbrev pub AreTyped : Reading → List PlaceShape → List Function → ℕ → List Function → Type 0
AreTyped r ps fs n [] = Unit {0}
AreTyped r ps fs n (f ∷ rest) = IsTypedFunction r ps fs n f × AreTyped r ps fs (suc n) rest

-- code is well typed in a reading
abbrev pub IsWellTyped : Reading → Code → Type 0
IsWellTyped r code = AreTyped r code.places code.functions 0 code.functions
