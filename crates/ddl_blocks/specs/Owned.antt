-- Owned code: on every way through a block each reference is used up exactly once.
use Rattle.std.specs.Prelude.{◌≡◌, ℕ, ◌<◌, ◌≤◌, List, [], ◌∷◌, ◌++◌, map, Bool, true, false, Option, Some, None, slice_get}
use Rattle.ddl_blocks.specs.Code.{ValueType, of_type, builder, Target, Instr, do_, build, choose, content, spawn, notify, dup, free, note, Exit, jump, branch}
use Rattle.ddl_blocks.specs.Code.{switch_to, call_to, return, fail_, halt, Block, Function, Code}
use Rattle.ddl_blocks.specs.OperationTypes.{array, unit}
use Rattle.ddl_blocks.specs.Places.{Each, is_reference}
use Rattle.ddl_blocks.specs.WellTyped.{Known, typed, answer, lessened, raised, used, in_slots, spawned_type, IsWellTyped}

-- the array of a builder is a reference, too
abbrev pub built_by : ValueType → ValueType
built_by (builder ty) = of_type (array ty)
built_by ty = ty

abbrev pub built_type : Option Known → ValueType
built_type None = of_type unit
built_type (Some k) = built_by k.type

-- what holds of the credit of each value that is a reference
abbrev pub WhereReference : Bool → Type 0 → Type 0
WhereReference true P = P
WhereReference false P = Unit {0}

abbrev pub EachCredit : (ℕ → Type 0) → List Known → Type 0
EachCredit P ks = Each (λ k. WhereReference (is_reference k.type) (P k.credit)) ks

-- a use needs a credit of at least 1
abbrev pub HoldsOne : Option Known → Type 0
HoldsOne None = ⊥
HoldsOne (Some k) = WhereReference (is_reference k.type) (0 < k.credit)

abbrev pub Spends : List ℕ → List Known → Type 0
Spends [] ks = Unit {0}
Spends (i ∷ is) ks = HoldsOne (slice_get ks i) × Spends is (lessened i ks)

-- where nothing is handed on, all credits are used up
abbrev pub IsUsedUp : List Known → Type 0
IsUsedUp ks = EachCredit (λ c. c ≡ 0) ks

-- where values are handed on, no credit is above 1
abbrev pub IsHandedOn : List Known → Type 0
IsHandedOn ks = EachCredit (λ c. c ≤ 1) ks

-- where an operation may go on elsewhere
abbrev pub GoesOnBy : Option ℕ → List Target → List Known → Type 0
GoesOnBy None [] ks = Unit {0}
GoesOnBy fail faults ks = IsHandedOn ks

-- what an end takes over, and that the rest is used up; a Branch and a Switch hand all values on
abbrev pub EndsOwned : List Known → Exit → Type 0
EndsOwned ks (jump b xs) = Spends xs ks × IsUsedUp (used xs ks)
EndsOwned ks (branch x a b) = IsHandedOn ks
EndsOwned ks (switch_to x bs) = IsHandedOn ks
EndsOwned ks (call_to f xs b keep opened) = Spends (xs ++ keep) ks × IsUsedUp (used (xs ++ keep) ks)
EndsOwned ks (return x) = Spends (x ∷ []) ks × IsUsedUp (used (x ∷ []) ks)
EndsOwned ks fail_ = IsUsedUp ks
EndsOwned ks (halt fault span) = IsUsedUp ks

-- the walk through the rest of a block: an instruction takes its arguments over, and its result begins with credit 1
abbrev pub Walks : List Known → List Instr → Exit → Type 0
Walks ks [] e = EndsOwned ks e
Walks ks (do_ p ∷ is) e =
    Spends p.arguments ks × GoesOnBy p.targets.fail p.targets.faults (used p.arguments ks) × Walks (used p.arguments ks ++ typed p.of ∷ []) is e
Walks ks (build x ∷ is) e = Spends (x ∷ []) ks × Walks (used (x ∷ []) ks ++ typed (built_type (slice_get ks x)) ∷ []) is e
Walks ks (choose x qs ∷ is) e = Spends (x ∷ []) ks × Walks (used (x ∷ []) ks ++ answer 0 ∷ []) is e
Walks ks (content x q of other ∷ is) e =
    Spends (x ∷ []) ks × IsHandedOn (used (x ∷ []) ks) × Walks (used (x ∷ []) ks ++ typed (of_type of) ∷ []) is e
Walks ks (spawn b xs biased ∷ is) e = Spends xs ks × Walks (used xs ks ++ typed (spawned_type biased) ∷ []) is e
Walks ks (notify x ∷ is) e = Walks ks is e
Walks ks (dup x ∷ is) e = HoldsOne (slice_get ks x) × Walks (raised x ks) is e
Walks ks (free x ∷ is) e = HoldsOne (slice_get ks x) × Walks (lessened x ks) is e
Walks ks (note why span opened ∷ is) e = Walks ks is e

abbrev pub IsOwnedBlock : Block → Type 0
IsOwnedBlock b = Walks (map typed b.params) b.body b.exit

abbrev pub IsOwnedFunction : Function → Type 0
IsOwnedFunction f = Each IsOwnedBlock f.blocks

-- code that is well typed in the slot reading, and whose references are used up exactly once
abbrev pub IsOwned : Code → Type 0
IsOwned c = IsWellTyped in_slots c × Each IsOwnedFunction c.functions
