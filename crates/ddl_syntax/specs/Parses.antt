-- What the parser answers, in words of the machine.
use Rattle.std.specs.Prelude.{ℕ, ◌≡◌, ◌≤◌, ◌<◌, List, map, take, drop, length, [], ◌∷◌, Some, None, Result, Ok, Err}
use Rattle.ddl_token.specs.declared.token.Token.{Token}
use Rattle.ddl_tree.specs.declared.module.Module as code_module
use Rattle.ddl_tree.specs.ViewModule.{module_view}
use Rattle.ddl_reader.specs.Depths.{lowest}
use Rattle.ddl_reader.specs.Frames.{Seen, State}
use Rattle.ddl_reader.specs.Step.{begun, finish, reach, step_at, IsStuck}
use Rattle.ddl_syntax.specs.declared.error.SyntaxError as code_error
use Rattle.ddl_syntax.specs.declared.error.SyntaxError.TheVariants as e
use Rattle.ddl_states.specs.declared.focus.Focus as code_focus
use Rattle.ddl_states.specs.declared.stack.Stack.{Stack}
use Rattle.ddl_syntax.specs.Answer.{place_of}
use Rattle.ddl_states.specs.Gives.{state_of}

-- a token of this module, and its place
abbrev pub seen_of : ℕ → Token → Seen
seen_of m t = record { kind = t.kind; at = place_of m t }

abbrev pub seen_in : ℕ → List Token → List Seen
seen_in m ts = map (seen_of m) ts

-- after the first k tokens the machine stands here, and what it has read can end within the depth
abbrev pub Stands : List Seen → ℕ → State → Type 0
Stands xs k z = (reach (take k xs) begun ≡ Some z) × (lowest z ≤ 200)

-- the next token leads here
abbrev pub Leads : List Seen → State → State → Type 0
Leads [] z y = ⊥
Leads (x ∷ rest) z y = step_at z.1 z.0 x.kind x.at ≡ Some y

-- a state that token k led to, where it is within the depth
abbrev pub Within : ℕ → State → Result code_focus.Focus code_error.SyntaxError → Stack → Type 0
Within k z (Ok f) stack = (z ≡ state_of stack f) × (lowest z ≤ 200)
Within k z (Err (e.Unexpected j)) stack = ⊥
Within k z (Err (e.TooNested j)) stack = (j ≡ k) × (200 < lowest z)
Within k z (Err e.NoMemory) stack = ⊥

-- what token k does to a state
abbrev pub Advances : ℕ → ℕ → Token → State → Result code_focus.Focus code_error.SyntaxError → Stack → Type 0
Advances m k t z (Ok f) stack = (step_at z.1 z.0 t.kind (place_of m t) ≡ Some (state_of stack f)) × (lowest (state_of stack f) ≤ 200)
Advances m k t z (Err (e.Unexpected j)) stack = (j ≡ k) × (step_at z.1 z.0 t.kind (place_of m t) ≡ None)
Advances m k t z (Err (e.TooNested j)) stack = (j ≡ k) × ((y : State) × (step_at z.1 z.0 t.kind (place_of m t) ≡ Some y) × (200 < lowest y))
Advances m k t z (Err e.NoMemory) stack = Unit {0}

-- what the end does, after so many tokens
abbrev pub Completes : ℕ → State → Result code_module.Module code_error.SyntaxError → Type 0
Completes k z (Ok a) = finish z.1 z.0 ≡ Some (module_view a)
Completes k z (Err (e.Unexpected j)) = (j ≡ k) × (finish z.1 z.0 ≡ None)
Completes k z (Err (e.TooNested j)) = ⊥
Completes k z (Err e.NoMemory) = Unit {0}

abbrev pub Parses : ℕ → List Token → Result code_module.Module code_error.SyntaxError → Type 0
Parses m ts (Ok a) = (z : State) × Stands (seen_in m ts) (length ts) z × (finish z.1 z.0 ≡ Some (module_view a))
Parses m ts (Err (e.Unexpected k)) = (k ≤ length ts) × ((z : State) × Stands (seen_in m ts) k z × IsStuck z (drop k (seen_in m ts)))
Parses m ts (Err (e.TooNested k)) = (k < length ts) × ((z : State) × (y : State) × Stands (seen_in m ts) k z × Leads (drop k (seen_in m ts)) z y
    × (200 < lowest y))
Parses m ts (Err e.NoMemory) = Unit {0}
