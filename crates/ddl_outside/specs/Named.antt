-- Lists of named things, of which the first under a name counts.
use Rattle.std.specs.Prelude.{ℕ, ◌+◌, List, [], ◌∷◌, Option, Some, None, option_map, if◌then◌else◌, string_bytes}
use Rattle.std.specs.Str.{bytes_eq}
use Rattle.ddl_outside.specs.declared.named.Named.{Named}

-- what stands under a name
abbrev pub at_name : {A : Type 0} → List (List ℕ × A) → List ℕ → Option A
at_name [] name = None
at_name (entry ∷ entries) name = if bytes_eq entry.0 name then Some entry.1 else at_name entries name

-- the list once what stands under a name has changed
abbrev pub change_at : {A : Type 0} → (A → A) → List (List ℕ × A) → List ℕ → List (List ℕ × A)
change_at change [] name = []
change_at change (entry ∷ entries) name =
    if bytes_eq entry.0 name then (entry.0, change entry.1) ∷ entries else entry ∷ change_at change entries name

-- where a name stands first
abbrev pub place_of : List (List ℕ) → List ℕ → Option ℕ
place_of [] name = None
place_of (other ∷ names) name = if bytes_eq other name then Some 0 else option_map (λ n. n + 1) (place_of names name)

abbrev pub name_of : {A : Type 0} → Named A → List ℕ
name_of entry = string_bytes entry.name
