-- Names and the variables that hold their values.
use Rattle.std.specs.Prelude.{ℕ, suc, Bool, true, false, if◌then◌else◌, List, [], ◌∷◌, map, Option, Some, None}
use Rattle.ddl_typed.specs.Tree.{Name, own}
use Rattle.ddl_typed.specs.Env.{same_name}
use Rattle.ddl_mono.specs.Copies.{Scope}

-- the variable of a name: that of its innermost binding
abbrev pub index : Scope → Name → ℕ
index [] n = 0
index (None ∷ os) n = suc (index os n)
index (Some m ∷ os) n = if same_name m n then 0 else suc (index os n)

-- a variable has the name
abbrev pub has_name : Scope → Name → Bool
has_name [] n = false
has_name (None ∷ os) n = has_name os n
has_name (Some m ∷ os) n = if same_name m n then true else has_name os n

-- variables under one more
abbrev pub shifted : List ℕ → List ℕ
shifted xs = map suc xs

-- a variable under one more, where there is one
abbrev pub further : Option ℕ → Option ℕ
further None = None
further (Some i) = Some (suc i)

-- a local name, where there is one
abbrev pub named_at : Option ℕ → Option Name
named_at None = None
named_at (Some x) = Some (own x)
