-- Where variables stand in a type, and how large it is.
use Rattle.std.specs.Prelude.{◌≡◌, ℕ, ◌+◌, ◌==◌, ◌||◌, if◌then◌else◌, Bool, false, Option, Some, None}
use Rattle.ddl_types.specs.Types.{Ty, Ty.var, Ty.con, Tys, Tys.none, Tys.more, Sub}

-- how often a variable stands in a type
abbrev mutual
  pub count : Ty → ℕ → ℕ
  count (var n) v = if n == v then 1 else 0
  count (con h ts) v = count_all ts v

  pub count_all : Tys → ℕ → ℕ
  count_all none v = 0
  count_all (more t ts) v = count t v + count_all ts v

-- whether a variable stands in a type
abbrev mutual
  pub has : Ty → ℕ → Bool
  has (var n) v = n == v
  has (con h ts) v = has_all ts v

  pub has_all : Tys → ℕ → Bool
  has_all none v = false
  has_all (more t ts) v = has t v || has_all ts v

-- the number of variables and heads in a type
abbrev mutual
  pub size : Ty → ℕ
  size (var n) = 1
  size (con h ts) = 1 + size_all ts

  pub size_all : Tys → ℕ
  size_all none = 0
  size_all (more t ts) = size t + size_all ts

-- the map that replaces one variable
abbrev pub one : ℕ → Ty → Sub
one v s n = if n == v then s else var n

-- the variable that a type is
abbrev pub is_var : Ty → Option ℕ
is_var (var v) = Some v
is_var (con h ts) = None

-- a type that is no variable
abbrev pub NoVar : Ty → Type 0
NoVar x = is_var x ≡ None
