-- What one step of a loop adds.
use Rattle.std.proofs.Common.{◌≡◌, ℕ, ◌+◌, Option, Some, None, refl, arith}
use Rattle.ddl_lex.specs.Comments.{one_more}

-- n bytes more
abbrev pub plus : ℕ → Option ℕ → Option ℕ
plus n None = None
plus n (Some m) = Some (n + m)

pub plus_one : (n : ℕ) (o : Option ℕ) → plus (n + 1) o ≡ plus n (one_more o)
plus_one n None = refl
plus_one n (Some m) = grind arith
