-- How many brackets are open.
use Rattle.std.proofs.Common.{◌≡◌, ◌≤◌, ℕ, suc, nat_lt, List, [], ◌∷◌, length, reverse, arith}
use Rattle.std.proofs.lemmas.List.{length-reverse}
use Rattle.std.proofs.lemmas.Bool.{lt-ltb}
use Rattle.ddl_lex.specs.declared.stack.Open.{Open}
use Rattle.ddl_lex.specs.declared.stack.Open.TheVariants.{Items, Bracket}
use Rattle.ddl_lex.specs.Brackets.{bracket_count}
use Rattle.ddl_lex.specs.Layout.{has_bracket}

-- some bracket is open where their number is not 0
pub some_bracket : (stack : List Open) (n : ℕ) → n ≡ bracket_count stack → nat_lt 0 n ≡ has_bracket stack
some_bracket [] n e = rw e
some_bracket (Items c ∷ stack) n e = some_bracket stack n e
some_bracket (Bracket ∷ stack) n e = rw e (lt-ltb 0 (suc (bracket_count stack)) (omega arith))

few_brackets : (stack : List Open) → bracket_count stack ≤ length stack
few_brackets [] = omega arith
few_brackets (Items c ∷ stack) = omega (arith, few_brackets stack)
few_brackets (Bracket ∷ stack) = omega (arith, few_brackets stack)

-- there are no more brackets than there is anything
pub brackets_within : (open' : List Open) (n : ℕ) → n ≡ bracket_count (reverse open') → n ≤ length open'
brackets_within open' n e = omega (arith, e, few_brackets (reverse open'), length-reverse open')
