-- What is left of a scope once the innermost names are forgotten.
use Rattle.std.proofs.Common.{◌≡◌, ℕ, suc, ◌-◌, ◌<◌, ◌≤◌, List, [], ◌∷◌, length, reverse, drop, refl, sym, ◌∙◌, arith}
use Rattle.std.proofs.lemmas.List.{length-map, length-reverse}
use Rattle.ddl_uses.specs.Scope.{Local, Scope, outermost}
use Rattle.ddl_uses.specs.declared.scope.Local.{Local as Held}
use Rattle.ddl_uses.specs.Held.{local_view, names_view}

pub view_length : (ls : List Held) → length (names_view ls) ≡ length ls
view_length ls = length-map {A = Held} {B = Local} (reverse ls) local_view ∙ length-reverse ls

-- all names
pub outermost_all : (n : ℕ) (s : Scope) → length s ≤ n → outermost n s ≡ s
unfolding outermost
outermost_all n s h = let e : length s - n ≡ 0 = omega arith in rw e refl

-- without the innermost
pub outermost_less : (n : ℕ) (s : Scope) → n < length s → outermost n (drop 1 s) ≡ outermost n s
unfolding outermost
outermost_less n [] h = absurd (omega arith)
outermost_less n (x ∷ s) h = let e : suc (length s) - n ≡ suc (length s - n) = omega arith in rw e refl

-- with one more
pub outermost_more : (n : ℕ) (x : Local) (s : Scope) → n ≤ length s → outermost n (x ∷ s) ≡ outermost n s
outermost_more n x s h = sym (outermost_less n (x ∷ s) (omega arith))

pub less_length : (s : Scope) (n : ℕ) → n < length s → length (drop 1 s) < length s
less_length [] n h = absurd (omega arith)
less_length (x ∷ s) n h = omega arith

pub ruleset outermosts = (view_length, outermost_all, outermost_less, outermost_more, less_length)
