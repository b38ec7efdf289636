-- One more text for which something is kept.
use Rattle.std.proofs.Common.{◌≡◌, ℕ, List, Bool, true, false, cond, Option, Some, None, refl, ap, sym, ◌∙◌}
use Rattle.std.specs.Prelude.{bytes_eq}
use Rattle.std.specs.Option.{option_or}
use Rattle.std.specs.Cmp.Lexicographic.{bytes_decides}
use Rattle.std.specs.HashMap.{HashMap, UpdatesBy}
use denote.Ref.{Bor}
use Rattle.ddl_uses.specs.Held.{at_text}

pub one_kept : {X S : Type 0} (old new : HashMap (Bor (List ℕ)) X S) (text : Bor (List ℕ)) (x : X)
    → UpdatesBy (λ x y. bytes_eq x.now y.now) (λ k. bytes_eq text.now k.now) old new (Some x) → at_text old text.now ≡ None
    → (q : List ℕ) → at_text new q ≡ option_or (at_text old q) (cond (bytes_eq text.now q) (Some x) None)
one_kept {X} old new text x u none q =
    u.0 (record { ref_ptr = (0, 0); now = q })
    ∙ by_test (bytes_eq text.now q) (at_text old q) (λ t. ap (at_text old) (sym ((bytes_decides text.now q).0 t)) ∙ none)
  where
    by_test : (b : Bool) (o : Option X) → (b ≡ true → o ≡ None) → cond b (Some x) o ≡ option_or o (cond b (Some x) None)
    by_test true o h = sym (ap (λ p. option_or p (Some x)) (h refl))
    by_test false None h = refl
    by_test false (Some y) h = refl

-- what stands there is not kept again
pub one_before : {X S : Type 0} (old : HashMap (Bor (List ℕ)) X S) (text : List ℕ) (x y : X) → at_text old text ≡ Some y
    → (q : List ℕ) → at_text old q ≡ option_or (at_text old q) (cond (bytes_eq text q) (Some x) None)
one_before {X} old text x y some q = by_test (bytes_eq text q) (at_text old q) (λ t. ap (at_text old) (sym ((bytes_decides text q).0 t)) ∙ some)
  where
    by_test : (b : Bool) (o : Option X) → (b ≡ true → o ≡ Some y) → o ≡ option_or o (cond b (Some x) None)
    by_test true o h = h refl ∙ sym (ap (λ p. option_or p (Some x)) (h refl))
    by_test false None h = refl
    by_test false (Some z) h = refl

pub ruleset kept = (one_kept, one_before)

-- what stands at each text after something was put at one, or taken out there
pub at_each : {X S : Type 0} (old new : HashMap (Bor (List ℕ)) X S) (text : Bor (List ℕ)) (x : Option X)
    → UpdatesBy (λ x y. bytes_eq x.now y.now) (λ k. bytes_eq text.now k.now) old new x
    → (q : List ℕ) → at_text new q ≡ cond (bytes_eq text.now q) x (at_text old q)
at_each old new text x u q = u.0 (record { ref_ptr = (0, 0); now = q })

pub ruleset updated = (at_each)
