-- Where the reading of tokens stops is one place.
use Rattle.std.proofs.Common.{◌≡◌, ◌≤◌, ◌<◌, ◌-◌, ◌+◌, ℕ, suc, ◌⊎◌, inl, inr, List, [], ◌∷◌, ◌++◌, take, drop, length, refl, sym, ap, ◌∙◌, subst, arith}
use Rattle.std.proofs.Common.{append_assoc, append-nil, length-drop}
use Rattle.std.proofs.Math.Seq.{take-add}
use Rattle.std.proofs.lemmas.List.{length-map, take-append-drop}
use Rattle.std.proofs.lemmas.Bool.{cases_order}
use Rattle.ddl_token.specs.declared.token.Tok.{Tok}
use Rattle.ddl_token.specs.declared.token.Token.{Token}
use Rattle.ddl_tree.specs.Depth.{module_depth}
use Rattle.ddl_tree.specs.GrammarModule.{IsModule}
use Rattle.ddl_tree.specs.ModuleTree.{Module}
use Rattle.ddl_tree.specs.PrintModule.{print_module}
use Rattle.ddl_reader.specs.Answers.{Begins, BeginsWithin, Unexpected}
use Rattle.ddl_syntax.specs.Answer.{NextTooNested, kinds_of}
use Rattle.ddl_source.specs.Source.{HasModule, IsTooNested, IsUnexpected}

-- tokens within d are read up to place k, and not beyond
pub record Stops (ks : List Tok) (k : ℕ) : Type 0 where
  pub inside : k ≤ length ks
  pub before : BeginsWithin 200 (take k ks)
  pub next : (x : Tok) (rest : List Tok) → drop k ks ≡ x ∷ rest → BeginsWithin 200 (take k ks ++ x ∷ []) → ⊥
  pub end : drop k ks ≡ [] → (a : Module) → IsModule a → module_depth a ≤ 200 → print_module a ≡ take k ks → ⊥

-- ---- the two ways to stop

begins : (d : ℕ) (xs : List Tok) → BeginsWithin d xs → Begins xs
begins d xs b = (b.0, b.1, b.2, b.3)

many : (ts : List Token) → length (kinds_of ts) ≡ length ts
many ts = length-map ts (λ t. t.kind)

pub unexpected_stops : (ts : List Token) (k : ℕ) → IsUnexpected ts k → Stops (kinds_of ts) k
unexpected_stops ts k u =
    let used : List Tok = take k (kinds_of ts) in
    let n : length (kinds_of ts) ≡ length ts = many ts in
    let first : k ≤ length ts = u.0 in
    record {
      inside = omega arith;
      before = u.1;
      next = λ x rest at b. subst (Unexpected used) at u.2 (begins 200 (used ++ x ∷ []) b);
      end = λ at a i deep p. subst (Unexpected used) at u.2 a i p;
    }

nested_begins : (used rest : List Tok) → NextTooNested 200 used rest → BeginsWithin 200 used
nested_begins used [] n = absurd n
nested_begins used (x ∷ rest) n = n.0

pub nested_stops : (ts : List Token) (k : ℕ) → IsTooNested ts k → Stops (kinds_of ts) k
nested_stops ts k u =
    let used : List Tok = take k (kinds_of ts) in
    let n : length (kinds_of ts) ≡ length ts = many ts in
    let first : k < length ts = u.0 in
    record {
      inside = omega arith;
      before = nested_begins used (drop k (kinds_of ts)) u.1;
      next = λ x rest at. (subst (NextTooNested 200 used) at u.1).2;
      end = λ at a i deep p. absurd (subst (NextTooNested 200 used) at u.1);
    }

-- no place is stopped at in both ways
both_ways : (used rest : List Tok) → Unexpected used rest → NextTooNested 200 used rest → ⊥
both_ways used [] u n = n
both_ways used (x ∷ rest) u n = u n.1

pub one_way : (ts : List Token) (j k : ℕ) → j ≡ k → IsUnexpected ts j → IsTooNested ts k → ⊥
one_way ts j k same u n =
    let at : IsUnexpected ts k = subst (IsUnexpected ts) same u in
    both_ways (take k (kinds_of ts)) (drop k (kinds_of ts)) at.2 n.1

-- ---- one place

begins_more : (d : ℕ) (used more : List Tok) → BeginsWithin d (used ++ more) → BeginsWithin d used
begins_more d used more b = (b.0, more ++ b.1, b.2, b.3 ∙ append_assoc used more b.1, b.4)

split : (ks : List Tok) (j m : ℕ) (x : Tok) (rest : List Tok) → drop j ks ≡ x ∷ rest → take (j + suc m) ks ≡ (take j ks ++ x ∷ []) ++ take m rest
split ks j m x rest at = take-add j (suc m) ks ∙ ap (λ ys. take j ks ++ take (suc m) ys) at ∙ sym (append_assoc (take j ks) (x ∷ []) (take m rest))

-- what begins so far and further on begins with the next token
begins_next : (d : ℕ) (ks : List Tok) (j k : ℕ) (x : Tok) (rest : List Tok) → drop j ks ≡ x ∷ rest → j < k → BeginsWithin d (take k ks)
    → BeginsWithin d (take j ks ++ x ∷ [])
begins_next d ks j k x rest at less b =
    let m : ℕ = k - (j + 1) in
    let far : k ≡ j + suc m = omega arith in
    begins_more d (take j ks ++ x ∷ []) (take m rest) (subst (BeginsWithin d) (ap (λ n. take n ks) far ∙ split ks j m x rest at) b)

not_before_rest : (ks : List Tok) (j k : ℕ) (ys : List Tok) → drop j ks ≡ ys → Stops ks j → Stops ks k → j < k → ⊥
not_before_rest ks j k [] at s t less =
    let long : length (drop j ks) ≡ length ks - j = length-drop j ks in
    let none : length (drop j ks) ≡ 0 = ap length at in
    let inside : k ≤ length ks = t.inside in
    absurd (omega arith)
not_before_rest ks j k (x ∷ rest) at s t less = s.next x rest at (begins_next 200 ks j k x rest at less t.before)

not_before : (ks : List Tok) (j k : ℕ) → Stops ks j → Stops ks k → j < k → ⊥
not_before ks j k s t less = not_before_rest ks j k (drop j ks) refl s t less

in_order : (ks : List Tok) (j k : ℕ) → Stops ks j → Stops ks k → (j ≡ k) ⊎ ((j < k) ⊎ (k < j)) → j ≡ k
in_order ks j k s t (inl same) = same
in_order ks j k s t (inr (inl less)) = absurd (not_before ks j k s t less)
in_order ks j k s t (inr (inr more)) = absurd (not_before ks k j t s more)

pub one_stop : (ks : List Tok) (j k : ℕ) → Stops ks j → Stops ks k → j ≡ k
one_stop ks j k s t = in_order ks j k s t (cases_order j k)

-- ---- and none where there is a module

whole_rest : (ks : List Tok) (k : ℕ) (ys : List Tok) → drop k ks ≡ ys → Stops ks k → (a : Module) → IsModule a → module_depth a ≤ 200
    → print_module a ≡ ks → ⊥
whole_rest ks k [] at s a i deep p =
    s.end at a i deep (p ∙ sym (take-append-drop k ks) ∙ ap (λ ys. take k ks ++ ys) at ∙ append-nil (take k ks))
whole_rest ks k (x ∷ rest) at s a i deep p =
    let same : print_module a ≡ (take k ks ++ x ∷ []) ++ rest =
    p ∙ sym (take-append-drop k ks) ∙ ap (λ ys. take k ks ++ ys) at ∙ sym (append_assoc (take k ks) (x ∷ []) rest) in
    s.next x rest at (a, rest, i, same, deep)

pub no_stop : (m k : ℕ) (ts : List Token) (a : Module) → HasModule m ts a → Stops (kinds_of ts) k → ⊥
no_stop m k ts a h s = whole_rest (kinds_of ts) k (drop k (kinds_of ts)) refl s a h.0 h.3 h.1
