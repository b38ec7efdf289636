-- A literal is read element by element.
use Rattle.std.proofs.Common.{◌≡◌, ◌<◌, ◌≤◌, ℕ, zero, suc, ◌+◌, ◌-◌, List, [], ◌∷◌, ◌++◌, length, drop, Result, Ok, Err, refl, ap, sym, subst, length-drop, ◌∙◌}
use Rattle.std.proofs.Common.{append_assoc, arith}
use Rattle.std.proofs.lemmas.List.{drop-drop}
use Rattle.ddl_lex.specs.declared.error.LexError.{LexError}
use Rattle.ddl_lex.specs.declared.literal.Element.TheVariants.{Means}
use Rattle.ddl_lex.specs.Literals.{literal, element, later, meaning, Takes}

-- what is read behind these bytes, which n bytes of the text mean
abbrev pub behind : List ℕ → ℕ → Result (List ℕ × ℕ) LexError → Result (List ℕ × ℕ) LexError
behind bytes n (Err e) = Err e
behind bytes n (Ok r) = Ok (bytes ++ r.0, n + r.1)

pub behind_none : (r : Result (List ℕ × ℕ) LexError) → r ≡ behind [] 0 r
behind_none (Err e) = refl
behind_none (Ok r) = grind arith

later_behind : (n : ℕ) (r : Result (List ℕ × ℕ) LexError) → later (behind [] n r) ≡ behind [] (suc n) r
later_behind n (Err e) = refl
later_behind n (Ok r) = grind arith

meaning_behind : (v n : ℕ) (r : Result (List ℕ × ℕ) LexError) → meaning v (behind [] n r) ≡ behind (v ∷ []) (suc n) r
meaning_behind v n (Err e) = refl
meaning_behind v n (Ok r) = grind arith

pub behind_twice : (a b : List ℕ) (n k : ℕ) (r : Result (List ℕ × ℕ) LexError) → behind a n (behind b k r) ≡ behind (a ++ b) (n + k) r
behind_twice a b n k (Err e) = refl
behind_twice a b n k (Ok r) = grind (arith, append_assoc)

-- the bytes of an element behind its first are passed
passes : (quote start at n : ℕ) (text : List ℕ) → n ≤ length text → literal quote start at n text ≡ behind [] n (literal quote start (at + n) 0 (drop n text))
passes quote start at zero text h = let e : at + 0 ≡ at = omega arith in rw e (behind_none (literal quote start at 0 text))
passes quote start at (suc n) [] h = absurd (omega arith)
passes quote start at (suc n) (b ∷ bs) h =
    let e : at + suc n ≡ at + 1 + n = omega arith in
    rw e (ap later (passes quote start (at + 1) n bs (omega arith)) ∙ later_behind n (literal quote start (at + 1 + n) 0 (drop n bs)))

-- one element
pub one_element : (quote start at v n : ℕ) (text : List ℕ) → element quote text ≡ Means v n → 0 < n → n ≤ length text →
    literal quote start at 0 text ≡ behind (v ∷ []) n (literal quote start (at + n) 0 (drop n text))
one_element quote start at v n [] e s h = absurd (omega arith)
one_element quote start at v zero (b ∷ bs) e s h = absurd (omega arith)
one_element quote start at v (suc n) (b ∷ bs) e s h =
    let f : at + suc n ≡ at + 1 + n = omega arith in
    let g : suc n - 1 ≡ n = omega arith in
    let p = passes quote start (at + 1) n bs (omega arith) in
    rw (e, f, g) (ap (meaning v) p ∙ meaning_behind v n (literal quote start (at + 1 + n) 0 (drop n bs)))

-- one element more
pub one_more_element : (quote start at v n k : ℕ) (bytes inside text : List ℕ) →
    literal quote start at 0 inside ≡ behind bytes k (literal quote start (at + k) 0 text) →
    element quote text ≡ Means v n → 0 < n → n ≤ length text →
    literal quote start at 0 inside ≡ behind (bytes ++ v ∷ []) (k + n) (literal quote start (at + (k + n)) 0 (drop n text))
one_more_element quote start at v n k bytes inside text r e s h =
    let f : at + (k + n) ≡ at + k + n = omega arith in
    rw f (r ∙ ap (behind bytes k) (one_element quote start (at + k) v n text e s h)
    ∙ behind_twice bytes (v ∷ []) k n (literal quote start (at + k + n) 0 (drop n text)))

-- one element more of the inside of a literal
pub element_more : (quote start at n taken v : ℕ) (inside rest bytes more : List ℕ) →
    literal quote start at 0 inside ≡ behind bytes n (literal quote start (at + n) 0 (drop n inside)) →
    n ≤ length inside → rest ≡ drop n inside → Means v taken ≡ element quote rest → Takes (Means v taken) rest → more ≡ bytes ++ v ∷ [] →
    (n + taken ≤ length inside) × (literal quote start at 0 inside
    ≡ behind more (n + taken) (literal quote start (at + (n + taken)) 0 (drop (n + taken) inside)))
element_more quote start at n taken v inside rest bytes more r within s e takes m =
    let within' : n + taken ≤ length inside = omega (arith, takes.1, ap length s, length-drop n inside) in
    let e' : element quote (drop n inside) ≡ Means v taken = sym (subst (λ z. Means v taken ≡ element quote z) s e) in
    let takes' : taken ≤ length (drop n inside) = subst (λ z. taken ≤ length z) s takes.1 in
    let one = one_more_element quote start at v taken n bytes inside (drop n inside) r e' takes.0 takes' in
    (within', rw (m, ← drop-drop taken n inside) one)
