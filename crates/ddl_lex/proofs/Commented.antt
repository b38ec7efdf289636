-- Comments: that which is found is the longest form.
use Rattle.std.proofs.Common.{◌≡◌, ◌≤◌, ℕ, zero, suc, ◌+◌, ◌||◌, Bool, true, false, List, [], ◌∷◌, length, take, Option, Some, None, inl, inr, refl, ap, sym}
use Rattle.std.proofs.Common.{subst, ◌∙◌, arith, if◌then◌else◌}
use Rattle.ddl_token.specs.declared.token.Tok.{Tok}
use Rattle.ddl_token.specs.declared.token.Tok.TheVariants as t
use Rattle.ddl_lex.specs.Letters.{in_line, run}
use Rattle.ddl_lex.specs.Comments.{comment, one_more}
use Rattle.ddl_lex.specs.Nesting.{opens, ends, IsComment}
use Rattle.ddl_lex.specs.Forms.{IsForm, AllPass, NoLonger, IsLongest, IsLineComment}
use Rattle.ddl_lex.proofs.Runs.{run_most, run_passes, run_within}
use Rattle.ddl_lex.proofs.Lengths.{taken, white_length, mark_length, line_byte, comment_byte, hidden_byte}
use Rattle.ddl_lex.proofs.Nested.{comment_counted, counted_comment}
use Rattle.ddl_lex.proofs.Firsts.{class_of, Begins, begins, small_class}

-- more text does not move the end of a comment
more_by : (v : Bool) (x y : Option ℕ) (n : ℕ) → ((m : ℕ) → x ≡ Some m → y ≡ Some m) → (if v then Some 1 else one_more x) ≡ Some n
    → (if v then Some 1 else one_more y) ≡ Some n
more_by true x y n h e = e
more_by false None y n h e = cc
more_by false (Some m) y n h e = let f : y ≡ Some m = h m refl in ap one_more f ∙ e

one_more_by : (x y : Option ℕ) (n : ℕ) → ((m : ℕ) → x ≡ Some m → y ≡ Some m) → one_more x ≡ Some n → one_more y ≡ Some n
one_more_by None y n h e = cc
one_more_by (Some m) y n h e = let f : y ≡ Some m = h m refl in ap one_more f ∙ e

pub comment_more : (depth before : ℕ) (text : List ℕ) (k n : ℕ) → comment depth before (take k text) ≡ Some n → comment depth before text ≡ Some n
comment_more zero before [] zero n e = cc
comment_more zero before [] (suc k) n e = cc
comment_more (suc depth) before [] zero n e = cc
comment_more (suc depth) before [] (suc k) n e = cc
comment_more zero before (b ∷ bs) zero n e = cc
comment_more (suc depth) before (b ∷ bs) zero n e = cc
comment_more zero before (b ∷ bs) (suc k) n e =
    more_by (ends before b) _ _ n (λ m f. comment_more (if opens before b then 1 else 0) (if opens before b then 0 else b) bs k m f) e
comment_more (suc depth) before (b ∷ bs) (suc k) n e =
    one_more_by _ _ n (λ m f. comment_more (if opens before b then suc (suc depth) else (if ends before b then depth else suc depth))
    (if opens before b || ends before b then 0 else b) bs k m f) e

-- a comment ends within the text, and what is behind does not matter
abbrev Ends : ℕ → ℕ → List ℕ → ℕ → Type 0
Ends depth before text n = (n ≤ length text) × (comment depth before (take n text) ≡ Some n)

abbrev EndsBehind : ℕ → ℕ → List ℕ → Type 0
EndsBehind depth before bs = (m : ℕ) → comment depth before bs ≡ Some m → Ends depth before bs m

ends_at : (depth before : ℕ) (bs : List ℕ) (n : ℕ) (o : Option ℕ) → comment depth before bs ≡ o → EndsBehind depth before bs → one_more o ≡ Some n →
    (m : ℕ) × (n ≡ suc m) × (m ≤ length bs) × (one_more (comment depth before (take m bs)) ≡ Some n)
ends_at depth before bs n None c h e = cc
ends_at depth before bs n (Some m) c h e = let x = h m c in (m, (let y : n ≡ suc m = cc in y), x.0, ap one_more x.1 ∙ e)

ends_by : (v : Bool) (depth before : ℕ) (bs : List ℕ) (n : ℕ) → EndsBehind depth before bs → (if v then Some 1 else one_more (comment depth before bs)) ≡ Some n
    →
    (m : ℕ) × (n ≡ suc m) × (m ≤ length bs) × ((if v then Some 1 else one_more (comment depth before (take m bs))) ≡ Some n)
ends_by true depth before bs n h e = (0, (let x : n ≡ 1 = cc in x), omega arith, e)
ends_by false depth before bs n h e = ends_at depth before bs n (comment depth before bs) refl h e

one_ends : (depth before : ℕ) (bs : List ℕ) (n : ℕ) → EndsBehind depth before bs → one_more (comment depth before bs) ≡ Some n →
    (m : ℕ) × (n ≡ suc m) × (m ≤ length bs) × (one_more (comment depth before (take m bs)) ≡ Some n)
one_ends depth before bs n h e = ends_at depth before bs n (comment depth before bs) refl h e

comment_ends : (depth before : ℕ) (text : List ℕ) (n : ℕ) → comment depth before text ≡ Some n → Ends depth before text n
comment_ends zero before [] n e = cc
comment_ends (suc depth) before [] n e = cc
comment_ends zero before (b ∷ bs) n e =
    let d = if opens before b then 1 else 0 in
    let p = if opens before b then 0 else b in
    let r = ends_by (ends before b) d p bs n (λ m f. comment_ends d p bs m f) e in
    (omega (arith, r.1, r.2), subst (λ z. comment zero before (take z (b ∷ bs)) ≡ Some n) (sym r.1) r.3)
comment_ends (suc depth) before (b ∷ bs) n e =
    let d = if opens before b then suc (suc depth) else (if ends before b then depth else suc depth) in
    let p = if opens before b || ends before b then 0 else b in
    let r = one_ends d p bs n (λ m f. comment_ends d p bs m f) e in
    (omega (arith, r.1, r.2), subst (λ z. comment (suc depth) before (take z (b ∷ bs)) ≡ Some n) (sym r.1) r.3)

-- ---- a comment that nests

at_comment : (b d : ℕ) (bs : List ℕ) (n c : ℕ) → class_of b ≡ c → c ≡ 5 → b ≡ 123 → comment 0 0 bs ≡ Some n → (q : Option Tok) (k : ℕ) → k ≤ suc (length bs)
    → IsForm q (b ∷ take k (d ∷ bs)) → Begins q c → suc k ≤ n + 2
at_comment b d bs n c s e u i None k h (inl w) g = omega (arith, white_length b (d ∷ bs) k h w)
at_comment b d bs n c s e u i None k h (inr (inl l)) g = absurd (omega (arith, line_byte b (take k (d ∷ bs)) l))
at_comment b d bs n c s e u i None zero h (inr (inr l)) g = absurd l
at_comment b d bs n c s e u i None (suc k) h (inr (inr l)) g =
    let far = comment_more 0 0 bs k (length (take k bs)) (comment_counted (take k bs) l.2) in
    let same : n ≡ length (take k bs) = cc in
    omega (arith, same, taken bs k (omega arith))
at_comment b d bs n c s e u i (Some (t.Word w)) k h f g = absurd (omega arith)
at_comment b d bs n c s e u i (Some (t.Mark m)) k h f g = let x = mark_length b (d ∷ bs) k m (omega arith) (λ z. (omega arith)) f in omega arith
at_comment b d bs n c s e u i (Some (t.Upper name)) k h f g = absurd (omega arith)
at_comment b d bs n c s e u i (Some (t.Lower name)) k h (x, inl l, y) g = absurd (let z : c ≡ 0 = sym s ∙ small_class b l.0 in omega arith)
at_comment b d bs n c s e u i (Some (t.Lower name)) k h (x, inr l, y) g = absurd (omega (arith, hidden_byte b (take k (d ∷ bs)) l))
at_comment b d bs n c s e u i (Some (t.Class name)) k h f g = absurd (omega (arith, f.1.0))
at_comment b d bs n c s e u i (Some (t.Number v base x)) k h f g = absurd (omega arith)
at_comment b d bs n c s e u i (Some (t.Char x)) k h f g = absurd (omega arith)
at_comment b d bs n c s e u i (Some (t.Text x)) k h f g = absurd (omega arith)

comment_no_longer : (b d : ℕ) (bs : List ℕ) (n : ℕ) → b ≡ 123 → comment 0 0 bs ≡ Some n → NoLonger (n + 2) (b ∷ d ∷ bs)
comment_no_longer b d bs n u i q zero h f = omega arith
comment_no_longer b d bs n u i q (suc k) h f = at_comment b d bs n (class_of b) refl (ap class_of u) u i q k (omega arith) f (begins q b (take k (d ∷ bs)) f)

-- the comment that is found is the longest form
pub comment_longest : (b d : ℕ) (bs : List ℕ) (n : ℕ) → b ≡ 123 → d ≡ 45 → comment 0 0 bs ≡ Some n → IsLongest None (n + 2) (b ∷ d ∷ bs)
comment_longest b d bs n u v i =
    let ends = comment_ends 0 0 bs n i in
    let e : n + 2 ≡ suc (suc n) = omega arith in
    let form : IsComment (b ∷ d ∷ take n bs) = (u, v, counted_comment bs n i) in
    (omega (arith, ends.0), omega arith, subst (λ z. IsForm None (take z (b ∷ d ∷ bs))) (sym e) (inr (inr form)), comment_no_longer b d bs n u i)

-- ---- a comment to the end of its line

line_all : (bytes : List ℕ) → IsLineComment bytes → AllPass in_line bytes
line_all [] l = absurd l
line_all (b ∷ []) l = absurd l
line_all (b ∷ c ∷ bs) l = (ap in_line l.0, (ap in_line l.1, l.2))

at_line : (b : ℕ) (bs : List ℕ) (c : ℕ) → class_of b ≡ c → c ≡ 5 → b ≡ 45 → 2 ≤ run in_line (b ∷ bs) → (q : Option Tok) (k : ℕ) → k ≤ length bs
    → IsForm q (b ∷ take k bs) → Begins q c → suc k ≤ run in_line (b ∷ bs)
at_line b bs c s e u r None k h (inl w) g = omega (arith, white_length b bs k h w)
at_line b bs c s e u r None k h (inr (inl l)) g = run_most in_line (b ∷ bs) (suc k) (omega arith) (line_all (b ∷ take k bs) l)
at_line b bs c s e u r None k h (inr (inr l)) g = absurd (omega (arith, comment_byte b (take k bs) l))
at_line b bs c s e u r (Some (t.Word w)) k h f g = absurd (omega arith)
at_line b bs c s e u r (Some (t.Mark m)) k h f g = let x = mark_length b bs k m (omega arith) (λ z. (omega arith)) f in omega arith
at_line b bs c s e u r (Some (t.Upper name)) k h f g = absurd (omega arith)
at_line b bs c s e u r (Some (t.Lower name)) k h (x, inl l, y) g = absurd (let z : c ≡ 0 = sym s ∙ small_class b l.0 in omega arith)
at_line b bs c s e u r (Some (t.Lower name)) k h (x, inr l, y) g = absurd (omega (arith, hidden_byte b (take k bs) l))
at_line b bs c s e u r (Some (t.Class name)) k h f g = absurd (omega (arith, f.1.0))
at_line b bs c s e u r (Some (t.Number v base x)) k h f g = absurd (omega arith)
at_line b bs c s e u r (Some (t.Char x)) k h f g = absurd (omega arith)
at_line b bs c s e u r (Some (t.Text x)) k h f g = absurd (omega arith)

line_no_longer : (b : ℕ) (bs : List ℕ) → b ≡ 45 → 2 ≤ run in_line (b ∷ bs) → NoLonger (run in_line (b ∷ bs)) (b ∷ bs)
line_no_longer b bs u r q zero h f = omega arith
line_no_longer b bs u r q (suc k) h f = at_line b bs (class_of b) refl (ap class_of u) u r q k (omega arith) f (begins q b (take k bs) f)

pub line_longest : (b d : ℕ) (bs : List ℕ) → b ≡ 45 → d ≡ 45 → IsLongest None (run in_line (b ∷ d ∷ bs)) (b ∷ d ∷ bs)
line_longest b d bs u v =
    let bi : in_line b ≡ true = ap in_line u in
    let di : in_line d ≡ true = ap in_line v in
    let n : run in_line (b ∷ d ∷ bs) ≡ suc (suc (run in_line bs)) = rw (bi, di) refl in
    let form : IsLineComment (b ∷ d ∷ take (run in_line bs) bs) = (u, v, run_passes in_line bs) in (
      run_within in_line (b ∷ d ∷ bs),
      omega (arith, n),
      subst (λ z. IsForm None (take z (b ∷ d ∷ bs))) (sym n) (inr (inl form)),
      line_no_longer b (d ∷ bs) u (omega (arith, n)),
    )
