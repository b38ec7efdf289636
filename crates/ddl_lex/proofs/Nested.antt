-- A comment ends where the bytes of its relation end: so the count of its bytes is right.
use Rattle.std.proofs.Common.{◌≡◌, ◌<◌, ℕ, zero, suc, ◌+◌, ◌==◌, ◌||◌, Bool, true, false, List, [], ◌∷◌, ◌++◌, length, take, drop, get_or, Option, Some, None}
use Rattle.std.proofs.Common.{refl, ap, sym, subst, ◌∙◌, append_assoc, append-nil, length-append, arith, if◌then◌else◌}
use Rattle.ddl_lex.specs.Comments.{comment, one_more}
use Rattle.ddl_lex.specs.Nesting.{opens, ends, NoSign, EndsComment, close, byte, nested}
use Rattle.ddl_lex.proofs.Steps.{plus}
use Rattle.ddl_lex.proofs.Decided.{both, equal_of}

-- ---- what ends a comment is counted

-- the bytes to the end of what is open behind one comment
abbrev after : ℕ → List ℕ → Option ℕ
after zero text = Some 0
after (suc depth) text = comment depth 0 text

plus_suc : (n : ℕ) (o : Option ℕ) → one_more (plus n o) ≡ plus (suc n) o
plus_suc n None = refl
plus_suc n (Some m) = grind arith

plus_one : (o : Option ℕ) → one_more o ≡ plus 1 o
plus_one None = refl
plus_one (Some m) = grind arith

plus_both : (n m : ℕ) (o : Option ℕ) → plus n (plus m o) ≡ plus (n + m) o
plus_both n m None = refl
plus_both n m (Some k) = grind arith

-- one byte
step : (depth a b : ℕ) (bs : List ℕ) → opens a b ≡ false → ends a b ≡ false → comment depth a (b ∷ bs) ≡ one_more (comment depth b bs)
step zero a b bs o e = rw (e, o) refl
step (suc depth) a b bs o e = rw (e, o) refl

opened : (depth : ℕ) (bs : List ℕ) → comment depth 123 (45 ∷ bs) ≡ one_more (comment (suc depth) 0 bs)
opened zero bs = refl
opened (suc depth) bs = refl

closed : (depth : ℕ) (bs : List ℕ) → comment depth 45 (125 ∷ bs) ≡ one_more (after depth bs)
closed zero bs = refl
closed (suc depth) bs = refl

some : (text : List ℕ) → EndsComment text → 0 < length text
some text close = omega arith
some text (byte b n c) = omega arith
some text (nested i c) = omega arith

-- the first byte is the byte before
abbrev Counted : List ℕ → List ℕ → ℕ → Type 0
Counted text tail depth = comment depth (get_or text 0 0) (drop 1 text ++ tail) ≡ plus (length (drop 1 text)) (after depth tail)

-- with no byte before
whole : (text tail : List ℕ) (depth : ℕ) → 0 < length text → Counted text tail depth → comment depth 0 (text ++ tail) ≡ plus (length text) (after depth tail)
whole [] tail depth s h = absurd (omega arith)
whole (b ∷ bs) tail depth s h = step depth 0 b (bs ++ tail) refl refl ∙ ap one_more h ∙ plus_suc (length bs) (after depth tail)

byte_counted : (b : ℕ) (bytes tail : List ℕ) (depth : ℕ) → NoSign (b ∷ bytes) → 0 < length bytes → Counted bytes tail depth → Counted (b ∷ bytes) tail depth
byte_counted b [] tail depth n s h = absurd (omega arith)
byte_counted b (c ∷ cs) tail depth n s h = step depth b c (cs ++ tail) n.0 n.1 ∙ ap one_more h ∙ plus_suc (length cs) (after depth tail)

nested_counted : (inner bytes tail : List ℕ) (depth : ℕ)
    → comment (suc depth) 0 (inner ++ (bytes ++ tail)) ≡ plus (length inner) (comment depth 0 (bytes ++ tail)) →
    comment depth 0 (bytes ++ tail) ≡ plus (length bytes) (after depth tail) → Counted (123 ∷ 45 ∷ inner ++ bytes) tail depth
nested_counted inner bytes tail depth i c =
    let within : comment (suc depth) 0 ((inner ++ bytes) ++ tail) ≡ plus (length (inner ++ bytes)) (after depth tail) =
    ap (comment (suc depth) 0) (append_assoc inner bytes tail) ∙ i ∙ ap (plus (length inner)) c ∙ plus_both (length inner) (length bytes) (after depth tail)
    ∙ ap (λ n. plus n (after depth tail)) (sym (length-append inner bytes)) in
    opened depth ((inner ++ bytes) ++ tail) ∙ ap one_more within ∙ plus_suc (length (inner ++ bytes)) (after depth tail)

counted : (tail : List ℕ) (depth : ℕ) (text : List ℕ) → EndsComment text → Counted text tail depth
counted tail depth text close = closed depth tail ∙ plus_one (after depth tail)
counted tail depth text (byte {bytes = bytes} b n c) = byte_counted b bytes tail depth n (some bytes c) (counted tail depth bytes c)
counted tail depth text (nested {inner = inner} {bytes = bytes} i c) =
    nested_counted inner bytes tail depth (whole inner (bytes ++ tail) (suc depth) (some inner i) (counted (bytes ++ tail) (suc depth) inner i))
    (whole bytes tail depth (some bytes c) (counted tail depth bytes c))

-- the bytes that end a comment are counted as its end
pub comment_counted : (text : List ℕ) → EndsComment text → comment 0 0 text ≡ Some (length text)
comment_counted text c =
    let e : length text + 0 ≡ length text = omega arith in
    ap (comment 0 0) (sym (append-nil text)) ∙ whole text [] 0 (some text c) (counted [] 0 text c) ∙ ap Some e

-- ---- what is counted ends a comment

-- the ends of so many comments and one more, one after the other
abbrev EndAll : ℕ → List ℕ → Type 0
EndAll zero bytes = EndsComment bytes
EndAll (suc depth) bytes = (inner : List ℕ) × (outer : List ℕ) × (bytes ≡ inner ++ outer) × EndsComment inner × EndAll depth outer

head_same : (a b : ℕ) (xs ys : List ℕ) → a ∷ xs ≡ b ∷ ys → a ≡ b
head_same a b xs ys e = ap (λ z. get_or z 0 0) e

tail_same : (a b : ℕ) (xs ys : List ℕ) → a ∷ xs ≡ b ∷ ys → xs ≡ ys
tail_same a b xs ys e = ap (drop 1) e

-- a 0 before is no byte of the comment
without_zero : (t text : List ℕ) → EndsComment text → text ≡ 0 ∷ t → EndsComment t
without_zero t text close e = absurd (let x : 45 ≡ 0 = head_same 45 0 (125 ∷ []) t e in omega arith)
without_zero t text (byte {bytes = bytes} b n c) e = subst EndsComment (tail_same b 0 bytes t e) c
without_zero t text (nested {inner = inner} {bytes = bytes} i c) e = absurd (let x : 123 ≡ 0 = head_same 123 0 (45 ∷ inner ++ bytes) t e in omega arith)

zero_inner : (depth : ℕ) (t inner outer : List ℕ) → 0 ∷ t ≡ inner ++ outer → EndsComment inner → EndAll depth outer → EndAll (suc depth) t
zero_inner depth t [] outer e i o = absurd (let x = some [] i in omega arith)
zero_inner depth t (a ∷ rest) outer e i o =
    let first : 0 ≡ a = head_same 0 a t (rest ++ outer) e in
    (rest, outer, tail_same 0 a t (rest ++ outer) e, without_zero rest (a ∷ rest) i (ap (λ z. z ∷ rest) (sym first)), o)

no_zero : (depth : ℕ) (t : List ℕ) → EndAll depth (0 ∷ t) → EndAll depth t
no_zero zero t c = without_zero t (0 ∷ t) c refl
no_zero (suc depth) t c = zero_inner depth t c.0 c.1 c.2 c.3 c.4

byte_inner : (depth a b : ℕ) (t inner outer : List ℕ) → opens a b ≡ false → ends a b ≡ false → b ∷ t ≡ inner ++ outer → EndsComment inner → EndAll depth outer
    → EndAll (suc depth) (a ∷ b ∷ t)
byte_inner depth a b t [] outer n m e i o = absurd (let x = some [] i in omega arith)
byte_inner depth a b t (c ∷ cs) outer n m e i o =
    let first : b ≡ c = head_same b c t (cs ++ outer) e in
    let none : NoSign (a ∷ c ∷ cs) = (subst (λ z. opens a z ≡ false) first n, subst (λ z. ends a z ≡ false) first m) in
    (a ∷ c ∷ cs, outer, ap (λ z. a ∷ z) e, byte a none i, o)

one_byte : (depth a b : ℕ) (t : List ℕ) → opens a b ≡ false → ends a b ≡ false → EndAll depth (b ∷ t) → EndAll depth (a ∷ b ∷ t)
one_byte zero a b t n m c = byte a (n, m) c
one_byte (suc depth) a b t n m c = byte_inner depth a b t c.0 c.1 n m c.2 c.3 c.4

one_open : (depth : ℕ) (t : List ℕ) → EndAll (suc depth) t → EndAll depth (123 ∷ 45 ∷ t)
one_open zero t c = subst (λ z. EndsComment (123 ∷ 45 ∷ z)) (sym c.2) (nested c.3 c.4)
one_open (suc depth) t c =
    let same : t ≡ (c.0 ++ c.4.0) ++ c.4.1 = c.2 ∙ ap (λ z. c.0 ++ z) c.4.2 ∙ sym (append_assoc c.0 c.4.0 c.4.1) in
    (123 ∷ 45 ∷ c.0 ++ c.4.0, c.4.1, ap (λ z. 123 ∷ 45 ∷ z) same, nested c.3 c.4.3, c.4.4)

one_end : (depth : ℕ) (t : List ℕ) → EndAll depth t → EndAll (suc depth) (45 ∷ 125 ∷ t)
one_end depth t c = (45 ∷ 125 ∷ [], t, refl, close, c)

-- what is found, with the byte before in front
abbrev Found : ℕ → ℕ → List ℕ → Type 0
Found depth a bs = (m : ℕ) → comment depth a bs ≡ Some m → EndAll depth (a ∷ take m bs)

inside : (depth a : ℕ) (bs : List ℕ) (n : ℕ) (o : Option ℕ) → comment depth a bs ≡ o → one_more o ≡ Some n
    → (m : ℕ) × (n ≡ suc m) × (comment depth a bs ≡ Some m)
inside depth a bs n None c e = cc
inside depth a bs n (Some m) c e = (m, (let x : n ≡ suc m = cc in x), c)

opens_bytes : (a b : ℕ) → opens a b ≡ true → (a ≡ 123) × (b ≡ 45)
opens_bytes a b h = let x = both (a == 123) (b == 45) h in (equal_of a 123 x.0, equal_of b 45 x.1)

ends_bytes : (a b : ℕ) → ends a b ≡ true → (a ≡ 45) × (b ≡ 125)
ends_bytes a b h = let x = both (a == 45) (b == 125) h in (equal_of a 45 x.0, equal_of b 125 x.1)

-- a byte that opens one more
at_open : (depth a b : ℕ) (bs : List ℕ) (n : ℕ) → opens a b ≡ true → Found (suc depth) 0 bs → one_more (comment (suc depth) 0 bs) ≡ Some n
    → EndAll depth (a ∷ take n (b ∷ bs))
at_open depth a b bs n o f e =
    let x = inside (suc depth) 0 bs n (comment (suc depth) 0 bs) refl e in
    let s = opens_bytes a b o in
    rw (x.1, s.0, s.1) (one_open depth (take x.0 bs) (no_zero (suc depth) (take x.0 bs) (f x.0 x.2)))

-- a byte that ends one of several
at_end : (depth a b : ℕ) (bs : List ℕ) (n : ℕ) → ends a b ≡ true → Found depth 0 bs → one_more (comment depth 0 bs) ≡ Some n
    → EndAll (suc depth) (a ∷ take n (b ∷ bs))
at_end depth a b bs n o f e =
    let x = inside depth 0 bs n (comment depth 0 bs) refl e in
    let s = ends_bytes a b o in
    rw (x.1, s.0, s.1) (one_end depth (take x.0 bs) (no_zero depth (take x.0 bs) (f x.0 x.2)))

-- another byte
at_byte : (depth a b : ℕ) (bs : List ℕ) (n : ℕ) → opens a b ≡ false → ends a b ≡ false → Found depth b bs → one_more (comment depth b bs) ≡ Some n
    → EndAll depth (a ∷ take n (b ∷ bs))
at_byte depth a b bs n o m f e =
    let x = inside depth b bs n (comment depth b bs) refl e in
    rw x.1 (one_byte depth a b (take x.0 bs) o m (f x.0 x.2))

outermost : (a b : ℕ) (bs : List ℕ) (n : ℕ) (v w : Bool) → ends a b ≡ v → opens a b ≡ w → Found (if w then 1 else 0) (if w then 0 else b) bs →
    (if v then Some 1 else one_more (comment (if w then 1 else 0) (if w then 0 else b) bs)) ≡ Some n → EndsComment (a ∷ take n (b ∷ bs))
outermost a b bs n true w v' w' f e =
    let x : n ≡ 1 = cc in
    let s = ends_bytes a b v' in
    rw (x, s.0, s.1) close
outermost a b bs n false true v' w' f e = at_open 0 a b bs n w' f e
outermost a b bs n false false v' w' f e = at_byte 0 a b bs n w' v' f e

further : (depth a b : ℕ) (bs : List ℕ) (n : ℕ) (v w : Bool) → ends a b ≡ v → opens a b ≡ w →
    Found (if w then suc (suc depth) else (if v then depth else suc depth)) (if w || v then 0 else b) bs →
    one_more (comment (if w then suc (suc depth) else (if v then depth else suc depth)) (if w || v then 0 else b) bs) ≡ Some n
    → EndAll (suc depth) (a ∷ take n (b ∷ bs))
further depth a b bs n v true v' w' f e = at_open (suc depth) a b bs n w' f e
further depth a b bs n true false v' w' f e = at_end depth a b bs n v' f e
further depth a b bs n false false v' w' f e = at_byte (suc depth) a b bs n w' v' f e

found : (depth a : ℕ) (text : List ℕ) → Found depth a text
found zero a [] n e = cc
found (suc depth) a [] n e = cc
found zero a (b ∷ bs) n e =
    outermost a b bs n (ends a b) (opens a b) refl refl (λ m f. found (if opens a b then 1 else 0) (if opens a b then 0 else b) bs m f) e
found (suc depth) a (b ∷ bs) n e =
    further depth a b bs n (ends a b) (opens a b) refl refl
    (λ m f. found (if opens a b then suc (suc depth) else (if ends a b then depth else suc depth)) (if opens a b || ends a b then 0 else b) bs m f) e

-- the bytes that are counted end a comment
pub counted_comment : (text : List ℕ) (n : ℕ) → comment 0 0 text ≡ Some n → EndsComment (take n text)
counted_comment text n e = no_zero 0 (take n text) (found 0 0 text n e)
