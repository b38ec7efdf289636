-- A character is read where its quotes mean one byte.
use Rattle.std.proofs.Common.{◌≡◌, ◌<◌, ◌≤◌, ℕ, suc, ◌+◌, ◌-◌, ◌==◌, true, List, [], ◌∷◌, length, drop, get_or, Option, Some, Result, Ok, Err, refl, ap, sym}
use Rattle.std.proofs.Common.{subst, ◌∙◌, arith, if◌then◌else◌}
use Rattle.std.proofs.Math.Seq.{drop-cons}
use Rattle.ddl_token.specs.declared.token.Tok.{Tok}
use Rattle.ddl_token.specs.declared.token.Tok.TheVariants as t
use Rattle.ddl_lex.specs.declared.error.LexError.{LexError}
use Rattle.ddl_lex.specs.declared.error.LexError.TheVariants.{OpenText}
use Rattle.ddl_lex.specs.declared.literal.Element.{Element}
use Rattle.ddl_lex.specs.declared.literal.Element.TheVariants.{Means, Closes, Ends, Control, NoEscape}
use Rattle.ddl_lex.specs.Literals.{literal, character, character_of, element, meaning, read, bytes_behind}
use Rattle.ddl_lex.proofs.Contents.{closing}
use Rattle.ddl_lex.proofs.Elements.{one_element, behind}
use Rattle.ddl_lex.proofs.Quoted.{literal_whole, element_some}

abbrev Read : Type 0
Read = Result (List ℕ × ℕ) LexError

means_some : (v : ℕ) (x : Read) (n : ℕ) → meaning v x ≡ Ok ([], n) → ⊥
means_some v (Err e) n h = cc
means_some v (Ok r) n h =
    let pair : List ℕ × ℕ = (v ∷ r.0, suc r.1) in let want : List ℕ × ℕ = ([], n) in let same : pair ≡ want = cc in
    let none : v ∷ r.0 ≡ [] = ap (λ z. z.0) same in cc

nothing_by : (quote s a b : ℕ) (bs : List ℕ) (n : ℕ) (e : Element) (x : Read) → element quote (b ∷ bs) ≡ e → read s a e x ≡ Ok ([], n) → (b == quote) ≡ true
nothing_by quote s a b bs n (Means v j) x el h = absurd (means_some v x n h)
nothing_by quote s a b bs n Closes x el h = closing quote b bs el
nothing_by quote s a b bs n Ends x el h = cc
nothing_by quote s a b bs n Control x el h = cc
nothing_by quote s a b bs n NoEscape x el h = cc

-- what means nothing begins with the closing quote
nothing : (quote s a : ℕ) (text : List ℕ) (n : ℕ) → literal quote s a 0 text ≡ Ok ([], n) → (get_or text 0 0 == quote) ≡ true
nothing quote s a [] n h = cc
nothing quote s a (b ∷ bs) n h = nothing_by quote s a b bs n (element quote (b ∷ bs)) (literal quote s (a + 1) (bytes_behind (element quote (b ∷ bs))) bs) refl
    h

-- behind one byte there is nothing
one_behind : (v x j n : ℕ) (r : Read) → behind (v ∷ []) j r ≡ Ok (x ∷ [], n) → (m : ℕ) × (r ≡ Ok ([], m))
one_behind v x j n (Err e) h = cc
one_behind v x j n (Ok r) h =
    let pair : List ℕ × ℕ = (v ∷ r.0, j + r.1) in let want : List ℕ × ℕ = (x ∷ [], n) in let same : pair ≡ want = cc in
    let front : v ∷ r.0 ≡ x ∷ [] = ap (λ z. z.0) same in
    let none : r.0 ≡ [] = cc in
    (r.1, ap (λ z. Ok (z, r.1)) none)

within : (v j : ℕ) (bs : List ℕ) (x : Read) (c : List ℕ) (n : ℕ) → x ≡ literal 39 0 2 (j - 1) bs → meaning v x ≡ Ok (c, n) → j ≤ length bs
within v j bs (Err e) c n f h = cc
within v j bs (Ok r) c n f h = let w = literal_whole 39 0 2 (j - 1) bs r.0 r.1 (sym f) in omega (arith, w.0, w.1)

at_front : (text : List ℕ) (j : ℕ) → j < length text → get_or (drop j text) 0 0 ≡ get_or text j 0
at_front text j h = ap (λ z. get_or z 0 0) (drop-cons text j 0 h)

quote_right : (start v j : ℕ) (inside : List ℕ) (e : LexError) → (get_or inside j 0 == 39) ≡ true → character_of start inside (Means v j) ≡ Err e → ⊥
quote_right start v j inside e q h =
    let good : Result (Option Tok × ℕ) LexError = Ok (Some (t.Char v), j + 2) in
    let bad : Result (Option Tok × ℕ) LexError = Err (OpenText start) in
    let there : good ≡ Err e = subst (λ z. (if z then good else bad) ≡ Err e) q h in cc

right_by : (start b x n : ℕ) (bs : List ℕ) (e : LexError) (el : Element) → element 39 (b ∷ bs) ≡ el →
    read 0 1 el (literal 39 0 2 (bytes_behind el) bs) ≡ Ok (x ∷ [], n) → character_of start (b ∷ bs) el ≡ Err e → ⊥
right_by start b x n bs e (Means v j) is r h =
    let text = b ∷ bs in
    let short : j ≤ length bs = within v j bs (literal 39 0 2 (j - 1) bs) (x ∷ []) n refl r in
    let one = one_element 39 0 1 v j text is (omega (arith, element_some 39 text v j is)) (omega arith) in
    let whole : literal 39 0 1 0 text ≡ Ok (x ∷ [], n) = subst (λ z. read 0 1 z (literal 39 0 2 (bytes_behind z) bs) ≡ Ok (x ∷ [], n)) (sym is) r in
    let rest = one_behind v x j n (literal 39 0 (1 + j) 0 (drop j text)) (sym one ∙ whole) in
    let quote = nothing 39 0 (1 + j) (drop j text) rest.0 rest.1 in
    quote_right start v j text e (subst (λ z. (z == 39) ≡ true) (at_front text j (omega arith)) quote) h
right_by start b x n bs e Closes is r h = let pair : List ℕ × ℕ = ([], 1) in let want : List ℕ × ℕ = (x ∷ [], n) in let same : pair ≡ want =
    cc in let none : [] ≡ x ∷ [] = ap (λ z. z.0) same in cc
right_by start b x n bs e Ends is r h = cc
right_by start b x n bs e Control is r h = cc
right_by start b x n bs e NoEscape is r h = cc

-- a character that means one byte is no error
pub character_right : (start x n : ℕ) (inside : List ℕ) (e : LexError) → literal 39 0 1 0 inside ≡ Ok (x ∷ [], n) → character start inside ≡ Err e → ⊥
character_right start x n [] e r h = cc
character_right start x n (b ∷ bs) e r h = right_by start b x n bs e (element 39 (b ∷ bs)) refl r h
