-- The mark that is found is the longest.
use Rattle.std.proofs.Common.{◌≡◌, ◌≢◌, ◌⊎◌, ◌<◌, ◌≤◌, ℕ, Bool, true, false, nat_le, nat_lt, nat_eq, List, [], ◌∷◌, length, take, get_or, Some, None, inl, inr}
use Rattle.std.proofs.Common.{refl, sym, subst, arith, if◌then◌else◌}
use Rattle.std.specs.List.{starts_with}
use Rattle.std.proofs.lemmas.Bool.{ltb-true}
use Rattle.std.proofs.lemmas.Bool.Decides.{nat_tests}
use Rattle.std.proofs.lemmas.Slice.Eq.{bytes_eq-Decides}
use Rattle.ddl_token.specs.declared.mark.Mark.{Mark}
use Rattle.ddl_token.specs.declared.mark.Mark.TheVariants as m
use Rattle.ddl_token.specs.Spelling.{mark_spelling}
use Rattle.ddl_lex.specs.Marks.{mark_among, mark_of, marks}

-- the mark is among these
abbrev Among : Mark → List Mark → Type 0
Among mark [] = ⊥
Among mark (m ∷ ms) = (m ≡ mark) ⊎ Among mark ms

-- each mark is no longer than n, and than those before it
abbrev Falls : ℕ → List Mark → Type 0
Falls n [] = Unit {0}
Falls n (m ∷ ms) = (nat_le (length (mark_spelling m)) n ≡ true) × Falls (length (mark_spelling m)) ms

starts : (m : Mark) (text : List ℕ) → starts_with nat_eq text (mark_spelling m) ≡ true → mark_spelling m ≡ take (length (mark_spelling m)) text
starts m text h = (bytes_eq-Decides (mark_spelling m) (take (length (mark_spelling m)) text)).0 h

not_starts : (m : Mark) (text : List ℕ) → mark_spelling m ≡ take (length (mark_spelling m)) text → starts_with nat_eq text (mark_spelling m) ≡ true
not_starts m text h = (bytes_eq-Decides (mark_spelling m) (take (length (mark_spelling m)) text)).1 h

le_of_test : (a b : ℕ) → nat_le a b ≡ true → a ≤ b
le_of_test a b h = grind (arith, nat_tests)

-- a mark of a falling list is no longer than the bound
short : (ms : List Mark) (n : ℕ) (mark : Mark) → Falls n ms → Among mark ms → length (mark_spelling mark) ≤ n
short [] n mark f a = absurd a
short (m ∷ ms) n mark f (inl e) = subst (λ z. length (mark_spelling z) ≤ n) e (le_of_test (length (mark_spelling m)) n f.0)
short (m ∷ ms) n mark f (inr a) = omega (arith, short ms (length (mark_spelling m)) mark f.1 a, le_of_test (length (mark_spelling m)) n f.0)

every_mark : (mark : Mark) → Among mark marks
every_mark m.OrElse = inr (inr (inr (inl refl)))
every_mark m.Bar = inr (inr (inr (inr (inr (inr (inr (inr (inr (inr (inr (inr (inr (inr (inr (inr (inr (inr (inr (inl refl)))))))))))))))))))
every_mark m.OrOr = inr (inr (inr (inr (inl refl))))
every_mark m.DollarDollar = inr (inr (inr (inr (inr (inl refl)))))
every_mark m.DollarBracket = inr (inr (inr (inr (inr (inr (inl refl))))))
every_mark m.Caret = inr (inr (inr (inr (inr (inr (inr (inr (inr (inr (inr (inr (inr (inr (inr (inr (inr (inr (inr (inr (inl refl))))))))))))))))))))
every_mark m.DotDot = inr (inr (inr (inr (inr (inr (inr (inl refl)))))))
every_mark m.Dot = inr (inr (inr (inr (inr (inr (inr (inr (inr (inr (inr (inr (inr (inr (inr (inr (inr (inr (inr (inr (inr (inl refl)))))))))))))))))))))
every_mark m.BitAnd = inl refl
every_mark m.BitOr = inr (inl refl)
every_mark m.BitXor = inr (inr (inl refl))
every_mark m.Arrow = inr (inr (inr (inr (inr (inr (inr (inr (inl refl))))))))
every_mark m.Equals =
    inr (inr (inr (inr (inr (inr (inr (inr (inr (inr (inr (inr (inr (inr (inr (inr (inr (inr (inr (inr (inr (inr (inl refl))))))))))))))))))))))
every_mark m.EqualEqual = inr (inr (inr (inr (inr (inr (inr (inr (inr (inl refl)))))))))
every_mark m.NotEqual = inr (inr (inr (inr (inr (inr (inr (inr (inr (inr (inl refl))))))))))
every_mark m.Bang =
    inr (inr (inr (inr (inr (inr (inr (inr (inr (inr (inr (inr (inr (inr (inr (inr (inr (inr (inr (inr (inr (inr (inr (inl refl)))))))))))))))))))))))
every_mark m.Less =
    inr (inr (inr (inr (inr (inr (inr (inr (inr (inr (inr (inr (inr (inr (inr (inr (inr (inr (inr (inr (inr (inr (inr (inr (inl refl))))))))))))))))))))))))
every_mark m.LessEqual = inr (inr (inr (inr (inr (inr (inr (inr (inr (inr (inr (inl refl)))))))))))
every_mark m.ShiftLeft = inr (inr (inr (inr (inr (inr (inr (inr (inr (inr (inr (inr (inl refl))))))))))))
every_mark m.LessHash = inr (inr (inr (inr (inr (inr (inr (inr (inr (inr (inr (inr (inr (inl refl)))))))))))))
every_mark m.Hash =
    inr
    (inr (inr (inr (inr (inr (inr (inr (inr (inr (inr (inr (inr (inr (inr (inr (inr (inr (inr (inr (inr (inr (inr (inr (inr (inl refl)))))))))))))))))))))))))
every_mark m.Greater =
    inr
    (inr
    (inr (inr (inr (inr (inr (inr (inr (inr (inr (inr (inr (inr (inr (inr (inr (inr (inr (inr (inr (inr (inr (inr (inr (inr (inl refl))))))))))))))))))))))))))
every_mark m.ShiftRight = inr (inr (inr (inr (inr (inr (inr (inr (inr (inr (inr (inr (inr (inr (inl refl))))))))))))))
every_mark m.GreaterEqual = inr (inr (inr (inr (inr (inr (inr (inr (inr (inr (inr (inr (inr (inr (inr (inl refl)))))))))))))))
every_mark m.Plus =
    inr
    (inr
    (inr
    (inr (inr (inr (inr (inr (inr (inr (inr (inr (inr (inr (inr (inr (inr (inr (inr (inr (inr (inr (inr (inr (inr (inr (inr (inl refl)))))))))))))))))))))))))))
every_mark m.Minus =
    inr
    (inr
    (inr
    (inr
    (inr
    (inr (inr (inr (inr (inr (inr (inr (inr (inr (inr (inr (inr (inr (inr (inr (inr (inr (inr (inr (inr (inr (inr (inr (inl refl))))))))))))))))))))))))))))
every_mark m.Star =
    inr
    (inr
    (inr
    (inr
    (inr
    (inr
    (inr (inr (inr (inr (inr (inr (inr (inr (inr (inr (inr (inr (inr (inr (inr (inr (inr (inr (inr (inr (inr (inr (inr (inl refl)))))))))))))))))))))))))))))
every_mark m.Slash =
    inr
    (inr
    (inr
    (inr
    (inr
    (inr
    (inr
    (inr (inr (inr (inr (inr (inr (inr (inr (inr (inr (inr (inr (inr (inr (inr (inr (inr (inr (inr (inr (inr (inr (inr (inl refl))))))))))))))))))))))))))))))
every_mark m.Percent =
    inr
    (inr
    (inr
    (inr
    (inr
    (inr
    (inr
    (inr
    (inr (inr (inr (inr (inr (inr (inr (inr (inr (inr (inr (inr (inr (inr (inr (inr (inr (inr (inr (inr (inr (inr (inr (inl refl)))))))))))))))))))))))))))))))
every_mark m.Tilde =
    inr
    (inr
    (inr
    (inr
    (inr
    (inr
    (inr
    (inr
    (inr
    (inr (inr (inr (inr (inr (inr (inr (inr (inr (inr (inr (inr (inr (inr (inr (inr (inr (inr (inr (inr (inr (inr (inr (inl refl))))))))))))))))))))))))))))))))
every_mark m.AndAnd = inr (inr (inr (inr (inr (inr (inr (inr (inr (inr (inr (inr (inr (inr (inr (inr (inl refl))))))))))))))))
every_mark m.OpenParen =
    inr
    (inr
    (inr
    (inr
    (inr
    (inr
    (inr
    (inr
    (inr
    (inr
    (inr
    (inr (inr (inr (inr (inr (inr (inr (inr (inr (inr (inr (inr (inr (inr (inr (inr (inr (inr (inr (inr (inr (inr (inl refl)))))))))))))))))))))))))))))))))
every_mark m.CloseParen =
    inr
    (inr
    (inr
    (inr
    (inr
    (inr
    (inr
    (inr
    (inr
    (inr
    (inr
    (inr
    (inr (inr (inr (inr (inr (inr (inr (inr (inr (inr (inr (inr (inr (inr (inr (inr (inr (inr (inr (inr (inr (inr (inl refl))))))))))))))))))))))))))))))))))
every_mark m.OpenBracket =
    inr
    (inr
    (inr
    (inr
    (inr
    (inr
    (inr
    (inr
    (inr
    (inr
    (inr
    (inr
    (inr
    (inr (inr (inr (inr (inr (inr (inr (inr (inr (inr (inr (inr (inr (inr (inr (inr (inr (inr (inr (inr (inr (inr (inl refl)))))))))))))))))))))))))))))))))))
every_mark m.CloseBracket =
    inr
    (inr
    (inr
    (inr
    (inr
    (inr
    (inr
    (inr
    (inr
    (inr
    (inr
    (inr
    (inr
    (inr
    (inr (inr (inr (inr (inr (inr (inr (inr (inr (inr (inr (inr (inr (inr (inr (inr (inr (inr (inr (inr (inr (inr (inl refl))))))))))))))))))))))))))))))))))))
every_mark m.OpenBrace =
    inr
    (inr
    (inr
    (inr
    (inr
    (inr
    (inr
    (inr
    (inr
    (inr
    (inr
    (inr
    (inr
    (inr
    (inr
    (inr (inr (inr (inr (inr (inr (inr (inr (inr (inr (inr (inr (inr (inr (inr (inr (inr (inr (inr (inr (inr (inr (inl refl)))))))))))))))))))))))))))))))))))))
every_mark m.CloseBrace =
    inr
    (inr
    (inr
    (inr
    (inr
    (inr
    (inr
    (inr
    (inr
    (inr
    (inr
    (inr
    (inr
    (inr
    (inr
    (inr
    (inr
    (inr (inr (inr (inr (inr (inr (inr (inr (inr (inr (inr (inr (inr (inr (inr (inr (inr (inr (inr (inr (inr (inl refl))))))))))))))))))))))))))))))))))))))
every_mark m.OpenUnion = inr (inr (inr (inr (inr (inr (inr (inr (inr (inr (inr (inr (inr (inr (inr (inr (inr (inl refl)))))))))))))))))
every_mark m.CloseUnion = inr (inr (inr (inr (inr (inr (inr (inr (inr (inr (inr (inr (inr (inr (inr (inr (inr (inr (inl refl))))))))))))))))))
every_mark m.Comma =
    inr
    (inr
    (inr
    (inr
    (inr
    (inr
    (inr
    (inr
    (inr
    (inr
    (inr
    (inr
    (inr
    (inr
    (inr
    (inr
    (inr
    (inr
    (inr (inr (inr (inr (inr (inr (inr (inr (inr (inr (inr (inr (inr (inr (inr (inr (inr (inr (inr (inr (inr (inl refl)))))))))))))))))))))))))))))))))))))))
every_mark m.Semicolon =
    inr
    (inr
    (inr
    (inr
    (inr
    (inr
    (inr
    (inr
    (inr
    (inr
    (inr
    (inr
    (inr
    (inr
    (inr
    (inr
    (inr
    (inr
    (inr
    (inr (inr (inr (inr (inr (inr (inr (inr (inr (inr (inr (inr (inr (inr (inr (inr (inr (inr (inr (inr (inr (inl refl))))))))))))))))))))))))))))))))))))))))
every_mark m.Colon =
    inr
    (inr
    (inr
    (inr
    (inr
    (inr
    (inr
    (inr
    (inr
    (inr
    (inr
    (inr
    (inr
    (inr
    (inr
    (inr
    (inr
    (inr
    (inr
    (inr
    (inr (inr (inr (inr (inr (inr (inr (inr (inr (inr (inr (inr (inr (inr (inr (inr (inr (inr (inr (inr (inr (inl refl)))))))))))))))))))))))))))))))))))))))))
every_mark m.Underscore =
    inr
    (inr
    (inr
    (inr
    (inr
    (inr
    (inr
    (inr
    (inr
    (inr
    (inr
    (inr
    (inr
    (inr
    (inr
    (inr
    (inr
    (inr
    (inr
    (inr
    (inr
    (inr (inr (inr (inr (inr (inr (inr (inr (inr (inr (inr (inr (inr (inr (inr (inr (inr (inr (inr (inr (inr (inl refl))))))))))))))))))))))))))))))))))))))))))

falls : Falls 3 marks
falls = (
  refl,
  (
    refl,
    (
      refl,
      (
        refl,
        (
          refl,
          (
            refl,
            (
              refl,
              (
                refl,
                (
                  refl,
                  (
                    refl,
                    (
                      refl,
                      (
                        refl,
                        (
                          refl,
                          (
                            refl,
                            (
                              refl,
                              (
                                refl,
                                (
                                  refl,
                                  (
                                    refl,
                                    (
                                      refl,
                                      (
                                        refl,
                                        (
                                          refl,
                                          (
                                            refl,
                                            (
                                              refl,
                                              (
                                                refl,
                                                (
                                                  refl,
                                                  (
                                                    refl,
                                                    (
                                                      refl,
                                                      (
                                                        refl,
                                                        (refl, (refl, (refl, (refl, (refl, (refl, (refl, (refl, (refl, (refl, (refl, (refl, (refl, (refl, (refl, tt))))))))))))))),
                                                      ),
                                                    ),
                                                  ),
                                                ),
                                              ),
                                            ),
                                          ),
                                        ),
                                      ),
                                    ),
                                  ),
                                ),
                              ),
                            ),
                          ),
                        ),
                      ),
                    ),
                  ),
                ),
              ),
            ),
          ),
        ),
      ),
    ),
  ),
)

most_test : (m : Mark) (ms : List Mark) (text : List ℕ) (found other : Mark) (v : Bool) → (mark_spelling m ≡ take (length (mark_spelling m)) text → v ≡ true) →
    (if v then Some m else mark_among ms text) ≡ Some found → Falls (length (mark_spelling m)) ms → (m ≡ other) ⊎ Among other ms
    → mark_spelling other ≡ take (length (mark_spelling other)) text →
    (mark_among ms text ≡ Some found → Among other ms → length (mark_spelling other) ≤ length (mark_spelling found))
    → length (mark_spelling other) ≤ length (mark_spelling found)
most_test m ms text found other true d e f (inl same) s rest = let k : m ≡ found =
    cc in subst (λ z. length (mark_spelling other) ≤ length (mark_spelling z)) k
    (subst (λ z. length (mark_spelling z) ≤ length (mark_spelling m)) same (omega arith))
most_test m ms text found other true d e f (inr a) s rest = let k : m ≡ found =
    cc in subst (λ z. length (mark_spelling other) ≤ length (mark_spelling z)) k (short ms (length (mark_spelling m)) other f a)
most_test m ms text found other false d e f (inl same) s rest =
    absurd (let g : false ≡ true = d (subst (λ z. mark_spelling z ≡ take (length (mark_spelling z)) text) (sym same) s) in cc)
most_test m ms text found other false d e f (inr a) s rest = rest e a

most_among : (ms : List Mark) (n : ℕ) (text : List ℕ) (found other : Mark) → mark_among ms text ≡ Some found → Falls n ms → Among other ms
    → mark_spelling other ≡ take (length (mark_spelling other)) text → length (mark_spelling other) ≤ length (mark_spelling found)
most_among [] n text found other e f a s = absurd a
most_among (m ∷ ms) n text found other e f a s = most_test m ms text found other (starts_with nat_eq text (mark_spelling m)) (not_starts m text) e f.1 a s
    (λ e' a'. most_among ms (length (mark_spelling m)) text found other e' f.1 a' s)

-- no mark with which the text begins is longer
pub mark_most : (text : List ℕ) (found other : Mark) → mark_of text ≡ Some found → mark_spelling other ≡ take (length (mark_spelling other)) text
    → length (mark_spelling other) ≤ length (mark_spelling found)
mark_most text found other e s = most_among marks 3 text found other e falls (every_mark other) s

begin_test : (m : Mark) (ms : List Mark) (text : List ℕ) (found : Mark) (v : Bool) → (v ≡ true → mark_spelling m ≡ take (length (mark_spelling m)) text) →
    (if v then Some m else mark_among ms text) ≡ Some found → (mark_among ms text ≡ Some found → mark_spelling found ≡ take (length (mark_spelling found)) text)
    → mark_spelling found ≡ take (length (mark_spelling found)) text
begin_test m ms text found true d e rest = let k : m ≡ found = cc in subst (λ z. mark_spelling z ≡ take (length (mark_spelling z)) text) k (d refl)
begin_test m ms text found false d e rest = rest e

begins_among : (ms : List Mark) (text : List ℕ) (found : Mark) → mark_among ms text ≡ Some found
    → mark_spelling found ≡ take (length (mark_spelling found)) text
begins_among [] text found e = cc
begins_among (m ∷ ms) text found e = begin_test m ms text found (starts_with nat_eq text (mark_spelling m)) (starts m text) e (begins_among ms text found)

-- the text begins with the mark that is found
pub mark_begins : (text : List ℕ) (found : Mark) → mark_of text ≡ Some found → mark_spelling found ≡ take (length (mark_spelling found)) text
mark_begins text found e = begins_among marks text found e

none_test : (m : Mark) (ms : List Mark) (text : List ℕ) (other : Mark) (v : Bool) → (mark_spelling m ≡ take (length (mark_spelling m)) text → v ≡ true) →
    (if v then Some m else mark_among ms text) ≡ None → (m ≡ other) ⊎ Among other ms
    → (mark_among ms text ≡ None → Among other ms → mark_spelling other ≢ take (length (mark_spelling other)) text)
    → mark_spelling other ≢ take (length (mark_spelling other)) text
none_test m ms text other true d e a rest = λ s. (cc)
none_test m ms text other false d e (inl same) rest = λ s.
    (let g : false ≡ true = d (subst (λ z. mark_spelling z ≡ take (length (mark_spelling z)) text) (sym same) s) in cc)
none_test m ms text other false d e (inr a) rest = rest e a

none_among : (ms : List Mark) (text : List ℕ) (other : Mark) → mark_among ms text ≡ None → Among other ms
    → mark_spelling other ≢ take (length (mark_spelling other)) text
none_among [] text other e a = absurd a
none_among (m ∷ ms) text other e a = none_test m ms text other (starts_with nat_eq text (mark_spelling m)) (not_starts m text) e a (none_among ms text other)

-- where none is found the text begins with no mark
pub no_mark_begins : (text : List ℕ) (other : Mark) → mark_of text ≡ None → mark_spelling other ≢ take (length (mark_spelling other)) text
no_mark_begins text other e = none_among marks text other e (every_mark other)

-- a mark that does not begin with a point has at most two bytes
pub mark_short : (mark : Mark) → (get_or (mark_spelling mark) 0 0 ≡ 46) ⊎ (length (mark_spelling mark) ≤ 2)
mark_short m.OrElse = inr (omega arith)
mark_short m.Bar = inr (omega arith)
mark_short m.OrOr = inr (omega arith)
mark_short m.DollarDollar = inr (omega arith)
mark_short m.DollarBracket = inr (omega arith)
mark_short m.Caret = inr (omega arith)
mark_short m.DotDot = inl refl
mark_short m.Dot = inl refl
mark_short m.BitAnd = inl refl
mark_short m.BitOr = inl refl
mark_short m.BitXor = inl refl
mark_short m.Arrow = inr (omega arith)
mark_short m.Equals = inr (omega arith)
mark_short m.EqualEqual = inr (omega arith)
mark_short m.NotEqual = inr (omega arith)
mark_short m.Bang = inr (omega arith)
mark_short m.Less = inr (omega arith)
mark_short m.LessEqual = inr (omega arith)
mark_short m.ShiftLeft = inr (omega arith)
mark_short m.LessHash = inr (omega arith)
mark_short m.Hash = inr (omega arith)
mark_short m.Greater = inr (omega arith)
mark_short m.ShiftRight = inr (omega arith)
mark_short m.GreaterEqual = inr (omega arith)
mark_short m.Plus = inr (omega arith)
mark_short m.Minus = inr (omega arith)
mark_short m.Star = inr (omega arith)
mark_short m.Slash = inr (omega arith)
mark_short m.Percent = inr (omega arith)
mark_short m.Tilde = inr (omega arith)
mark_short m.AndAnd = inr (omega arith)
mark_short m.OpenParen = inr (omega arith)
mark_short m.CloseParen = inr (omega arith)
mark_short m.OpenBracket = inr (omega arith)
mark_short m.CloseBracket = inr (omega arith)
mark_short m.OpenBrace = inr (omega arith)
mark_short m.CloseBrace = inr (omega arith)
mark_short m.OpenUnion = inr (omega arith)
mark_short m.CloseUnion = inr (omega arith)
mark_short m.Comma = inr (omega arith)
mark_short m.Semicolon = inr (omega arith)
mark_short m.Colon = inr (omega arith)
mark_short m.Underscore = inr (omega arith)

some_test : (mark : Mark) → nat_lt 0 (length (mark_spelling mark)) ≡ true
some_test m.OrElse = refl
some_test m.Bar = refl
some_test m.OrOr = refl
some_test m.DollarDollar = refl
some_test m.DollarBracket = refl
some_test m.Caret = refl
some_test m.DotDot = refl
some_test m.Dot = refl
some_test m.BitAnd = refl
some_test m.BitOr = refl
some_test m.BitXor = refl
some_test m.Arrow = refl
some_test m.Equals = refl
some_test m.EqualEqual = refl
some_test m.NotEqual = refl
some_test m.Bang = refl
some_test m.Less = refl
some_test m.LessEqual = refl
some_test m.ShiftLeft = refl
some_test m.LessHash = refl
some_test m.Hash = refl
some_test m.Greater = refl
some_test m.ShiftRight = refl
some_test m.GreaterEqual = refl
some_test m.Plus = refl
some_test m.Minus = refl
some_test m.Star = refl
some_test m.Slash = refl
some_test m.Percent = refl
some_test m.Tilde = refl
some_test m.AndAnd = refl
some_test m.OpenParen = refl
some_test m.CloseParen = refl
some_test m.OpenBracket = refl
some_test m.CloseBracket = refl
some_test m.OpenBrace = refl
some_test m.CloseBrace = refl
some_test m.OpenUnion = refl
some_test m.CloseUnion = refl
some_test m.Comma = refl
some_test m.Semicolon = refl
some_test m.Colon = refl
some_test m.Underscore = refl

-- a mark has bytes
pub mark_some : (mark : Mark) → 0 < length (mark_spelling mark)
mark_some mark = ltb-true 0 (length (mark_spelling mark)) (some_test mark)
