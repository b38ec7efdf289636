-- What an accepted specification answers of its input.
use Rattle.std.proofs.Common.{◌≡◌, ◌≤◌, ◌<◌, ◌^◌, ◌⊎◌, inl, inr, ℕ, List, [], ◌∷◌, length, Option, Some, None, refl, sym, ap, ◌∙◌, subst, arith}
use Rattle.ddl_outside.specs.Files.{Contents}
use Rattle.ddl_modules.specs.Files.{module_name}
use Rattle.ddl_report.specs.declared.closing.Closing.TheVariants as closing_is
use Rattle.ddl_simple.specs.Modules.{Declared, specified}
use Rattle.ddl_tree.specs.declared.module.SourceUnit.{SourceUnit}
use Rattle.ddl_typed.specs.Denoted.{Denoted}
use Rattle.ddl_typed.specs.Told.{IsAnswer, Told}
use Rattle.ddl_typed.specs.Tree.{alone}
use Rattle.ddl_uses.specs.Bindings.{Loaded}
use Rattle.ddl_uses.specs.Walks.{loaded}
use Rattle.ddl_top.specs.Answered.{answer_lines, closing_only, status_of}
use Rattle.ddl_top.specs.Run.{specified_in}
use Rattle.ddl_top.specs.declared.status.Status.{Status}
use Rattle.ddl_top.specs.declared.status.Status.TheVariants as status_is
use Rattle.ddl_exact_runs.proofs.Causes.{AreOne, Lines, OneRest}

-- what modules specify, as definitions see them
abbrev pub specified_of : List Loaded → Option Declared
specified_of (prelude ∷ root ∷ []) = specified root.tree
specified_of ls = None

pub specified_are : (us : List SourceUnit) → specified_in us ≡ specified_of (loaded us)
specified_are [] = refl
specified_are (p ∷ []) = refl
specified_are (p ∷ r ∷ []) = refl
specified_are (p ∷ r ∷ u ∷ us) = refl

-- the form is not run so far; the input is not there; it is too large; or this is denoted of it
pub data InputAnswer (contents : Contents) (root input : List ℕ) (ls : List Loaded) (a : Status) (lines : Lines) : Type 0 where
  unbuilt : specified_of ls ≡ None → a ≡ status_is.Refused → lines ≡ closing_only closing_is.Unbuilt → InputAnswer contents root input ls a lines
  absent : (spec : Declared) → specified_of ls ≡ Some spec → contents input ≡ None → a ≡ status_is.Missing → lines ≡ closing_only (closing_is.Missing input)
      → InputAnswer contents root input ls a lines
  large : (spec : Declared) (bytes : List ℕ) → specified_of ls ≡ Some spec → contents input ≡ Some bytes → 2 ^ 30 < length bytes → a ≡ status_is.TooLarge
      → lines ≡ closing_only closing_is.Large → InputAnswer contents root input ls a lines
  denoted : (spec : Declared) (bytes : List ℕ) (told : Told) → specified_of ls ≡ Some spec → contents input ≡ Some bytes → length bytes ≤ 2 ^ 30
      → IsAnswer (alone spec.span spec.body) 0 bytes told → a ≡ status_of told.closing → lines ≡ answer_lines (module_name root) told
      → InputAnswer contents root input ls a lines

none_or_spec : (o : Option Declared) (spec : Declared) → o ≡ None → o ≡ Some spec → ⊥
none_or_spec o spec h k = cc

one_spec : (o : Option Declared) (spec other : Declared) → o ≡ Some spec → o ≡ Some other → spec ≡ other
one_spec o spec other h k = cc

none_or_bytes : (o : Option (List ℕ)) (bytes : List ℕ) → o ≡ None → o ≡ Some bytes → ⊥
none_or_bytes o bytes h k = cc

one_input : (o : Option (List ℕ)) (bytes others : List ℕ) → o ≡ Some bytes → o ≡ Some others → bytes ≡ others
one_input o bytes others h k = cc

not_larger : (most : ℕ) (bytes others : List ℕ) → bytes ≡ others → most < length bytes → length others ≤ most → ⊥
not_larger most bytes others same h k = let long : length bytes ≡ length others = ap length same in omega arith

large_and_not : (o : Option (List ℕ)) (most : ℕ) (bytes others : List ℕ) → o ≡ Some bytes → o ≡ Some others → most < length bytes → length others ≤ most → ⊥
large_and_not o most bytes others h k more less = not_larger most bytes others (one_input o bytes others h k) more less

some_told : (o : Option Told) (x y : Told) → o ≡ Some x → o ≡ Some y → x ≡ y
some_told o x y h k = cc

one_told_of : (spec : Declared) (bytes : List ℕ) (x y : Told) → IsAnswer (alone spec.span spec.body) 0 bytes x → IsAnswer (alone spec.span spec.body) 0 bytes y
    → x ≡ y
one_told_of spec bytes x y h k = some_told _ x y (h.always h.enough.0 h.enough.1) (k.always h.enough.0 h.enough.1)

one_told : (spec other : Declared) (bytes others : List ℕ) (x y : Told) → spec ≡ other → bytes ≡ others → IsAnswer (alone spec.span spec.body) 0 bytes x
    → IsAnswer (alone other.span other.body) 0 others y → x ≡ y
one_told spec other bytes others x y same long h k =
    one_told_of other others x y
    (subst (λ input. IsAnswer (alone other.span other.body) 0 input x) long (subst (λ d. IsAnswer (alone d.span d.body) 0 bytes x) same h)) k

pub one_input_answer : (contents : Contents) (root input : List ℕ) → OneRest (InputAnswer contents root input)
one_input_answer contents root input ls a b lines more (unbuilt n s l) (unbuilt m t k) = (s ∙ sym t, l ∙ sym k)
one_input_answer contents root input ls a b lines more (unbuilt n s l) (absent spec m i t k) = absurd (none_or_spec (specified_of ls) spec n m)
one_input_answer contents root input ls a b lines more (unbuilt n s l) (large spec bytes m i g t k) = absurd (none_or_spec (specified_of ls) spec n m)
one_input_answer contents root input ls a b lines more (unbuilt n s l) (denoted spec bytes told m i g d t k) = absurd (none_or_spec (specified_of ls) spec n m)
one_input_answer contents root input ls a b lines more (absent spec m i t k) (unbuilt n s l) = absurd (none_or_spec (specified_of ls) spec n m)
one_input_answer contents root input ls a b lines more (large spec bytes m i g t k) (unbuilt n s l) = absurd (none_or_spec (specified_of ls) spec n m)
one_input_answer contents root input ls a b lines more (denoted spec bytes told m i g d t k) (unbuilt n s l) = absurd (none_or_spec (specified_of ls) spec n m)
one_input_answer contents root input ls a b lines more (absent spec m i t k) (absent other n j u l) = (t ∙ sym u, k ∙ sym l)
one_input_answer contents root input ls a b lines more (absent spec m i t k) (large other bytes n j g u l) = absurd (none_or_bytes (contents input) bytes i j)
one_input_answer contents root input ls a b lines more (absent spec m i t k) (denoted other bytes told n j g d u l) =
    absurd (none_or_bytes (contents input) bytes i j)
one_input_answer contents root input ls a b lines more (large spec bytes m i g t k) (absent other n j u l) = absurd (none_or_bytes (contents input) bytes j i)
one_input_answer contents root input ls a b lines more (denoted spec bytes told m i g d t k) (absent other n j u l) =
    absurd (none_or_bytes (contents input) bytes j i)
one_input_answer contents root input ls a b lines more (large spec bytes m i g t k) (large other others n j f u l) = (t ∙ sym u, k ∙ sym l)
one_input_answer contents root input ls a b lines more (large spec bytes m i g t k) (denoted other others told n j f d u l) =
    absurd (large_and_not (contents input) (2 ^ 30) bytes others i j g f)
one_input_answer contents root input ls a b lines more (denoted spec bytes told m i g d t k) (large other others n j f u l) =
    absurd (large_and_not (contents input) (2 ^ 30) others bytes j i f g)
one_input_answer contents root input ls a b lines more (denoted spec bytes x m i g d t k) (denoted other others y n j f c u l) =
    let same : x ≡ y = one_told spec other bytes others x y (one_spec (specified_of ls) spec other m n) (one_input (contents input) bytes others i j) d c in
    (t ∙ ap (λ z. status_of z.closing) same ∙ sym u, k ∙ ap (answer_lines (module_name root)) same ∙ sym l)
