-- Each token of a list in braces keeps the depths, and makes no module shallower.
use Rattle.std.proofs.Common.{◌≡◌, ℕ, ◌+◌, max, List, [], ◌∷◌, None, refl, arith}
use Rattle.ddl_base.specs.declared.span.Span.{Span}
use Rattle.ddl_token.specs.declared.token.Tok.{Tok}
use Rattle.ddl_token.specs.declared.token.Tok.TheVariants as k
use Rattle.ddl_token.specs.declared.word.Word.TheVariants as w
use Rattle.ddl_token.specs.declared.mark.Mark.TheVariants as m
use Rattle.ddl_tree.specs.declared.name.Name.{Name}
use Rattle.ddl_tree.specs.declared.pattern.Pat.{Pat}
use Rattle.ddl_tree.specs.declared.pattern.Pat.TheVariants as pat
use Rattle.ddl_tree.specs.ExprTree as ex
use Rattle.ddl_tree.specs.View.{exprs_of, bindings_of, items_of, alts_of}
use Rattle.ddl_tree.specs.Depth.{depth, item_depth, exprs_depth, bindings_depth, items_depth, alts_depth}
use Rattle.ddl_reader.specs.Frames.{Frame, Found, Repeat, Start, Cases}
use Rattle.ddl_reader.specs.Frames as frame
use Rattle.ddl_reader.specs.StepParts.{bound_to}
use Rattle.ddl_reader.specs.StepLists.{started, open_block_with, let_name_with, item_equals_with, field_of_block, after_item, open_choice_with, first_tag}
use Rattle.ddl_reader.specs.StepLists.{after_untagged, want_tag_with, tag_equals_with, after_with_tags, after_subject, open_case_with, pattern_with, just_with}
use Rattle.ddl_reader.specs.StepLists.{in_alt_of, tag_with, arrow_with, alt_of, after_alt}
use Rattle.ddl_reader.specs.Depths.{low}
use Rattle.ddl_reader.proofs.Deep.{IsDeep, AreDeep, AreDeepCases, Goes, Deeps, low_grows, exprs_deep, bindings_deep, items_deep, alts_deep}

-- ---- blocks

item_deep : (b : Start) (a : Found) → item_depth (started b a) ≡ depth a.expr
item_deep frame.plainly a = refl
item_deep (frame.result_from s) a = refl
item_deep (frame.let_from s x) a = refl
item_deep (frame.field x) a = refl

pub open_block_deep : (x : Tok) (from : Span) (fs : List Frame) → AreDeep fs → Deeps (low fs 2) (open_block_with x from fs)
open_block_deep (k.Mark m.OpenBrace) from fs d = ((refl, d), tt, omega arith)
open_block_deep _ from fs d = tt

pub let_name_deep : (x : Tok) (s from : Span) (is : List ex.Item) (n : ℕ) (t : Span) (fs : List Frame) → AreDeep fs → n ≡ items_depth (items_of is)
    → Deeps (low fs (1 + max n 1)) (let_name_with x s from is n t fs)
let_name_deep (k.Lower x) s from is n t fs d h = (d, h, omega arith)
let_name_deep _ s from is n t fs d h = tt

pub item_equals_deep : (x : Tok) (from : Span) (is : List ex.Item) (n : ℕ) (b : Start) (fs : List Frame) → AreDeep fs → n ≡ items_depth (items_of is)
    → Deeps (low fs (1 + max n 1)) (item_equals_with x from is n b fs)
item_equals_deep (k.Mark m.Equals) from is n b fs d h = ((h, d), tt, omega arith)
item_equals_deep _ from is n b fs d h = tt

field_of_block_deep : (from : Span) (is : List ex.Item) (n : ℕ) (b : Start) (e : ex.Expr) (a : ℕ) (fs : List Frame) → AreDeep fs → n ≡ items_depth (items_of is)
    → a ≡ depth e → Deeps (low fs (1 + max n a)) (field_of_block from is n b e fs)
field_of_block_deep from is n frame.plainly (ex.Lower x) a fs d h i = ((h, d), tt, low_grows fs (1 + max n a) (1 + max n 1) (omega arith))
field_of_block_deep from is n frame.plainly _ a fs d h i = tt
field_of_block_deep from is n _ e a fs d h i = tt

pub after_item_deep : (x : Tok) (s from : Span) (is : List ex.Item) (n : ℕ) (b : Start) (a : Found) (fs : List Frame) → AreDeep fs
    → n ≡ items_depth (items_of is) → IsDeep a → Deeps (low fs (1 + max n a.deep)) (after_item x s from is n b a fs)
after_item_deep (k.Mark m.Semicolon) s from is n b a fs d h i =
    ((omega (arith, items_deep is (started b a), item_deep b a), d), tt, low_grows fs (1 + max n a.deep) (1 + max (max n a.deep) 1) (omega arith))
after_item_deep (k.Mark m.CloseBrace) s from is n b a fs d h i = (d, omega (arith, items_deep is (started b a), item_deep b a), omega arith)
after_item_deep (k.Mark m.Equals) s from is n b a fs d h i = field_of_block_deep from is n b a.expr a.deep fs d h i
after_item_deep _ s from is n b a fs d h i = tt

-- ---- First and Choose

pub open_choice_deep : (x : Tok) (r : Repeat) (fs : List Frame) → AreDeep fs → Deeps (low fs 2) (open_choice_with x r fs)
open_choice_deep (k.Mark m.OpenBrace) r fs d = ((refl, d), tt, omega arith)
open_choice_deep _ r fs d = tt

first_tag_deep : (r : Repeat) (xs : List ex.Expr) (n : ℕ) (e : ex.Expr) (a : ℕ) (fs : List Frame) → AreDeep fs → n ≡ exprs_depth (exprs_of xs) → a ≡ depth e
    → Deeps (low fs (1 + max n a)) (first_tag r xs e fs)
first_tag_deep r [] n (ex.Lower x) a fs d h i = ((refl, d), tt, low_grows fs (1 + max n a) 2 (omega arith))
first_tag_deep r [] n _ a fs d h i = tt
first_tag_deep r (b ∷ xs) n e a fs d h i = tt

pub after_untagged_deep : (x : Tok) (s : Span) (r : Repeat) (xs : List ex.Expr) (n : ℕ) (a : Found) (fs : List Frame) → AreDeep fs
    → n ≡ exprs_depth (exprs_of xs) → IsDeep a → Deeps (low fs (1 + max n a.deep)) (after_untagged x s r xs n a fs)
after_untagged_deep (k.Mark m.Semicolon) s r xs n a fs d h i =
    ((omega (arith, exprs_deep xs a.expr), d), tt, low_grows fs (1 + max n a.deep) (1 + max (max n a.deep) 1) (omega arith))
after_untagged_deep (k.Mark m.CloseBrace) s r xs n a fs d h i = (d, omega (arith, exprs_deep xs a.expr), omega arith)
after_untagged_deep (k.Mark m.Equals) s r xs n a fs d h i = first_tag_deep r xs n a.expr a.deep fs d h i
after_untagged_deep _ s r xs n a fs d h i = tt

pub want_tag_deep : (x : Tok) (s : Span) (r : Repeat) (bs : List ex.Binding) (n : ℕ) (fs : List Frame) → AreDeep fs → n ≡ bindings_depth (bindings_of bs)
    → Deeps (low fs (1 + max n 1)) (want_tag_with x s r bs n fs)
want_tag_deep (k.Lower x) s r bs n fs d h = (d, h, omega arith)
want_tag_deep _ s r bs n fs d h = tt

pub tag_equals_deep : (x : Tok) (r : Repeat) (bs : List ex.Binding) (n : ℕ) (y : Name) (fs : List Frame) → AreDeep fs → n ≡ bindings_depth (bindings_of bs)
    → Deeps (low fs (1 + max n 1)) (tag_equals_with x r bs n y fs)
tag_equals_deep (k.Mark m.Equals) r bs n y fs d h = ((h, d), tt, omega arith)
tag_equals_deep _ r bs n y fs d h = tt

pub after_with_tags_deep : (x : Tok) (s : Span) (r : Repeat) (bs : List ex.Binding) (n : ℕ) (y : Name) (a : Found) (fs : List Frame) → AreDeep fs
    → n ≡ bindings_depth (bindings_of bs) → IsDeep a → Deeps (low fs (1 + max n a.deep)) (after_with_tags x s r bs n y a fs)
after_with_tags_deep (k.Mark m.Semicolon) s r bs n y a fs d h i =
    (d, omega (arith, bindings_deep bs (bound_to y a)), low_grows fs (1 + max n a.deep) (1 + max (max n a.deep) 1) (omega arith))
after_with_tags_deep (k.Mark m.CloseBrace) s r bs n y a fs d h i = (d, omega (arith, bindings_deep bs (bound_to y a)), omega arith)
after_with_tags_deep _ s r bs n y a fs d h i = tt

-- ---- case

pub after_subject_deep : (x : Tok) (from : Span) (a : Found) (fs : List Frame) → AreDeep fs → IsDeep a → Deeps (low fs (1 + a.deep)) (after_subject x from a fs)
after_subject_deep (k.Word w.Of) from a fs d i = (d, i, low_grows fs (1 + a.deep) (1 + max a.deep 1) (omega arith))
after_subject_deep _ from a fs d i = tt

pub open_case_deep : (x : Tok) (from : Span) (e : Found) (fs : List Frame) → AreDeep fs → IsDeep e
    → Deeps (low fs (1 + max e.deep 1)) (open_case_with x from e fs)
open_case_deep (k.Mark m.OpenBrace) from e fs d i = (d, (i, refl), omega arith)
open_case_deep _ from e fs d i = tt

pub pattern_deep : (x : Tok) (s : Span) (c : Cases) (fs : List Frame) → AreDeep fs → AreDeepCases c
    → Deeps (low fs (1 + max c.subject.deep (max c.deep 1))) (pattern_with x s c fs)
pattern_deep (k.Mark m.Underscore) s c fs d i = (d, i, omega arith)
pattern_deep (k.Number v b n) s c fs d i = (d, i, omega arith)
pattern_deep (k.Char b) s c fs d i = (d, i, omega arith)
pattern_deep (k.Word w.True) s c fs d i = (d, i, omega arith)
pattern_deep (k.Word w.False) s c fs d i = (d, i, omega arith)
pattern_deep (k.Word w.Nothing) s c fs d i = (d, i, omega arith)
pattern_deep (k.Word w.Just) s c fs d i = (d, i, omega arith)
pattern_deep (k.Lower x) s c fs d i = (d, i, omega arith)
pattern_deep _ s c fs d i = tt

pub just_deep : (x : Tok) (s : Span) (c : Cases) (from : Span) (fs : List Frame) → AreDeep fs → AreDeepCases c
    → Deeps (low fs (1 + max c.subject.deep (max c.deep 1))) (just_with x s c from fs)
just_deep (k.Lower x) s c from fs d i = (d, i, omega arith)
just_deep (k.Mark m.Underscore) s c from fs d i = (d, i, omega arith)
just_deep _ s c from fs d i = tt

in_alt_deep : (c : Cases) (p : Pat) (fs : List Frame) → AreDeep fs → AreDeepCases c → Goes (low fs (1 + max c.subject.deep (max c.deep 1))) (in_alt_of c p fs)
in_alt_deep c p fs d i = ((i, d), tt, omega arith)

pub tag_deep : (x : Tok) (s : Span) (c : Cases) (y : Name) (fs : List Frame) → AreDeep fs → AreDeepCases c
    → Deeps (low fs (1 + max c.subject.deep (max c.deep 1))) (tag_with x s c y fs)
tag_deep (k.Lower z) s c y fs d i = (d, i, omega arith)
tag_deep (k.Mark m.Underscore) s c y fs d i = (d, i, omega arith)
tag_deep (k.Mark m.Arrow) s c y fs d i = in_alt_deep c (pat.Tag y None y.span) fs d i
tag_deep _ s c y fs d i = tt

pub arrow_deep : (x : Tok) (c : Cases) (p : Pat) (fs : List Frame) → AreDeep fs → AreDeepCases c
    → Deeps (low fs (1 + max c.subject.deep (max c.deep 1))) (arrow_with x c p fs)
arrow_deep (k.Mark m.Arrow) c p fs d i = in_alt_deep c p fs d i
arrow_deep _ c p fs d i = tt

pub after_alt_deep : (x : Tok) (s from : Span) (e : Found) (xs : List ex.Alt) (n : ℕ) (p : Pat) (a : Found) (fs : List Frame) → AreDeep fs → IsDeep e
    → n ≡ alts_depth (alts_of xs) → IsDeep a → Deeps (low fs (1 + max e.deep (max n a.deep))) (after_alt x s from e xs n p a fs)
after_alt_deep (k.Mark m.Semicolon) s from e xs n p a fs d g h i =
    (d, (g, omega (arith, alts_deep xs (alt_of p a))), low_grows fs (1 + max e.deep (max n a.deep)) (1 + max e.deep (max (max n a.deep) 1)) (omega arith))
after_alt_deep (k.Mark m.CloseBrace) s from e xs n p a fs d g h i = (d, omega (arith, alts_deep xs (alt_of p a)), omega arith)
after_alt_deep _ s from e xs n p a fs d g h i = tt
