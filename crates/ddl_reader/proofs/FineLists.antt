-- Each token of a list in braces leads to a state that has read it.
use Rattle.std.proofs.Common.{◌≡◌, ℕ, ◌≤◌, List, [], ◌∷◌, ◌++◌, None, refl, ap, ◌∙◌, arith}
use Rattle.ddl_base.specs.declared.span.Span.{Span}
use Rattle.ddl_token.specs.declared.token.Tok.{Tok}
use Rattle.ddl_token.specs.declared.token.Tok.TheVariants as k
use Rattle.ddl_token.specs.declared.word.Word.TheVariants as w
use Rattle.ddl_token.specs.declared.mark.Mark.TheVariants as m
use Rattle.ddl_tree.specs.declared.name.Name.{Name}
use Rattle.ddl_tree.specs.declared.pattern.Pat.{Pat}
use Rattle.ddl_tree.specs.declared.pattern.Pat.TheVariants as pat
use Rattle.ddl_tree.specs.ExprTree as ex
use Rattle.ddl_tree.specs.ExprTree.{expr_span}
use Rattle.ddl_tree.specs.View.{items_of, alts_of}
use Rattle.ddl_tree.specs.Print.{choice_token, print_pattern, print, print_item, print_items, print_more_items, print_alts, print_more_alts}
use Rattle.ddl_tree.specs.Grammar.{IsExpr, IsItem, AreItems, AreAlts, SomeItems, SomeAlts}
use Rattle.ddl_reader.specs.Frames.{Frame, Focus, State, Found, FoundType, FoundClass, Head, Sort, Layout, Parted, PartStart, Repeat, Start, Loop, Cases}
use Rattle.ddl_reader.specs.Frames as frame
use Rattle.ddl_reader.specs.StepType.{found}
use Rattle.ddl_reader.specs.StepExpr.{least}
use Rattle.ddl_reader.specs.StepParts.{bound_to}
use Rattle.ddl_reader.specs.StepLists.{started, open_block_with, let_name_with, item_equals_with, field_of_block, after_item, open_choice_with, first_tag}
use Rattle.ddl_reader.specs.StepLists.{after_untagged, want_tag_with, tag_equals_with, after_with_tags, after_subject, open_case_with, pattern_with, just_with}
use Rattle.ddl_reader.specs.StepLists.{in_alt_of, tag_with, arrow_with, alt_of, after_alt}
use Rattle.ddl_reader.proofs.Before.{read, start_tokens, start_begun, case_tokens, each_item, each_alt}
use Rattle.ddl_reader.proofs.Fits.{Items, Alts, IsNamed, AreCases, wanted, AreFrames, IsFocus, Reads, Steps, least_small}
use Rattle.ddl_reader.proofs.FineExprs.{some_exprs}
use Rattle.ddl_reader.proofs.FineParts.{row_each, each_more, exprs_more, are_exprs, row_bindings, each_bindings, bindings_more, are_bindings, some_bindings}

small : (fs : List Frame) → least fs ≤ 18
small fs = let h = least_small fs in omega arith

-- ---- blocks

more_items : (is : List ex.Item) (i : ex.Item) (r : List Tok)
    → print_more_items (items_of (is ++ i ∷ [])) r ≡ k.Mark m.Semicolon ∷ each_item is (print_item i r)
more_items [] i r = refl
more_items (j ∷ is) i r = ap (λ z. k.Mark m.Semicolon ∷ print_item j z) (more_items is i r)

row_items : (is : List ex.Item) (i : ex.Item) (r : List Tok) → print_items (items_of (is ++ i ∷ [])) r ≡ each_item is (print_item i r)
row_items [] i r = refl
row_items (j ∷ is) i r = ap (print_item j) (more_items is i r)

each_items : (is : List ex.Item) (i : ex.Item) (r : List Tok) → each_item (is ++ i ∷ []) r ≡ each_item is (print_item i (k.Mark m.Semicolon ∷ r))
each_items [] i r = refl
each_items (j ∷ is) i r = ap (λ z. print_item j (k.Mark m.Semicolon ∷ z)) (each_items is i r)

items_more : (is : List ex.Item) (i : ex.Item) → Items is → IsItem i → Items (is ++ i ∷ [])
items_more [] i h e = (e, tt)
items_more (j ∷ is) i h e = (h.0, items_more is i h.1 e)

are_items : (is : List ex.Item) → Items is → AreItems (items_of is)
are_items [] h = tt
are_items (i ∷ is) h = (h.0, are_items is h.1)

some_items : (is : List ex.Item) (i : ex.Item) → SomeItems (items_of (is ++ i ∷ []))
some_items [] i = tt
some_items (j ∷ is) i = tt

item_tokens : (b : Start) (a : Found) (r : List Tok) → print_item (started b a) r ≡ start_tokens b (print a.expr r)
item_tokens frame.plainly a r = refl
item_tokens (frame.result_from s) a r = refl
item_tokens (frame.let_from s x) a r = refl
item_tokens (frame.field x) a r = refl

item_fine : (b : Start) (a : Found) → IsExpr a.expr → IsItem (started b a)
item_fine frame.plainly a i = i
item_fine (frame.result_from s) a i = i
item_fine (frame.let_from s x) a i = i
item_fine (frame.field x) a i = i

pub open_block_fine : (x : Tok) (from : Span) (fs : List Frame) → AreFrames fs → wanted fs ≡ 1 → Steps fs (frame.open_block from) x (open_block_with x from fs)
open_block_fine (k.Mark m.OpenBrace) from fs h w = ((λ r. refl), (tt, w, small fs, tt, h), refl)
open_block_fine _ from fs h w = tt

pub let_name_fine : (x : Tok) (s from : Span) (is : List ex.Item) (n : ℕ) (t : Span) (fs : List Frame) → AreFrames fs → IsFocus fs (frame.let_name from is n t)
    → Steps fs (frame.let_name from is n t) x (let_name_with x s from is n t fs)
let_name_fine (k.Lower x) s from is n t fs h i = ((λ r. refl), h, (i.0, tt, i.1))
let_name_fine _ s from is n t fs h i = tt

start_ends : (b : Start) (r : List Tok) → IsNamed b → start_tokens b r ≡ start_begun b (k.Mark m.Equals ∷ r)
start_ends frame.plainly r h = absurd h
start_ends (frame.result_from s) r h = refl
start_ends (frame.let_from s x) r h = refl
start_ends (frame.field x) r h = refl

pub item_equals_fine : (x : Tok) (from : Span) (is : List ex.Item) (n : ℕ) (b : Start) (fs : List Frame) → AreFrames fs
    → IsFocus fs (frame.item_equals from is n b) → Steps fs (frame.item_equals from is n b) x (item_equals_with x from is n b fs)
item_equals_fine (k.Mark m.Equals) from is n b fs h i =
    ((λ r. ap (λ z. read fs (k.Word w.Block ∷ k.Mark m.OpenBrace ∷ each_item is z)) (start_ends b r i.1)), (i.0, i.2, small fs, tt, h), refl)
item_equals_fine _ from is n b fs h i = tt

field_of_block_fine : (from : Span) (is : List ex.Item) (n : ℕ) (b : Start) (e : ex.Expr) (d : ℕ) (fs : List Frame)
    → AreFrames (frame.in_block from is n b ∷ fs) → Steps (frame.in_block from is n b ∷ fs) (frame.have (found e d)) (k.Mark m.Equals)
    (field_of_block from is n b e fs)
field_of_block_fine from is n frame.plainly (ex.Lower x) d fs h = ((λ r. refl), (h.0, h.1, h.2, tt, h.4), refl)
field_of_block_fine from is n frame.plainly _ d fs h = tt
field_of_block_fine from is n _ e d fs h = tt

pub after_item_fine : (x : Tok) (s from : Span) (is : List ex.Item) (n : ℕ) (b : Start) (a : Found) (fs : List Frame)
    → AreFrames (frame.in_block from is n b ∷ fs) → IsExpr a.expr → Steps (frame.in_block from is n b ∷ fs) (frame.have a) x (after_item x s from is n b a fs)
after_item_fine (k.Mark m.Semicolon) s from is n b a fs h i = (
  (λ r. ap (λ z. read fs (k.Word w.Block ∷ k.Mark m.OpenBrace ∷ z)) (each_items is (started b a) r
      ∙ ap (each_item is) (item_tokens b a (k.Mark m.Semicolon ∷ r)))),
  (items_more is (started b a) h.0 (item_fine b a i), h.1, h.2, tt, h.4),
  refl,
)
after_item_fine (k.Mark m.CloseBrace) s from is n b a fs h i = (
  (λ r. ap (λ z. read fs (k.Word w.Block ∷ k.Mark m.OpenBrace ∷ z)) (row_items is (started b a) (k.Mark m.CloseBrace ∷ r)
      ∙ ap (each_item is) (item_tokens b a (k.Mark m.CloseBrace ∷ r)))),
  h.4,
  ((some_items is (started b a), are_items (is ++ started b a ∷ []) (items_more is (started b a) h.0 (item_fine b a i))), h.1, h.2),
)
after_item_fine (k.Mark m.Equals) s from is n b a fs h i = field_of_block_fine from is n b a.expr a.deep fs h
after_item_fine _ s from is n b a fs h i = tt

-- ---- First and Choose

pub open_choice_fine : (x : Tok) (o : Repeat) (fs : List Frame) → AreFrames fs → wanted fs ≡ 1 → Steps fs (frame.open_choice o) x (open_choice_with x o fs)
open_choice_fine (k.Mark m.OpenBrace) o fs h w = ((λ r. refl), (tt, w, small fs, tt, h), refl)
open_choice_fine _ o fs h w = tt

first_tag_fine : (o : Repeat) (xs : List ex.Expr) (n : ℕ) (e : ex.Expr) (d : ℕ) (fs : List Frame) → AreFrames (frame.in_untagged o xs n ∷ fs)
    → Steps (frame.in_untagged o xs n ∷ fs) (frame.have (found e d)) (k.Mark m.Equals) (first_tag o xs e fs)
first_tag_fine o [] n (ex.Lower x) d fs h = ((λ r. refl), (tt, h.1, h.2, tt, h.4), refl)
first_tag_fine o [] n _ d fs h = tt
first_tag_fine o (a ∷ xs) n e d fs h = tt

pub after_untagged_fine : (x : Tok) (s : Span) (o : Repeat) (xs : List ex.Expr) (n : ℕ) (a : Found) (fs : List Frame)
    → AreFrames (frame.in_untagged o xs n ∷ fs) → IsExpr a.expr → Steps (frame.in_untagged o xs n ∷ fs) (frame.have a) x (after_untagged x s o xs n a fs)
after_untagged_fine (k.Mark m.Semicolon) s o xs n a fs h i = (
  (λ r. ap (λ z. read fs (choice_token o.bias ∷ k.Mark m.OpenBrace ∷ z)) (each_more xs a.expr m.Semicolon r)),
  (exprs_more xs a.expr h.0 i, h.1, h.2, tt, h.4),
  refl,
)
after_untagged_fine (k.Mark m.CloseBrace) s o xs n a fs h i = (
  (λ r. ap (λ z. read fs (choice_token o.bias ∷ k.Mark m.OpenBrace ∷ z)) (row_each xs a.expr m.Semicolon (k.Mark m.CloseBrace ∷ r))),
  h.4,
  ((some_exprs xs a.expr, are_exprs (xs ++ a.expr ∷ []) (exprs_more xs a.expr h.0 i)), h.1, h.2),
)
after_untagged_fine (k.Mark m.Equals) s o xs n a fs h i = first_tag_fine o xs n a.expr a.deep fs h
after_untagged_fine _ s o xs n a fs h i = tt

pub want_tag_fine : (x : Tok) (s : Span) (o : Repeat) (bs : List ex.Binding) (n : ℕ) (fs : List Frame) → AreFrames fs → IsFocus fs (frame.want_tag o bs n)
    → Steps fs (frame.want_tag o bs n) x (want_tag_with x s o bs n fs)
want_tag_fine (k.Lower x) s o bs n fs h i = ((λ r. refl), h, i)
want_tag_fine _ s o bs n fs h i = tt

pub tag_equals_fine : (x : Tok) (o : Repeat) (bs : List ex.Binding) (n : ℕ) (y : Name) (fs : List Frame) → AreFrames fs → IsFocus fs (frame.tag_equals o bs n y)
    → Steps fs (frame.tag_equals o bs n y) x (tag_equals_with x o bs n y fs)
tag_equals_fine (k.Mark m.Equals) o bs n y fs h i = ((λ r. refl), (i.0, i.1, small fs, tt, h), refl)
tag_equals_fine _ o bs n y fs h i = tt

pub after_with_tags_fine : (x : Tok) (s : Span) (o : Repeat) (bs : List ex.Binding) (n : ℕ) (y : Name) (a : Found) (fs : List Frame)
    → AreFrames (frame.in_with_tags o bs n y ∷ fs) → IsExpr a.expr
    → Steps (frame.in_with_tags o bs n y ∷ fs) (frame.have a) x (after_with_tags x s o bs n y a fs)
after_with_tags_fine (k.Mark m.Semicolon) s o bs n y a fs h i = (
  (λ r. ap (λ z. read fs (choice_token o.bias ∷ k.Mark m.OpenBrace ∷ z)) (each_bindings bs (bound_to y a) m.Semicolon r)),
  h.4,
  (bindings_more bs (bound_to y a) h.0 i, h.1),
)
after_with_tags_fine (k.Mark m.CloseBrace) s o bs n y a fs h i = (
  (λ r. ap (λ z. read fs (choice_token o.bias ∷ k.Mark m.OpenBrace ∷ z)) (row_bindings bs (bound_to y a) m.Semicolon (k.Mark m.CloseBrace ∷ r))),
  h.4,
  ((some_bindings bs (bound_to y a), are_bindings (bs ++ bound_to y a ∷ []) (bindings_more bs (bound_to y a) h.0 i)), h.1, h.2),
)
after_with_tags_fine _ s o bs n y a fs h i = tt

-- ---- case

more_alts : (xs : List ex.Alt) (a : ex.Alt) (r : List Tok)
    → print_more_alts (alts_of (xs ++ a ∷ [])) r ≡ k.Mark m.Semicolon ∷ each_alt xs (print_pattern a.pattern (k.Mark m.Arrow ∷ print a.body r))
more_alts [] a r = refl
more_alts (b ∷ xs) a r = ap (λ z. k.Mark m.Semicolon ∷ print_pattern b.pattern (k.Mark m.Arrow ∷ print b.body z)) (more_alts xs a r)

row_alts : (xs : List ex.Alt) (a : ex.Alt) (r : List Tok)
    → print_alts (alts_of (xs ++ a ∷ [])) r ≡ each_alt xs (print_pattern a.pattern (k.Mark m.Arrow ∷ print a.body r))
row_alts [] a r = refl
row_alts (b ∷ xs) a r = ap (λ z. print_pattern b.pattern (k.Mark m.Arrow ∷ print b.body z)) (more_alts xs a r)

each_alts : (xs : List ex.Alt) (a : ex.Alt) (r : List Tok)
    → each_alt (xs ++ a ∷ []) r ≡ each_alt xs (print_pattern a.pattern (k.Mark m.Arrow ∷ print a.body (k.Mark m.Semicolon ∷ r)))
each_alts [] a r = refl
each_alts (b ∷ xs) a r = ap (λ z. print_pattern b.pattern (k.Mark m.Arrow ∷ print b.body (k.Mark m.Semicolon ∷ z))) (each_alts xs a r)

alts_more : (xs : List ex.Alt) (a : ex.Alt) → Alts xs → IsExpr a.body → Alts (xs ++ a ∷ [])
alts_more [] a h i = (i, tt)
alts_more (b ∷ xs) a h i = (h.0, alts_more xs a h.1 i)

are_alts : (xs : List ex.Alt) → Alts xs → AreAlts (alts_of xs)
are_alts [] h = tt
are_alts (a ∷ xs) h = (h.0, are_alts xs h.1)

some_alts : (xs : List ex.Alt) (a : ex.Alt) → SomeAlts (alts_of (xs ++ a ∷ []))
some_alts [] a = tt
some_alts (b ∷ xs) a = tt

pub after_subject_fine : (x : Tok) (from : Span) (a : Found) (fs : List Frame) → AreFrames (frame.in_subject from ∷ fs) → IsExpr a.expr
    → Steps (frame.in_subject from ∷ fs) (frame.have a) x (after_subject x from a fs)
after_subject_fine (k.Word w.Of) from a fs h i = ((λ r. refl), h.4, (i, h.1))
after_subject_fine _ from a fs h i = tt

pub open_case_fine : (x : Tok) (from : Span) (e : Found) (fs : List Frame) → AreFrames fs → IsFocus fs (frame.open_case from e)
    → Steps fs (frame.open_case from e) x (open_case_with x from e fs)
open_case_fine (k.Mark m.OpenBrace) from e fs h i = ((λ r. refl), h, ((i.0, tt), i.1))
open_case_fine _ from e fs h i = tt

pub pattern_fine : (x : Tok) (s : Span) (c : Cases) (fs : List Frame) → AreFrames fs → IsFocus fs (frame.want_pattern c)
    → Steps fs (frame.want_pattern c) x (pattern_with x s c fs)
pattern_fine (k.Mark m.Underscore) s c fs h i = ((λ r. refl), h, i)
pattern_fine (k.Number v b d) s c fs h i = ((λ r. refl), h, i)
pattern_fine (k.Char b) s c fs h i = ((λ r. refl), h, i)
pattern_fine (k.Word w.True) s c fs h i = ((λ r. refl), h, i)
pattern_fine (k.Word w.False) s c fs h i = ((λ r. refl), h, i)
pattern_fine (k.Word w.Nothing) s c fs h i = ((λ r. refl), h, i)
pattern_fine (k.Word w.Just) s c fs h i = ((λ r. refl), h, i)
pattern_fine (k.Lower x) s c fs h i = ((λ r. refl), h, i)
pattern_fine _ s c fs h i = tt

pub just_fine : (x : Tok) (s : Span) (c : Cases) (from : Span) (fs : List Frame) → AreFrames fs → IsFocus fs (frame.pattern_just c from)
    → Steps fs (frame.pattern_just c from) x (just_with x s c from fs)
just_fine (k.Lower x) s c from fs h i = ((λ r. refl), h, i)
just_fine (k.Mark m.Underscore) s c from fs h i = ((λ r. refl), h, i)
just_fine _ s c from fs h i = tt

in_alt_fine : (c : Cases) (p : Pat) (fs : List Frame) → AreFrames fs → AreCases c × (wanted fs ≡ 1)
    → Reads fs (λ r. case_tokens c.from c.subject c.alts (print_pattern p (k.Mark m.Arrow ∷ r))) (in_alt_of c p fs)
in_alt_fine c p fs h i = ((λ r. refl), (i.0, i.1, small fs, tt, h), refl)

pub tag_fine : (x : Tok) (s : Span) (c : Cases) (y : Name) (fs : List Frame) → AreFrames fs → IsFocus fs (frame.pattern_tag c y)
    → Steps fs (frame.pattern_tag c y) x (tag_with x s c y fs)
tag_fine (k.Lower z) s c y fs h i = ((λ r. refl), h, i)
tag_fine (k.Mark m.Underscore) s c y fs h i = ((λ r. refl), h, i)
tag_fine (k.Mark m.Arrow) s c y fs h i = in_alt_fine c (pat.Tag y None y.span) fs h i
tag_fine _ s c y fs h i = tt

pub arrow_fine : (x : Tok) (c : Cases) (p : Pat) (fs : List Frame) → AreFrames fs → IsFocus fs (frame.have_pattern c p)
    → Steps fs (frame.have_pattern c p) x (arrow_with x c p fs)
arrow_fine (k.Mark m.Arrow) c p fs h i = in_alt_fine c p fs h i
arrow_fine _ c p fs h i = tt

pub after_alt_fine : (x : Tok) (s from : Span) (e : Found) (xs : List ex.Alt) (n : ℕ) (p : Pat) (a : Found) (fs : List Frame)
    → AreFrames (frame.in_alt from e xs n p ∷ fs) → IsExpr a.expr → Steps (frame.in_alt from e xs n p ∷ fs) (frame.have a) x (after_alt x s from e xs n p a fs)
after_alt_fine (k.Mark m.Semicolon) s from e xs n p a fs h i = (
  (λ r. ap (λ z. read fs (k.Word w.Case ∷ print e.expr (k.Word w.Of ∷ k.Mark m.OpenBrace ∷ z))) (each_alts xs (alt_of p a) r)),
  h.4,
  ((h.0.0, alts_more xs (alt_of p a) h.0.1 i), h.1),
)
after_alt_fine (k.Mark m.CloseBrace) s from e xs n p a fs h i = (
  (λ r. ap (λ z. read fs (k.Word w.Case ∷ print e.expr (k.Word w.Of ∷ k.Mark m.OpenBrace ∷ z))) (row_alts xs (alt_of p a) (k.Mark m.CloseBrace ∷ r))),
  h.4,
  ((h.0.0, some_alts xs (alt_of p a), are_alts (xs ++ alt_of p a ∷ []) (alts_more xs (alt_of p a) h.0.1 i)), h.1, h.2),
)
after_alt_fine _ s from e xs n p a fs h i = tt
