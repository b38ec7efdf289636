-- Each token between the parts of an expression leads to a state that has read it.
use Rattle.std.proofs.Common.{◌≡◌, ℕ, ◌≤◌, List, [], ◌∷◌, ◌++◌, Option, Some, None, refl, ap, arith}
use Rattle.ddl_base.specs.declared.span.Span.{Span}
use Rattle.ddl_token.specs.declared.token.Tok.{Tok}
use Rattle.ddl_token.specs.declared.token.Tok.TheVariants as k
use Rattle.ddl_token.specs.declared.word.Word.TheVariants as w
use Rattle.ddl_token.specs.declared.mark.Mark.{Mark}
use Rattle.ddl_token.specs.declared.mark.Mark.TheVariants as m
use Rattle.ddl_tree.specs.declared.name.Name.{Name}
use Rattle.ddl_tree.specs.declared.pattern.Names.{Names}
use Rattle.ddl_tree.specs.ExprTree as ex
use Rattle.ddl_tree.specs.ExprTree.{expr_span}
use Rattle.ddl_tree.specs.View.{exprs_of, bindings_of}
use Rattle.ddl_tree.specs.Print.{print_names, print, print_exprs, print_more_exprs, print_bindings, print_more_bindings}
use Rattle.ddl_tree.specs.Grammar.{IsClass, IsExpr, AreExprs, AreBindings, SomeBindings}
use Rattle.ddl_reader.specs.Frames.{Frame, Focus, State, Found, FoundType, FoundClass, Head, Sort, Layout, Parted, PartStart, Repeat, Start, Loop, Cases}
use Rattle.ddl_reader.specs.Frames as frame
use Rattle.ddl_reader.specs.StepExpr.{least}
use Rattle.ddl_reader.specs.StepParts.{bound_low, after_paren, after_paren_type, after_high, after_between, after_condition, after_then, after_start}
use Rattle.ddl_reader.specs.StepParts.{after_for_list, after_map_list, open_for_with, for_name_with, for_equals_with, open_map_with, one_name, loop_list}
use Rattle.ddl_reader.specs.StepParts.{first_name, after_first_name, second_name, in_with, shape_with, field_with, after_set, after_array, bound_to}
use Rattle.ddl_reader.specs.StepParts.{first_field, next_field, record_equals_with, after_field, tag_name_with, after_tag_with, after_tagged}
use Rattle.ddl_reader.proofs.Before.{read, loop_tokens, each_expr, each_binding}
use Rattle.ddl_reader.proofs.Fits.{Exprs, Bindings, wanted, AreFrames, IsFocus, Reads, Steps, least_small}

small : (fs : List Frame) → least fs ≤ 18
small fs = let h = least_small fs in omega arith

-- ---- lists

more_each : (xs : List ex.Expr) (a : ex.Expr) (c : Mark) (r : List Tok) → print_more_exprs (exprs_of (xs ++ a ∷ [])) c r ≡ k.Mark c ∷ each_expr xs c (print a r)
more_each [] a c r = refl
more_each (b ∷ xs) a c r = ap (λ z. k.Mark c ∷ print b z) (more_each xs a c r)

pub row_each : (xs : List ex.Expr) (a : ex.Expr) (c : Mark) (r : List Tok) → print_exprs (exprs_of (xs ++ a ∷ [])) c r ≡ each_expr xs c (print a r)
row_each [] a c r = refl
row_each (b ∷ xs) a c r = ap (print b) (more_each xs a c r)

pub each_more : (xs : List ex.Expr) (a : ex.Expr) (c : Mark) (r : List Tok) → each_expr (xs ++ a ∷ []) c r ≡ each_expr xs c (print a (k.Mark c ∷ r))
each_more [] a c r = refl
each_more (b ∷ xs) a c r = ap (λ z. print b (k.Mark c ∷ z)) (each_more xs a c r)

pub exprs_more : (xs : List ex.Expr) (a : ex.Expr) → Exprs xs → IsExpr a → Exprs (xs ++ a ∷ [])
exprs_more [] a h i = (i, tt)
exprs_more (b ∷ xs) a h i = (h.0, exprs_more xs a h.1 i)

pub are_exprs : (xs : List ex.Expr) → Exprs xs → AreExprs (exprs_of xs)
are_exprs [] h = tt
are_exprs (a ∷ xs) h = (h.0, are_exprs xs h.1)

more_bindings : (bs : List ex.Binding) (b : ex.Binding) (c : Mark) (r : List Tok)
    → print_more_bindings (bindings_of (bs ++ b ∷ [])) c r ≡ k.Mark c ∷ each_binding bs c (k.Lower b.name.text ∷ k.Mark m.Equals ∷ print b.value r)
more_bindings [] b c r = refl
more_bindings (a ∷ bs) b c r = ap (λ z. k.Mark c ∷ k.Lower a.name.text ∷ k.Mark m.Equals ∷ print a.value z) (more_bindings bs b c r)

pub row_bindings : (bs : List ex.Binding) (b : ex.Binding) (c : Mark) (r : List Tok)
    → print_bindings (bindings_of (bs ++ b ∷ [])) c r ≡ each_binding bs c (k.Lower b.name.text ∷ k.Mark m.Equals ∷ print b.value r)
row_bindings [] b c r = refl
row_bindings (a ∷ bs) b c r = ap (λ z. k.Lower a.name.text ∷ k.Mark m.Equals ∷ print a.value z) (more_bindings bs b c r)

pub each_bindings : (bs : List ex.Binding) (b : ex.Binding) (c : Mark) (r : List Tok)
    → each_binding (bs ++ b ∷ []) c r ≡ each_binding bs c (k.Lower b.name.text ∷ k.Mark m.Equals ∷ print b.value (k.Mark c ∷ r))
each_bindings [] b c r = refl
each_bindings (a ∷ bs) b c r = ap (λ z. k.Lower a.name.text ∷ k.Mark m.Equals ∷ print a.value (k.Mark c ∷ z)) (each_bindings bs b c r)

pub bindings_more : (bs : List ex.Binding) (b : ex.Binding) → Bindings bs → IsExpr b.value → Bindings (bs ++ b ∷ [])
bindings_more [] b h i = (i, tt)
bindings_more (a ∷ bs) b h i = (h.0, bindings_more bs b h.1 i)

pub are_bindings : (bs : List ex.Binding) → Bindings bs → AreBindings (bindings_of bs)
are_bindings [] h = tt
are_bindings (b ∷ bs) h = (h.0, are_bindings bs h.1)

pub some_bindings : (bs : List ex.Binding) (b : ex.Binding) → SomeBindings (bindings_of (bs ++ b ∷ []))
some_bindings [] b = tt
some_bindings (a ∷ bs) b = tt

-- ---- parentheses and the bounds of `Many`

-- an atom that has been read whole
abbrev Whole : List Frame → Type 0
Whole fs = (wanted fs ≡ 1) × AreFrames fs

bound_low_fine : (from : Span) (a : Found) (fs : List Frame) → AreFrames fs → wanted fs ≡ 1 → IsExpr a.expr
    → Steps (frame.in_paren from ∷ fs) (frame.have a) (k.Mark m.DotDot) (bound_low from a fs)
bound_low_fine from a (frame.in_many o ex.Free n ∷ fs) h w i = ((λ r. refl), (i, h.1, h.2, tt, h.4), refl)
bound_low_fine from a _ h w i = tt

pub after_paren_fine : (x : Tok) (s from : Span) (a : Found) (fs : List Frame) → AreFrames fs → wanted fs ≡ 1 → IsExpr a.expr
    → Steps (frame.in_paren from ∷ fs) (frame.have a) x (after_paren x s from a fs)
after_paren_fine (k.Mark m.CloseParen) s from a fs h w i = ((λ r. refl), h, (i, w, small fs))
after_paren_fine (k.Mark m.Colon) s from a fs h w i = ((λ r. refl), (i, w, small fs, tt, h), refl)
after_paren_fine (k.Mark m.DotDot) s from a fs h w i = bound_low_fine from a fs h w i
after_paren_fine _ s from a fs h w i = tt

pub after_paren_type_fine : (x : Tok) (s from : Span) (a : Found) (t : FoundType) (fs : List Frame) → AreFrames fs → wanted fs ≡ 1 → IsExpr a.expr
    → Steps (frame.in_paren_type from a ∷ fs) (frame.have_type t) x (after_paren_type x s from a t fs)
after_paren_type_fine (k.Mark m.CloseParen) s from a t fs h w i = ((λ r. refl), h, (i, w, small fs))
after_paren_type_fine _ s from a t fs h w i = tt

pub after_high_fine : (x : Tok) (s : Span) (o : Repeat) (from : Span) (a : Found) (fs : List Frame) → AreFrames (frame.in_at_most o from ∷ fs) → IsExpr a.expr
    → Steps (frame.in_at_most o from ∷ fs) (frame.have a) x (after_high x s o from a fs)
after_high_fine (k.Mark m.CloseParen) s o from a fs h i = ((λ r. refl), (i, h.1, h.2, tt, h.4), refl)
after_high_fine _ s o from a fs h i = tt

pub after_between_fine : (x : Tok) (s : Span) (o : Repeat) (from : Span) (a b : Found) (fs : List Frame) → AreFrames (frame.in_between o from a ∷ fs)
    → IsExpr b.expr → Steps (frame.in_between o from a ∷ fs) (frame.have b) x (after_between x s o from a b fs)
after_between_fine (k.Mark m.CloseParen) s o from a b fs h i = ((λ r. refl), ((h.0, i), h.1, h.2, tt, h.4), refl)
after_between_fine _ s o from a b fs h i = tt

-- ---- if, for, map

pub after_condition_fine : (x : Tok) (from : Span) (a : Found) (fs : List Frame) → AreFrames (frame.in_if from ∷ fs) → IsExpr a.expr
    → Steps (frame.in_if from ∷ fs) (frame.have a) x (after_condition x from a fs)
after_condition_fine (k.Word w.Then) from a fs h i = ((λ r. refl), (i, h.1, h.2, tt, h.4), refl)
after_condition_fine _ from a fs h i = tt

pub after_then_fine : (x : Tok) (from : Span) (c a : Found) (fs : List Frame) → AreFrames (frame.in_then from c ∷ fs) → IsExpr a.expr
    → Steps (frame.in_then from c ∷ fs) (frame.have a) x (after_then x from c a fs)
after_then_fine (k.Word w.Else) from c a fs h i = ((λ r. refl), ((h.0, i), h.1, h.2, tt, h.4), refl)
after_then_fine _ from c a fs h i = tt

pub after_start_fine : (x : Tok) (from : Span) (y : Name) (a : Found) (fs : List Frame) → AreFrames (frame.in_for_start from y ∷ fs) → IsExpr a.expr
    → Steps (frame.in_for_start from y ∷ fs) (frame.have a) x (after_start x from y a fs)
after_start_fine (k.Mark m.Semicolon) from y a fs h i = ((λ r. refl), h.4, (i, h.1, h.2))
after_start_fine _ from y a fs h i = tt

pub after_for_list_fine : (x : Tok) (from : Span) (y : Name) (j : Found) (ns : Names) (a : Found) (fs : List Frame)
    → AreFrames (frame.in_for_list from y j ns ∷ fs) → IsExpr a.expr
    → Steps (frame.in_for_list from y j ns ∷ fs) (frame.have a) x (after_for_list x from y j ns a fs)
after_for_list_fine (k.Mark m.CloseParen) from y j ns a fs h i = ((λ r. refl), ((h.0, i), h.1, h.2, tt, h.4), refl)
after_for_list_fine _ from y j ns a fs h i = tt

pub after_map_list_fine : (x : Tok) (from : Span) (ns : Names) (a : Found) (fs : List Frame) → AreFrames (frame.in_map_list from ns ∷ fs) → IsExpr a.expr
    → Steps (frame.in_map_list from ns ∷ fs) (frame.have a) x (after_map_list x from ns a fs)
after_map_list_fine (k.Mark m.CloseParen) from ns a fs h i = ((λ r. refl), (i, h.1, h.2, tt, h.4), refl)
after_map_list_fine _ from ns a fs h i = tt

pub open_for_fine : (x : Tok) (from : Span) (fs : List Frame) → AreFrames fs → IsFocus fs (frame.open_for from)
    → Steps fs (frame.open_for from) x (open_for_with x from fs)
open_for_fine (k.Mark m.OpenParen) from fs h i = ((λ r. refl), h, i)
open_for_fine _ from fs h i = tt

pub for_name_fine : (x : Tok) (s from : Span) (fs : List Frame) → AreFrames fs → IsFocus fs (frame.for_name from)
    → Steps fs (frame.for_name from) x (for_name_with x s from fs)
for_name_fine (k.Lower y) s from fs h i = ((λ r. refl), h, i)
for_name_fine _ s from fs h i = tt

pub for_equals_fine : (x : Tok) (from : Span) (y : Name) (fs : List Frame) → AreFrames fs → IsFocus fs (frame.for_equals from y)
    → Steps fs (frame.for_equals from y) x (for_equals_with x from y fs)
for_equals_fine (k.Mark m.Equals) from y fs h i = ((λ r. refl), (tt, i.0, i.1, tt, h), refl)
for_equals_fine _ from y fs h i = tt

pub open_map_fine : (x : Tok) (from : Span) (fs : List Frame) → AreFrames fs → IsFocus fs (frame.open_map from)
    → Steps fs (frame.open_map from) x (open_map_with x from fs)
open_map_fine (k.Mark m.OpenParen) from fs h i = ((λ r. refl), h, (tt, i.0, i.1))
open_map_fine _ from fs h i = tt

pub first_name_fine : (x : Tok) (s : Span) (l : Loop) (fs : List Frame) → AreFrames fs → IsFocus fs (frame.loop_first l)
    → Steps fs (frame.loop_first l) x (first_name x s l fs)
first_name_fine (k.Lower y) s l fs h i = ((λ r. refl), h, i)
first_name_fine _ s l fs h i = tt

loop_list_fine : (l : Loop) (ns : Names) (fs : List Frame) → AreFrames fs → IsFocus fs (frame.loop_first l)
    → Reads fs (λ r. loop_tokens l (print_names ns r)) (loop_list l ns fs)
loop_list_fine (frame.for_from s x j) ns fs h i = ((λ r. refl), (i.0, i.1, i.2, tt, h), refl)
loop_list_fine (frame.map_from s) ns fs h i = ((λ r. refl), (tt, i.1, i.2, tt, h), refl)

pub after_first_fine : (x : Tok) (l : Loop) (y : Name) (fs : List Frame) → AreFrames fs → IsFocus fs (frame.loop_after_first l y)
    → Steps fs (frame.loop_after_first l y) x (after_first_name x l y fs)
after_first_fine (k.Mark m.Comma) l y fs h i = ((λ r. refl), h, i)
after_first_fine (k.Word w.In) l y fs h i = loop_list_fine l (one_name y) fs h i
after_first_fine _ l y fs h i = tt

pub second_name_fine : (x : Tok) (s : Span) (l : Loop) (y : Name) (fs : List Frame) → AreFrames fs → IsFocus fs (frame.loop_second l y)
    → Steps fs (frame.loop_second l y) x (second_name x s l y fs)
second_name_fine (k.Lower z) s l y fs h i = ((λ r. refl), h, i)
second_name_fine _ s l y fs h i = tt

in_list_fine : (l : Loop) (y : Name) (z : Option Name) (u : Span) (fs : List Frame) → AreFrames fs → IsFocus fs (frame.loop_first l)
    → let ns : Names = record { first = y; second = z; span = u } in Steps fs (frame.loop_in l ns) (k.Word w.In) (Some (loop_list l ns fs))
in_list_fine l y None u fs h i = loop_list_fine l (record { first = y; second = None; span = u }) fs h i
in_list_fine l y (Some z) u fs h i = loop_list_fine l (record { first = y; second = Some z; span = u }) fs h i

pub in_fine : (x : Tok) (l : Loop) (ns : Names) (fs : List Frame) → AreFrames fs → IsFocus fs (frame.loop_in l ns)
    → Steps fs (frame.loop_in l ns) x (in_with x l ns fs)
in_fine (k.Word w.In) l ns fs h i = in_list_fine l ns.first ns.second ns.span fs h i
in_fine _ l ns fs h i = tt

-- ---- is, and fields

pub shape_fine : (x : Tok) (s : Span) (a : Found) (fs : List Frame) → AreFrames fs → IsFocus fs (frame.want_shape a)
    → Steps fs (frame.want_shape a) x (shape_with x s a fs)
shape_fine (k.Lower x) s a fs h i = ((λ r. refl), h, i)
shape_fine (k.Word w.True) s a fs h i = ((λ r. refl), h, i)
shape_fine (k.Word w.False) s a fs h i = ((λ r. refl), h, i)
shape_fine (k.Word w.Just) s a fs h i = ((λ r. refl), h, i)
shape_fine (k.Word w.Nothing) s a fs h i = ((λ r. refl), h, i)
shape_fine _ s a fs h i = tt

pub field_fine : (x : Tok) (s : Span) (a : Found) (fs : List Frame) → AreFrames fs → IsFocus fs (frame.want_field a)
    → Steps fs (frame.want_field a) x (field_with x s a fs)
field_fine (k.Lower x) s a fs h i = ((λ r. refl), h, (i.0, i.1, least_small fs))
field_fine _ s a fs h i = tt

-- ---- classes, arrays, records, tags

pub after_set_fine : (x : Tok) (s from : Span) (c : FoundClass) (fs : List Frame) → AreFrames (frame.in_set from ∷ fs) → IsClass c.class
    → Steps (frame.in_set from ∷ fs) (frame.have_class c) x (after_set x s from c fs)
after_set_fine (k.Mark m.CloseBracket) s from c fs h i = ((λ r. refl), h.4, (i, h.1, small fs))
after_set_fine (k.Mark m.Bar) s from c fs h i = ((λ r. refl), (i, refl, omega arith, tt, h), refl)
after_set_fine _ s from c fs h i = tt

pub after_array_fine : (x : Tok) (s from : Span) (xs : List ex.Expr) (n : ℕ) (a : Found) (fs : List Frame) → AreFrames (frame.in_array from xs n ∷ fs)
    → IsExpr a.expr → Steps (frame.in_array from xs n ∷ fs) (frame.have a) x (after_array x s from xs n a fs)
after_array_fine (k.Mark m.Comma) s from xs n a fs h i =
    ((λ r. ap (λ z. read fs (k.Mark m.OpenBracket ∷ z)) (each_more xs a.expr m.Comma r)), (exprs_more xs a.expr h.0 i, h.1, h.2, tt, h.4), refl)
after_array_fine (k.Mark m.CloseBracket) s from xs n a fs h i = (
  (λ r. ap (λ z. read fs (k.Mark m.OpenBracket ∷ z)) (row_each xs a.expr m.Comma (k.Mark m.CloseBracket ∷ r))),
  h.4,
  (are_exprs (xs ++ a.expr ∷ []) (exprs_more xs a.expr h.0 i), h.1, h.2),
)
after_array_fine _ s from xs n a fs h i = tt

pub first_field_fine : (x : Tok) (s from : Span) (fs : List Frame) → AreFrames fs → wanted fs ≡ 1
    → Steps fs (frame.first_of_record from) x (first_field x s from fs)
first_field_fine (k.Mark m.CloseBrace) s from fs h w = ((λ r. refl), h, (tt, w, small fs))
first_field_fine (k.Lower x) s from fs h w = ((λ r. refl), h, (tt, w))
first_field_fine _ s from fs h w = tt

pub next_field_fine : (x : Tok) (s from : Span) (bs : List ex.Binding) (n : ℕ) (fs : List Frame) → AreFrames fs → IsFocus fs (frame.next_of_record from bs n)
    → Steps fs (frame.next_of_record from bs n) x (next_field x s from bs n fs)
next_field_fine (k.Lower x) s from bs n fs h i = ((λ r. refl), h, i)
next_field_fine _ s from bs n fs h i = tt

pub record_equals_fine : (x : Tok) (from : Span) (bs : List ex.Binding) (n : ℕ) (y : Name) (fs : List Frame) → AreFrames fs
    → IsFocus fs (frame.record_equals from bs n y) → Steps fs (frame.record_equals from bs n y) x (record_equals_with x from bs n y fs)
record_equals_fine (k.Mark m.Equals) from bs n y fs h i = ((λ r. refl), (i.0, i.1, small fs, tt, h), refl)
record_equals_fine _ from bs n y fs h i = tt

pub after_field_fine : (x : Tok) (s from : Span) (bs : List ex.Binding) (n : ℕ) (y : Name) (a : Found) (fs : List Frame)
    → AreFrames (frame.in_record from bs n y ∷ fs) → IsExpr a.expr
    → Steps (frame.in_record from bs n y ∷ fs) (frame.have a) x (after_field x s from bs n y a fs)
after_field_fine (k.Mark m.Comma) s from bs n y a fs h i =
    ((λ r. ap (λ z. read fs (k.Mark m.OpenBrace ∷ z)) (each_bindings bs (bound_to y a) m.Comma r)), h.4, (bindings_more bs (bound_to y a) h.0 i, h.1))
after_field_fine (k.Mark m.CloseBrace) s from bs n y a fs h i = (
  (λ r. ap (λ z. read fs (k.Mark m.OpenBrace ∷ z)) (row_bindings bs (bound_to y a) m.Comma (k.Mark m.CloseBrace ∷ r))),
  h.4,
  (are_bindings (bs ++ bound_to y a ∷ []) (bindings_more bs (bound_to y a) h.0 i), h.1, h.2),
)
after_field_fine _ s from bs n y a fs h i = tt

pub tag_name_fine : (x : Tok) (s from : Span) (fs : List Frame) → AreFrames fs → wanted fs ≡ 1 → Steps fs (frame.open_tagged from) x (tag_name_with x s from fs)
tag_name_fine (k.Lower x) s from fs h w = ((λ r. refl), h, w)
tag_name_fine _ s from fs h w = tt

pub after_tag_fine : (x : Tok) (s from : Span) (y : Name) (fs : List Frame) → AreFrames fs → wanted fs ≡ 1
    → Steps fs (frame.after_tag from y) x (after_tag_with x s from y fs)
after_tag_fine (k.Mark m.CloseUnion) s from y fs h w = ((λ r. refl), h, (tt, w, small fs))
after_tag_fine (k.Mark m.Equals) s from y fs h w = ((λ r. refl), (tt, w, small fs, tt, h), refl)
after_tag_fine _ s from y fs h w = tt

pub after_tagged_fine : (x : Tok) (s from : Span) (y : Name) (a : Found) (fs : List Frame) → AreFrames (frame.in_tagged from y ∷ fs) → IsExpr a.expr
    → Steps (frame.in_tagged from y ∷ fs) (frame.have a) x (after_tagged x s from y a fs)
after_tagged_fine (k.Mark m.CloseUnion) s from y a fs h i = ((λ r. refl), h.4, (i, h.1, h.2))
after_tagged_fine _ s from y a fs h i = tt
