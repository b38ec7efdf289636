-- Each token between the parts of an expression keeps the depths, and makes no module shallower.
use Rattle.std.proofs.Common.{◌≡◌, ℕ, ◌+◌, max, List, [], ◌∷◌, ◌++◌, refl, arith}
use Rattle.ddl_base.specs.declared.span.Span.{Span}
use Rattle.ddl_token.specs.declared.token.Tok.{Tok}
use Rattle.ddl_token.specs.declared.token.Tok.TheVariants as k
use Rattle.ddl_token.specs.declared.word.Word.TheVariants as w
use Rattle.ddl_token.specs.declared.mark.Mark.TheVariants as m
use Rattle.ddl_tree.specs.declared.name.Name.{Name}
use Rattle.ddl_tree.specs.declared.pattern.Names.{Names}
use Rattle.ddl_tree.specs.declared.pattern.Shape.{Shape}
use Rattle.ddl_tree.specs.declared.pattern.Shape.TheVariants.{IsTag, IsTrue, IsFalse, IsJust, IsNothing}
use Rattle.ddl_tree.specs.ExprTree as ex
use Rattle.ddl_tree.specs.View.{exprs_of, bindings_of}
use Rattle.ddl_tree.specs.Depth.{type_depth, class_depth, exprs_depth, bindings_depth}
use Rattle.ddl_reader.specs.Frames.{Frame, Found, FoundType, FoundClass, Repeat, Loop}
use Rattle.ddl_reader.specs.Frames as frame
use Rattle.ddl_reader.specs.StepExpr.{name_at}
use Rattle.ddl_reader.specs.StepParts.{bound_low, after_paren, after_paren_type, after_high, after_between, after_condition, after_then, after_start}
use Rattle.ddl_reader.specs.StepParts.{after_for_list, after_map_list, open_for_with, for_name_with, for_equals_with, open_map_with, one_name, loop_list}
use Rattle.ddl_reader.specs.StepParts.{first_name, after_first_name, second_name, in_with, shaped, shape_with, field_with, after_set, after_array, bound_to}
use Rattle.ddl_reader.specs.StepParts.{first_field, next_field, record_equals_with, after_field, tag_name_with, after_tag_with, after_tagged}
use Rattle.ddl_reader.specs.Depths.{around_in, low, loop_need, need_expr}
use Rattle.ddl_reader.proofs.Deep.{IsDeep, AreDeep, IsDeepLoop, Goes, Deeps, low_grows, paren_least, exprs_deep, bindings_deep}

-- ---- parentheses and the bounds of `Many`

bound_low_deep : (from : Span) (a : Found) (fs : List Frame) → AreDeep fs → IsDeep a
    → Deeps (low fs (around_in (frame.in_paren from) fs a.deep)) (bound_low from a fs)
bound_low_deep from a (frame.in_many r ex.Free n ∷ fs) d i = let h = d.0 in ((i, d.1), tt, low_grows fs (1 + max n a.deep) (1 + max a.deep 1) (omega arith))
bound_low_deep from a _ d i = tt

pub after_paren_deep : (x : Tok) (s from : Span) (a : Found) (fs : List Frame) → AreDeep fs → IsDeep a
    → Deeps (low fs (around_in (frame.in_paren from) fs a.deep)) (after_paren x s from a fs)
after_paren_deep (k.Mark m.CloseParen) s from a fs d i =
    (d, omega arith, low_grows fs (around_in (frame.in_paren from) fs a.deep) (1 + max a.deep 0) (omega (arith, paren_least from fs a.deep)))
after_paren_deep (k.Mark m.Colon) s from a fs d i = (
  (i, d),
  tt,
  low_grows fs (around_in (frame.in_paren from) fs a.deep) (1 + max a.deep 1) (omega (arith, paren_least from fs a.deep)),
)
after_paren_deep (k.Mark m.DotDot) s from a fs d i = bound_low_deep from a fs d i
after_paren_deep _ s from a fs d i = tt

pub after_paren_type_deep : (x : Tok) (s from : Span) (a : Found) (t : FoundType) (fs : List Frame) → AreDeep fs → IsDeep a → t.deep ≡ type_depth t.type
    → Deeps (low fs (1 + max a.deep t.deep)) (after_paren_type x s from a t fs)
after_paren_type_deep (k.Mark m.CloseParen) s from a t fs d i e = (d, omega arith, omega arith)
after_paren_type_deep _ s from a t fs d i e = tt

pub after_high_deep : (x : Tok) (s : Span) (r : Repeat) (from : Span) (a : Found) (fs : List Frame) → AreDeep fs → IsDeep a
    → Deeps (low fs (1 + a.deep)) (after_high x s r from a fs)
after_high_deep (k.Mark m.CloseParen) s r from a fs d i = ((i, d), tt, low_grows fs (1 + a.deep) (1 + max a.deep 1) (omega arith))
after_high_deep _ s r from a fs d i = tt

pub after_between_deep : (x : Tok) (s : Span) (r : Repeat) (from : Span) (a b : Found) (fs : List Frame) → AreDeep fs → IsDeep a → IsDeep b
    → Deeps (low fs (1 + max a.deep b.deep)) (after_between x s r from a b fs)
after_between_deep (k.Mark m.CloseParen) s r from a b fs d i j =
    ((omega arith, d), tt, low_grows fs (1 + max a.deep b.deep) (1 + max (max a.deep b.deep) 1) (omega arith))
after_between_deep _ s r from a b fs d i j = tt

-- ---- if, for, map

pub after_condition_deep : (x : Tok) (from : Span) (c : Found) (fs : List Frame) → AreDeep fs → IsDeep c
    → Deeps (low fs (1 + c.deep)) (after_condition x from c fs)
after_condition_deep (k.Word w.Then) from c fs d i = ((i, d), tt, low_grows fs (1 + c.deep) (1 + max c.deep 1) (omega arith))
after_condition_deep _ from c fs d i = tt

pub after_then_deep : (x : Tok) (from : Span) (c a : Found) (fs : List Frame) → AreDeep fs → IsDeep c → IsDeep a
    → Deeps (low fs (1 + max c.deep a.deep)) (after_then x from c a fs)
after_then_deep (k.Word w.Else) from c a fs d h i = (((h, i), d), tt, low_grows fs (1 + max c.deep a.deep) (1 + max c.deep (max a.deep 1)) (omega arith))
after_then_deep _ from c a fs d h i = tt

pub after_start_deep : (x : Tok) (from : Span) (y : Name) (i : Found) (fs : List Frame) → AreDeep fs → IsDeep i
    → Deeps (low fs (1 + i.deep)) (after_start x from y i fs)
after_start_deep (k.Mark m.Semicolon) from y i fs d h = (d, h, low_grows fs (1 + i.deep) (1 + max i.deep 1) (omega arith))
after_start_deep _ from y i fs d h = tt

pub after_for_list_deep : (x : Tok) (from : Span) (y : Name) (i : Found) (ns : Names) (l : Found) (fs : List Frame) → AreDeep fs → IsDeep i → IsDeep l
    → Deeps (low fs (1 + max i.deep l.deep)) (after_for_list x from y i ns l fs)
after_for_list_deep (k.Mark m.CloseParen) from y i ns l fs d h j =
    (((h, j), d), tt, low_grows fs (1 + max i.deep l.deep) (1 + max i.deep (max l.deep 1)) (omega arith))
after_for_list_deep _ from y i ns l fs d h j = tt

pub after_map_list_deep : (x : Tok) (from : Span) (ns : Names) (l : Found) (fs : List Frame) → AreDeep fs → IsDeep l
    → Deeps (low fs (1 + l.deep)) (after_map_list x from ns l fs)
after_map_list_deep (k.Mark m.CloseParen) from ns l fs d j = ((j, d), tt, low_grows fs (1 + l.deep) (1 + max l.deep 1) (omega arith))
after_map_list_deep _ from ns l fs d j = tt

pub open_for_deep : (x : Tok) (from : Span) (fs : List Frame) → AreDeep fs → Deeps (low fs 2) (open_for_with x from fs)
open_for_deep (k.Mark m.OpenParen) from fs d = (d, tt, omega arith)
open_for_deep _ from fs d = tt

pub for_name_deep : (x : Tok) (s from : Span) (fs : List Frame) → AreDeep fs → Deeps (low fs 2) (for_name_with x s from fs)
for_name_deep (k.Lower y) s from fs d = (d, tt, omega arith)
for_name_deep _ s from fs d = tt

pub for_equals_deep : (x : Tok) (from : Span) (y : Name) (fs : List Frame) → AreDeep fs → Deeps (low fs 2) (for_equals_with x from y fs)
for_equals_deep (k.Mark m.Equals) from y fs d = ((tt, d), tt, omega arith)
for_equals_deep _ from y fs d = tt

pub open_map_deep : (x : Tok) (from : Span) (fs : List Frame) → AreDeep fs → Deeps (low fs 2) (open_map_with x from fs)
open_map_deep (k.Mark m.OpenParen) from fs d = (d, tt, omega arith)
open_map_deep _ from fs d = tt

loop_list_deep : (l : Loop) (ns : Names) (fs : List Frame) → AreDeep fs → IsDeepLoop l → Goes (low fs (loop_need l)) (loop_list l ns fs)
loop_list_deep (frame.for_from from x i) ns fs d h = ((h, d), tt, omega arith)
loop_list_deep (frame.map_from from) ns fs d h = ((tt, d), tt, omega arith)

pub first_name_deep : (x : Tok) (s : Span) (l : Loop) (fs : List Frame) → AreDeep fs → IsDeepLoop l → Deeps (low fs (loop_need l)) (first_name x s l fs)
first_name_deep (k.Lower y) s l fs d h = (d, h, omega arith)
first_name_deep _ s l fs d h = tt

pub after_first_deep : (x : Tok) (l : Loop) (y : Name) (fs : List Frame) → AreDeep fs → IsDeepLoop l → Deeps (low fs (loop_need l)) (after_first_name x l y fs)
after_first_deep (k.Mark m.Comma) l y fs d h = (d, h, omega arith)
after_first_deep (k.Word w.In) l y fs d h = loop_list_deep l (one_name y) fs d h
after_first_deep _ l y fs d h = tt

pub second_name_deep : (x : Tok) (s : Span) (l : Loop) (y : Name) (fs : List Frame) → AreDeep fs → IsDeepLoop l
    → Deeps (low fs (loop_need l)) (second_name x s l y fs)
second_name_deep (k.Lower z) s l y fs d h = (d, h, omega arith)
second_name_deep _ s l y fs d h = tt

pub in_deep : (x : Tok) (l : Loop) (ns : Names) (fs : List Frame) → AreDeep fs → IsDeepLoop l → Deeps (low fs (loop_need l)) (in_with x l ns fs)
in_deep (k.Word w.In) l ns fs d h = loop_list_deep l ns fs d h
in_deep _ l ns fs d h = tt

-- ---- `is` and `.`

shaped_deep : (a : Found) (p : Shape) (s : Span) (fs : List Frame) → AreDeep fs → IsDeep a → Deeps (low fs (1 + a.deep)) (shaped a p s fs)
shaped_deep a p s fs d i = (d, omega arith, omega arith)

pub shape_deep : (x : Tok) (s : Span) (a : Found) (fs : List Frame) → AreDeep fs → IsDeep a → Deeps (low fs (1 + a.deep)) (shape_with x s a fs)
shape_deep (k.Lower x) s a fs d i = shaped_deep a (IsTag (name_at x s)) s fs d i
shape_deep (k.Word w.True) s a fs d i = shaped_deep a (IsTrue s) s fs d i
shape_deep (k.Word w.False) s a fs d i = shaped_deep a (IsFalse s) s fs d i
shape_deep (k.Word w.Just) s a fs d i = shaped_deep a (IsJust s) s fs d i
shape_deep (k.Word w.Nothing) s a fs d i = shaped_deep a (IsNothing s) s fs d i
shape_deep _ s a fs d i = tt

pub field_deep : (x : Tok) (s : Span) (a : Found) (fs : List Frame) → AreDeep fs → IsDeep a → Deeps (low fs (1 + a.deep)) (field_with x s a fs)
field_deep (k.Lower x) s a fs d i = (d, omega arith, omega arith)
field_deep _ s a fs d i = tt

-- ---- classes, arrays, records, tags

pub after_set_deep : (x : Tok) (s from : Span) (c : FoundClass) (fs : List Frame) → AreDeep fs → c.deep ≡ class_depth c.class
    → Deeps (low fs (1 + c.deep)) (after_set x s from c fs)
after_set_deep (k.Mark m.CloseBracket) s from c fs d i = (d, omega arith, omega arith)
after_set_deep (k.Mark m.Bar) s from c fs d i = ((i, (tt, d)), tt, low_grows fs (1 + c.deep) (1 + (1 + max c.deep 1)) (omega arith))
after_set_deep _ s from c fs d i = tt

pub after_array_deep : (x : Tok) (s from : Span) (xs : List ex.Expr) (n : ℕ) (a : Found) (fs : List Frame) → AreDeep fs → n ≡ exprs_depth (exprs_of xs)
    → IsDeep a → Deeps (low fs (1 + max n a.deep)) (after_array x s from xs n a fs)
after_array_deep (k.Mark m.Comma) s from xs n a fs d h i =
    let ys = xs ++ a.expr ∷ [] in
    let need = need_expr (frame.in_array from ys (max n a.deep) ∷ fs) in
    ((omega (arith, exprs_deep xs a.expr), d), tt, low_grows fs (1 + max n a.deep) (1 + max (max n a.deep) need) (omega arith))
after_array_deep (k.Mark m.CloseBracket) s from xs n a fs d h i = (d, omega (arith, exprs_deep xs a.expr), omega arith)
after_array_deep _ s from xs n a fs d h i = tt

pub first_field_deep : (x : Tok) (s from : Span) (fs : List Frame) → AreDeep fs → Deeps (low fs 1) (first_field x s from fs)
first_field_deep (k.Mark m.CloseBrace) s from fs d = (d, refl, omega arith)
first_field_deep (k.Lower x) s from fs d = (d, refl, low_grows fs 1 2 (omega arith))
first_field_deep _ s from fs d = tt

pub next_field_deep : (x : Tok) (s from : Span) (bs : List ex.Binding) (n : ℕ) (fs : List Frame) → AreDeep fs → n ≡ bindings_depth (bindings_of bs)
    → Deeps (low fs (1 + max n 1)) (next_field x s from bs n fs)
next_field_deep (k.Lower x) s from bs n fs d h = (d, h, omega arith)
next_field_deep _ s from bs n fs d h = tt

pub record_equals_deep : (x : Tok) (from : Span) (bs : List ex.Binding) (n : ℕ) (y : Name) (fs : List Frame) → AreDeep fs → n ≡ bindings_depth (bindings_of bs)
    → Deeps (low fs (1 + max n 1)) (record_equals_with x from bs n y fs)
record_equals_deep (k.Mark m.Equals) from bs n y fs d h = ((h, d), tt, omega arith)
record_equals_deep _ from bs n y fs d h = tt

pub after_field_deep : (x : Tok) (s from : Span) (bs : List ex.Binding) (n : ℕ) (y : Name) (a : Found) (fs : List Frame) → AreDeep fs
    → n ≡ bindings_depth (bindings_of bs) → IsDeep a → Deeps (low fs (1 + max n a.deep)) (after_field x s from bs n y a fs)
after_field_deep (k.Mark m.Comma) s from bs n y a fs d h i =
    (d, omega (arith, bindings_deep bs (bound_to y a)), low_grows fs (1 + max n a.deep) (1 + max (max n a.deep) 1) (omega arith))
after_field_deep (k.Mark m.CloseBrace) s from bs n y a fs d h i = (d, omega (arith, bindings_deep bs (bound_to y a)), omega arith)
after_field_deep _ s from bs n y a fs d h i = tt

pub tag_name_deep : (x : Tok) (s from : Span) (fs : List Frame) → AreDeep fs → Deeps (low fs 1) (tag_name_with x s from fs)
tag_name_deep (k.Lower x) s from fs d = (d, tt, omega arith)
tag_name_deep _ s from fs d = tt

pub after_tag_deep : (x : Tok) (s from : Span) (y : Name) (fs : List Frame) → AreDeep fs → Deeps (low fs 1) (after_tag_with x s from y fs)
after_tag_deep (k.Mark m.CloseUnion) s from y fs d = (d, refl, omega arith)
after_tag_deep (k.Mark m.Equals) s from y fs d = ((tt, d), tt, low_grows fs 1 2 (omega arith))
after_tag_deep _ s from y fs d = tt

pub after_tagged_deep : (x : Tok) (s from : Span) (y : Name) (a : Found) (fs : List Frame) → AreDeep fs → IsDeep a
    → Deeps (low fs (1 + a.deep)) (after_tagged x s from y a fs)
after_tagged_deep (k.Mark m.CloseUnion) s from y a fs d i = (d, omega arith, omega arith)
after_tagged_deep _ s from y a fs d i = tt
