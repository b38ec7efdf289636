-- One token after a part of an expression that is not its last.
use Rattle.std.specs.Prelude.{ℕ, ◌+◌, max, List, [], ◌∷◌, ◌++◌, Option, Some, None}
use Rattle.ddl_base.specs.declared.span.Span.{Span}
use Rattle.ddl_token.specs.declared.token.Tok.{Tok}
use Rattle.ddl_token.specs.declared.token.Tok.TheVariants as k
use Rattle.ddl_token.specs.declared.word.Word.TheVariants as w
use Rattle.ddl_token.specs.declared.mark.Mark.TheVariants as m
use Rattle.ddl_tree.specs.declared.name.Name.{Name}
use Rattle.ddl_tree.specs.declared.pattern.Names.{Names}
use Rattle.ddl_tree.specs.declared.pattern.Shape.{Shape}
use Rattle.ddl_tree.specs.declared.pattern.Shape.TheVariants.{IsTag, IsTrue, IsFalse, IsJust, IsNothing}
use Rattle.ddl_tree.specs.ExprTree as ex
use Rattle.ddl_tree.specs.ExprTree.{expr_span}
use Rattle.ddl_tree.specs.View.{exprs_of, bindings_of}
use Rattle.ddl_reader.specs.Frames.{Frame, Focus, State, Found, FoundClass, FoundType, Repeat, Start, Loop, Cases}
use Rattle.ddl_reader.specs.Frames as frame
use Rattle.ddl_reader.specs.StepType.{joined, found}
use Rattle.ddl_reader.specs.StepExpr.{name_at}

-- ---- parentheses and the bounds of `Many`

-- `..` after `Many (e`
abbrev pub bound_low : Span → Found → List Frame → Option State
bound_low from a (frame.in_many r ex.Free n ∷ fs) = Some (frame.in_between r from a ∷ fs, frame.want)
bound_low from a fs = None

abbrev pub after_paren : Tok → Span → Span → Found → List Frame → Option State
after_paren (k.Mark m.CloseParen) s from a fs = Some (fs, frame.have (found (ex.Paren a.expr None (joined from s)) (1 + max a.deep 0)))
after_paren (k.Mark m.Colon) s from a fs = Some (frame.in_paren_type from a ∷ fs, frame.want_type)
after_paren (k.Mark m.DotDot) s from a fs = bound_low from a fs
after_paren _ s from a fs = None

abbrev pub after_paren_type : Tok → Span → Span → Found → FoundType → List Frame → Option State
after_paren_type (k.Mark m.CloseParen) s from a t fs = Some (fs, frame.have (found (ex.Paren a.expr (Some t.type) (joined from s)) (1 + max a.deep t.deep)))
after_paren_type _ s from a t fs = None

abbrev pub after_high : Tok → Span → Repeat → Span → Found → List Frame → Option State
after_high (k.Mark m.CloseParen) s r from a fs = Some (frame.in_many r (ex.AtMost a.expr (joined from s)) a.deep ∷ fs, frame.want)
after_high _ s r from a fs = None

abbrev pub after_between : Tok → Span → Repeat → Span → Found → Found → List Frame → Option State
after_between (k.Mark m.CloseParen) s r from a b fs = Some (frame.in_many r (ex.Between a.expr b.expr (joined from s)) (max a.deep b.deep) ∷ fs, frame.want)
after_between _ s r from a b fs = None

-- ---- if, for, map

abbrev pub after_condition : Tok → Span → Found → List Frame → Option State
after_condition (k.Word w.Then) from c fs = Some (frame.in_then from c ∷ fs, frame.want)
after_condition _ from c fs = None

abbrev pub after_then : Tok → Span → Found → Found → List Frame → Option State
after_then (k.Word w.Else) from c a fs = Some (frame.in_else from c a ∷ fs, frame.want)
after_then _ from c a fs = None

abbrev pub after_start : Tok → Span → Name → Found → List Frame → Option State
after_start (k.Mark m.Semicolon) from x i fs = Some (fs, frame.loop_first (frame.for_from from x i))
after_start _ from x i fs = None

abbrev pub after_for_list : Tok → Span → Name → Found → Names → Found → List Frame → Option State
after_for_list (k.Mark m.CloseParen) from x i ns l fs = Some (frame.in_for_body from x i ns l ∷ fs, frame.want)
after_for_list _ from x i ns l fs = None

abbrev pub after_map_list : Tok → Span → Names → Found → List Frame → Option State
after_map_list (k.Mark m.CloseParen) from ns l fs = Some (frame.in_map_body from ns l ∷ fs, frame.want)
after_map_list _ from ns l fs = None

abbrev pub open_for_with : Tok → Span → List Frame → Option State
open_for_with (k.Mark m.OpenParen) from fs = Some (fs, frame.for_name from)
open_for_with _ from fs = None

abbrev pub for_name_with : Tok → Span → Span → List Frame → Option State
for_name_with (k.Lower x) s from fs = Some (fs, frame.for_equals from (name_at x s))
for_name_with _ s from fs = None

abbrev pub for_equals_with : Tok → Span → Name → List Frame → Option State
for_equals_with (k.Mark m.Equals) from x fs = Some (frame.in_for_start from x ∷ fs, frame.want)
for_equals_with _ from x fs = None

abbrev pub open_map_with : Tok → Span → List Frame → Option State
open_map_with (k.Mark m.OpenParen) from fs = Some (fs, frame.loop_first (frame.map_from from))
open_map_with _ from fs = None

-- the names of a loop, and then its list
abbrev pub one_name : Name → Names
one_name x = record { first = x; second = None; span = x.span }

abbrev pub two_names : Name → Name → Names
two_names x y = record { first = x; second = Some y; span = joined x.span y.span }

abbrev pub loop_list : Loop → Names → List Frame → State
loop_list (frame.for_from from x i) ns fs = (frame.in_for_list from x i ns ∷ fs, frame.want)
loop_list (frame.map_from from) ns fs = (frame.in_map_list from ns ∷ fs, frame.want)

abbrev pub first_name : Tok → Span → Loop → List Frame → Option State
first_name (k.Lower x) s l fs = Some (fs, frame.loop_after_first l (name_at x s))
first_name _ s l fs = None

abbrev pub after_first_name : Tok → Loop → Name → List Frame → Option State
after_first_name (k.Mark m.Comma) l x fs = Some (fs, frame.loop_second l x)
after_first_name (k.Word w.In) l x fs = Some (loop_list l (one_name x) fs)
after_first_name _ l x fs = None

abbrev pub second_name : Tok → Span → Loop → Name → List Frame → Option State
second_name (k.Lower y) s l x fs = Some (fs, frame.loop_in l (two_names x (name_at y s)))
second_name _ s l x fs = None

abbrev pub in_with : Tok → Loop → Names → List Frame → Option State
in_with (k.Word w.In) l ns fs = Some (loop_list l ns fs)
in_with _ l ns fs = None

-- ---- `is` and `.`

abbrev pub shaped : Found → Shape → Span → List Frame → Option State
shaped a p s fs = Some (fs, frame.have (found (ex.Is a.expr p (joined (expr_span a.expr) s)) (1 + a.deep)))

abbrev pub shape_with : Tok → Span → Found → List Frame → Option State
shape_with (k.Lower x) s a fs = shaped a (IsTag (name_at x s)) s fs
shape_with (k.Word w.True) s a fs = shaped a (IsTrue s) s fs
shape_with (k.Word w.False) s a fs = shaped a (IsFalse s) s fs
shape_with (k.Word w.Just) s a fs = shaped a (IsJust s) s fs
shape_with (k.Word w.Nothing) s a fs = shaped a (IsNothing s) s fs
shape_with _ s a fs = None

abbrev pub field_with : Tok → Span → Found → List Frame → Option State
field_with (k.Lower x) s a fs = Some (fs, frame.have (found (ex.Select a.expr (name_at x s) (joined (expr_span a.expr) s)) (1 + a.deep)))
field_with _ s a fs = None

-- ---- classes, arrays, records, tags

abbrev pub after_set : Tok → Span → Span → FoundClass → List Frame → Option State
after_set (k.Mark m.CloseBracket) s from c fs = Some (fs, frame.have (found (ex.Set c.class (joined from s)) (1 + c.deep)))
after_set (k.Mark m.Bar) s from c fs = Some (frame.in_union c ∷ frame.in_set from ∷ fs, frame.want_class)
after_set _ s from c fs = None

abbrev pub after_array : Tok → Span → Span → List ex.Expr → ℕ → Found → List Frame → Option State
after_array (k.Mark m.Comma) s from xs n a fs = Some (frame.in_array from (xs ++ a.expr ∷ []) (max n a.deep) ∷ fs, frame.want)
after_array (k.Mark m.CloseBracket) s from xs n a fs = Some (
  fs,
  frame.have (found (ex.Array (exprs_of (xs ++ a.expr ∷ [])) (joined from s)) (1 + max n a.deep)),
)
after_array _ s from xs n a fs = None

abbrev pub bound_to : Name → Found → ex.Binding
bound_to x a = record { name = x; value = a.expr; span = joined x.span (expr_span a.expr) }

abbrev pub first_field : Tok → Span → Span → List Frame → Option State
first_field (k.Mark m.CloseBrace) s from fs = Some (fs, frame.have (found (ex.RecordOf ex.no_bindings (joined from s)) 1))
first_field (k.Lower x) s from fs = Some (fs, frame.record_equals from [] 0 (name_at x s))
first_field _ s from fs = None

abbrev pub next_field : Tok → Span → Span → List ex.Binding → ℕ → List Frame → Option State
next_field (k.Lower x) s from bs n fs = Some (fs, frame.record_equals from bs n (name_at x s))
next_field _ s from bs n fs = None

abbrev pub record_equals_with : Tok → Span → List ex.Binding → ℕ → Name → List Frame → Option State
record_equals_with (k.Mark m.Equals) from bs n x fs = Some (frame.in_record from bs n x ∷ fs, frame.want)
record_equals_with _ from bs n x fs = None

abbrev pub after_field : Tok → Span → Span → List ex.Binding → ℕ → Name → Found → List Frame → Option State
after_field (k.Mark m.Comma) s from bs n x a fs = Some (fs, frame.next_of_record from (bs ++ bound_to x a ∷ []) (max n a.deep))
after_field (k.Mark m.CloseBrace) s from bs n x a fs = Some (
  fs,
  frame.have (found (ex.RecordOf (bindings_of (bs ++ bound_to x a ∷ [])) (joined from s)) (1 + max n a.deep)),
)
after_field _ s from bs n x a fs = None

abbrev pub tag_name_with : Tok → Span → Span → List Frame → Option State
tag_name_with (k.Lower x) s from fs = Some (fs, frame.after_tag from (name_at x s))
tag_name_with _ s from fs = None

abbrev pub after_tag_with : Tok → Span → Span → Name → List Frame → Option State
after_tag_with (k.Mark m.CloseUnion) s from x fs = Some (fs, frame.have (found (ex.Tag x (joined from s)) 1))
after_tag_with (k.Mark m.Equals) s from x fs = Some (frame.in_tagged from x ∷ fs, frame.want)
after_tag_with _ s from x fs = None

abbrev pub after_tagged : Tok → Span → Span → Name → Found → List Frame → Option State
after_tagged (k.Mark m.CloseUnion) s from x a fs = Some (fs, frame.have (found (ex.TagWith x a.expr (joined from s)) (1 + a.deep)))
after_tagged _ s from x a fs = None
