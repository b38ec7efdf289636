-- One token in a list in braces: the parts of a block, alternatives, and the alternatives of a case.
use Rattle.std.specs.Prelude.{ℕ, ◌+◌, max, List, [], ◌∷◌, ◌++◌, Option, Some, None}
use Rattle.ddl_base.specs.declared.span.Span.{Span}
use Rattle.ddl_token.specs.declared.token.Tok.{Tok}
use Rattle.ddl_token.specs.declared.token.Tok.TheVariants as k
use Rattle.ddl_token.specs.declared.word.Word.TheVariants as w
use Rattle.ddl_token.specs.declared.mark.Mark.TheVariants as m
use Rattle.ddl_tree.specs.declared.name.Name.{Name}
use Rattle.ddl_tree.specs.declared.pattern.Pat.{Pat}
use Rattle.ddl_tree.specs.declared.pattern.Pat.TheVariants as pat
use Rattle.ddl_tree.specs.declared.pattern.Binder.TheVariants.{Called, Ignored}
use Rattle.ddl_tree.specs.PatternTree.{pattern_span}
use Rattle.ddl_tree.specs.ExprTree as ex
use Rattle.ddl_tree.specs.ExprTree.{expr_span}
use Rattle.ddl_tree.specs.View.{exprs_of, bindings_of, items_of, alts_of}
use Rattle.ddl_reader.specs.Frames.{Frame, Focus, State, Found, Repeat, Start, Cases}
use Rattle.ddl_reader.specs.Frames as frame
use Rattle.ddl_reader.specs.StepType.{joined, found, number_at}
use Rattle.ddl_reader.specs.StepExpr.{name_at}
use Rattle.ddl_reader.specs.StepParts.{bound_to}

-- ---- blocks

abbrev pub started : Start → Found → ex.Item
started frame.plainly a = ex.Plain a.expr
started (frame.result_from s) a = ex.Result a.expr (joined s (expr_span a.expr))
started (frame.let_from s x) a = ex.Let x a.expr (joined s (expr_span a.expr))
started (frame.field x) a = ex.Field x a.expr (joined x.span (expr_span a.expr))

abbrev pub open_block_with : Tok → Span → List Frame → Option State
open_block_with (k.Mark m.OpenBrace) from fs = Some (frame.in_block from [] 0 frame.plainly ∷ fs, frame.want)
open_block_with _ from fs = None

abbrev pub let_name_with : Tok → Span → Span → List ex.Item → ℕ → Span → List Frame → Option State
let_name_with (k.Lower x) s from is n at fs = Some (fs, frame.item_equals from is n (frame.let_from at (name_at x s)))
let_name_with _ s from is n at fs = None

abbrev pub item_equals_with : Tok → Span → List ex.Item → ℕ → Start → List Frame → Option State
item_equals_with (k.Mark m.Equals) from is n b fs = Some (frame.in_block from is n b ∷ fs, frame.want)
item_equals_with _ from is n b fs = None

-- `x =`, where what was read of the part is x alone
abbrev pub field_of_block : Span → List ex.Item → ℕ → Start → ex.Expr → List Frame → Option State
field_of_block from is n frame.plainly (ex.Lower x) fs = Some (frame.in_block from is n (frame.field x) ∷ fs, frame.want)
field_of_block from is n _ _ fs = None

abbrev pub after_item : Tok → Span → Span → List ex.Item → ℕ → Start → Found → List Frame → Option State
after_item (k.Mark m.Semicolon) s from is n b a fs = Some (frame.in_block from (is ++ started b a ∷ []) (max n a.deep) frame.plainly ∷ fs, frame.want)
after_item (k.Mark m.CloseBrace) s from is n b a fs = Some (
  fs,
  frame.have (found (ex.Block (items_of (is ++ started b a ∷ [])) (joined from s)) (1 + max n a.deep)),
)
after_item (k.Mark m.Equals) s from is n b a fs = field_of_block from is n b a.expr fs
after_item _ s from is n b a fs = None

-- ---- First and Choose: the first alternative says whether they have tags

abbrev pub open_choice_with : Tok → Repeat → List Frame → Option State
open_choice_with (k.Mark m.OpenBrace) r fs = Some (frame.in_untagged r [] 0 ∷ fs, frame.want)
open_choice_with _ r fs = None

abbrev pub first_tag : Repeat → List ex.Expr → ex.Expr → List Frame → Option State
first_tag r [] (ex.Lower x) fs = Some (frame.in_with_tags r [] 0 x ∷ fs, frame.want)
first_tag r _ _ fs = None

abbrev pub after_untagged : Tok → Span → Repeat → List ex.Expr → ℕ → Found → List Frame → Option State
after_untagged (k.Mark m.Semicolon) s r xs n a fs = Some (frame.in_untagged r (xs ++ a.expr ∷ []) (max n a.deep) ∷ fs, frame.want)
after_untagged (k.Mark m.CloseBrace) s r xs n a fs = Some (
  fs,
  frame.have (found (ex.Choice r.bias (ex.Untagged (exprs_of (xs ++ a.expr ∷ []))) (joined r.from s)) (1 + max n a.deep)),
)
after_untagged (k.Mark m.Equals) s r xs n a fs = first_tag r xs a.expr fs
after_untagged _ s r xs n a fs = None

abbrev pub want_tag_with : Tok → Span → Repeat → List ex.Binding → ℕ → List Frame → Option State
want_tag_with (k.Lower x) s r bs n fs = Some (fs, frame.tag_equals r bs n (name_at x s))
want_tag_with _ s r bs n fs = None

abbrev pub tag_equals_with : Tok → Repeat → List ex.Binding → ℕ → Name → List Frame → Option State
tag_equals_with (k.Mark m.Equals) r bs n x fs = Some (frame.in_with_tags r bs n x ∷ fs, frame.want)
tag_equals_with _ r bs n x fs = None

abbrev pub after_with_tags : Tok → Span → Repeat → List ex.Binding → ℕ → Name → Found → List Frame → Option State
after_with_tags (k.Mark m.Semicolon) s r bs n x a fs = Some (fs, frame.want_tag r (bs ++ bound_to x a ∷ []) (max n a.deep))
after_with_tags (k.Mark m.CloseBrace) s r bs n x a fs =
    Some (fs, frame.have (found (ex.Choice r.bias (ex.WithTags (bindings_of (bs ++ bound_to x a ∷ []))) (joined r.from s)) (1 + max n a.deep)))
after_with_tags _ s r bs n x a fs = None

-- ---- case

abbrev pub no_cases : Span → Found → Cases
no_cases from a = record { from = from; subject = a; alts = []; deep = 0 }

abbrev pub after_subject : Tok → Span → Found → List Frame → Option State
after_subject (k.Word w.Of) from a fs = Some (fs, frame.open_case from a)
after_subject _ from a fs = None

abbrev pub open_case_with : Tok → Span → Found → List Frame → Option State
open_case_with (k.Mark m.OpenBrace) from a fs = Some (fs, frame.want_pattern (no_cases from a))
open_case_with _ from a fs = None

abbrev pub pattern_with : Tok → Span → Cases → List Frame → Option State
pattern_with (k.Mark m.Underscore) s c fs = Some (fs, frame.have_pattern c (pat.Any s))
pattern_with (k.Number v b d) s c fs = Some (fs, frame.have_pattern c (pat.Num (number_at v b d s)))
pattern_with (k.Char b) s c fs = Some (fs, frame.have_pattern c (pat.Char b s))
pattern_with (k.Word w.True) s c fs = Some (fs, frame.have_pattern c (pat.True s))
pattern_with (k.Word w.False) s c fs = Some (fs, frame.have_pattern c (pat.False s))
pattern_with (k.Word w.Nothing) s c fs = Some (fs, frame.have_pattern c (pat.Nothing s))
pattern_with (k.Word w.Just) s c fs = Some (fs, frame.pattern_just c s)
pattern_with (k.Lower x) s c fs = Some (fs, frame.pattern_tag c (name_at x s))
pattern_with _ s c fs = None

abbrev pub just_with : Tok → Span → Cases → Span → List Frame → Option State
just_with (k.Lower x) s c from fs = Some (fs, frame.have_pattern c (pat.Just (Called (name_at x s)) (joined from s)))
just_with (k.Mark m.Underscore) s c from fs = Some (fs, frame.have_pattern c (pat.Just (Ignored s) (joined from s)))
just_with _ s c from fs = None

abbrev pub in_alt_of : Cases → Pat → List Frame → State
in_alt_of c p fs = (frame.in_alt c.from c.subject c.alts c.deep p ∷ fs, frame.want)

abbrev pub tag_with : Tok → Span → Cases → Name → List Frame → Option State
tag_with (k.Lower y) s c x fs = Some (fs, frame.have_pattern c (pat.Tag x (Some (Called (name_at y s))) (joined x.span s)))
tag_with (k.Mark m.Underscore) s c x fs = Some (fs, frame.have_pattern c (pat.Tag x (Some (Ignored s)) (joined x.span s)))
tag_with (k.Mark m.Arrow) s c x fs = Some (in_alt_of c (pat.Tag x None x.span) fs)
tag_with _ s c x fs = None

abbrev pub arrow_with : Tok → Cases → Pat → List Frame → Option State
arrow_with (k.Mark m.Arrow) c p fs = Some (in_alt_of c p fs)
arrow_with _ c p fs = None

abbrev pub alt_of : Pat → Found → ex.Alt
alt_of p a = record { pattern = p; body = a.expr; span = joined (pattern_span p) (expr_span a.expr) }

abbrev pub after_alt : Tok → Span → Span → Found → List ex.Alt → ℕ → Pat → Found → List Frame → Option State
after_alt (k.Mark m.Semicolon) s from e xs n p a fs = Some (
  fs,
  frame.want_pattern (record { from = from; subject = e; alts = xs ++ alt_of p a ∷ []; deep = max n a.deep }),
)
after_alt (k.Mark m.CloseBrace) s from e xs n p a fs = Some (
  fs,
  frame.have (found (ex.Case e.expr (alts_of (xs ++ alt_of p a ∷ [])) (joined from s)) (1 + max e.deep (max n a.deep))),
)
after_alt _ s from e xs n p a fs = None
