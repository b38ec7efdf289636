-- What a search for a `case` of which something is left answers, over the parts of a tree.
use Rattle.std.specs.Prelude.{◌≡◌, ℕ, Bool, true, false, Option, Some, None, Result, Ok, Err}
use Rattle.ddl_base.specs.declared.span.Span.{Span}
use Rattle.ddl_closing.specs.declared.error.CaseError.{CaseError}
use Rattle.ddl_closing.specs.declared.error.CaseError.TheVariants as error
use Rattle.ddl_closing.specs.declared.error.Gap as declared
use Rattle.ddl_judging.specs.Shapes.{Shapes}
use Rattle.ddl_typed.specs.Tree as t
use Rattle.ddl_typed.specs.View.{OneArgument, value, grammar, class_of, type_of, hand}
use Rattle.ddl_typing.specs.Gaps as gaps

abbrev pub gap_view : declared.Gap → gaps.Gap
gap_view g = record { at = g.span; form = g.form }

-- the refusal is this gap; where memory ran out nothing is said
abbrev pub IsGap : Option gaps.Gap → CaseError → Type 0
IsGap o (error.Gap g) = o ≡ Some (gap_view g)
IsGap o error.NoMemory = Unit {0}

-- nothing is left, or else this is the first of which something is
abbrev pub Finds : {A : Type 0} → Option gaps.Gap → Result A CaseError → Type 0
Finds o (Ok a) = o ≡ None
Finds o (Err r) = IsGap o r

-- ---- the searches of `Gaps`, which a contract names and does not compute

unfoldable pub left : Bool → Shapes → t.Expr → Option gaps.Gap
left = gaps.first_gap

unfoldable pub all_left : Shapes → t.Exprs → Option gaps.Gap
all_left = gaps.all_gap

unfoldable pub named_left : Shapes → t.Named → Option gaps.Gap
named_left = gaps.named_gap

unfoldable pub content_left : Shapes → t.Content → Option gaps.Gap
content_left = gaps.content_gap

unfoldable pub cases_left : Bool → Shapes → t.Cases → Option gaps.Gap
cases_left = gaps.cases_gap

unfoldable pub bounds_left : Shapes → t.Bounds → Option gaps.Gap
bounds_left = gaps.bounds_gap

unfoldable pub alts_left : Shapes → t.Alts → Option gaps.Gap
alts_left = gaps.alts_gap

unfoldable pub args_left : Shapes → t.Args → Option gaps.Gap
args_left = gaps.args_gap

unfoldable pub items_left : Shapes → t.Items → Option gaps.Gap
items_left = gaps.items_gap

unfoldable pub item_left : Shapes → t.Item → Option gaps.Gap
item_left = gaps.item_gap

-- of an argument alone
abbrev pub argument_left : Shapes → OneArgument → Option gaps.Gap
argument_left ss (value i e) = left true ss e
argument_left ss (grammar i site e) = left false ss e
argument_left ss (class_of i c) = None
argument_left ss (type_of i u) = None
argument_left ss (hand x y) = None
