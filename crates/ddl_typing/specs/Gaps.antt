-- The values of a `case` that no alternative takes.
use Rattle.std.specs.Prelude.{ℕ, ◌++◌, ◌==◌, List, [], ◌∷◌, map, bytes_eq, if◌then◌else◌, Bool, true, false, Option, Some, None}
use Rattle.ddl_base.specs.declared.span.Span.{Span}
use Rattle.ddl_types.specs.Types.{Ty, Ty.con, Head.bool, Head.maybe_of, Head.place, Head.bits}
use Rattle.ddl_judging.specs.Shapes.{Shape, Shapes, place_at, bits_at}
use Rattle.ddl_ops.specs.declared.pattern.Pattern.{Pattern}
use Rattle.ddl_ops.specs.declared.pattern.Pattern.TheVariants as to
use Rattle.ddl_typed.specs.Tree as t

-- ---- one `case`

-- the tags of a union or of a bitdata with tags, in order; of any other type no value has a form of its own
abbrev pub tags_of : Shape → List Pattern
tags_of s = if s.tagged then map (λ x. to.Tag x None) s.names else to.Any ∷ []

-- the forms that values of a type have, in the order in which they are told
abbrev pub forms_of : Shapes → Ty → List Pattern
forms_of ss (con bool us) = to.Truth false ∷ to.Truth true ∷ []
forms_of ss (con maybe_of us) = to.Nothing ∷ to.Just None ∷ []
forms_of ss (con (place p) us) = tags_of (place_at ss.places p)
forms_of ss (con (bits b) us) = tags_of (bits_at ss.bitdata b).shape
forms_of ss u = to.Any ∷ []

abbrev pub same_truth : Bool → Bool → Bool
same_truth true b = b
same_truth false true = false
same_truth false false = true

-- an alternative takes all values of a form
abbrev pub takes : Pattern → Pattern → Bool
takes to.Any form = true
takes (to.Truth a) (to.Truth b) = same_truth a b
takes to.Nothing to.Nothing = true
takes (to.Just x) (to.Just y) = true
takes (to.Tag x c) (to.Tag y d) = bytes_eq x y
takes p form = false

abbrev pub is_taken : t.Cases → Pattern → Bool
is_taken t.no_cases form = false
is_taken (t.when p e cs) form = if takes p form then true else is_taken cs form

-- the first form that none takes
abbrev pub first_untaken : List Pattern → t.Cases → Option Pattern
first_untaken [] cs = None
first_untaken (form ∷ forms) cs = if is_taken cs form then first_untaken forms cs else Some form

-- ---- in text order, outer before inner

-- a `case` that is a value, and the first form that none of its alternatives takes
pub record Gap : Type 0 where
  pub at : Span
  pub form : Pattern

abbrev pub gap_of : Option Pattern → Span → Option Gap
gap_of None s = None
gap_of (Some form) s = Some (record { at = s; form = form })

abbrev pub or_later : Option Gap → Option Gap → Option Gap
or_later None later = later
or_later (Some g) later = Some g

abbrev pub type_of : t.Expr → Ty
type_of (t.expr g u s) = u

-- a `case` of grammars fails where no alternative takes its subject
abbrev pub own_gap : Bool → Shapes → t.Expr → t.Cases → Span → Option Gap
own_gap true ss e cs s = gap_of (first_untaken (forms_of ss (type_of e)) cs) s
own_gap false ss e cs s = None

-- the first gap in a form that is a value, or else a grammar
abbrev mutual
  pub first_gap : Bool → Shapes → t.Expr → Option Gap
  first_gap v ss (t.expr g u s) = form_gap v ss s g

  pub form_gap : Bool → Shapes → Span → t.Form → Option Gap
  form_gap v ss s (t.just_ e) = first_gap true ss e
  form_gap v ss s (t.list es) = all_gap ss es
  form_gap v ss s (t.record_ ns) = named_gap ss ns
  form_gap v ss s (t.union_ x c) = content_gap ss c
  form_gap v ss s (t.select e x) = first_gap true ss e
  form_gap v ss s (t.infix_ o a b) = or_later (first_gap true ss a) (first_gap true ss b)
  form_gap v ss s (t.prefix_ o e) = first_gap true ss e
  form_gap v ss s (t.cast c e) = first_gap true ss e
  form_gap v ss s (t.builtin b es) = all_gap ss es
  form_gap v ss s (t.value_call d as_) = args_gap ss as_
  form_gap v ss s (t.paren e) = first_gap v ss e
  form_gap v ss s (t.if_ c a b) = or_later (first_gap true ss c) (or_later (first_gap v ss a) (first_gap v ss b))
  form_gap v ss s (t.case_ e cs) = or_later (own_gap v ss e cs s) (or_later (first_gap true ss e) (cases_gap v ss cs))
  form_gap v ss s (t.for_ x i b l e) = or_later (first_gap true ss i) (or_later (first_gap true ss l) (first_gap v ss e))
  form_gap v ss s (t.map_ b l e) = or_later (first_gap true ss l) (first_gap v ss e)
  form_gap v ss s (t.pure e) = first_gap true ss e
  form_gap v ss s (t.match e) = first_gap true ss e
  form_gap v ss s (t.primitive p es) = all_gap ss es
  form_gap v ss s (t.is_ e p) = first_gap true ss e
  form_gap v ss s (t.fits e) = first_gap true ss e
  form_gap v ss s (t.block is) = items_gap ss is
  form_gap v ss s (t.first as_) = alts_gap ss as_
  form_gap v ss s (t.choose as_) = alts_gap ss as_
  form_gap v ss s (t.many c b e) = or_later (bounds_gap ss b) (first_gap false ss e)
  form_gap v ss s (t.optional c e) = first_gap false ss e
  form_gap v ss s (t.call d as_) = args_gap ss as_
  form_gap v ss s g = None

  -- values
  pub all_gap : Shapes → t.Exprs → Option Gap
  all_gap ss t.no_exprs = None
  all_gap ss (t.more e es) = or_later (first_gap true ss e) (all_gap ss es)

  pub named_gap : Shapes → t.Named → Option Gap
  named_gap ss t.no_named = None
  named_gap ss (t.named x e ns) = or_later (first_gap true ss e) (named_gap ss ns)

  pub content_gap : Shapes → t.Content → Option Gap
  content_gap ss t.no_content = None
  content_gap ss (t.content e) = first_gap true ss e

  -- bodies of alternatives
  pub cases_gap : Bool → Shapes → t.Cases → Option Gap
  cases_gap v ss t.no_cases = None
  cases_gap v ss (t.when p e cs) = or_later (first_gap v ss e) (cases_gap v ss cs)

  pub bounds_gap : Shapes → t.Bounds → Option Gap
  bounds_gap ss t.unbounded = None
  bounds_gap ss (t.exactly a) = first_gap true ss a
  bounds_gap ss (t.from_ a) = first_gap true ss a
  bounds_gap ss (t.up_to a) = first_gap true ss a
  bounds_gap ss (t.between a b) = or_later (first_gap true ss a) (first_gap true ss b)

  -- grammars
  pub alts_gap : Shapes → t.Alts → Option Gap
  alts_gap ss t.no_alts = None
  alts_gap ss (t.alt e as_) = or_later (first_gap false ss e) (alts_gap ss as_)
  alts_gap ss (t.tag x e as_) = or_later (first_gap false ss e) (alts_gap ss as_)

  pub args_gap : Shapes → t.Args → Option Gap
  args_gap ss t.no_args = None
  args_gap ss (t.by_value i e as_) = or_later (first_gap true ss e) (args_gap ss as_)
  args_gap ss (t.by_grammar i site e as_) = or_later (first_gap false ss e) (args_gap ss as_)
  args_gap ss (t.by_class i c as_) = args_gap ss as_
  args_gap ss (t.by_type i u as_) = args_gap ss as_
  args_gap ss (t.by_hand x y as_) = args_gap ss as_

  pub items_gap : Shapes → t.Items → Option Gap
  items_gap ss t.no_items = None
  items_gap ss (t.item i is) = or_later (item_gap ss i) (items_gap ss is)

  pub item_gap : Shapes → t.Item → Option Gap
  item_gap ss (t.plain e) = first_gap false ss e
  item_gap ss (t.let_ x e) = first_gap false ss e
  item_gap ss (t.field l x e) = first_gap false ss e
  item_gap ss (t.result_ e) = first_gap false ss e
