-- The rules of infix and prefix operators and of casts.
use Rattle.std.specs.Prelude.{ℕ, List, [], ◌∷◌, ◌++◌}
use Rattle.ddl_base.specs.declared.span.Span.{Span}
use Rattle.ddl_tree.specs.declared.operator.CastOp.{CastOp}
use Rattle.ddl_tree.specs.declared.operator.CastOp.TheVariants as to
use Rattle.ddl_tree.specs.declared.operator.PrefixOp.{PrefixOp}
use Rattle.ddl_tree.specs.declared.operator.PrefixOp.TheVariants as p
use Rattle.ddl_types.specs.Types.{Ty}
use Rattle.ddl_types.specs.Conditions as c
use Rattle.ddl_ops.specs.declared.operators.Cast.TheVariants as ct
use Rattle.ddl_ops.specs.declared.operators.Infix.TheVariants as i
use Rattle.ddl_ops.specs.declared.operators.Prefix.TheVariants as f
use Rattle.ddl_typed.specs.declared.parts.Choice.{Choice}
use Rattle.ddl_typed.specs.declared.parts.Choice.TheVariants as h
use Rattle.ddl_typed.specs.Tree as t
use Rattle.ddl_rules.specs.declared.operators.Typing.{Typing}
use Rattle.ddl_rules.specs.declared.operators.Typing.TheVariants.{Numbers, Shifts, Words, Compares, Truths, Joins, ShiftsIn, Alternatives}
use Rattle.ddl_rules.specs.Asks.{Ask, after_variables, asks_for, wants, bool_type, word}
use Rattle.ddl_typing.specs.Typed.{Typed, TypedType, typed, tree_of}

-- ---- infix operators, by how their sides are typed

-- the type of `#` is left free
abbrev pub infix_vars : Typing → ℕ
infix_vars Joins = 1
infix_vars k = 0

-- what the form asks, of sides of these types and for the free type
abbrev pub infix_asks : Typing → Ty → Ty → Ty → Span → List Ask
infix_asks (Numbers op) u v r s = asks_for (c.num u) s ∷ []
infix_asks (Shifts op) u v r s = asks_for (c.num u) s ∷ []
infix_asks (Words op) u v r s = asks_for (c.word u) s ∷ []
infix_asks (Compares f) u v r s = asks_for (c.key u) s ∷ []
infix_asks (Truths f) u v r s = []
infix_asks Joins u v r s = asks_for (c.cat u v r) s ∷ []
infix_asks ShiftsIn u v r s = asks_for (c.word u) s ∷ asks_for (c.word v) s ∷ []
infix_asks (Alternatives o) u v r s = []

-- what is wanted of the left side, which has this type
abbrev pub left_asks : Typing → Ty → Span → List Ask
left_asks (Truths f) u s = wants bool_type u s ∷ []
left_asks k u s = []

-- what is wanted of the right side, given the type of the left one
abbrev pub right_asks : Typing → Ty → Ty → Span → List Ask
right_asks (Shifts op) u v s = wants (word 64) v s ∷ []
right_asks (Truths f) u v s = wants bool_type v s ∷ []
right_asks Joins u v s = []
right_asks ShiftsIn u v s = []
right_asks k u v s = wants u v s ∷ []

-- the type of the form: that of the left side, but for tests, and for `#`
abbrev pub infix_type : Typing → Ty → Ty → Ty
infix_type (Compares f) u r = bool_type
infix_type (Truths f) u r = bool_type
infix_type Joins u r = r
infix_type k u r = u

abbrev pub choice_form : Choice → t.Alts → t.Form
choice_form h.Biased xs = t.first xs
choice_form h.Unbiased xs = t.choose xs

abbrev pub infix_form : Typing → t.Expr → t.Expr → t.Form
infix_form (Numbers op) a b = t.infix_ (i.Arithmetic op) a b
infix_form (Shifts op) a b = t.infix_ (i.Arithmetic op) a b
infix_form (Words op) a b = t.infix_ (i.Arithmetic op) a b
infix_form (Compares f) a b = t.infix_ (i.Compare f) a b
infix_form (Truths f) a b = t.infix_ f a b
infix_form Joins a b = t.infix_ i.Beside a b
infix_form ShiftsIn a b = t.infix_ i.Append a b
infix_form (Alternatives o) a b = choice_form o (t.alt a (t.alt b t.no_alts))

-- two sides, and the type that is left free where one is
abbrev pub an_infix : Typing → Span → Typed → Typed → Ty → Typed
an_infix k s l r u = typed (infix_form k (tree_of l) (tree_of r)) (infix_type k l.of u) s
    ((infix_asks k l.of r.of u s ++ left_asks k l.of l.at ++ l.asks) ++ (right_asks k l.of r.of r.at ++ r.asks)) (after_variables (infix_vars k) r.state)

-- ---- prefix operators

abbrev pub a_prefix : PrefixOp → Span → Typed → Typed
a_prefix p.Negate s l = typed (t.prefix_ f.Minus (tree_of l)) l.of s (asks_for (c.num l.of) s ∷ l.asks) l.state
a_prefix p.Not s l = typed (t.prefix_ f.Not (tree_of l)) bool_type s (wants bool_type l.of l.at ∷ l.asks) l.state
a_prefix p.Complement s l = typed (t.prefix_ f.Complement (tree_of l)) l.of s (asks_for (c.word l.of) s ∷ l.asks) l.state

-- ---- casts

abbrev pub a_cast : CastOp → Span → Typed → TypedType → Typed
a_cast to.Lossless s l u = typed (t.cast ct.Keep (tree_of l)) u.of s (asks_for (c.lossless l.of u.of) s ∷ l.asks) u.state
a_cast to.Cut s l u = typed (t.cast ct.Cut (tree_of l)) u.of s (asks_for (c.cut l.of u.of) s ∷ l.asks) u.state
a_cast to.Fit s l u = typed (t.fits (tree_of l)) u.of s (asks_for (c.fit l.of u.of) s ∷ l.asks) u.state
