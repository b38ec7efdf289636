-- What a form makes of a part that stands at its hole.
use Rattle.std.specs.Prelude.{◌≡◌, ◌+◌, max, Option, Some, None}
use Rattle.ddl_tree.specs.declared.name.Name.{Name}
use Rattle.ddl_tree.specs.ExprTree as ex
use Rattle.ddl_tree.specs.ExprTree.{expr_span}
use Rattle.ddl_tree.specs.TypeTree as ty
use Rattle.ddl_tree.specs.ClassTree as cls
use Rattle.ddl_states.specs.declared.frame.Found as code_found
use Rattle.ddl_states.specs.declared.closed.ClosedType as code_closed_type
use Rattle.ddl_states.specs.declared.closed.ClosedType.TheVariants as closed_type
use Rattle.ddl_states.specs.declared.closed.ClosedClass as code_closed_class
use Rattle.ddl_states.specs.declared.closed.ClosedClass.TheVariants as closed_class
use Rattle.ddl_states.specs.declared.closed.Closed as code_closed
use Rattle.ddl_states.specs.declared.closed.Closed.TheVariants as closed
use Rattle.ddl_reader.specs.Depths.{around}
use Rattle.ddl_states.specs.FrameView.{frame_view, found_view, found_type_view, found_class_view}
use Rattle.ddl_reader.specs.Frames.{Frame, Found, FoundType, FoundClass}
use Rattle.ddl_reader.specs.Frames as m
use Rattle.ddl_reader.specs.StepType.{joined, found, found_type}
use Rattle.ddl_reader.specs.StepClass.{found_class}
use Rattle.ddl_reader.specs.StepExpr.{closes}

-- a type is the last part of a wider type or of an expression, or is none's
pub data TypeEnd : Type 0 where
  wider : FoundType → TypeEnd
  made : Found → TypeEnd
  stays : TypeEnd

abbrev pub ends_type : Frame → FoundType → TypeEnd
ends_type (m.in_maybe s) t = wider (found_type (ty.Maybe t.type (joined s (ty.type_span t.type))) (1 + t.deep))
ends_type (m.in_cast o a) t = made (found (ex.Cast o a.expr t.type (joined (expr_span a.expr) (ty.type_span t.type))) (1 + max a.deep t.deep))
ends_type _ t = stays

-- a factor of a class is the last part of a complement or of a union, or is none's
pub data ClassEnd : Type 0 where
  other : FoundClass → ClassEnd
  joins : FoundClass → ClassEnd
  alone : ClassEnd

abbrev pub ends_class : Frame → FoundClass → ClassEnd
ends_class (m.in_other s) c = other (found_class (cls.Other c.class (joined s (cls.class_span c.class))) (1 + c.deep))
ends_class (m.in_union a) c = joins (found_class (cls.Union a.class c.class (joined (cls.class_span a.class) (cls.class_span c.class))) (1 + max a.deep c.deep))
ends_class _ c = alone

abbrev pub TypeCloses : Frame → FoundType → code_closed_type.ClosedType → Type 0
TypeCloses f t (closed_type.Type u) = (ends_type f t ≡ wider (found_type_view u)) × (u.deep ≡ around f t.deep)
TypeCloses f t (closed_type.Expr a) = ends_type f t ≡ made (found_view a)
TypeCloses f t (closed_type.Open g u) = (ends_type f t ≡ stays) × (frame_view g ≡ f) × (found_type_view u ≡ t)

abbrev pub ClassCloses : Frame → FoundClass → code_closed_class.ClosedClass → Type 0
ClassCloses f c (closed_class.Other d) = (ends_class f c ≡ other (found_class_view d)) × (d.deep ≡ around f c.deep)
ClassCloses f c (closed_class.Union d) = ends_class f c ≡ joins (found_class_view d)
ClassCloses f c (closed_class.Open g d) = (ends_class f c ≡ alone) × (frame_view g ≡ f) × (found_class_view d ≡ c)

-- what a form makes of an expression that may be its last part
abbrev pub Closes : Frame → Found → code_closed.Closed → Type 0
Closes f a (closed.Whole b) = (closes f a ≡ Some (found_view b)) × (b.deep ≡ around f a.deep)
Closes f a (closed.Open g b) = (closes f a ≡ None) × (frame_view g ≡ f) × (found_view b ≡ a)

abbrev pub ClosesTo : Frame → Found → code_found.Found → Type 0
ClosesTo f a b = (closes f a ≡ Some (found_view b)) × (b.deep ≡ around f a.deep)

-- the name that an expression is, if it is one alone
abbrev pub named : ex.Expr → Option Name
named (ex.Lower x) = Some x
named _ = None
