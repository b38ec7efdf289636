-- What specialisation makes of a specification and an entry.
use Rattle.std.specs.Prelude.{◌≡◌, ℕ, suc, List, [], ◌∷◌, ◌++◌, map, Some}
use Rattle.ddl_base.specs.declared.span.Span.{Span}
use Rattle.ddl_tree.specs.declared.kind.Kind.{Kind}
use Rattle.ddl_tree.specs.declared.kind.Kind.TheVariants.{Grammar, Value, Class, Bits}
use Rattle.ddl_types.specs.Types.{Ty}
use Rattle.ddl_typed.specs.Tree.{Name, own, under, Site, Expr, expr}
use Rattle.ddl_typed.specs.Specification.{Specification, Declaration, Parameter, form, spec_of}
use Rattle.ddl_mono.specs.Copies.{Copy, Mono}
use Rattle.ddl_copies.specs.Shapes.{Instance, Origin, at_place, member, argument, shape_of, shape_or, closed_in, captured, unit_types}
use Rattle.ddl_copies.specs.Kinds.{declared_at, kinds_in}
use Rattle.ddl_copies.specs.LocalTypes.{captured_types}
use Rattle.ddl_copies.specs.Copied.{copied}
use Rattle.ddl_copies.specs.Queue.{Within, Joins, MetInAll, item}
use Rattle.ddl_copies.specs.Needed.{copy_uses, member_uses, all_arguments}

-- ---- the parameters of a copy

-- a parameter has its place among the parameters as its number; a value parameter stays one, a grammar parameter becomes the values
-- that its shape captures, under it, and a class parameter goes
abbrev pub names_for : ℕ → Kind → Instance → List Name
names_for i Value τs = own i ∷ []
names_for i Grammar τs = map (under i) (captured (shape_or (shape_of τs i)))
names_for i Class τs = []
names_for i Bits τs = []

abbrev pub parameter_names : ℕ → List Kind → Instance → List Name
parameter_names i [] τs = []
parameter_names i (k ∷ ks) τs = names_for i k τs ++ parameter_names (suc i) ks τs

-- their types
abbrev pub types_for : ℕ → Kind → Ty → Instance → List Ty
types_for i Value of τs = closed_in τs of ∷ []
types_for i Grammar of τs = captured_types (shape_or (shape_of τs i))
types_for i Class of τs = []
types_for i Bits of τs = []

abbrev pub parameter_types : ℕ → List Parameter → Instance → List Ty
parameter_types i [] τs = []
parameter_types i (p ∷ ps) τs = types_for i p.kind p.of τs ++ parameter_types (suc i) ps τs

-- ---- copies

-- the type and the span of a form
abbrev pub type_of : Expr → Ty
type_of (expr p ty span) = ty

abbrev pub span_of : Expr → Span
span_of (expr p ty span) = span

-- the copy of a declaration of a form at an instance
pub record IsMemberCopy (s : Specification) (number : Origin → ℕ) (f : ℕ) (τs : Instance) (c : Copy) : Type 0 where
  pub declared : Declaration
  pub text : Expr
  pub is : declared_at s f ≡ Some declared
  pub stands : declared.standing ≡ form text
  pub declaration : c.declaration ≡ f
  pub unit : c.unit ≡ declared.unit
  pub name : c.name ≡ declared.name
  pub span : c.span ≡ declared.span
  pub kind : c.kind ≡ declared.kind
  pub names : c.names ≡ parameter_names 0 (kinds_in declared) τs
  pub params : c.params ≡ parameter_types 0 declared.parameters τs
  pub result : c.result ≡ closed_in τs declared.typing.of
  pub body : c.body ≡ copied (spec_of s) number text τs

-- the copy of an argument, which has no name of its own: its span is that of the argument, and its declaration is that in which the
-- argument stands
pub record IsArgumentCopy (s : Specification) (number : Origin → ℕ) (site : Site) (e : Expr) (τs : Instance) (c : Copy) : Type 0 where
  pub declared : Declaration
  pub around : Instance
  pub is : declared_at s c.declaration ≡ Some declared
  pub stands : Within (argument site e τs) (copy_uses (spec_of s) (member c.declaration around))
  pub unit : c.unit ≡ declared.unit
  pub name : c.name ≡ []
  pub span : c.span ≡ span_of e
  pub kind : c.kind ≡ Grammar
  pub names : c.names ≡ captured (at_place site e τs)
  pub params : c.params ≡ captured_types (at_place site e τs)
  pub result : c.result ≡ closed_in τs (type_of e)
  pub body : c.body ≡ copied (spec_of s) number e τs

-- the copy of an origin
abbrev pub IsCopy : Specification → (Origin → ℕ) → Origin → Copy → Type 0
IsCopy s number (member f τs) c = IsMemberCopy s number f τs c
IsCopy s number (argument site e τs) c = IsArgumentCopy s number site e τs c

-- the copies of a list, in its order
abbrev pub AreCopies : Specification → (Origin → ℕ) → List Origin → List Copy → Type 0
AreCopies s number [] [] = Unit {0}
AreCopies s number [] (c ∷ cs) = ⊥
AreCopies s number (o ∷ os) [] = ⊥
AreCopies s number (o ∷ os) (c ∷ cs) = IsCopy s number o c × AreCopies s number os cs

-- ---- the whole

-- the copies that an entry needs, which is a grammar without parameters, in the order of their numbers: the members as a queue meets
-- them in the order of the text, from that of the entry on, and behind them the arguments as they are met in the members
pub record InOrder (s : Specification) (entry : ℕ) (members arguments : List Origin) : Type 0 where
  pub declared : Declaration
  pub is : declared_at s entry ≡ Some declared
  pub grammar : declared.kind ≡ Grammar
  pub without : declared.parameters ≡ []
  pub queue : MetInAll (member_uses (spec_of s)) (member entry (unit_types declared.typing.vars)) members
  pub behind : Joins [] (all_arguments (spec_of s) members) arguments

-- a specialised specification has exactly the copies that the entry needs, each at its number, with that of the entry as the first;
-- modules, texts, places and bitdata are those of the specification
pub record Specialised (s : Specification) (entry : ℕ) (m : Mono) : Type 0 where
  pub members : List Origin
  pub arguments : List Origin
  pub number : Origin → ℕ
  pub order : InOrder s entry members arguments
  pub numbered : (d : ℕ) (o : Origin) → item (members ++ arguments) d ≡ Some o → number o ≡ d
  pub copies : AreCopies s number (members ++ arguments) m.copies
  pub first : m.entry ≡ 0
  pub units : m.units ≡ s.units
  pub texts : m.texts ≡ s.texts
  pub places : m.places ≡ s.places
  pub bitdata : m.bitdata ≡ s.bitdata
