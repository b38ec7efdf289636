-- What typing gives to specialisation: each name is in scope, each call gives what is called its parameters and its types, and each
-- argument lists what it uses of what is around it.
use Rattle.std.specs.Prelude.{◌≡◌, ℕ, zero, suc, Bool, true, false, if◌then◌else◌, List, [], ◌∷◌, Option, Some, None}
use Rattle.ddl_tree.specs.declared.kind.Kind.{Kind}
use Rattle.ddl_tree.specs.declared.kind.Kind.TheVariants as k
use Rattle.ddl_types.specs.Types.{Ty, Each}
use Rattle.ddl_ops.specs.Patterns.{name_of}
use Rattle.ddl_typed.specs.Tree.{Class, range, or_, not_, declared, class_parameter, those, Site, Expr, Form, Exprs, Named, Content, Cases, Bounds, Alts, Args}
use Rattle.ddl_typed.specs.Tree.{Items, Item, expr, text, local, literal, truth, nothing_, just_, list, record_, union_, select, infix_, prefix_, cast}
use Rattle.ddl_typed.specs.Tree.{builtin, value_call, paren, if_, case_, for_, map_, pure, uint8, match, end, class, fail, primitive, is_, fits, block, first}
use Rattle.ddl_typed.specs.Tree.{choose, many, optional, call, parameter, no_exprs, more, no_named, named, no_content, content, no_cases, when, unbounded}
use Rattle.ddl_typed.specs.Tree.{exactly, from_, up_to, between, no_alts, alt, tag, no_args, by_value, by_grammar, by_class, by_type, by_hand, no_items, item}
use Rattle.ddl_typed.specs.Tree.{plain, let_, field, result_}
use Rattle.ddl_typed.specs.Env.{empty}
use Rattle.ddl_typed.specs.Classes.{class_set}
use Rattle.ddl_typed.specs.Specification as t
use Rattle.ddl_typed.specs.Specification.{Specification, Declaration}
use Rattle.ddl_mono.specs.Copies.{is_value_kind}
use Rattle.ddl_copies.specs.Scoped.{In, AllIn, IsSome, names_after, names_in_turn, with_optional_name}
use Rattle.ddl_copies.specs.Kinds.{declared_at, kinds_in, kinds_at, IsKinded}

-- ---- the numbers of parameters

abbrev pub is_grammar_kind : Kind → Bool
is_grammar_kind k.Grammar = true
is_grammar_kind kind = false

abbrev pub is_class_kind : Kind → Bool
is_class_kind k.Class = true
is_class_kind kind = false

-- the numbers of the parameters of a kind, the last one first: each has its place among all parameters as its number
abbrev pub numbers_of : (Kind → Bool) → ℕ → List Kind → List ℕ → List ℕ
numbers_of test i [] zs = zs
numbers_of test i (kind ∷ kinds) zs = numbers_of test (suc i) kinds (if test kind then i ∷ zs else zs)

abbrev pub numbers_below : ℕ → List ℕ
numbers_below zero = []
numbers_below (suc n) = n ∷ numbers_below n

-- the value parameters of a declaration
abbrev pub values_in : Declaration → List ℕ
values_in d = numbers_of is_value_kind 0 (kinds_in d) []

abbrev pub values_at : Option Declaration → List ℕ
values_at None = []
values_at (Some d) = values_in d

abbrev pub value_parameters : Specification → ℕ → List ℕ
value_parameters s f = values_at (declared_at s f)

-- how many variables its types have
abbrev pub variables_at : Option Declaration → ℕ
variables_at None = 0
variables_at (Some d) = d.typing.vars

-- ---- what is in scope

-- the grammar and class parameters and type variables that are in scope
pub record Statics : Type 0 where
  pub grammars : List ℕ
  pub classes : List ℕ
  pub types : List ℕ

-- in a declaration its own are, and in an argument those that its place lists
abbrev pub statics_in : Declaration → Statics
statics_in d = record {
  grammars = numbers_of is_grammar_kind 0 (kinds_in d) [];
  classes = numbers_of is_class_kind 0 (kinds_in d) [];
  types = numbers_below d.typing.vars;
}

abbrev pub statics_of : Site → Statics
statics_of site = record { grammars = site.grammars; classes = site.classes; types = site.types }

-- ---- calls

-- arguments stand in the order of the parameters, from a number on, each of its parameter's kind
abbrev pub Matches : Args → ℕ → List Kind → Type 0
Matches no_args i [] = Unit {0}
Matches (by_value x e args) i (k.Value ∷ kinds) = (x ≡ i) × Matches args (suc i) kinds
Matches (by_grammar x site e args) i (k.Grammar ∷ kinds) = (x ≡ i) × Matches args (suc i) kinds
Matches (by_class x c args) i (k.Class ∷ kinds) = (x ≡ i) × Matches args (suc i) kinds
Matches (by_type x ty args) i kinds = Matches args i kinds
Matches args i kinds = ⊥

-- each variable from a number on has its type, in order
abbrev pub TypesInOrder : Args → ℕ → ℕ → Type 0
TypesInOrder no_args j n = j ≡ n
TypesInOrder (by_value x e args) j n = TypesInOrder args j n
TypesInOrder (by_grammar x site e args) j n = TypesInOrder args j n
TypesInOrder (by_class x c args) j n = TypesInOrder args j n
TypesInOrder (by_type x ty args) j n = (x ≡ j) × TypesInOrder args (suc j) n
TypesInOrder (by_hand there here args) j n = TypesInOrder args j n

-- the declaration of a number is a form
pub record IsForm (s : Specification) (f : ℕ) : Type 0 where
  pub declared : Declaration
  pub body : Expr
  pub is : declared_at s f ≡ Some declared
  pub stands : declared.standing ≡ t.form body

-- ---- forms

module _ (s : Specification) where
  -- a call of a declaration gives it its parameters, and types for its variables
  abbrev pub CallsWell : ℕ → Args → Type 0
  CallsWell f args = IsForm s f × Matches args 0 (kinds_at (declared_at s f)) × TypesInOrder args 0 (variables_at (declared_at s f))

  -- the bytes of a class are known, once those of its parameters are
  abbrev pub ClassBound : Class → List ℕ → Type 0
  ClassBound (range from to) classes = Unit {0}
  ClassBound (or_ c d) classes = ClassBound c classes × ClassBound d classes
  ClassBound (not_ c) classes = ClassBound c classes
  ClassBound (declared f) classes = IsSome (class_set (t.spec_of s) (declared f) empty)
  ClassBound (class_parameter x) classes = In x classes
  ClassBound (those test) classes = Unit {0}

  -- a form uses what is in scope, where these are its values
  abbrev mutual
    pub Bound : Expr → Statics → List ℕ → Type 0
    Bound (expr p ty span) S vs = BoundForm p ty S vs

    pub BoundForm : Form → Ty → Statics → List ℕ → Type 0
    BoundForm (text bs) ty S vs = Unit {0}
    BoundForm (local x) ty S vs = In x vs
    BoundForm (literal n) ty S vs = Each (λ v. In v S.types) ty
    BoundForm (truth b) ty S vs = Unit {0}
    BoundForm nothing_ ty S vs = Unit {0}
    BoundForm (just_ e) ty S vs = Bound e S vs
    BoundForm (list es) ty S vs = BoundExprs es S vs
    BoundForm (record_ ns) ty S vs = BoundNamed ns S vs
    BoundForm (union_ name c) ty S vs = BoundContent c S vs
    BoundForm (select e name) ty S vs = Bound e S vs
    BoundForm (infix_ op a b) ty S vs = Bound a S vs × Bound b S vs
    BoundForm (prefix_ op e) ty S vs = Bound e S vs
    BoundForm (cast c e) ty S vs = Each (λ v. In v S.types) ty × Bound e S vs
    BoundForm (builtin b es) ty S vs = BoundExprs es S vs
    BoundForm (value_call f args) ty S vs = BoundArgs args S vs × CallsWell f args
    BoundForm (paren e) ty S vs = Bound e S vs
    BoundForm (if_ c a b) ty S vs = Bound c S vs × Bound a S vs × Bound b S vs
    BoundForm (case_ e cs) ty S vs = Bound e S vs × BoundCases cs S vs
    BoundForm (for_ x start names e body) ty S vs = Bound start S vs × Bound e S vs × Bound body S (names_in_turn names (x ∷ vs))
    BoundForm (map_ names e body) ty S vs = Bound e S vs × Bound body S (names_in_turn names vs)
    BoundForm (pure e) ty S vs = Bound e S vs
    BoundForm uint8 ty S vs = Unit {0}
    BoundForm (match e) ty S vs = Bound e S vs
    BoundForm end ty S vs = Unit {0}
    BoundForm (class c) ty S vs = ClassBound c S.classes
    BoundForm (fail n) ty S vs = Unit {0}
    BoundForm (primitive p es) ty S vs = BoundExprs es S vs
    BoundForm (is_ e p) ty S vs = Bound e S vs
    BoundForm (fits e) ty S vs = Each (λ v. In v S.types) ty × Bound e S vs
    BoundForm (block is) ty S vs = BoundItems is S vs
    BoundForm (first as_) ty S vs = BoundAlts as_ S vs
    BoundForm (choose as_) ty S vs = BoundAlts as_ S vs
    BoundForm (many c b e) ty S vs = BoundBounds b S vs × Bound e S vs
    BoundForm (optional c e) ty S vs = Bound e S vs
    BoundForm (call f args) ty S vs = BoundArgs args S vs × CallsWell f args
    BoundForm (parameter g) ty S vs = In g S.grammars

    pub BoundExprs : Exprs → Statics → List ℕ → Type 0
    BoundExprs no_exprs S vs = Unit {0}
    BoundExprs (more e es) S vs = Bound e S vs × BoundExprs es S vs

    pub BoundNamed : Named → Statics → List ℕ → Type 0
    BoundNamed no_named S vs = Unit {0}
    BoundNamed (named name e ns) S vs = Bound e S vs × BoundNamed ns S vs

    pub BoundContent : Content → Statics → List ℕ → Type 0
    BoundContent no_content S vs = Unit {0}
    BoundContent (content e) S vs = Bound e S vs

    pub BoundCases : Cases → Statics → List ℕ → Type 0
    BoundCases no_cases S vs = Unit {0}
    BoundCases (when p e cs) S vs = Bound e S (with_optional_name (name_of p) vs) × BoundCases cs S vs

    pub BoundBounds : Bounds → Statics → List ℕ → Type 0
    BoundBounds unbounded S vs = Unit {0}
    BoundBounds (exactly a) S vs = Bound a S vs
    BoundBounds (from_ a) S vs = Bound a S vs
    BoundBounds (up_to b) S vs = Bound b S vs
    BoundBounds (between a b) S vs = Bound a S vs × Bound b S vs

    pub BoundAlts : Alts → Statics → List ℕ → Type 0
    BoundAlts no_alts S vs = Unit {0}
    BoundAlts (alt e as_) S vs = Bound e S vs × BoundAlts as_ S vs
    BoundAlts (tag name e as_) S vs = Bound e S vs × BoundAlts as_ S vs

    pub BoundItems : Items → Statics → List ℕ → Type 0
    BoundItems no_items S vs = Unit {0}
    BoundItems (item i is) S vs = BoundItem i S vs × BoundItems is S (names_after i vs)

    pub BoundItem : Item → Statics → List ℕ → Type 0
    BoundItem (plain e) S vs = Bound e S vs
    BoundItem (let_ x e) S vs = Bound e S vs
    BoundItem (field name x e) S vs = Bound e S vs
    BoundItem (result_ e) S vs = Bound e S vs

    -- a grammar argument uses what its place lists, and that is in scope where it stands
    pub BoundArgs : Args → Statics → List ℕ → Type 0
    BoundArgs no_args S vs = Unit {0}
    BoundArgs (by_value x e args) S vs = Bound e S vs × BoundArgs args S vs
    BoundArgs (by_grammar x site e args) S vs =
        Bound e (statics_of site) site.values × AllIn site.values vs × AllIn site.grammars S.grammars × AllIn site.classes S.classes ×
        AllIn site.types S.types × BoundArgs args S vs
    BoundArgs (by_class x c args) S vs = ClassBound c S.classes × BoundArgs args S vs
    BoundArgs (by_type x ty args) S vs = Each (λ v. In v S.types) ty × BoundArgs args S vs
    BoundArgs (by_hand there here args) S vs = ⊥

-- each form that is declared uses what is in scope, and is of its declaration's kind
pub record IsValid (s : Specification) : Type 0 where
  pub bound : (f : ℕ) (d : Declaration) (e : Expr) → declared_at s f ≡ Some d → d.standing ≡ t.form e → Bound s e (statics_in d) (values_in d)
  pub kinded : IsKinded s
