-- The kinds of the forms of a specification: each form is a value or a grammar, as it is used, and each call gives what is called its
-- parameters in their order.
use Rattle.std.specs.Prelude.{◌≡◌, ℕ, suc, Bool, true, false, List, [], ◌∷◌, map, Option, Some, None}
use Rattle.ddl_tree.specs.declared.kind.Kind.{Kind}
use Rattle.ddl_tree.specs.declared.kind.Kind.TheVariants.{Grammar, Value, Class}
use Rattle.ddl_typed.specs.Tree as tree
use Rattle.ddl_typed.specs.Tree.{Expr, Form, Exprs, Named, Content, Cases, Bounds, Alts, Args, Items, expr, text, local, literal, truth, nothing_, just_, list}
use Rattle.ddl_typed.specs.Tree.{record_, union_, select, infix_, prefix_, cast, builtin, value_call, paren, if_, case_, for_, map_, pure, uint8, match, end}
use Rattle.ddl_typed.specs.Tree.{class, fail, primitive, is_, fits, block, first, choose, many, optional, call, parameter, no_exprs, more, no_named, named}
use Rattle.ddl_typed.specs.Tree.{no_content, content, no_cases, when, unbounded, exactly, from_, up_to, between, no_alts, alt, tag, no_args, by_value}
use Rattle.ddl_typed.specs.Tree.{by_grammar, by_class, by_type, no_items, plain, let_, field, result_}
use Rattle.ddl_typed.specs.Specification.{Specification, Declaration, form}
use Rattle.ddl_mono.specs.Copies.{is_value_kind}
use Rattle.ddl_copies.specs.Queue.{item}

-- the declaration of a number
abbrev pub declared_at : Specification → ℕ → Option Declaration
declared_at s f = item s.declarations f

-- the kinds of its parameters
abbrev pub kinds_in : Declaration → List Kind
kinds_in d = map (λ p. p.kind) d.parameters

-- of each declaration its kind, and the kinds of its parameters
module _ (is_value : ℕ → Bool) (kinds : ℕ → List Kind) where
  abbrev mutual
    -- a value form: its parts are values
    pub ValueForm : Expr → Type 0
    ValueForm (expr p ty span) = IsOfValue p

    pub IsOfValue : Form → Type 0
    IsOfValue (text bs) = Unit {0}
    IsOfValue (local x) = Unit {0}
    IsOfValue (literal n) = Unit {0}
    IsOfValue (truth b) = Unit {0}
    IsOfValue nothing_ = Unit {0}
    IsOfValue (just_ e) = ValueForm e
    IsOfValue (list es) = ValueForms es
    IsOfValue (record_ ns) = ValueFields ns
    IsOfValue (union_ name c) = ValueContent c
    IsOfValue (select e name) = ValueForm e
    IsOfValue (infix_ op a b) = ValueForm a × ValueForm b
    IsOfValue (prefix_ op e) = ValueForm e
    IsOfValue (cast q e) = ValueForm e
    IsOfValue (builtin b es) = ValueForms es
    IsOfValue (value_call f args) = (is_value f ≡ true) × Arguments args 0 (kinds f)
    IsOfValue (paren e) = ValueForm e
    IsOfValue (if_ e a b) = ValueForm e × ValueForm a × ValueForm b
    IsOfValue (case_ e cs) = ValueForm e × ValueCases cs
    IsOfValue (for_ x start names e body) = ValueForm start × ValueForm e × ValueForm body
    IsOfValue (map_ names e body) = ValueForm e × ValueForm body
    IsOfValue p = ⊥

    pub ValueForms : Exprs → Type 0
    ValueForms no_exprs = Unit {0}
    ValueForms (more e es) = ValueForm e × ValueForms es

    pub ValueFields : Named → Type 0
    ValueFields no_named = Unit {0}
    ValueFields (named name e ns) = ValueForm e × ValueFields ns

    pub ValueContent : Content → Type 0
    ValueContent no_content = Unit {0}
    ValueContent (content e) = ValueForm e

    pub ValueCases : Cases → Type 0
    ValueCases no_cases = Unit {0}
    ValueCases (when p e cs) = ValueForm e × ValueCases cs

    pub ValueBounds : Bounds → Type 0
    ValueBounds unbounded = Unit {0}
    ValueBounds (exactly a) = ValueForm a
    ValueBounds (from_ a) = ValueForm a
    ValueBounds (up_to b) = ValueForm b
    ValueBounds (between a b) = ValueForm a × ValueForm b

    -- a grammar form: each of its parts is of its kind
    pub GrammarForm : Expr → Type 0
    GrammarForm (expr p ty span) = IsOfGrammar p

    pub IsOfGrammar : Form → Type 0
    IsOfGrammar (text bs) = Unit {0}
    IsOfGrammar (pure e) = ValueForm e
    IsOfGrammar uint8 = Unit {0}
    IsOfGrammar (match e) = ValueForm e
    IsOfGrammar end = Unit {0}
    IsOfGrammar (class c) = Unit {0}
    IsOfGrammar (fail n) = Unit {0}
    IsOfGrammar (is_ e p) = ValueForm e
    IsOfGrammar (primitive p es) = ValueForms es
    IsOfGrammar (fits e) = ValueForm e
    IsOfGrammar (paren e) = GrammarForm e
    IsOfGrammar (block is) = GrammarItems is
    IsOfGrammar (first as_) = GrammarAlternatives as_
    IsOfGrammar (choose as_) = GrammarAlternatives as_
    IsOfGrammar (many q b e) = ValueBounds b × GrammarForm e
    IsOfGrammar (optional q e) = GrammarForm e
    IsOfGrammar (if_ e a b) = ValueForm e × GrammarForm a × GrammarForm b
    IsOfGrammar (case_ e cs) = ValueForm e × GrammarCases cs
    IsOfGrammar (call f args) = (is_value f ≡ false) × Arguments args 0 (kinds f)
    IsOfGrammar (for_ x start names e body) = ValueForm start × ValueForm e × GrammarForm body
    IsOfGrammar (map_ names e body) = ValueForm e × GrammarForm body
    IsOfGrammar (parameter g) = Unit {0}
    IsOfGrammar p = ⊥

    pub GrammarCases : Cases → Type 0
    GrammarCases no_cases = Unit {0}
    GrammarCases (when p e cs) = GrammarForm e × GrammarCases cs

    pub GrammarAlternatives : Alts → Type 0
    GrammarAlternatives no_alts = Unit {0}
    GrammarAlternatives (alt e as_) = GrammarForm e × GrammarAlternatives as_
    GrammarAlternatives (tag name e as_) = GrammarForm e × GrammarAlternatives as_

    pub GrammarItems : Items → Type 0
    GrammarItems no_items = Unit {0}
    GrammarItems (tree.item (plain e) is) = GrammarForm e × GrammarItems is
    GrammarItems (tree.item (let_ x e) is) = GrammarForm e × GrammarItems is
    GrammarItems (tree.item (field name x e) is) = GrammarForm e × GrammarItems is
    GrammarItems (tree.item (result_ e) is) = GrammarForm e × GrammarItems is

    -- arguments for the parameters from a number on, in their order, each of its parameter's kind; types stand anywhere
    pub Arguments : Args → ℕ → List Kind → Type 0
    Arguments no_args i [] = Unit {0}
    Arguments (by_value x e args) i (Value ∷ ks) = (x ≡ i) × ValueForm e × Arguments args (suc i) ks
    Arguments (by_grammar x site e args) i (Grammar ∷ ks) = (x ≡ i) × GrammarForm e × Arguments args (suc i) ks
    Arguments (by_class x c args) i (Class ∷ ks) = (x ≡ i) × Arguments args (suc i) ks
    Arguments (by_type x t args) i ks = Arguments args i ks
    Arguments args i ks = ⊥

-- of the declaration of a number whether it is a value, and the kinds of its parameters
abbrev pub is_value_in : Option Declaration → Bool
is_value_in None = false
is_value_in (Some d) = is_value_kind d.kind

abbrev pub kinds_at : Option Declaration → List Kind
kinds_at None = []
kinds_at (Some d) = kinds_in d

-- the form of each declaration is of the declaration's kind
pub record IsKinded (s : Specification) : Type 0 where
  pub values : (f : ℕ) (d : Declaration) (e : Expr) → declared_at s f ≡ Some d → d.standing ≡ form e → is_value_kind d.kind ≡ true →
      ValueForm (λ g. is_value_in (declared_at s g)) (λ g. kinds_at (declared_at s g)) e
  pub grammars : (f : ℕ) (d : Declaration) (e : Expr) → declared_at s f ≡ Some d → d.standing ≡ form e → is_value_kind d.kind ≡ false →
      GrammarForm (λ g. is_value_in (declared_at s g)) (λ g. kinds_at (declared_at s g)) e
