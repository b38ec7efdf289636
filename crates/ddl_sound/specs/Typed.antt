-- Which forms are typed: a rule for each form. Its type is written on it, so a rule speaks of the parts' types alone.
use Rattle.std.specs.Prelude.{◌≡◌, ℕ, true, List, [], ◌∷◌, pos, Some}
use Rattle.ddl_types.specs.declared.num.NumType.{NumType}
use Rattle.ddl_types.specs.Num.{in_range}
use Rattle.ddl_types.specs.Types.{Ty}
use Rattle.ddl_types.specs.Value.{Value, array, boolean, nothing}
use Rattle.ddl_ops.specs.Numbers.{number_type}
use Rattle.ddl_ops.specs.Patterns.{name_of}
use Rattle.ddl_ops.specs.Primitives.{byte_values}
use Rattle.ddl_typed.specs.Meaning.{form_at}
use Rattle.ddl_typed.specs.Specification.{Place}
use Rattle.ddl_typed.specs.Tree.{Expr, Form, Exprs, Named, Content, Cases, Bounds, Alts, Args, Items, Item, Spec, expr, text, local, literal, truth, nothing_}
use Rattle.ddl_typed.specs.Tree.{just_, list, record_, union_, select, infix_, prefix_, cast, builtin, value_call, paren, if_, case_, for_, map_, pure, uint8}
use Rattle.ddl_typed.specs.Tree.{match, end, class, fail, primitive, is_, fits, block, first, choose, many, optional, call, no_exprs, more, no_named, named}
use Rattle.ddl_typed.specs.Tree.{no_content, content, no_cases, when, unbounded, exactly, from_, up_to, between, no_alts, alt, tag, no_args, by_value, by_hand}
use Rattle.ddl_typed.specs.Tree.{no_items, item, plain, let_, field, result_}
use Rattle.ddl_mono.specs.IsMono.{IsThose}
use Rattle.ddl_sound.specs.HasType.{HasType}
use Rattle.ddl_sound.specs.Context.{Context, no_names, name, context_with, local_type, named_type, optional_name, turn_context}
use Rattle.ddl_sound.specs.BasicTypes.{byte_type, unit_type, array_type, maybe_type, IsBool, IsUnsigned, Loops, Gathers}
use Rattle.ddl_sound.specs.Members.{IsRecord, HasTag, HasField, PatternRule}
use Rattle.ddl_sound.specs.Operations.{InfixRule, PrefixRule, CastRule, MayFit, BuiltinRule, PrimitiveRule}
use Rattle.ddl_sound.specs.Exhaustive.{Exhaustive}
use Rattle.ddl_sound.specs.BlockTypes.{type_of, Making, nothing_made, made_with, context_after, Finished}

-- the types of forms, in order
abbrev pub types_of : Exprs → List Ty
types_of no_exprs = []
types_of (more e es) = type_of e ∷ types_of es

-- the names and types of the fields of a record form, in order
abbrev pub names_in : Named → List (List ℕ)
names_in no_named = []
names_in (named label e ns) = label ∷ names_in ns

abbrev pub types_in : Named → List Ty
types_in no_named = []
types_in (named label e ns) = type_of e ∷ types_in ns

-- the type of a union form's content
abbrev pub content_type : Content → Ty
content_type no_content = unit_type
content_type (content e) = type_of e

-- a choice has an alternative
abbrev pub HasAlternatives : Alts → Type 0
HasAlternatives no_alts = ⊥
HasAlternatives as_ = Unit {0}

-- a declaration stands for a value or for a grammar
pub data Sort : Type 0 where
  values : Sort
  grammars : Sort

-- the signature of a declaration: what it stands for, its parameters as a call binds them, its type
pub record Signature : Type 0 where
  pub sort : Sort
  pub parameters : Context
  pub of : Ty

module _ (places : List Place) (spec : Spec) (signatures : ℕ → Signature) where
  abbrev Has : Value → Ty → Type 0
  Has w ty = HasType places spec.bits w ty

  -- a number is that of a declaration of a form, with this signature
  abbrev pub IsDeclared : ℕ → Sort → Context → Ty → Type 0
  IsDeclared f sort parameters ty =
      ((signatures f).sort ≡ sort) × (parameters ≡ (signatures f).parameters) × (ty ≡ (signatures f).of) ×
      ((e : Expr) × (form_at spec.decls f ≡ Some e))

  abbrev mutual
    -- a form is typed as a value
    pub TypedValue : Expr → Context → Type 0
    TypedValue (expr form ty span) Γ = ValueRule form ty Γ

    -- a form is typed as a value of a type; a constant is of each type that its value has
    pub ValueRule : Form → Ty → Context → Type 0
    ValueRule (text bs) ty Γ = Has (array (byte_values bs)) ty
    ValueRule (local x) ty Γ = local_type Γ x ≡ Some ty
    ValueRule (literal n) ty Γ = (s : NumType) × (number_type ty ≡ Some s) × (in_range s (pos n) ≡ true)
    ValueRule (truth b) ty Γ = Has (boolean b) ty
    ValueRule nothing_ ty Γ = Has nothing ty
    ValueRule (just_ e) ty Γ = TypedValue e Γ × (ty ≡ maybe_type (type_of e))
    ValueRule (list es) ty Γ = (u : Ty) × AllOf es u Γ × (ty ≡ array_type u)
    ValueRule (record_ ns) ty Γ = AreNamed ns Γ × IsRecord places (names_in ns) (types_in ns) ty
    ValueRule (union_ label c) ty Γ = IsContent c Γ × HasTag places label (content_type c) ty
    ValueRule (select e label) ty Γ = TypedValue e Γ × HasField places spec.bits label ty (type_of e)
    ValueRule (infix_ op a b) ty Γ = TypedValue a Γ × TypedValue b Γ × InfixRule op (type_of a) (type_of b) ty
    ValueRule (prefix_ op e) ty Γ = TypedValue e Γ × PrefixRule op (type_of e) ty
    ValueRule (cast c e) ty Γ = TypedValue e Γ × CastRule spec.bits c (type_of e) ty
    ValueRule (builtin b es) ty Γ = AreValues es Γ × BuiltinRule b (types_of es) ty
    ValueRule (value_call f args) ty Γ =
        (callee : Context) × ArgumentsRule args Γ no_names callee × IsDeclared f values callee ty
    ValueRule (paren e) ty Γ = TypedValue e Γ × (type_of e ≡ ty)
    ValueRule (if_ c a b) ty Γ =
        TypedValue c Γ × IsBool (type_of c) × TypedValue a Γ × (type_of a ≡ ty) × TypedValue b Γ × (type_of b ≡ ty)
    ValueRule (case_ e cs) ty Γ =
        TypedValue e Γ × Exhaustive places spec.bits cs (type_of e) × CasesRule cs (type_of e) ty Γ
    ValueRule (for_ x start names e body) ty Γ =
        TypedValue start Γ × (type_of start ≡ ty) × TypedValue e Γ ×
        ((key : Ty) × ((element : Ty) × Loops (type_of e) key element ×
        TypedValue body (turn_context names key element (name x ty Γ)) × (type_of body ≡ ty)))
    ValueRule (map_ names e body) ty Γ =
        TypedValue e Γ × ((key : Ty) × ((element : Ty) × Loops (type_of e) key element ×
        TypedValue body (turn_context names key element Γ) × Gathers (type_of e) (type_of body) ty))
    ValueRule form ty Γ = ⊥

    -- values of one type
    pub AllOf : Exprs → Ty → Context → Type 0
    AllOf no_exprs u Γ = Unit {0}
    AllOf (more e es) u Γ = TypedValue e Γ × (type_of e ≡ u) × AllOf es u Γ

    pub AreValues : Exprs → Context → Type 0
    AreValues no_exprs Γ = Unit {0}
    AreValues (more e es) Γ = TypedValue e Γ × AreValues es Γ

    pub AreNamed : Named → Context → Type 0
    AreNamed no_named Γ = Unit {0}
    AreNamed (named label e ns) Γ = TypedValue e Γ × AreNamed ns Γ

    pub IsContent : Content → Context → Type 0
    IsContent no_content Γ = Unit {0}
    IsContent (content e) Γ = TypedValue e Γ

    -- each alternative has a pattern of the subject and a form of the type, which sees the pattern's name
    pub CasesRule : Cases → Ty → Ty → Context → Type 0
    CasesRule no_cases subject ty Γ = Unit {0}
    CasesRule (when p e cs) subject ty Γ =
        ((inside : Ty) × PatternRule places spec.bits p subject inside ×
        TypedValue e (optional_name (name_of p) inside Γ) × (type_of e ≡ ty)) ×
        CasesRule cs subject ty Γ

    -- the arguments of a call in order, and what they bind
    pub ArgumentsRule : Args → Context → Context → Context → Type 0
    ArgumentsRule no_args Γ so_far callee = so_far ≡ callee
    ArgumentsRule (by_value x e args) Γ so_far callee =
        TypedValue e Γ × ArgumentsRule args Γ (name x (type_of e) so_far) callee
    ArgumentsRule (by_hand there here args) Γ so_far callee =
        (ty : Ty) × (named_type Γ here ≡ Some ty) × ArgumentsRule args Γ (context_with there ty so_far) callee
    ArgumentsRule args Γ so_far callee = ⊥

  -- a count is a `uint`
  abbrev pub IsCount : Expr → Context → Type 0
  IsCount e Γ = TypedValue e Γ × IsUnsigned (type_of e)

  abbrev pub BoundsRule : Bounds → Context → Type 0
  BoundsRule unbounded Γ = Unit {0}
  BoundsRule (exactly a) Γ = IsCount a Γ
  BoundsRule (from_ a) Γ = IsCount a Γ
  BoundsRule (up_to b) Γ = IsCount b Γ
  BoundsRule (between a b) Γ = IsCount a Γ × IsCount b Γ

  abbrev mutual
    -- a form is typed as a grammar
    pub TypedGrammar : Expr → Context → Type 0
    TypedGrammar (expr form ty span) Γ = GrammarRule form ty Γ

    -- a form is typed as a grammar whose parses are of a type
    pub GrammarRule : Form → Ty → Context → Type 0
    GrammarRule (pure e) ty Γ = TypedValue e Γ × (type_of e ≡ ty)
    GrammarRule uint8 ty Γ = ty ≡ byte_type
    GrammarRule (match e) ty Γ = TypedValue e Γ × (type_of e ≡ array_type byte_type) × (ty ≡ array_type byte_type)
    GrammarRule (text bs) ty Γ = Has (array (byte_values bs)) ty
    GrammarRule end ty Γ = ty ≡ unit_type
    GrammarRule (class c) ty Γ = IsThose c × (ty ≡ byte_type)
    GrammarRule (fail n) ty Γ = Unit {0}
    GrammarRule (primitive p es) ty Γ = AreValues es Γ × PrimitiveRule p (types_of es) ty
    GrammarRule (is_ e p) ty Γ = TypedValue e Γ × PatternRule places spec.bits p (type_of e) ty
    GrammarRule (fits e) ty Γ = TypedValue e Γ × MayFit spec.bits (type_of e) ty
    GrammarRule (paren e) ty Γ = TypedGrammar e Γ × (type_of e ≡ ty)
    GrammarRule (block is) ty Γ = ItemsRule is nothing_made ty Γ
    GrammarRule (first as_) ty Γ = HasAlternatives as_ × AlternativesRule as_ ty Γ
    GrammarRule (choose as_) ty Γ = HasAlternatives as_ × AlternativesRule as_ ty Γ
    GrammarRule (many c b p) ty Γ = BoundsRule b Γ × TypedGrammar p Γ × (ty ≡ array_type (type_of p))
    GrammarRule (optional c p) ty Γ = TypedGrammar p Γ × (ty ≡ maybe_type (type_of p))
    GrammarRule (if_ c p q) ty Γ =
        TypedValue c Γ × IsBool (type_of c) × TypedGrammar p Γ × (type_of p ≡ ty) × TypedGrammar q Γ × (type_of q ≡ ty)
    GrammarRule (case_ e cs) ty Γ = TypedValue e Γ × BranchesRule cs (type_of e) ty Γ
    GrammarRule (for_ x start names e p) ty Γ =
        TypedValue start Γ × (type_of start ≡ ty) × TypedValue e Γ ×
        ((key : Ty) × ((element : Ty) × Loops (type_of e) key element ×
        TypedGrammar p (turn_context names key element (name x ty Γ)) × (type_of p ≡ ty)))
    GrammarRule (map_ names e p) ty Γ =
        TypedValue e Γ × ((key : Ty) × ((element : Ty) × Loops (type_of e) key element ×
        TypedGrammar p (turn_context names key element Γ) × Gathers (type_of e) (type_of p) ty))
    GrammarRule (call f args) ty Γ =
        (callee : Context) × ArgumentsRule args Γ no_names callee × IsDeclared f grammars callee ty
    GrammarRule form ty Γ = ⊥

    -- the items of a block, where those before gave these types
    pub ItemsRule : Items → Making → Ty → Context → Type 0
    ItemsRule no_items m ty Γ = Finished places m ty
    ItemsRule (item i is) m ty Γ = ItemRule i Γ × ItemsRule is (made_with i m) ty (context_after i Γ)

    pub ItemRule : Item → Context → Type 0
    ItemRule (plain e) Γ = TypedGrammar e Γ
    ItemRule (let_ x e) Γ = TypedGrammar e Γ
    ItemRule (field label x e) Γ = TypedGrammar e Γ
    ItemRule (result_ e) Γ = TypedGrammar e Γ

    pub AlternativesRule : Alts → Ty → Context → Type 0
    AlternativesRule no_alts ty Γ = Unit {0}
    AlternativesRule (alt e as_) ty Γ = TypedGrammar e Γ × (type_of e ≡ ty) × AlternativesRule as_ ty Γ
    AlternativesRule (tag label e as_) ty Γ =
        TypedGrammar e Γ × HasTag places label (type_of e) ty × AlternativesRule as_ ty Γ

    -- the alternatives of a `case` of grammars, which may leave values out
    pub BranchesRule : Cases → Ty → Ty → Context → Type 0
    BranchesRule no_cases subject ty Γ = Unit {0}
    BranchesRule (when p e cs) subject ty Γ =
        ((inside : Ty) × PatternRule places spec.bits p subject inside ×
        TypedGrammar e (optional_name (name_of p) inside Γ) × (type_of e ≡ ty)) ×
        BranchesRule cs subject ty Γ

  -- a form is typed as what its declaration stands for
  abbrev pub TypedAs : Sort → Expr → Context → Type 0
  TypedAs values e Γ = TypedValue e Γ
  TypedAs grammars e Γ = TypedGrammar e Γ

  -- each declaration of a form is what its signature says
  abbrev pub AreTyped : Type 0
  AreTyped =
      (f : ℕ) (e : Expr) → form_at spec.decls f ≡ Some e →
      TypedAs (signatures f).sort e (signatures f).parameters × (type_of e ≡ (signatures f).of)
