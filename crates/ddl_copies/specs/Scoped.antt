-- What a form's names stand for: each is bound where it is used, and a call gives what is called exactly its value parameters.
use Rattle.std.specs.Prelude.{◌≡◌, ◌⊎◌, ℕ, Bool, true, false, ◌==◌, List, [], ◌∷◌, Option, Some, None}
use Rattle.ddl_types.specs.Types.{Ty, Tys, var, con, none}
use Rattle.ddl_types.specs.Types as t
use Rattle.ddl_typed.specs.Tree.{Class, range, or_, not_, declared, class_parameter, those, Site, Expr, Form, Exprs, Named, Content, Cases, Bounds, Alts, Args}
use Rattle.ddl_typed.specs.Tree.{Items, Item, Spec, expr, text, local, literal, truth, nothing_, just_, list, record_, union_, select, infix_, prefix_, cast}
use Rattle.ddl_typed.specs.Tree.{builtin, value_call, paren, if_, case_, for_, map_, pure, uint8, match, end, class, fail, primitive, is_, fits, block, first}
use Rattle.ddl_typed.specs.Tree.{choose, many, optional, call, parameter, no_exprs, more, no_named, named, no_content, content, no_cases, when, unbounded}
use Rattle.ddl_typed.specs.Tree.{exactly, from_, up_to, between, no_alts, alt, tag, no_args, by_value, by_grammar, by_class, by_type, by_hand, no_items, item}
use Rattle.ddl_typed.specs.Tree.{plain, let_, field, result_}
use Rattle.ddl_typed.specs.declared.parts.Binder.{Binder}
use Rattle.ddl_typed.specs.Classes.{class_set}
use Rattle.ddl_ops.specs.Patterns.{name_of}
use Rattle.ddl_typed.specs.Meaning.{form_at}
use Rattle.ddl_copies.specs.Shapes.{Instance, Origin, no_parameters, grammar_at, class_at, type_at, member, argument, shape_of, static_env, closed_in, used_at}
use Rattle.ddl_copies.specs.Shapes.{types_alone, argument_shape, with_set, call_instance}

-- a number is in a list
abbrev pub In : ℕ → List ℕ → Type 0
In x [] = ⊥
In x (y ∷ ys) = (y ≡ x) ⊎ In x ys

-- each number of a list is in another
abbrev pub AllIn : List ℕ → List ℕ → Type 0
AllIn [] vs = Unit {0}
AllIn (w ∷ ws) vs = In w vs × AllIn ws vs

-- a parameter has another number than those of its kind in an instance
abbrev pub FreshGrammar : ℕ → Instance → Type 0
FreshGrammar x no_parameters = Unit {0}
FreshGrammar x (grammar_at h σ τs) = ((x == h) ≡ false) × FreshGrammar x τs
FreshGrammar x (class_at y t τs) = FreshGrammar x τs
FreshGrammar x (type_at j t τs) = FreshGrammar x τs

abbrev pub FreshClass : ℕ → Instance → Type 0
FreshClass x no_parameters = Unit {0}
FreshClass x (grammar_at h σ τs) = FreshClass x τs
FreshClass x (class_at y t τs) = ((x == y) ≡ false) × FreshClass x τs
FreshClass x (type_at j t τs) = FreshClass x τs

abbrev pub FreshType : ℕ → Instance → Type 0
FreshType x no_parameters = Unit {0}
FreshType x (grammar_at h σ τs) = FreshType x τs
FreshType x (class_at y t τs) = FreshType x τs
FreshType x (type_at j t τs) = ((x == j) ≡ false) × FreshType x τs

-- an instance gives a variable its type
abbrev pub GivesType : Instance → ℕ → Type 0
GivesType no_parameters i = ⊥
GivesType (grammar_at h σ τs) i = GivesType τs i
GivesType (class_at x t τs) i = GivesType τs i
GivesType (type_at j t τs) i = (j ≡ i) ⊎ GivesType τs i

-- an instance gives a class parameter its bytes
abbrev pub GivesClass : Instance → ℕ → Type 0
GivesClass no_parameters x = ⊥
GivesClass (grammar_at h σ τs) x = GivesClass τs x
GivesClass (class_at y t τs) x = (y ≡ x) ⊎ GivesClass τs x
GivesClass (type_at j t τs) x = GivesClass τs x

-- an instance gives each variable of a type its type
abbrev mutual
  pub TypesGiven : Ty → Instance → Type 0
  TypesGiven (var i) σs = GivesType σs i
  TypesGiven (con h ts) σs = AllTypesGiven ts σs

  pub AllTypesGiven : Tys → Instance → Type 0
  AllTypesGiven none σs = Unit {0}
  AllTypesGiven (t.more t ts) σs = TypesGiven t σs × AllTypesGiven ts σs

-- an instance gives each parameter of a class its bytes
abbrev pub ClassesGiven : Class → Instance → Type 0
ClassesGiven (range from to) σs = Unit {0}
ClassesGiven (or_ c d) σs = ClassesGiven c σs × ClassesGiven d σs
ClassesGiven (not_ c) σs = ClassesGiven c σs
ClassesGiven (declared f) σs = Unit {0}
ClassesGiven (class_parameter x) σs = GivesClass σs x
ClassesGiven (those test) σs = Unit {0}

-- there is one
abbrev pub IsSome : {A : Type 0} → Option A → Type 0
IsSome None = ⊥
IsSome (Some a) = Unit {0}

-- something that is asked only where a test fails
abbrev pub Unless : Bool → Type 0 → Type 0
Unless true A = Unit {0}
Unless false A = A

-- the value parameters to which arguments give values, the last one first
abbrev pub value_names : Args → List ℕ → List ℕ
value_names no_args zs = zs
value_names (by_value x e args) zs = value_names args (x ∷ zs)
value_names (by_grammar x site e args) zs = value_names args zs
value_names (by_class x c args) zs = value_names args zs
value_names (by_type x t args) zs = value_names args zs
value_names (by_hand there here args) zs = value_names args zs

-- a name in scope, where there is one
abbrev pub with_optional_name : Option ℕ → List ℕ → List ℕ
with_optional_name None vs = vs
with_optional_name (Some x) vs = x ∷ vs

-- the names in scope after an item
abbrev pub names_after : Item → List ℕ → List ℕ
names_after (plain e) vs = vs
names_after (let_ x e) vs = x ∷ vs
names_after (field name x e) vs = x ∷ vs
names_after (result_ e) vs = vs

-- the names in scope in a turn
abbrev pub names_in_turn : Binder → List ℕ → List ℕ
names_in_turn b vs = b.element ∷ with_optional_name b.key vs

-- of each declaration its value parameters, the last one first
module _ (spec : Spec) (params : ℕ → List ℕ) where
  -- the declaration of a number is a form, and these are its value parameters
  pub record Takes (f : ℕ) (zs : List ℕ) : Type 0 where
    pub body : Expr
    pub is : form_at spec.decls f ≡ Some body
    pub values : params f ≡ zs

  module _ (Needed : Origin → Type 0) where
    -- the copies in question: where an argument's shape is its place, the copy of the place is one
    abbrev pub NeededArgument : Site → Expr → Instance → Type 0
    NeededArgument site (expr (parameter h) ty span) τs = Unit {0}
    NeededArgument site (expr (call f args) ty span) τs = Unless (types_alone args) (Needed (argument site (expr (call f args) ty span) τs))
    NeededArgument site e τs = Needed (argument site e τs)

    -- a form at an instance, where these numbers of values are in scope: each value is one of them; the instance gives each type
    -- variable, class and grammar parameter what it stands for; a call gives what is called exactly its value parameters, each grammar,
    -- class and type parameter once; an argument lists what it captures; and each copy that is used is one of those in question
    abbrev mutual
      pub Scoped : Expr → Instance → List ℕ → Type 0
      Scoped (expr form ty span) σs vs = ScopedForm form ty σs vs

      pub ScopedForm : Form → Ty → Instance → List ℕ → Type 0
      ScopedForm (text bs) ty σs vs = Unit {0}
      ScopedForm (local x) ty σs vs = In x vs
      ScopedForm (literal n) ty σs vs = TypesGiven ty σs
      ScopedForm (truth b) ty σs vs = Unit {0}
      ScopedForm nothing_ ty σs vs = Unit {0}
      ScopedForm (just_ e) ty σs vs = Scoped e σs vs
      ScopedForm (list es) ty σs vs = ScopedExprs es σs vs
      ScopedForm (record_ ns) ty σs vs = ScopedNamed ns σs vs
      ScopedForm (union_ name c) ty σs vs = ScopedContent c σs vs
      ScopedForm (select e name) ty σs vs = Scoped e σs vs
      ScopedForm (infix_ op a b) ty σs vs = Scoped a σs vs × Scoped b σs vs
      ScopedForm (prefix_ op e) ty σs vs = Scoped e σs vs
      ScopedForm (cast c e) ty σs vs = TypesGiven ty σs × Scoped e σs vs
      ScopedForm (builtin b es) ty σs vs = ScopedExprs es σs vs
      ScopedForm (value_call f args) ty σs vs = ScopedArgs args σs vs no_parameters × Takes f (value_names args [])
          × Needed (member f (call_instance spec args σs no_parameters))
      ScopedForm (paren e) ty σs vs = Scoped e σs vs
      ScopedForm (if_ c a b) ty σs vs = Scoped c σs vs × Scoped a σs vs × Scoped b σs vs
      ScopedForm (case_ e cs) ty σs vs = Scoped e σs vs × ScopedCases cs σs vs
      ScopedForm (for_ x start names e body) ty σs vs = Scoped start σs vs × Scoped e σs vs × Scoped body σs (names_in_turn names (x ∷ vs))
      ScopedForm (map_ names e body) ty σs vs = Scoped e σs vs × Scoped body σs (names_in_turn names vs)
      ScopedForm (pure e) ty σs vs = Scoped e σs vs
      ScopedForm uint8 ty σs vs = Unit {0}
      ScopedForm (match e) ty σs vs = Scoped e σs vs
      ScopedForm end ty σs vs = Unit {0}
      ScopedForm (class c) ty σs vs = ClassesGiven c σs × IsSome (class_set spec c (static_env σs))
      ScopedForm (fail n) ty σs vs = Unit {0}
      ScopedForm (primitive p es) ty σs vs = ScopedExprs es σs vs
      ScopedForm (is_ e p) ty σs vs = Scoped e σs vs
      ScopedForm (fits e) ty σs vs = TypesGiven ty σs × Scoped e σs vs
      ScopedForm (block is) ty σs vs = ScopedItems is σs vs
      ScopedForm (first as_) ty σs vs = ScopedAlts as_ σs vs
      ScopedForm (choose as_) ty σs vs = ScopedAlts as_ σs vs
      ScopedForm (many c b e) ty σs vs = ScopedBounds b σs vs × Scoped e σs vs
      ScopedForm (optional c e) ty σs vs = Scoped e σs vs
      ScopedForm (call f args) ty σs vs = ScopedArgs args σs vs no_parameters × Takes f (value_names args [])
          × Needed (member f (call_instance spec args σs no_parameters))
      ScopedForm (parameter h) ty σs vs = IsSome (shape_of σs h)

      pub ScopedExprs : Exprs → Instance → List ℕ → Type 0
      ScopedExprs no_exprs σs vs = Unit {0}
      ScopedExprs (more e es) σs vs = Scoped e σs vs × ScopedExprs es σs vs

      pub ScopedNamed : Named → Instance → List ℕ → Type 0
      ScopedNamed no_named σs vs = Unit {0}
      ScopedNamed (named name e ns) σs vs = Scoped e σs vs × ScopedNamed ns σs vs

      pub ScopedContent : Content → Instance → List ℕ → Type 0
      ScopedContent no_content σs vs = Unit {0}
      ScopedContent (content e) σs vs = Scoped e σs vs

      pub ScopedCases : Cases → Instance → List ℕ → Type 0
      ScopedCases no_cases σs vs = Unit {0}
      ScopedCases (when p e cs) σs vs = Scoped e σs (with_optional_name (name_of p) vs) × ScopedCases cs σs vs

      pub ScopedBounds : Bounds → Instance → List ℕ → Type 0
      ScopedBounds unbounded σs vs = Unit {0}
      ScopedBounds (exactly a) σs vs = Scoped a σs vs
      ScopedBounds (from_ a) σs vs = Scoped a σs vs
      ScopedBounds (up_to b) σs vs = Scoped b σs vs
      ScopedBounds (between a b) σs vs = Scoped a σs vs × Scoped b σs vs

      pub ScopedAlts : Alts → Instance → List ℕ → Type 0
      ScopedAlts no_alts σs vs = Unit {0}
      ScopedAlts (alt e as_) σs vs = Scoped e σs vs × ScopedAlts as_ σs vs
      ScopedAlts (tag name e as_) σs vs = Scoped e σs vs × ScopedAlts as_ σs vs

      pub ScopedItems : Items → Instance → List ℕ → Type 0
      ScopedItems no_items σs vs = Unit {0}
      ScopedItems (item i is) σs vs = ScopedItem i σs vs × ScopedItems is σs (names_after i vs)

      pub ScopedItem : Item → Instance → List ℕ → Type 0
      ScopedItem (plain e) σs vs = Scoped e σs vs
      ScopedItem (let_ x e) σs vs = Scoped e σs vs
      ScopedItem (field name x e) σs vs = Scoped e σs vs
      ScopedItem (result_ e) σs vs = Scoped e σs vs

      -- the last: the instance that the arguments before give
      pub ScopedArgs : Args → Instance → List ℕ → Instance → Type 0
      ScopedArgs no_args σs vs τs = Unit {0}
      ScopedArgs (by_value x e args) σs vs τs = Scoped e σs vs × ScopedArgs args σs vs τs
      ScopedArgs (by_grammar x site e args) σs vs τs =
          Scoped e (used_at site σs) site.values × AllIn site.values vs × NeededArgument site e (used_at site σs) × FreshGrammar x τs
          × ScopedArgs args σs vs (grammar_at x (argument_shape site e (used_at site σs)) τs)
      ScopedArgs (by_class x c args) σs vs τs =
          ClassesGiven c σs × IsSome (class_set spec c (static_env σs)) × FreshClass x τs
          × ScopedArgs args σs vs (with_set (class_set spec c (static_env σs)) x τs)
      ScopedArgs (by_type x t args) σs vs τs = TypesGiven t σs × FreshType x τs × ScopedArgs args σs vs (type_at x (closed_in σs t) τs)
      ScopedArgs (by_hand there here args) σs vs τs = ⊥
