-- What a form of a specialised specification is: each form is of its kind, and no grammar, class or type is a parameter.
use Rattle.std.specs.Prelude.{◌≡◌, ℕ, Bool, true, false, List, [], ◌∷◌, length, Some}
use Rattle.ddl_types.specs.Types.{Ty, Tys, var, con, none}
use Rattle.ddl_types.specs.Types as t
use Rattle.ddl_typed.specs.Tree.{own, Class, range, or_, not_, declared, class_parameter, those, Expr, Form, Exprs, Named, Cases, Bounds, Alts, Args, Items}
use Rattle.ddl_typed.specs.Tree.{Spec, expr, text, local, literal, truth, nothing_, just_, list, record_, union_, select, infix_, prefix_, cast, builtin}
use Rattle.ddl_typed.specs.Tree.{value_call, paren, if_, case_, for_, map_, pure, uint8, match, end, class, fail, primitive, is_, fits, block, first, choose}
use Rattle.ddl_typed.specs.Tree.{many, optional, call, no_exprs, more, no_named, named, no_content, content, no_cases, when, unbounded, exactly, from_, up_to}
use Rattle.ddl_typed.specs.Tree.{between, no_alts, alt, tag, no_args, by_value, by_grammar, by_class, by_type, by_hand, no_items, item, plain, let_, field}
use Rattle.ddl_typed.specs.Tree.{result_}
use Rattle.ddl_typed.specs.Meaning.{form_at}
use Rattle.ddl_mono.specs.Copies.{Copy, Mono, Scope, copy_at, params_of, is_value, spec_of}

-- the names of a call's arguments, the last one first
abbrev pub arg_scope : Args → Scope → Scope
arg_scope no_args os = os
arg_scope (by_value x e args) os = arg_scope args (Some (own x) ∷ os)
arg_scope (by_grammar x site e args) os = arg_scope args os
arg_scope (by_class x k args) os = arg_scope args os
arg_scope (by_type x ty args) os = arg_scope args os
arg_scope (by_hand there here args) os = arg_scope args (Some there ∷ os)

-- a class is the set of its bytes
abbrev pub IsThose : Class → Type 0
IsThose (range from to) = ⊥
IsThose (or_ k d) = ⊥
IsThose (not_ k) = ⊥
IsThose (declared f) = ⊥
IsThose (class_parameter x) = ⊥
IsThose (those test) = Unit {0}

-- types without variables
abbrev mutual
  pub IsClosed : Ty → Type 0
  IsClosed (var i) = ⊥
  IsClosed (con h ts) = AreClosed ts

  pub AreClosed : Tys → Type 0
  AreClosed none = Unit {0}
  AreClosed (t.more ty ts) = IsClosed ty × AreClosed ts

module _ (spec : Spec) (params : ℕ → Scope) (is_value : ℕ → Bool) where
  -- a call names a copy of its kind, with exactly its parameters in order
  pub record Calls (f : ℕ) (kind : Bool) (os : Scope) : Type 0 where
    pub body : Expr
    pub is : form_at spec.decls f ≡ Some body
    pub kind_is : is_value f ≡ kind
    pub names : params f ≡ os

  -- a value form: a number and a cast are at a type without variables
  abbrev mutual
    pub IsValue : Expr → Type 0
    IsValue (expr form ty span) = IsValueForm form ty

    pub IsValueForm : Form → Ty → Type 0
    IsValueForm (text bs) ty = Unit {0}
    IsValueForm (local x) ty = Unit {0}
    IsValueForm (literal n) ty = IsClosed ty
    IsValueForm (truth b) ty = Unit {0}
    IsValueForm nothing_ ty = Unit {0}
    IsValueForm (just_ e) ty = IsValue e
    IsValueForm (union_ name no_content) ty = Unit {0}
    IsValueForm (union_ name (content e)) ty = IsValue e
    IsValueForm (record_ ns) ty = AreFields ns
    IsValueForm (list es) ty = AreValues es
    IsValueForm (builtin b es) ty = AreValues es
    IsValueForm (cast q e) ty = IsClosed ty × IsValue e
    IsValueForm (select e name) ty = IsValue e
    IsValueForm (infix_ op a b) ty = IsValue a × IsValue b
    IsValueForm (prefix_ op e) ty = IsValue e
    IsValueForm (value_call f args) ty = AreArguments args × Calls f true (arg_scope args [])
    IsValueForm (paren e) ty = IsValue e
    IsValueForm (if_ e a b) ty = IsValue e × IsValue a × IsValue b
    IsValueForm (case_ e cs) ty = IsValue e × AreValueCases cs
    IsValueForm (for_ x start names e body) ty = IsValue start × IsValue e × IsValue body
    IsValueForm (map_ names e body) ty = IsValue e × IsValue body
    IsValueForm form ty = ⊥

    pub AreArguments : Args → Type 0
    AreArguments no_args = Unit {0}
    AreArguments (by_value x e args) = IsValue e × AreArguments args
    AreArguments (by_hand there here args) = AreArguments args
    AreArguments args = ⊥

    pub AreFields : Named → Type 0
    AreFields no_named = Unit {0}
    AreFields (named name e ns) = IsValue e × AreFields ns

    pub AreValues : Exprs → Type 0
    AreValues no_exprs = Unit {0}
    AreValues (more e es) = IsValue e × AreValues es

    pub AreValueCases : Cases → Type 0
    AreValueCases no_cases = Unit {0}
    AreValueCases (when q e cs) = IsValue e × AreValueCases cs

  -- bounds are values
  abbrev pub AreBounds : Bounds → Type 0
  AreBounds unbounded = Unit {0}
  AreBounds (exactly a) = IsValue a
  AreBounds (from_ a) = IsValue a
  AreBounds (up_to b) = IsValue b
  AreBounds (between a b) = IsValue a × IsValue b

  -- a grammar form: a class is a set of bytes, `as?` is at a type without variables
  abbrev mutual
    pub IsGrammar : Expr → Type 0
    IsGrammar (expr form ty span) = IsGrammarForm form ty

    pub IsGrammarForm : Form → Ty → Type 0
    IsGrammarForm (text bs) ty = Unit {0}
    IsGrammarForm (pure e) ty = IsValue e
    IsGrammarForm uint8 ty = Unit {0}
    IsGrammarForm (match e) ty = IsValue e
    IsGrammarForm end ty = Unit {0}
    IsGrammarForm (class (those test)) ty = Unit {0}
    IsGrammarForm (fail n) ty = Unit {0}
    IsGrammarForm (is_ e q) ty = IsValue e
    IsGrammarForm (primitive q es) ty = AreValues es
    IsGrammarForm (fits e) ty = IsClosed ty × IsValue e
    IsGrammarForm (paren e) ty = IsGrammar e
    IsGrammarForm (block is) ty = AreItems is
    IsGrammarForm (first as_) ty = AreAlternatives as_
    IsGrammarForm (choose as_) ty = AreAlternatives as_
    IsGrammarForm (many k b e) ty = AreBounds b × IsGrammar e
    IsGrammarForm (optional k e) ty = IsGrammar e
    IsGrammarForm (if_ e a b) ty = IsValue e × IsGrammar a × IsGrammar b
    IsGrammarForm (case_ e cs) ty = IsValue e × AreGrammarCases cs
    IsGrammarForm (call f args) ty = AreArguments args × Calls f false (arg_scope args [])
    IsGrammarForm (for_ x start names e body) ty = IsValue start × IsValue e × IsGrammar body
    IsGrammarForm (map_ names e body) ty = IsValue e × IsGrammar body
    IsGrammarForm form ty = ⊥

    pub AreGrammarCases : Cases → Type 0
    AreGrammarCases no_cases = Unit {0}
    AreGrammarCases (when q e cs) = IsGrammar e × AreGrammarCases cs

    pub AreAlternatives : Alts → Type 0
    AreAlternatives no_alts = Unit {0}
    AreAlternatives (alt e as_) = IsGrammar e × AreAlternatives as_
    AreAlternatives (tag name e as_) = IsGrammar e × AreAlternatives as_

    pub AreItems : Items → Type 0
    AreItems no_items = Unit {0}
    AreItems (item (plain e) is) = IsGrammar e × AreItems is
    AreItems (item (let_ x e) is) = IsGrammar e × AreItems is
    AreItems (item (field name x e) is) = IsGrammar e × AreItems is
    AreItems (item (result_ e) is) = IsGrammar e × AreItems is

-- types are without variables
abbrev pub AllClosed : List Ty → Type 0
AllClosed [] = Unit {0}
AllClosed (ty ∷ tys) = IsClosed ty × AllClosed tys

-- a specialised specification: each copy is a value form or a grammar form by its kind, with a name for each parameter and no
-- variable in a type, and the one that is run is a grammar without parameters
pub record IsMono (m : Mono) : Type 0 where
  pub values : (f : ℕ) (e : Expr) → form_at (spec_of m).decls f ≡ Some e → is_value m f ≡ true → IsValue (spec_of m) (params_of m) (is_value m) e
  pub grammars : (f : ℕ) (e : Expr) → form_at (spec_of m).decls f ≡ Some e → is_value m f ≡ false → IsGrammar (spec_of m) (params_of m) (is_value m) e
  pub types : (f : ℕ) (c : Copy) → copy_at m.copies f ≡ Some c → AllClosed c.params × IsClosed c.result × (length c.names ≡ length c.params)
  pub entry : Calls (spec_of m) (params_of m) (is_value m) m.entry false []
