-- Instances whose types are without variables and whose shapes name copies that are needed.
use Rattle.std.proofs.Common.{◌≡◌, ℕ, zero, suc, Bool, true, false, if◌then◌else◌, ◌==◌, ◌<◌, List, [], ◌∷◌, ◌++◌, map, Option, Some, None, refl, ap, subst}
use Rattle.std.proofs.Common.{sym, ◌∙◌, arith, rules}
use Rattle.ddl_base.specs.declared.span.Span.{Span}
use Rattle.ddl_tree.specs.declared.kind.Kind.{Kind}
use Rattle.ddl_tree.specs.declared.kind.Kind.TheVariants.{Grammar, Value, Class, Bits}
use Rattle.ddl_types.specs.Types.{Ty, Tys, var, con, none, on_all}
use Rattle.ddl_types.specs.Types as t
use Rattle.ddl_ops.specs.ByteSets.{Set}
use Rattle.ddl_typed.specs.Tree.{Name, own, under, Site, Expr, Args, expr, call, parameter, no_args, by_value, by_grammar, by_class, by_type, by_hand}
use Rattle.ddl_typed.specs.Tree as tree
use Rattle.ddl_typed.specs.Specification.{Specification, spec_of}
use Rattle.ddl_typed.specs.Env.{type_in}
use Rattle.ddl_typed.specs.Classes.{class_set}
use Rattle.ddl_mono.specs.Copies.{Scope, names_before}
use Rattle.ddl_mono.specs.IsMono.{IsClosed, AreClosed, arg_scope}
use Rattle.ddl_copies.specs.Shapes.{Shape, Instance, Origin, at_name, at_place, no_parameters, grammar_at, class_at, type_at, member, argument, shape_of}
use Rattle.ddl_copies.specs.Shapes.{static_env, closed_in, has, used_at, captured, types_alone, type_instance, shape_or, argument_shape, with_set}
use Rattle.ddl_copies.specs.Shapes.{call_instance, unit_types}
use Rattle.ddl_copies.specs.Copied.{hands_on, name_here, copied_args}
use Rattle.ddl_copies.specs.Scoped.{IsSome, Unless, NeededArgument, Scoped, ScopedArgs}
use Rattle.ddl_copies.specs.Kinds.{declared_at, is_value_in, kinds_at, ValueForm, GrammarForm, Arguments}
use Rattle.ddl_copies.specs.Specialised.{parameter_names}
use Rattle.ddl_copies.proofs.Fitting.{only_shapes}
use Rattle.ddl_copies.proofs.Names.{equal_self}

-- ---- names in front of others

names_append : (ns ms : List Name) (os : Scope) → names_before (ns ++ ms) os ≡ names_before ms (names_before ns os)
names_append [] ms os = refl
names_append (n ∷ ns) ms os = names_append ns ms (Some n ∷ os)

pub hands_scope : (there here : Name → Name) (ns : List Name) (rest : Args) (os : Scope)
    → arg_scope (hands_on there here ns rest) os ≡ arg_scope rest (names_before (map there ns) os)
hands_scope there here [] rest os = refl
hands_scope there here (n ∷ ns) rest os = hands_scope there here ns rest (Some (there n) ∷ os)

pub same_names : (ns : List Name) → map (λ n. n) ns ≡ ns
same_names [] = refl
same_names (n ∷ ns) = ap (λ ms. n ∷ ms) (same_names ns)

module _ (s : Specification) where
  abbrev pub V : ℕ → Bool
  V f = is_value_in (declared_at s f)

  abbrev pub K : ℕ → List Kind
  K f = kinds_at (declared_at s f)

  -- ---- arguments and the parameters that they are for

  pub record Rest (x i : ℕ) (kind : Kind) (Form : Type 0) (args : Args) (ks : List Kind) : Type 0 where
    pub rest : List Kind
    pub is : ks ≡ kind ∷ rest
    pub same : x ≡ i
    pub of : Form
    pub more : Arguments V K args (suc i) rest

  pub value_rest : (x : ℕ) (e : Expr) (args : Args) (i : ℕ) (ks : List Kind) → Arguments V K (by_value x e args) i ks → Rest x i Value (ValueForm V K e) args ks
  value_rest x e args i [] a = absurd a
  value_rest x e args i (Value ∷ ks) (same, of, more) = record { rest = ks; is = refl; same = same; of = of; more = more }
  value_rest x e args i (Grammar ∷ ks) a = absurd a
  value_rest x e args i (Class ∷ ks) a = absurd a
  value_rest x e args i (Bits ∷ ks) a = absurd a

  pub grammar_rest : (x : ℕ) (site : Site) (e : Expr) (args : Args) (i : ℕ) (ks : List Kind) → Arguments V K (by_grammar x site e args) i ks →
      Rest x i Grammar (GrammarForm V K e) args ks
  grammar_rest x site e args i [] a = absurd a
  grammar_rest x site e args i (Grammar ∷ ks) (same, of, more) = record { rest = ks; is = refl; same = same; of = of; more = more }
  grammar_rest x site e args i (Value ∷ ks) a = absurd a
  grammar_rest x site e args i (Class ∷ ks) a = absurd a
  grammar_rest x site e args i (Bits ∷ ks) a = absurd a

  pub class_rest : (x : ℕ) (c : tree.Class) (args : Args) (i : ℕ) (ks : List Kind) → Arguments V K (by_class x c args) i ks → Rest x i Class (Unit {0}) args ks
  class_rest x c args i [] a = absurd a
  class_rest x c args i (Class ∷ ks) (same, more) = record { rest = ks; is = refl; same = same; of = tt; more = more }
  class_rest x c args i (Value ∷ ks) a = absurd a
  class_rest x c args i (Grammar ∷ ks) a = absurd a
  class_rest x c args i (Bits ∷ ks) a = absurd a

  -- types alone are for no parameter
  no_kinds : (args : Args) (i : ℕ) (ks : List Kind) → types_alone args ≡ true → Arguments V K args i ks → ks ≡ []
  no_kinds no_args i [] only a = refl
  no_kinds no_args i (k ∷ ks) only a = absurd a
  no_kinds (by_value x e args) i ks only a = absurd (search (rules, only))
  no_kinds (by_grammar x site e args) i ks only a = absurd (search (rules, only))
  no_kinds (by_class x c args) i ks only a = absurd (search (rules, only))
  no_kinds (by_type x ty args) i ks only a = no_kinds args i ks only a
  no_kinds (by_hand there here args) i ks only a = absurd (search (rules, only))

  -- ---- the names of a member are those of the arguments that it is called with

  set_shape : (o : Option Set) (x : ℕ) (τs : Instance) (i : ℕ) → shape_of (with_set o x τs) i ≡ shape_of τs i
  set_shape None x τs i = refl
  set_shape (Some set) x τs i = refl

  differs : (x i j : ℕ) → x ≡ j → i < j → (x == i) ≡ false
  differs x i j same lt = grind (arith, same, lt)

  keeps_shape : (args : Args) (i j : ℕ) (ks : List Kind) (σs τs : Instance) → Arguments V K args j ks → i < j
      → shape_of (call_instance (spec_of s) args σs τs) i ≡ shape_of τs i
  keeps_shape no_args i j ks σs τs a lt = refl
  keeps_shape (by_value x e args) i j ks σs τs a lt = let r = value_rest x e args j ks a in keeps_shape args i (suc j) r.rest σs τs r.more (omega (arith, lt))
  keeps_shape (by_grammar x site e args) i j ks σs τs a lt =
      let r = grammar_rest x site e args j ks a in
      keeps_shape args i (suc j) r.rest σs (grammar_at x (argument_shape site e (used_at site σs)) τs) r.more (omega (arith, lt))
      ∙ (rw (differs x i j r.same lt) refl)
  keeps_shape (by_class x c args) i j ks σs τs a lt =
      let r = class_rest x c args j ks a in
      keeps_shape args i (suc j) r.rest σs (with_set (class_set (spec_of s) c (static_env σs)) x τs) r.more (omega (arith, lt))
      ∙ set_shape (class_set (spec_of s) c (static_env σs)) x τs i
  keeps_shape (by_type x ty args) i j ks σs τs a lt = keeps_shape args i j ks σs (type_at x (closed_in σs ty) τs) a lt
  keeps_shape (by_hand there here args) i j ks σs τs a lt = absurd a

  pub argument_names : (number : Origin → ℕ) (args : Args) (i : ℕ) (ks : List Kind) (σs τs : Instance) (os : Scope) → Arguments V K args i ks →
      names_before (parameter_names i ks (call_instance (spec_of s) args σs τs)) os ≡ arg_scope (copied_args (spec_of s) number args σs) os
  argument_names number no_args i [] σs τs os a = refl
  argument_names number no_args i (k ∷ ks) σs τs os a = absurd a
  argument_names number (by_value x e args) i ks σs τs os a =
      let r = value_rest x e args i ks a in
      let υ = call_instance (spec_of s) args σs τs in
      ap (λ z. names_before (parameter_names i z υ) os) r.is ∙ argument_names number args (suc i) r.rest σs τs (Some (own i) ∷ os) r.more
      ∙ ap (λ y. arg_scope (copied_args (spec_of s) number args σs) (Some (own y) ∷ os)) (sym r.same)
  argument_names number (by_grammar x site e args) i ks σs τs os a =
      let r = grammar_rest x site e args i ks a in
      let σ = argument_shape site e (used_at site σs) in
      let υ = call_instance (spec_of s) args σs (grammar_at x σ τs) in
      let found : shape_of υ i ≡ Some σ =
      keeps_shape args i (suc i) r.rest σs (grammar_at x σ τs) r.more (omega arith)
      ∙ subst (λ y. shape_of (grammar_at x σ τs) y ≡ Some σ) r.same (rw (equal_self x) refl) in
      ap (λ z. names_before (parameter_names i z υ) os) r.is
      ∙ names_append (map (under i) (captured (shape_or (shape_of υ i)))) (parameter_names (suc i) r.rest υ) os
      ∙ ap (λ o. names_before (parameter_names (suc i) r.rest υ) (names_before (map (under i) (captured (shape_or o))) os)) found
      ∙ ap (λ y. names_before (parameter_names (suc i) r.rest υ) (names_before (map (under y) (captured σ)) os)) (sym r.same)
      ∙ argument_names number args (suc i) r.rest σs (grammar_at x σ τs) (names_before (map (under x) (captured σ)) os) r.more
      ∙ sym (hands_scope (under x) (name_here e) (captured σ) (copied_args (spec_of s) number args σs) os)
  argument_names number (by_class x c args) i ks σs τs os a =
      let r = class_rest x c args i ks a in
      let τ = with_set (class_set (spec_of s) c (static_env σs)) x τs in
      ap (λ z. names_before (parameter_names i z (call_instance (spec_of s) args σs τ)) os) r.is ∙ argument_names number args (suc i) r.rest σs τ os r.more
  argument_names number (by_type x ty args) i ks σs τs os a = argument_names number args i ks σs (type_at x (closed_in σs ty) τs) os a
  argument_names number (by_hand there here args) i ks σs τs os a = absurd a

  -- ---- instances

  module _ (N : Origin → Type 0) where
    -- the shape's copy is needed, and is that of a grammar without parameters but those that it captures
    abbrev pub FineShape : Shape → Type 0
    FineShape (at_name f τs) = N (member f τs) × (V f ≡ false) × (K f ≡ [])
    FineShape (at_place site e τs) = N (argument site e τs)

    abbrev pub Fine : Instance → Type 0
    Fine no_parameters = Unit {0}
    Fine (grammar_at g σ τs) = FineShape σ × Fine τs
    Fine (class_at x set τs) = Fine τs
    Fine (type_at j ty τs) = IsClosed ty × Fine τs

    fine_type : (σs : Instance) (i : ℕ) → Fine σs → IsClosed (type_in (static_env σs) i)
    fine_type no_parameters i f = tt
    fine_type (grammar_at g σ τs) i (h, f) = fine_type τs i f
    fine_type (class_at x set τs) i f = fine_type τs i f
    fine_type (type_at j ty τs) i (k, f) = either (j == i) (fine_type τs i f)
      where
        either : (b : Bool) → IsClosed (type_in (static_env τs) i) → IsClosed (if b then ty else type_in (static_env τs) i)
        either true r = k
        either false r = r

    mutual
      pub fine_closed : (ty : Ty) (σs : Instance) → Fine σs → IsClosed (closed_in σs ty)
      fine_closed (var i) σs f = fine_type σs i f
      fine_closed (con h ts) σs f = fine_all ts σs f

      fine_all : (ts : Tys) (σs : Instance) → Fine σs → AreClosed (on_all ts (type_in (static_env σs)))
      fine_all none σs f = tt
      fine_all (t.more ty ts) σs f = (fine_closed ty σs f, fine_all ts σs f)

    pub fine_used : (site : Site) (σs : Instance) → Fine σs → Fine (used_at site σs)
    fine_used site no_parameters f = tt
    fine_used site (grammar_at h σ τs) (k, f) = kept (has h site.grammars) (fine_used site τs f)
      where
        kept : (b : Bool) → Fine (used_at site τs) → Fine (if b then grammar_at h σ (used_at site τs) else used_at site τs)
        kept true r = (k, r)
        kept false r = r
    fine_used site (class_at x set τs) f = kept (has x site.classes) (fine_used site τs f)
      where
        kept : (b : Bool) → Fine (used_at site τs) → Fine (if b then class_at x set (used_at site τs) else used_at site τs)
        kept true r = r
        kept false r = r
    fine_used site (type_at j ty τs) (k, f) = kept (has j site.types) (fine_used site τs f)
      where
        kept : (b : Bool) → Fine (used_at site τs) → Fine (if b then type_at j ty (used_at site τs) else used_at site τs)
        kept true r = (k, r)
        kept false r = r

    pub fine_found : (σs : Instance) (g : ℕ) → Fine σs → IsSome (shape_of σs g) → FineShape (shape_or (shape_of σs g))
    fine_found no_parameters g f i = absurd i
    fine_found (grammar_at h σ τs) g (k, f) i = found (h == g) i (λ j. fine_found τs g f j)
      where
        found : (b : Bool) → IsSome (if b then Some σ else shape_of τs g) → (IsSome (shape_of τs g) → FineShape (shape_or (shape_of τs g))) →
            FineShape (shape_or (if b then Some σ else shape_of τs g))
        found true i r = k
        found false i r = r i
    fine_found (class_at x set τs) g f i = fine_found τs g f i
    fine_found (type_at j ty τs) g (k, f) i = fine_found τs g f i

    pub fine_units : (n : ℕ) → Fine (unit_types n)
    fine_units zero = tt
    fine_units (suc n) = (tt, fine_units n)

    module _ (params : ℕ → List ℕ) where
      fine_call_shape : (b : Bool) (site : Site) (f : ℕ) (args : Args) (ty : Ty) (span : Span) (τs : Instance) → types_alone args ≡ b →
          Unless b (N (argument site (expr (call f args) ty span) τs)) → N (member f (call_instance (spec_of s) args τs no_parameters)) → V f ≡ false
          → Arguments V K args 0 (K f) →
          FineShape (if b then at_name f (type_instance args τs no_parameters) else at_place site (expr (call f args) ty span) τs)
      fine_call_shape true site f args ty span τs only needed there v a =
          (subst (λ z. N (member f z)) (only_shapes (spec_of s) params N args τs no_parameters only) there, v, no_kinds args 0 (K f) only a)
      fine_call_shape false site f args ty span τs only needed there v a = needed

      pub fine_argument : (site : Site) (e : Expr) (τs : Instance) (vs : List ℕ) → Scoped (spec_of s) params N e τs vs
          → NeededArgument (spec_of s) params N site e τs →
          GrammarForm V K e → Fine τs → FineShape (argument_shape site e τs)
      fine_argument site (expr (parameter g) ty span) τs vs scoped needed kinded f = fine_found τs g f scoped
      fine_argument site (expr (call g args) ty span) τs vs (scoped, takes, there) needed (v, a) f =
          fine_call_shape (types_alone args) site g args ty span τs refl needed there v a
      fine_argument site e τs vs scoped needed kinded f = needed

      fine_set : (o : Option Set) (x : ℕ) (τs : Instance) → Fine τs → Fine (with_set o x τs)
      fine_set None x τs f = f
      fine_set (Some set) x τs f = f

      pub fine_call : (args : Args) (i : ℕ) (ks : List Kind) (σs : Instance) (vs : List ℕ) (τs : Instance) → ScopedArgs (spec_of s) params N args σs vs τs
          → Arguments V K args i ks →
          Fine σs → Fine τs → Fine (call_instance (spec_of s) args σs τs)
      fine_call no_args i ks σs vs τs scoped a f g = g
      fine_call (by_value x e args) i ks σs vs τs (one, rest) a f g = let r =
          value_rest x e args i ks a in fine_call args (suc i) r.rest σs vs τs rest r.more f g
      fine_call (by_grammar x site e args) i ks σs vs τs (one, every, needed, fresh, rest) a f g =
          let r = grammar_rest x site e args i ks a in
          let τ = used_at site σs in
          fine_call args (suc i) r.rest σs vs (grammar_at x (argument_shape site e τ) τs) rest r.more f
          (fine_argument site e τ site.values one needed r.of (fine_used site σs f), g)
      fine_call (by_class x c args) i ks σs vs τs (inside, some, fresh, rest) a f g =
          let r = class_rest x c args i ks a in
          fine_call args (suc i) r.rest σs vs (with_set (class_set (spec_of s) c (static_env σs)) x τs) rest r.more f
          (fine_set (class_set (spec_of s) c (static_env σs)) x τs g)
      fine_call (by_type x ty args) i ks σs vs τs (inside, fresh, rest) a f g =
          fine_call args i ks σs vs (type_at x (closed_in σs ty) τs) rest a f (fine_closed ty σs f, g)
      fine_call (by_hand there here args) i ks σs vs τs scoped a f g = absurd a
