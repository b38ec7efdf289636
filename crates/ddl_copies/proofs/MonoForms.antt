-- The text of a copy is a form of a specialised specification.
use Rattle.std.proofs.Common.{◌≡◌, ℕ, Bool, true, false, List, [], ◌∷◌, Option, Some, None, ap, subst, sym, ◌∙◌}
use Rattle.ddl_types.specs.Types.{Ty}
use Rattle.ddl_ops.specs.ByteSets.{Set}
use Rattle.ddl_tree.specs.declared.kind.Kind.{Kind}
use Rattle.ddl_typed.specs.Tree.{Name, under, Class, Site, Expr, Form, Exprs, Named, Cases, Bounds, Alts, Args, Items, Spec, expr, text, local}
use Rattle.ddl_typed.specs.Tree.{literal, truth, nothing_, just_, list, record_, union_, select, infix_, prefix_, cast, builtin, value_call, paren, if_, case_}
use Rattle.ddl_typed.specs.Tree.{for_, map_, pure, uint8, match, end, class, fail, primitive, is_, fits, block, first, choose, many, optional, call, parameter}
use Rattle.ddl_typed.specs.Tree.{no_exprs, more, no_named, named, no_content, content, no_cases, when, unbounded, exactly, from_, up_to, between, no_alts, alt}
use Rattle.ddl_typed.specs.Tree.{tag, no_args, by_value, by_grammar, by_class, by_type, by_hand, no_items, item, plain, let_, field, result_}
use Rattle.ddl_typed.specs.Specification.{Specification, spec_of}
use Rattle.ddl_typed.specs.Classes.{class_set}
use Rattle.ddl_mono.specs.Copies as mono
use Rattle.ddl_mono.specs.Copies.{Copy, Mono, Scope, copy_at, names_before, scope_of, params_of, is_value_kind, is_value_copy, is_value}
use Rattle.ddl_mono.specs.IsMono.{arg_scope, Calls, IsValue, IsValueForm, AreArguments, AreFields, AreValues, AreValueCases, AreBounds, IsGrammar}
use Rattle.ddl_mono.specs.IsMono.{IsGrammarForm, AreGrammarCases, AreAlternatives, AreItems}
use Rattle.ddl_copies.specs.Shapes.{Shape, Instance, Origin, at_name, at_place, no_parameters, member, argument, origin_of, shape_of, static_env, closed_in}
use Rattle.ddl_copies.specs.Shapes.{used_at, captured, shape_or, argument_shape, call_instance}
use Rattle.ddl_copies.specs.Copied.{name_here, hands_on, set_or, parameter_call, copied, copied_form, copied_exprs, copied_named, copied_cases}
use Rattle.ddl_copies.specs.Copied.{copied_bounds, copied_alts, copied_items, copied_args}
use Rattle.ddl_copies.specs.Scoped.{IsSome, Scoped, ScopedForm, ScopedExprs, ScopedNamed, ScopedCases, ScopedBounds, ScopedAlts, ScopedItems}
use Rattle.ddl_copies.specs.Scoped.{ScopedArgs}
use Rattle.ddl_copies.specs.Kinds.{is_value_in, kinds_at, ValueForm, IsOfValue, ValueForms, ValueFields, ValueCases, ValueBounds}
use Rattle.ddl_copies.specs.Kinds.{GrammarForm, IsOfGrammar, GrammarCases, GrammarAlternatives, GrammarItems, Arguments}
use Rattle.ddl_copies.specs.Specialised.{parameter_names}
use Rattle.ddl_copies.proofs.AllMet.{Stands, copy_form}
use Rattle.ddl_copies.proofs.Fine.{V, K, value_rest, grammar_rest, class_rest, hands_scope, same_names, argument_names, FineShape, Fine, fine_closed}
use Rattle.ddl_copies.proofs.Fine.{fine_found}

module _ (s : Specification) (params : ℕ → List ℕ) (N : Origin → Type 0) (number : Origin → ℕ) (m : Mono) (copies : (o : Origin) → N o
    → Stands s number o (copy_at m.copies (number o))) where
  abbrev spec : Spec
  spec = spec_of s

  abbrev made : Spec
  made = mono.spec_of m

  abbrev Called : ℕ → Bool → Scope → Type 0
  Called f kind os = Calls made (params_of m) (is_value m) f kind os

  -- ---- what a call names

  pub calls_member : (f : ℕ) (τs : Instance) (os : Scope) → N (member f τs) → names_before (parameter_names 0 (K s f) τs) [] ≡ os
      → Called (number (member f τs)) (V s f) os
  calls_member f τs os needed e =
      let h = copies (member f τs) needed in
      record {
        body = h.copy.body;
        is = copy_form m.copies (number (member f τs)) h.is;
        kind_is = ap is_value_copy h.is ∙ ap is_value_kind h.of.kind ∙ sym (ap is_value_in h.of.is);
        names = ap scope_of h.is ∙ ap (λ ns. names_before ns []) h.of.names ∙ ap (λ ks. names_before (parameter_names 0 ks τs) []) (sym (ap kinds_at h.of.is))
            ∙ e;
      }

  calls_argument : (site : Site) (e : Expr) (τs : Instance) → N (argument site e τs)
      → Called (number (argument site e τs)) false (names_before (captured (at_place site e τs)) [])
  calls_argument site e τs needed =
      let h = copies (argument site e τs) needed in
      record {
        body = h.copy.body;
        is = copy_form m.copies (number (argument site e τs)) h.is;
        kind_is = ap is_value_copy h.is ∙ ap is_value_kind h.of.kind;
        names = ap scope_of h.is ∙ ap (λ ns. names_before ns []) h.of.names;
      }

  calls_shape : (σ : Shape) → FineShape s N σ → Called (number (origin_of σ)) false (names_before (captured σ) [])
  calls_shape (at_name f τs) (needed, v, k) =
      subst (λ b. Called (number (member f τs)) b []) v (calls_member f τs [] needed (ap (λ ks. names_before (parameter_names 0 ks τs) []) k))
  calls_shape (at_place site e τs) needed = calls_argument site e τs needed

  calls_with : (f : ℕ) (args : Args) (σs : Instance) (kind : Bool) → N (member f (call_instance spec args σs no_parameters)) → V s f ≡ kind
      → Arguments (V s) (K s) args 0 (K s f) →
      Called (number (member f (call_instance spec args σs no_parameters))) kind (arg_scope (copied_args spec number args σs) [])
  calls_with f args σs kind needed v a =
      let υ = call_instance spec args σs no_parameters in
      subst (λ b. Called (number (member f υ)) b (arg_scope (copied_args spec number args σs) [])) v
      (calls_member f υ (arg_scope (copied_args spec number args σs) []) needed (argument_names s number args 0 (K s f) σs no_parameters [] a))

  hands_are : (there here : Name → Name) (ns : List Name) (rest : Args) → AreArguments made (params_of m) (is_value m) rest →
      AreArguments made (params_of m) (is_value m) (hands_on there here ns rest)
  hands_are there here [] rest a = a
  hands_are there here (n ∷ ns) rest a = hands_are there here ns rest a

  -- ---- a grammar parameter and a class

  call_mono : (g : ℕ) (ty : Ty) (σs : Instance) → Fine s N σs → IsSome (shape_of σs g)
      → IsGrammarForm made (params_of m) (is_value m) (parameter_call spec number g (shape_of σs g)) ty
  call_mono g ty σs f some = found (shape_of σs g) some (fine_found s N σs g f some)
    where
      found : (o : Option Shape) → IsSome o → FineShape s N (shape_or o) → IsGrammarForm made (params_of m) (is_value m) (parameter_call spec number g o) ty
      found None some k = absurd some
      found (Some σ) some k = (
        hands_are (λ n. n) (under g) (captured σ) no_args tt,
        subst (λ os. Called (number (origin_of σ)) false os)
            (sym (hands_scope (λ n. n) (under g) (captured σ) no_args [] ∙ ap (λ ns. names_before ns []) (same_names (captured σ)))) (calls_shape σ k),
      )

  class_mono : (o : Option Set) (c : Class) (ty : Ty) → IsSome o → IsGrammarForm made (params_of m) (is_value m) (class (set_or o c)) ty
  class_mono None c ty some = absurd some
  class_mono (Some set) c ty some = tt

  mutual
    pub value_mono : (e : Expr) (σs : Instance) (vs : List ℕ) → Scoped spec params N e σs vs → ValueForm (V s) (K s) e → Fine s N σs
        → IsValue made (params_of m) (is_value m) (copied spec number e σs)
    value_mono (expr form ty span) σs vs g k f = value_form form ty σs vs g k f

    value_form : (form : Form) (ty : Ty) (σs : Instance) (vs : List ℕ) → ScopedForm spec params N form ty σs vs → IsOfValue (V s) (K s) form → Fine s N σs →
        IsValueForm made (params_of m) (is_value m) (copied_form spec number form σs) (closed_in σs ty)
    value_form (text bs) ty σs vs g k f = tt
    value_form (local x) ty σs vs g k f = tt
    value_form (literal n) ty σs vs g k f = fine_closed s N ty σs f
    value_form (truth b) ty σs vs g k f = tt
    value_form nothing_ ty σs vs g k f = tt
    value_form (just_ e) ty σs vs g k f = value_mono e σs vs g k f
    value_form (union_ name no_content) ty σs vs g k f = tt
    value_form (union_ name (content e)) ty σs vs g k f = value_mono e σs vs g k f
    value_form (record_ ns) ty σs vs g k f = fields_mono ns σs vs g k f
    value_form (list es) ty σs vs g k f = values_mono es σs vs g k f
    value_form (builtin b es) ty σs vs g k f = values_mono es σs vs g k f
    value_form (cast q e) ty σs vs (t, g) k f = (fine_closed s N ty σs f, value_mono e σs vs g k f)
    value_form (select e name) ty σs vs g k f = value_mono e σs vs g k f
    value_form (infix_ op a b) ty σs vs (g, h) (k, l) f = (value_mono a σs vs g k f, value_mono b σs vs h l f)
    value_form (prefix_ op e) ty σs vs g k f = value_mono e σs vs g k f
    value_form (value_call x args) ty σs vs (g, takes, needed) (v, a) f =
        (args_mono args 0 (K s x) σs vs no_parameters g a f, calls_with x args σs true needed v a)
    value_form (paren e) ty σs vs g k f = value_mono e σs vs g k f
    value_form (if_ e a b) ty σs vs (g, h, i) (k, l, n) f = (value_mono e σs vs g k f, value_mono a σs vs h l f, value_mono b σs vs i n f)
    value_form (case_ e cs) ty σs vs (g, h) (k, l) f = (value_mono e σs vs g k f, value_cases_mono cs σs vs h l f)
    value_form (for_ x start names e body) ty σs vs (g, h, i) (k, l, n) f = (value_mono start σs vs g k f, value_mono e σs vs h l f, value_mono body σs _ i n f)
    value_form (map_ names e body) ty σs vs (g, h) (k, l) f = (value_mono e σs vs g k f, value_mono body σs _ h l f)
    value_form _ ty σs vs g k f = absurd k

    values_mono : (es : Exprs) (σs : Instance) (vs : List ℕ) → ScopedExprs spec params N es σs vs → ValueForms (V s) (K s) es → Fine s N σs →
        AreValues made (params_of m) (is_value m) (copied_exprs spec number es σs)
    values_mono no_exprs σs vs g k f = tt
    values_mono (more e es) σs vs (g, h) (k, l) f = (value_mono e σs vs g k f, values_mono es σs vs h l f)

    fields_mono : (ns : Named) (σs : Instance) (vs : List ℕ) → ScopedNamed spec params N ns σs vs → ValueFields (V s) (K s) ns → Fine s N σs →
        AreFields made (params_of m) (is_value m) (copied_named spec number ns σs)
    fields_mono no_named σs vs g k f = tt
    fields_mono (named name e ns) σs vs (g, h) (k, l) f = (value_mono e σs vs g k f, fields_mono ns σs vs h l f)

    value_cases_mono : (cs : Cases) (σs : Instance) (vs : List ℕ) → ScopedCases spec params N cs σs vs → ValueCases (V s) (K s) cs → Fine s N σs →
        AreValueCases made (params_of m) (is_value m) (copied_cases spec number cs σs)
    value_cases_mono no_cases σs vs g k f = tt
    value_cases_mono (when p e cs) σs vs (g, h) (k, l) f = (value_mono e σs _ g k f, value_cases_mono cs σs vs h l f)

    args_mono : (args : Args) (i : ℕ) (ks : List Kind) (σs : Instance) (vs : List ℕ) (τs : Instance) → ScopedArgs spec params N args σs vs τs
        → Arguments (V s) (K s) args i ks →
        Fine s N σs → AreArguments made (params_of m) (is_value m) (copied_args spec number args σs)
    args_mono no_args i ks σs vs τs g a f = tt
    args_mono (by_value x e args) i ks σs vs τs (g, h) a f =
        let r = value_rest s x e args i ks a in
        (value_mono e σs vs g r.of f, args_mono args _ r.rest σs vs τs h r.more f)
    args_mono (by_grammar x site e args) i ks σs vs τs (g, every, needed, fresh, h) a f =
        let r = grammar_rest s x site e args i ks a in
        hands_are (under x) (name_here e) (captured (argument_shape site e (used_at site σs))) (copied_args spec number args σs)
        (args_mono args _ r.rest σs vs _ h r.more f)
    args_mono (by_class x c args) i ks σs vs τs (inside, some, fresh, h) a f = let r =
        class_rest s x c args i ks a in args_mono args _ r.rest σs vs _ h r.more f
    args_mono (by_type x t args) i ks σs vs τs (inside, fresh, h) a f = args_mono args i ks σs vs _ h a f
    args_mono (by_hand there here args) i ks σs vs τs g a f = absurd a

  bounds_mono : (b : Bounds) (σs : Instance) (vs : List ℕ) → ScopedBounds spec params N b σs vs → ValueBounds (V s) (K s) b → Fine s N σs →
      AreBounds made (params_of m) (is_value m) (copied_bounds spec number b σs)
  bounds_mono unbounded σs vs g k f = tt
  bounds_mono (exactly a) σs vs g k f = value_mono a σs vs g k f
  bounds_mono (from_ a) σs vs g k f = value_mono a σs vs g k f
  bounds_mono (up_to b) σs vs g k f = value_mono b σs vs g k f
  bounds_mono (between a b) σs vs (g, h) (k, l) f = (value_mono a σs vs g k f, value_mono b σs vs h l f)

  mutual
    pub grammar_mono : (e : Expr) (σs : Instance) (vs : List ℕ) → Scoped spec params N e σs vs → GrammarForm (V s) (K s) e → Fine s N σs →
        IsGrammar made (params_of m) (is_value m) (copied spec number e σs)
    grammar_mono (expr form ty span) σs vs g k f = grammar_form form ty σs vs g k f

    grammar_form : (form : Form) (ty : Ty) (σs : Instance) (vs : List ℕ) → ScopedForm spec params N form ty σs vs → IsOfGrammar (V s) (K s) form → Fine s N σs →
        IsGrammarForm made (params_of m) (is_value m) (copied_form spec number form σs) (closed_in σs ty)
    grammar_form (text bs) ty σs vs g k f = tt
    grammar_form (pure e) ty σs vs g k f = value_mono e σs vs g k f
    grammar_form uint8 ty σs vs g k f = tt
    grammar_form (match e) ty σs vs g k f = value_mono e σs vs g k f
    grammar_form end ty σs vs g k f = tt
    grammar_form (class c) ty σs vs (inside, some) k f = class_mono (class_set spec c (static_env σs)) c (closed_in σs ty) some
    grammar_form (fail n) ty σs vs g k f = tt
    grammar_form (is_ e p) ty σs vs g k f = value_mono e σs vs g k f
    grammar_form (primitive p es) ty σs vs g k f = values_mono es σs vs g k f
    grammar_form (fits e) ty σs vs (t, g) k f = (fine_closed s N ty σs f, value_mono e σs vs g k f)
    grammar_form (paren e) ty σs vs g k f = grammar_mono e σs vs g k f
    grammar_form (block is) ty σs vs g k f = items_mono is σs vs g k f
    grammar_form (first as_) ty σs vs g k f = alternatives_mono as_ σs vs g k f
    grammar_form (choose as_) ty σs vs g k f = alternatives_mono as_ σs vs g k f
    grammar_form (many q b e) ty σs vs (g, h) (k, l) f = (bounds_mono b σs vs g k f, grammar_mono e σs vs h l f)
    grammar_form (optional q e) ty σs vs g k f = grammar_mono e σs vs g k f
    grammar_form (if_ e a b) ty σs vs (g, h, i) (k, l, n) f = (value_mono e σs vs g k f, grammar_mono a σs vs h l f, grammar_mono b σs vs i n f)
    grammar_form (case_ e cs) ty σs vs (g, h) (k, l) f = (value_mono e σs vs g k f, grammar_cases_mono cs σs vs h l f)
    grammar_form (call x args) ty σs vs (g, takes, needed) (v, a) f =
        (args_mono args 0 (K s x) σs vs no_parameters g a f, calls_with x args σs false needed v a)
    grammar_form (for_ x start names e body) ty σs vs (g, h, i) (k, l, n) f =
        (value_mono start σs vs g k f, value_mono e σs vs h l f, grammar_mono body σs _ i n f)
    grammar_form (map_ names e body) ty σs vs (g, h) (k, l) f = (value_mono e σs vs g k f, grammar_mono body σs _ h l f)
    grammar_form (parameter x) ty σs vs g k f = call_mono x (closed_in σs ty) σs f g
    grammar_form _ ty σs vs g k f = absurd k

    grammar_cases_mono : (cs : Cases) (σs : Instance) (vs : List ℕ) → ScopedCases spec params N cs σs vs → GrammarCases (V s) (K s) cs → Fine s N σs →
        AreGrammarCases made (params_of m) (is_value m) (copied_cases spec number cs σs)
    grammar_cases_mono no_cases σs vs g k f = tt
    grammar_cases_mono (when p e cs) σs vs (g, h) (k, l) f = (grammar_mono e σs _ g k f, grammar_cases_mono cs σs vs h l f)

    alternatives_mono : (as_ : Alts) (σs : Instance) (vs : List ℕ) → ScopedAlts spec params N as_ σs vs → GrammarAlternatives (V s) (K s) as_ → Fine s N σs →
        AreAlternatives made (params_of m) (is_value m) (copied_alts spec number as_ σs)
    alternatives_mono no_alts σs vs g k f = tt
    alternatives_mono (alt e as_) σs vs (g, h) (k, l) f = (grammar_mono e σs vs g k f, alternatives_mono as_ σs vs h l f)
    alternatives_mono (tag name e as_) σs vs (g, h) (k, l) f = (grammar_mono e σs vs g k f, alternatives_mono as_ σs vs h l f)

    items_mono : (is : Items) (σs : Instance) (vs : List ℕ) → ScopedItems spec params N is σs vs → GrammarItems (V s) (K s) is → Fine s N σs →
        AreItems made (params_of m) (is_value m) (copied_items spec number is σs)
    items_mono no_items σs vs g k f = tt
    items_mono (item (plain e) is) σs vs (g, h) (k, l) f = (grammar_mono e σs vs g k f, items_mono is σs _ h l f)
    items_mono (item (let_ x e) is) σs vs (g, h) (k, l) f = (grammar_mono e σs vs g k f, items_mono is σs _ h l f)
    items_mono (item (field name x e) is) σs vs (g, h) (k, l) f = (grammar_mono e σs vs g k f, items_mono is σs _ h l f)
    items_mono (item (result_ e) is) σs vs (g, h) (k, l) f = (grammar_mono e σs vs g k f, items_mono is σs _ h l f)
