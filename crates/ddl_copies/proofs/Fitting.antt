-- What a form's environment and its copy's have to do with one another.
use Rattle.std.proofs.Common.{◌≡◌, ◌⊎◌, inl, inr, ℕ, suc, Bool, true, false, if◌then◌else◌, ◌==◌, List, [], ◌∷◌, map, Option, Some, refl, ap, subst, sym, ◌∙◌}
use Rattle.std.proofs.Common.{rules}
use Rattle.ddl_base.specs.declared.span.Span.{Span}
use Rattle.ddl_types.specs.Types.{Ty, Tys, var, con, none, on, on_all}
use Rattle.ddl_types.specs.Types as t
use Rattle.ddl_types.specs.Value.{Value}
use Rattle.ddl_typed.specs.Tree.{Name, own, under, Class, range, or_, not_, declared, class_parameter, those, Site, Expr, Args, Spec, expr, call, parameter}
use Rattle.ddl_typed.specs.Tree.{no_args, by_value, by_grammar, by_class, by_type, by_hand}
use Rattle.ddl_typed.specs.Env.{Env, Closure, empty, with_value, with_class, with_type, value_in, named_in, grammar_in, class_in, type_in, closed}
use Rattle.ddl_ops.specs.ByteSets.{Set}
use Rattle.ddl_typed.specs.Classes.{set_of, class_set, union, others}
use Rattle.ddl_copies.specs.Shapes.{Shape, Instance, Origin, at_name, at_place, no_parameters, grammar_at, class_at, type_at, member, argument, origin_of}
use Rattle.ddl_copies.specs.Shapes.{shape_of, static_env, closed_in, has, used_at, captured, all_captured, shape_or, types_alone, type_instance, argument_shape}
use Rattle.ddl_copies.specs.Shapes.{call_instance}
use Rattle.ddl_copies.specs.Copied.{name_here}
use Rattle.ddl_copies.specs.Scoped.{In, AllIn, FreshClass, FreshType, GivesType, GivesClass, TypesGiven, AllTypesGiven, ClassesGiven, IsSome, Unless}
use Rattle.ddl_copies.specs.Scoped.{value_names, Takes, NeededArgument, Scoped, ScopedArgs}
use Rattle.ddl_mono.specs.IsMono.{IsClosed, AreClosed}
use Rattle.ddl_copies.proofs.Names.{equal_self, equal_is, Agree, agree_front, agree_back, agree_under, Have, have_both, have_under}

-- a value in scope and the copy's value
pub record SameValue (env : Env) (look : Name → Option Value) (x : ℕ) : Type 0 where
  pub value : Value
  pub here : value_in env x ≡ Some value
  pub there : look (own x) ≡ Some value

abbrev pub SameValues : List ℕ → Env → (Name → Option Value) → Type 0
SameValues vs env look = (x : ℕ) → In x vs → SameValue env look x

pick_value : (b : Bool) (o : Option Value) (v w : Value) → o ≡ Some w → (if b then Some v else o) ≡ Some (if b then v else w)
pick_value true o v w e = refl
pick_value false o v w e = e

value_step : (b : Bool) (v : Value) (o : Option Value) → b ≡ true → (if b then Some v else o) ≡ Some v
value_step true v o e = refl
value_step false v o e = absurd (search rules)

value_more : (env copy : Env) (x y : ℕ) (v : Value) → ((y ≡ x) ⊎ SameValue env (named_in copy) x)
    → SameValue (with_value y v env) (named_in (with_value y v copy)) x
value_more env copy x y v (inl e) =
    let t : (y == x) ≡ true = subst (λ z. (y == z) ≡ true) e (equal_self y) in
    record { value = v; here = value_step (y == x) v (value_in env x) t; there = value_step (y == x) v (value_in copy x) t }
value_more env copy x y v (inr h) =
    record { value = if y == x then v else h.value; here = pick_value (y == x) _ v h.value h.here; there = pick_value (y == x) _ v h.value h.there }

pub values_more : (vs : List ℕ) (env copy : Env) (y : ℕ) (v : Value) → SameValues vs env (named_in copy)
    → SameValues (y ∷ vs) (with_value y v env) (named_in (with_value y v copy))
values_more vs env copy y v h x (inl e) = value_more env copy x y v (inl e)
values_more vs env copy y v h x (inr i) = value_more env copy x y v (inr (h x i))

agree_local : (ws : List ℕ) (look seen : Name → Option Value) → Agree (map own ws) look seen → (x : ℕ) → In x ws → look (own x) ≡ seen (own x)
agree_local [] look seen a x i = absurd i
agree_local (w ∷ ws) look seen (e, a) x (inl t) = subst (λ z. look (own z) ≡ seen (own z)) t e
agree_local (w ∷ ws) look seen (e, a) x (inr i) = agree_local ws look seen a x i

values_agree : (ws : List ℕ) (look seen : Name → Option Value) (env : Env) → Agree (map own ws) look seen → SameValues ws env look → SameValues ws env seen
values_agree ws look seen env a h x i = record { value = (h x i).value; here = (h x i).here; there = sym (agree_local ws look seen a x i) ∙ (h x i).there }

have_local : (ws : List ℕ) (look : Name → Option Value) (env : Env) → SameValues ws env look → Have (map own ws) look
have_local [] look env h = tt
have_local (w ∷ ws) look env h = (record { value = (h w (inl refl)).value; is = (h w (inl refl)).there }, have_local ws look env (λ x i. h x (inr i)))

pub values_part : (ws vs : List ℕ) (env : Env) (look : Name → Option Value) → AllIn ws vs → SameValues vs env look → SameValues ws env look
values_part [] vs env look e h x i = absurd i
values_part (w ∷ ws) vs env look (a, e) h x (inl t) = subst (λ z. SameValue env look z) t (h w a)
values_part (w ∷ ws) vs env look (a, e) h x (inr i) = values_part ws vs env look e h x i

-- ---- grammars

-- a form that hands on grammar parameters, at most so many times, and the form that is meant in the end
pub data Leads : ℕ → Expr → Env → Expr → Env → Type 0 where
  settled : {c : ℕ} {p : Expr} {env : Env} → Leads c p env p env
  further : {c h : ℕ} {env : Env} {ty : Ty} {span : Span} {p : Expr} {next : Env} {q : Expr} {last : Env} →
      grammar_in env h ≡ Some (record { form = p; env = next }) → Leads c p next q last → Leads (suc c) (expr (parameter h) ty span) env q last

pub leads_lift : {c : ℕ} {p : Expr} {env : Env} {q : Expr} {last : Env} → Leads c p env q last → Leads (suc c) p env q last
leads_lift settled = settled
leads_lift (further e k) = further e (leads_lift k)

-- what a parameter stands for leads to a form and environment with R
pub record Stands (c : ℕ) (R : Expr → Env → Type 0) (p : Expr) (env : Env) : Type 0 where
  pub form : Expr
  pub last : Env
  pub leads : Leads c p env form last
  pub real : R form last

pub record Found (c : ℕ) (R : Expr → Env → Type 0) (o : Option Closure) : Type 0 where
  pub form : Expr
  pub env : Env
  pub is : o ≡ Some (record { form = form; env = env })
  pub stands : Stands c R form env

-- types alone give an environment without a meaning of forms
abbrev pub types_env : Args → Env → Env → Env
types_env no_args env to = to
types_env (by_value x e args) env to = types_env args env to
types_env (by_grammar x site e args) env to = types_env args env to
types_env (by_class x c args) env to = types_env args env to
types_env (by_type x ty args) env to = types_env args env (with_type x (closed env ty) to)
types_env (by_hand there here args) env to = types_env args env to

module _ (spec : Spec) (params : ℕ → List ℕ) (Needed : Origin → Type 0) where
  -- a bare declaration at types
  pub record Bare (f : ℕ) (Fit : Env → Type 0) (p : Expr) (env : Env) : Type 0 where
    pub args : Args
    pub ty : Ty
    pub span : Span
    pub is : p ≡ expr (call f args) ty span
    pub only : types_alone args ≡ true
    pub called : Takes spec params f []
    pub fit : Fit (types_env args env empty)

  module _ (c : ℕ) where
    -- a form and its environment are those that a shape names, with the values of the copy
    abbrev mutual
      pub Real : Shape → (Name → Option Value) → Expr → Env → Type 0
      Real (at_name f τs) look p env = Bare f (λ to. (any : Name → Option Value) → Fits τs any to) p env
      Real (at_place site e τs) look p env = (p ≡ e) × Scoped spec params Needed e τs site.values × SameValues site.values env look × Fits τs look env

      pub Fits : Instance → (Name → Option Value) → Env → Type 0
      Fits no_parameters look env = Unit {0}
      Fits (grammar_at h σ τs) look env = Found c (λ p to. Real σ (λ n. look (under h n)) p to) (grammar_in env h) × Needed (origin_of σ) × Fits τs look env
      Fits (class_at x set τs) look env = (class_in env x ≡ Some set) × Fits τs look env
      Fits (type_at j ty τs) look env = (type_in env j ≡ ty) × IsClosed ty × Fits τs look env

    mutual
      pub real_agree : (σ : Shape) (look seen : Name → Option Value) (p : Expr) (env : Env) → Agree (captured σ) look seen → Real σ look p env
          → Real σ seen p env
      real_agree (at_name f τs) look seen p env a r = r
      real_agree (at_place site e τs) look seen p env a (is, good, values, fits) = (
        is,
        good,
        values_agree site.values look seen env (agree_front (map own site.values) (all_captured τs) look seen a) values,
        fits_agree τs look seen env (agree_back (map own site.values) (all_captured τs) look seen a) fits,
      )

      pub fits_agree : (τs : Instance) (look seen : Name → Option Value) (env : Env) → Agree (all_captured τs) look seen → Fits τs look env → Fits τs seen env
      fits_agree no_parameters look seen env a f = tt
      fits_agree (grammar_at h σ τs) look seen env a (found, needed, f) =
          let front : Agree (captured σ) (λ n. look (under h n)) (λ n. seen (under h n)) =
          agree_under h (captured σ) look seen (agree_front (map (under h) (captured σ)) (all_captured τs) look seen a) in (
            record {
              form = found.form;
              env = found.env;
              is = found.is;
              stands = record {
                form = found.stands.form;
                last = found.stands.last;
                leads = found.stands.leads;
                real = real_agree σ (λ n. look (under h n)) (λ n. seen (under h n)) found.stands.form found.stands.last front found.stands.real;
              };
            },
            needed,
            fits_agree τs look seen env (agree_back (map (under h) (captured σ)) (all_captured τs) look seen a) f,
          )
      fits_agree (class_at x set τs) look seen env a (e, f) = (e, fits_agree τs look seen env a f)
      fits_agree (type_at j ty τs) look seen env a (e, k, f) = (e, k, fits_agree τs look seen env a f)

    mutual
      pub real_have : (σ : Shape) (look : Name → Option Value) (p : Expr) (env : Env) → Real σ look p env → Have (captured σ) look
      real_have (at_name f τs) look p env r = tt
      real_have (at_place site e τs) look p env (is, good, values, fits) =
          have_both (map own site.values) (all_captured τs) look (have_local site.values look env values) (fits_have τs look env fits)

      pub fits_have : (τs : Instance) (look : Name → Option Value) (env : Env) → Fits τs look env → Have (all_captured τs) look
      fits_have no_parameters look env f = tt
      fits_have (grammar_at h σ τs) look env (found, needed, f) =
          have_both (map (under h) (captured σ)) (all_captured τs) look
          (have_under h (captured σ) look (real_have σ (λ n. look (under h n)) found.stands.form found.stands.last found.stands.real)) (fits_have τs look env f)
      fits_have (class_at x set τs) look env (e, f) = fits_have τs look env f
      fits_have (type_at j ty τs) look env (e, k, f) = fits_have τs look env f

    -- one more value
    pub fits_more : (τs : Instance) (copy env : Env) (x : ℕ) (v : Value) → Fits τs (named_in copy) env
        → Fits τs (named_in (with_value x v copy)) (with_value x v env)
    fits_more no_parameters copy env x v f = tt
    fits_more (grammar_at h σ τs) copy env x v (found, needed, f) = (found, needed, fits_more τs copy env x v f)
    fits_more (class_at y set τs) copy env x v (e, f) = (e, fits_more τs copy env x v f)
    fits_more (type_at j ty τs) copy env x v (e, k, f) = (e, k, fits_more τs copy env x v f)

    pub fits_pick : (site : Site) (τs : Instance) (look : Name → Option Value) (env : Env) → Fits τs look env → Fits (used_at site τs) look env
    fits_pick site no_parameters look env f = tt
    fits_pick site (grammar_at h σ τs) look env (found, needed, f) = kept (has h site.grammars) (fits_pick site τs look env f)
      where
        kept : (b : Bool) → Fits (used_at site τs) look env → Fits (if b then grammar_at h σ (used_at site τs) else used_at site τs) look env
        kept true k = (found, needed, k)
        kept false k = k
    fits_pick site (class_at x set τs) look env (e, f) = kept (has x site.classes) (fits_pick site τs look env f)
      where
        kept : (b : Bool) → Fits (used_at site τs) look env → Fits (if b then class_at x set (used_at site τs) else used_at site τs) look env
        kept true k = (e, k)
        kept false k = k
    fits_pick site (type_at j ty τs) look env (e, c, f) = kept (has j site.types) (fits_pick site τs look env f)
      where
        kept : (b : Bool) → Fits (used_at site τs) look env → Fits (if b then type_at j ty (used_at site τs) else used_at site τs) look env
        kept true k = (e, c, k)
        kept false k = k

    -- a parameter whose shape is found
    pub record Use (look : Name → Option Value) (env : Env) (h : ℕ) (o : Option Shape) : Type 0 where
      pub meant : Shape
      pub is : o ≡ Some meant
      pub found : Found c (λ p to. Real meant (λ n. look (under h n)) p to) (grammar_in env h)
      pub needed : Needed (origin_of meant)

    pub fits_find : (τs : Instance) (look : Name → Option Value) (env : Env) (x : ℕ) → Fits τs look env → IsSome (shape_of τs x)
        → Use look env x (shape_of τs x)
    fits_find no_parameters look env x f i = absurd i
    fits_find (grammar_at h σ τs) look env x (found, needed, f) i = found_at (h == x) refl i (λ j. fits_find τs look env x f j)
      where
        found_at : (b : Bool) → (h == x) ≡ b → IsSome (if b then Some σ else shape_of τs x) → (IsSome (shape_of τs x) → Use look env x (shape_of τs x))
            → Use look env x (if b then Some σ else shape_of τs x)
        found_at true e i k = record {
          meant = σ;
          is = refl;
          needed = needed;
          found = subst (λ z. Found c (λ p to. Real σ (λ n. look (under z n)) p to) (grammar_in env z)) (equal_is h x e) found;
        }
        found_at false e i k = k i
    fits_find (class_at y set τs) look env x (e, f) i = fits_find τs look env x f i
    fits_find (type_at j ty τs) look env x (e, k, f) i = fits_find τs look env x f i

    -- types and classes
    pub fits_type : (τs : Instance) (look : Name → Option Value) (env : Env) (x : ℕ) (ty : Ty) → FreshType x τs → Fits τs look env
        → Fits τs look (with_type x ty env)
    fits_type no_parameters look env x ty n f = tt
    fits_type (grammar_at h σ τs) look env x ty n (found, needed, f) = (found, needed, fits_type τs look env x ty n f)
    fits_type (class_at y set τs) look env x ty n (e, f) = (e, fits_type τs look env x ty n f)
    fits_type (type_at j u τs) look env x ty (n, m) (e, k, f) = ((rw n refl) ∙ e, k, fits_type τs look env x ty m f)

    pub fits_class : (τs : Instance) (look : Name → Option Value) (env : Env) (x : ℕ) (set : ℕ → Bool) → FreshClass x τs → Fits τs look env
        → Fits τs look (with_class x set env)
    fits_class no_parameters look env x set n f = tt
    fits_class (grammar_at h σ τs) look env x set n (found, needed, f) = (found, needed, fits_class τs look env x set n f)
    fits_class (class_at y other τs) look env x set (n, m) (e, f) = ((rw n refl) ∙ e, fits_class τs look env x set m f)
    fits_class (type_at j u τs) look env x set n (e, k, f) = (e, k, fits_class τs look env x set n f)

    type_found : (σs : Instance) (look : Name → Option Value) (env : Env) (i : ℕ) → GivesType σs i → Fits σs look env
        → (type_in env i ≡ type_in (static_env σs) i) × IsClosed (type_in (static_env σs) i)
    type_found no_parameters look env i h f = absurd h
    type_found (grammar_at h σ τs) look env i k (found, needed, f) = type_found τs look env i k f
    type_found (class_at x set τs) look env i k (e, f) = type_found τs look env i k f
    type_found (type_at j ty τs) look env i h (e, k, f) = cases (j == i) refl h (λ m. type_found τs look env i m f)
      where
        cases : (b : Bool) → (j == i) ≡ b → ((j ≡ i) ⊎ GivesType τs i)
            → (GivesType τs i → (type_in env i ≡ type_in (static_env τs) i) × IsClosed (type_in (static_env τs) i)) →
            (type_in env i ≡ (if b then ty else type_in (static_env τs) i)) × IsClosed (if b then ty else type_in (static_env τs) i)
        cases true n m r = (subst (λ z. type_in env z ≡ ty) (equal_is j i n) e, k)
        cases false n (inl m) r = absurd (search (rules, sym n ∙ subst (λ z. (j == z) ≡ true) m (equal_self j)))
        cases false n (inr m) r = r m

    mutual
      pub closed_same : (ty : Ty) (σs : Instance) (look : Name → Option Value) (env : Env) → TypesGiven ty σs → Fits σs look env
          → (closed env ty ≡ closed_in σs ty) × IsClosed (closed_in σs ty)
      closed_same (var i) σs look env h f = type_found σs look env i h f
      closed_same (con head ts) σs look env h f = let r = all_closed_same ts σs look env h f in (ap (con head) r.0, r.1)

      all_closed_same : (ts : Tys) (σs : Instance) (look : Name → Option Value) (env : Env) → AllTypesGiven ts σs → Fits σs look env
          → (on_all ts (type_in env) ≡ on_all ts (type_in (static_env σs))) × AreClosed (on_all ts (type_in (static_env σs)))
      all_closed_same none σs look env h f = (refl, tt)
      all_closed_same (t.more ty ts) σs look env (h, k) f =
          let r = closed_same ty σs look env h f in
          let q = all_closed_same ts σs look env k f in
          (ap (λ z. t.more z (on_all ts (type_in env))) r.0 ∙ ap (t.more (closed_in σs ty)) q.0, (r.1, q.1))

    class_found : (σs : Instance) (look : Name → Option Value) (env : Env) (x : ℕ) → GivesClass σs x → Fits σs look env
        → class_in env x ≡ class_in (static_env σs) x
    class_found no_parameters look env x h f = absurd h
    class_found (grammar_at h σ τs) look env x k (found, needed, f) = class_found τs look env x k f
    class_found (type_at j ty τs) look env x k (e, n, f) = class_found τs look env x k f
    class_found (class_at y set τs) look env x h (e, f) = cases (y == x) refl h (λ m. class_found τs look env x m f)
      where
        cases : (b : Bool) → (y == x) ≡ b → ((y ≡ x) ⊎ GivesClass τs x) → (GivesClass τs x → class_in env x ≡ class_in (static_env τs) x)
            → class_in env x ≡ (if b then Some set else class_in (static_env τs) x)
        cases true n m r = subst (λ z. class_in env z ≡ Some set) (equal_is y x n) e
        cases false n (inl m) r = absurd (search (rules, sym n ∙ subst (λ z. (y == z) ≡ true) m (equal_self y)))
        cases false n (inr m) r = r m

    set_same : (declared_set : ℕ → Option Set) (k : Class) (σs : Instance) (look : Name → Option Value) (env : Env) → ClassesGiven k σs → Fits σs look env
        → set_of declared_set k env ≡ set_of declared_set k (static_env σs)
    set_same ds (range from to) σs look env h f = refl
    set_same ds (or_ k d) σs look env (h, g) f = ap (λ z. union z (set_of ds d env)) (set_same ds k σs look env h f)
        ∙ ap (union (set_of ds k (static_env σs))) (set_same ds d σs look env g f)
    set_same ds (not_ k) σs look env h f = ap others (set_same ds k σs look env h f)
    set_same ds (declared n) σs look env h f = refl
    set_same ds (class_parameter x) σs look env h f = class_found σs look env x h f
    set_same ds (those test) σs look env h f = refl

    pub class_same : (k : Class) (σs : Instance) (look : Name → Option Value) (env : Env) → ClassesGiven k σs → Fits σs look env
        → class_set spec k env ≡ class_set spec k (static_env σs)
    class_same k σs look env h f = set_same _ k σs look env h f

    -- arguments that are types alone
    pub types_fit : (args : Args) (σs : Instance) (vs : List ℕ) (τs : Instance) (look any : Name → Option Value) (env to : Env)
        → ScopedArgs spec params Needed args σs vs τs → types_alone args ≡ true → Fits σs look env → Fits τs any to →
        Fits (type_instance args σs τs) any (types_env args env to)
    types_fit no_args σs vs τs look any env to good only fits f = f
    types_fit (by_value x e args) σs vs τs look any env to good only fits f = absurd (search (rules, only))
    types_fit (by_grammar x site e args) σs vs τs look any env to good only fits f = absurd (search (rules, only))
    types_fit (by_class x k args) σs vs τs look any env to good only fits f = absurd (search (rules, only))
    types_fit (by_type x ty args) σs vs τs look any env to (inside, new, more) only fits f =
        let r = closed_same ty σs look env inside fits in
        types_fit args σs vs (type_at x (closed_in σs ty) τs) look any env (with_type x (closed env ty) to) more only fits
        ((rw (equal_self x) r.0), r.1, fits_type τs any to x (closed env ty) new f)
    types_fit (by_hand there here args) σs vs τs look any env to good only fits f = absurd (search (rules, only))

  pub only_shapes : (args : Args) (σs τs : Instance) → types_alone args ≡ true → call_instance spec args σs τs ≡ type_instance args σs τs
  only_shapes no_args σs τs only = refl
  only_shapes (by_value x e args) σs τs only = absurd (search (rules, only))
  only_shapes (by_grammar x site e args) σs τs only = absurd (search (rules, only))
  only_shapes (by_class x k args) σs τs only = absurd (search (rules, only))
  only_shapes (by_type x ty args) σs τs only = only_shapes args σs (type_at x (closed_in σs ty) τs) only
  only_shapes (by_hand there here args) σs τs only = absurd (search (rules, only))

  pub only_names : (args : Args) (zs : List ℕ) → types_alone args ≡ true → value_names args zs ≡ zs
  only_names no_args zs only = refl
  only_names (by_value x e args) zs only = absurd (search (rules, only))
  only_names (by_grammar x site e args) zs only = absurd (search (rules, only))
  only_names (by_class x k args) zs only = absurd (search (rules, only))
  only_names (by_type x ty args) zs only = only_names args zs only
  only_names (by_hand there here args) zs only = absurd (search (rules, only))

  -- ---- one more use on the way
  module _ (c : ℕ) where
    mutual
      pub real_lift : (σ : Shape) (look : Name → Option Value) (p : Expr) (env : Env) → Real c σ look p env → Real (suc c) σ look p env
      real_lift (at_name f τs) look p env r =
          record {
            args = r.args;
            ty = r.ty;
            span = r.span;
            is = r.is;
            only = r.only;
            called = r.called;
            fit =
                λ any. fits_lift τs any (types_env r.args env empty) (r.fit any);
          }
      real_lift (at_place site e τs) look p env (is, good, values, fits) = (is, good, values, fits_lift τs look env fits)

      pub fits_lift : (τs : Instance) (look : Name → Option Value) (env : Env) → Fits c τs look env → Fits (suc c) τs look env
      fits_lift no_parameters look env f = tt
      fits_lift (grammar_at h σ τs) look env (found, needed, f) = (
        record {
          form = found.form;
          env = found.env;
          is = found.is;
          stands = record {
            form = found.stands.form;
            last = found.stands.last;
            leads = leads_lift found.stands.leads;
            real = real_lift σ (λ n. look (under h n)) found.stands.form found.stands.last found.stands.real;
          };
        },
        needed,
        fits_lift τs look env f,
      )
      fits_lift (class_at x set τs) look env (e, f) = (e, fits_lift τs look env f)
      fits_lift (type_at j ty τs) look env (e, k, f) = (e, k, fits_lift τs look env f)

    -- an argument is what its shape names
    abbrev Placed : Site → Expr → Instance → (Name → Option Value) → Env → Type 0
    Placed site e τs look env = Stands (suc c) (Real (suc c) (at_place site e τs) look) e env

    placed : (site : Site) (e : Expr) (τs : Instance) (look : Name → Option Value) (env : Env) → Scoped spec params Needed e τs site.values
        → SameValues site.values env look → Fits c τs look env → Placed site e τs look env
    placed site e τs look env good values fits = record { form = e; last = env; leads = settled; real = (refl, good, values, fits_lift τs look env fits) }

    call_stands : (b : Bool) (site : Site) (f : ℕ) (args : Args) (ty : Ty) (span : Span) (τs : Instance) (look : Name → Option Value) (env : Env)
        → types_alone args ≡ b → Scoped spec params Needed (expr (call f args) ty span) τs site.values →
        SameValues site.values env look → Fits c τs look env →
        Stands (suc c) (Real (suc c) (if b then at_name f (type_instance args τs no_parameters) else at_place site (expr (call f args) ty span) τs) look)
        (expr (call f args) ty span) env
    call_stands true site f args ty span τs look env only good values fits =
        record {
          form = expr (call f args) ty span;
          last = env;
          leads = settled;
          real = record {
            args = args;
            ty = ty;
            span = span;
            is = refl;
            only = only;
            called = subst (λ zs. Takes spec params f zs) (only_names args [] only) good.1;
            fit = λ any. fits_lift (type_instance args τs no_parameters) any (types_env args env empty)
                (types_fit c args τs site.values no_parameters look any env empty good.0 only fits tt);
          };
        }
    call_stands false site f args ty span τs look env only good values fits = placed site (expr (call f args) ty span) τs look env good values fits

    pub arg_stands : (site : Site) (e : Expr) (τs : Instance) (look : Name → Option Value) (env : Env) → Scoped spec params Needed e τs site.values
        → SameValues site.values env look → Fits c τs look env →
        Stands (suc c) (Real (suc c) (argument_shape site e τs) (λ n. look (name_here e n))) e env
    arg_stands site (expr (parameter h) ty span) τs look env good values fits =
        let u = fits_find c τs look env h fits good in
        subst (λ o. Stands (suc c) (Real (suc c) (shape_or o) (λ n. look (under h n))) (expr (parameter h) ty span) env) (sym u.is)
        (record {
          form = u.found.stands.form;
          last = u.found.stands.last;
          leads = further u.found.is u.found.stands.leads;
          real =
              real_lift u.meant (λ n. look (under h n)) u.found.stands.form u.found.stands.last u.found.stands.real;
        })
    arg_stands site (expr (call f args) ty span) τs look env good values fits =
        call_stands (types_alone args) site f args ty span τs look env refl good values fits
    arg_stands site e τs look env good values fits = placed site _ τs look env good values fits

    call_needed : (b : Bool) (site : Site) (f : ℕ) (args : Args) (ty : Ty) (span : Span) (τs : Instance) → types_alone args ≡ b
        → Unless b (Needed (argument site (expr (call f args) ty span) τs)) → Needed (member f (call_instance spec args τs no_parameters)) →
        Needed (origin_of (if b then at_name f (type_instance args τs no_parameters) else at_place site (expr (call f args) ty span) τs))
    call_needed true site f args ty span τs only needed there = subst (λ z. Needed (member f z)) (only_shapes args τs no_parameters only) there
    call_needed false site f args ty span τs only needed there = needed

    pub arg_needed : (site : Site) (e : Expr) (τs : Instance) (look : Name → Option Value) (env : Env) → NeededArgument spec params Needed site e τs
        → Scoped spec params Needed e τs site.values → Fits c τs look env → Needed (origin_of (argument_shape site e τs))
    arg_needed site (expr (parameter h) ty span) τs look env needed good fits = let u =
        fits_find c τs look env h fits good in subst (λ o. Needed (origin_of (shape_or o))) (sym u.is) u.needed
    arg_needed site (expr (call f args) ty span) τs look env needed good fits = call_needed (types_alone args) site f args ty span τs refl needed good.2
    arg_needed site e τs look env needed good fits = needed

-- a type without variables is closed by every environment as it stands
mutual
  pub closed_closed : (env : Env) (ty : Ty) → IsClosed ty → closed env ty ≡ ty
  closed_closed env (var i) h = absurd h
  closed_closed env (con head ts) h = ap (con head) (all_closed env ts h)

  all_closed : (env : Env) (ts : Tys) → AreClosed ts → on_all ts (type_in env) ≡ ts
  all_closed env none h = refl
  all_closed env (t.more ty ts) (h, k) = ap (λ z. t.more z (on_all ts (type_in env))) (closed_closed env ty h) ∙ ap (t.more ty) (all_closed env ts k)
