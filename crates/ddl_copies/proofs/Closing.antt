-- The needed copies are closed under use.
use Rattle.std.proofs.Common.{ℕ, Bool, true, false, if◌then◌else◌, List, [], ◌∷◌, ◌++◌, subst, sym}
use Rattle.ddl_types.specs.Types.{Ty}
use Rattle.ddl_typed.specs.Tree.{Site, Expr, Form, Exprs, Named, Content, Cases, Bounds, Alts, Args, Items, Spec, expr, text, local, literal, truth, nothing_}
use Rattle.ddl_typed.specs.Tree.{just_, list, record_, union_, select, infix_, prefix_, cast, builtin, value_call, paren, if_, case_, for_, map_, pure, uint8}
use Rattle.ddl_typed.specs.Tree.{match, end, class, fail, primitive, is_, fits, block, first, choose, many, optional, call, parameter, no_exprs, more, no_named}
use Rattle.ddl_typed.specs.Tree.{named, no_content, content, no_cases, when, unbounded, exactly, from_, up_to, between, no_alts, alt, tag, no_args, by_value}
use Rattle.ddl_typed.specs.Tree.{by_grammar, by_class, by_type, by_hand, no_items, item, plain, let_, field, result_}
use Rattle.ddl_typed.specs.Classes.{class_set}
use Rattle.ddl_copies.specs.Shapes.{Instance, Origin, no_parameters, grammar_at, type_at, used_at, static_env, closed_in, types_alone, argument_shape, with_set}
use Rattle.ddl_copies.specs.Scoped.{Unless, NeededArgument, Scoped, ScopedForm, ScopedExprs, ScopedNamed, ScopedContent, ScopedCases, ScopedBounds, ScopedAlts}
use Rattle.ddl_copies.specs.Scoped.{ScopedItems, ScopedArgs}
use Rattle.ddl_copies.specs.Queue.{Within, at_front, behind, at_entry, by_use}
use Rattle.ddl_copies.specs.Needed.{argument_uses, uses, form_uses, uses_all, uses_named, uses_content, uses_cases, uses_bounds, uses_alts, uses_items}
use Rattle.ddl_copies.specs.Needed.{uses_args, body_uses, Needs}
use Rattle.ddl_copies.specs.Keeping.{SpecialisedKeeps}
use Rattle.ddl_types.specs.Keeping.{Keeps}
use Rattle.ddl_typed.specs.Meaning.{Run}
use Rattle.ddl_mono.specs.Copies.{spec_of}
use Rattle.ddl_copies.proofs.Keep.{specialises}

abbrev All : (Origin → Type 0) → List Origin → Type 0
All N us = (u : Origin) → Within u us → N u

within_left : {u : Origin} (ys : List Origin) {xs : List Origin} → Within u xs → Within u (xs ++ ys)
within_left ys at_front = at_front
within_left ys (behind i) = behind (within_left ys i)

within_right : {u : Origin} (xs : List Origin) {ys : List Origin} → Within u ys → Within u (xs ++ ys)
within_right [] i = i
within_right (x ∷ xs) i = behind (within_right xs i)

module _ (spec : Spec) (params : ℕ → List ℕ) (N : Origin → Type 0) where
  abbrev Any : Origin → Type 0
  Any k = Unit {0}

  front : (xs ys : List Origin) → All N (xs ++ ys) → All N xs
  front xs ys a u i = a u (within_left ys i)

  back : (xs ys : List Origin) → All N (xs ++ ys) → All N ys
  back xs ys a u i = a u (within_right xs i)

  call_argument : (b : Bool) (k : Origin) → All N (if b then [] else k ∷ []) → Unless b (N k)
  call_argument true k a = tt
  call_argument false k a = a k at_front

  needed_argument : (site : Site) (e : Expr) (τs : Instance) → All N (argument_uses spec site e τs) → NeededArgument spec params N site e τs
  needed_argument site (expr (parameter h) ty span) τs a = tt
  needed_argument site (expr (call f args) ty span) τs a = call_argument (types_alone args) _ a
  needed_argument site e τs a = a _ at_front

  mutual
    pub good : (e : Expr) (σs : Instance) (vs : List ℕ) → Scoped spec params Any e σs vs → All N (uses spec e σs) → Scoped spec params N e σs vs
    good (expr form ty span) σs vs g a = form_good form ty σs vs g a

    form_good : (form : Form) (ty : Ty) (σs : Instance) (vs : List ℕ) → ScopedForm spec params Any form ty σs vs → All N (form_uses spec form σs)
        → ScopedForm spec params N form ty σs vs
    form_good (text bs) ty σs vs g a = tt
    form_good (local x) ty σs vs g a = g
    form_good (literal n) ty σs vs g a = g
    form_good (truth b) ty σs vs g a = tt
    form_good nothing_ ty σs vs g a = tt
    form_good (just_ e) ty σs vs g a = good e σs vs g a
    form_good (list es) ty σs vs g a = all_good es σs vs g a
    form_good (record_ ns) ty σs vs g a = named_good ns σs vs g a
    form_good (union_ name c) ty σs vs g a = content_good c σs vs g a
    form_good (select e name) ty σs vs g a = good e σs vs g a
    form_good (infix_ op b c) ty σs vs (g, h) a = (
      good b σs vs g (front (uses spec b σs) (uses spec c σs) a),
      good c σs vs h (back (uses spec b σs) (uses spec c σs) a),
    )
    form_good (prefix_ op e) ty σs vs g a = good e σs vs g a
    form_good (cast c e) ty σs vs (t, g) a = (t, good e σs vs g a)
    form_good (builtin b es) ty σs vs g a = all_good es σs vs g a
    form_good (value_call f args) ty σs vs (g, c, n) a = (args_good args σs vs no_parameters g (λ u i. a u (behind i)), c, a _ at_front)
    form_good (paren e) ty σs vs g a = good e σs vs g a
    form_good (if_ t b c) ty σs vs (g, h, k) a =
        let rest = back (uses spec t σs) (uses spec b σs ++ uses spec c σs) a in (
          good t σs vs g (front (uses spec t σs) (uses spec b σs ++ uses spec c σs) a),
          good b σs vs h (front (uses spec b σs) (uses spec c σs) rest),
          good c σs vs k (back (uses spec b σs) (uses spec c σs) rest),
        )
    form_good (case_ e cs) ty σs vs (g, h) a = (
      good e σs vs g (front (uses spec e σs) (uses_cases spec cs σs) a),
      cases_good cs σs vs h (back (uses spec e σs) (uses_cases spec cs σs) a),
    )
    form_good (for_ x start names e body) ty σs vs (g, h, k) a =
        let rest = back (uses spec start σs) (uses spec e σs ++ uses spec body σs) a in (
          good start σs vs g (front (uses spec start σs) (uses spec e σs ++ uses spec body σs) a),
          good e σs vs h (front (uses spec e σs) (uses spec body σs) rest),
          good body σs _ k (back (uses spec e σs) (uses spec body σs) rest),
        )
    form_good (map_ names e body) ty σs vs (g, h) a = (
      good e σs vs g (front (uses spec e σs) (uses spec body σs) a),
      good body σs _ h (back (uses spec e σs) (uses spec body σs) a),
    )
    form_good (pure e) ty σs vs g a = good e σs vs g a
    form_good uint8 ty σs vs g a = tt
    form_good (match e) ty σs vs g a = good e σs vs g a
    form_good end ty σs vs g a = tt
    form_good (class c) ty σs vs g a = g
    form_good (fail n) ty σs vs g a = tt
    form_good (primitive p es) ty σs vs g a = all_good es σs vs g a
    form_good (is_ e p) ty σs vs g a = good e σs vs g a
    form_good (fits e) ty σs vs (t, g) a = (t, good e σs vs g a)
    form_good (block is) ty σs vs g a = items_good is σs vs g a
    form_good (first as_) ty σs vs g a = alts_good as_ σs vs g a
    form_good (choose as_) ty σs vs g a = alts_good as_ σs vs g a
    form_good (many c b e) ty σs vs (g, h) a = (
      bounds_good b σs vs g (front (uses_bounds spec b σs) (uses spec e σs) a),
      good e σs vs h (back (uses_bounds spec b σs) (uses spec e σs) a),
    )
    form_good (optional c e) ty σs vs g a = good e σs vs g a
    form_good (call f args) ty σs vs (g, c, n) a = (args_good args σs vs no_parameters g (λ u i. a u (behind i)), c, a _ at_front)
    form_good (parameter h) ty σs vs g a = g

    all_good : (es : Exprs) (σs : Instance) (vs : List ℕ) → ScopedExprs spec params Any es σs vs → All N (uses_all spec es σs)
        → ScopedExprs spec params N es σs vs
    all_good no_exprs σs vs g a = tt
    all_good (more e es) σs vs (g, h) a = (
      good e σs vs g (front (uses spec e σs) (uses_all spec es σs) a),
      all_good es σs vs h (back (uses spec e σs) (uses_all spec es σs) a),
    )

    named_good : (ns : Named) (σs : Instance) (vs : List ℕ) → ScopedNamed spec params Any ns σs vs → All N (uses_named spec ns σs)
        → ScopedNamed spec params N ns σs vs
    named_good no_named σs vs g a = tt
    named_good (named name e ns) σs vs (g, h) a = (
      good e σs vs g (front (uses spec e σs) (uses_named spec ns σs) a),
      named_good ns σs vs h (back (uses spec e σs) (uses_named spec ns σs) a),
    )

    content_good : (c : Content) (σs : Instance) (vs : List ℕ) → ScopedContent spec params Any c σs vs → All N (uses_content spec c σs)
        → ScopedContent spec params N c σs vs
    content_good no_content σs vs g a = tt
    content_good (content e) σs vs g a = good e σs vs g a

    cases_good : (cs : Cases) (σs : Instance) (vs : List ℕ) → ScopedCases spec params Any cs σs vs → All N (uses_cases spec cs σs)
        → ScopedCases spec params N cs σs vs
    cases_good no_cases σs vs g a = tt
    cases_good (when p e cs) σs vs (g, h) a = (
      good e σs _ g (front (uses spec e σs) (uses_cases spec cs σs) a),
      cases_good cs σs vs h (back (uses spec e σs) (uses_cases spec cs σs) a),
    )

    bounds_good : (b : Bounds) (σs : Instance) (vs : List ℕ) → ScopedBounds spec params Any b σs vs → All N (uses_bounds spec b σs)
        → ScopedBounds spec params N b σs vs
    bounds_good unbounded σs vs g a = tt
    bounds_good (exactly e) σs vs g a = good e σs vs g a
    bounds_good (from_ e) σs vs g a = good e σs vs g a
    bounds_good (up_to e) σs vs g a = good e σs vs g a
    bounds_good (between e d) σs vs (g, h) a = (
      good e σs vs g (front (uses spec e σs) (uses spec d σs) a),
      good d σs vs h (back (uses spec e σs) (uses spec d σs) a),
    )

    alts_good : (as_ : Alts) (σs : Instance) (vs : List ℕ) → ScopedAlts spec params Any as_ σs vs → All N (uses_alts spec as_ σs)
        → ScopedAlts spec params N as_ σs vs
    alts_good no_alts σs vs g a = tt
    alts_good (alt e as_) σs vs (g, h) a = (
      good e σs vs g (front (uses spec e σs) (uses_alts spec as_ σs) a),
      alts_good as_ σs vs h (back (uses spec e σs) (uses_alts spec as_ σs) a),
    )
    alts_good (tag name e as_) σs vs (g, h) a = (
      good e σs vs g (front (uses spec e σs) (uses_alts spec as_ σs) a),
      alts_good as_ σs vs h (back (uses spec e σs) (uses_alts spec as_ σs) a),
    )

    items_good : (is : Items) (σs : Instance) (vs : List ℕ) → ScopedItems spec params Any is σs vs → All N (uses_items spec is σs)
        → ScopedItems spec params N is σs vs
    items_good no_items σs vs g a = tt
    items_good (item (plain e) is) σs vs (g, h) a = (
      good e σs vs g (front (uses spec e σs) (uses_items spec is σs) a),
      items_good is σs vs h (back (uses spec e σs) (uses_items spec is σs) a),
    )
    items_good (item (let_ x e) is) σs vs (g, h) a = (
      good e σs vs g (front (uses spec e σs) (uses_items spec is σs) a),
      items_good is σs (x ∷ vs) h (back (uses spec e σs) (uses_items spec is σs) a),
    )
    items_good (item (field name x e) is) σs vs (g, h) a =
        (good e σs vs g (front (uses spec e σs) (uses_items spec is σs) a), items_good is σs (x ∷ vs) h (back (uses spec e σs) (uses_items spec is σs) a))
    items_good (item (result_ e) is) σs vs (g, h) a = (
      good e σs vs g (front (uses spec e σs) (uses_items spec is σs) a),
      items_good is σs vs h (back (uses spec e σs) (uses_items spec is σs) a),
    )

    args_good : (args : Args) (σs : Instance) (vs : List ℕ) (τs : Instance) → ScopedArgs spec params Any args σs vs τs → All N (uses_args spec args σs)
        → ScopedArgs spec params N args σs vs τs
    args_good no_args σs vs τs g a = tt
    args_good (by_value x e args) σs vs τs (g, h) a = (
      good e σs vs g (front (uses spec e σs) (uses_args spec args σs) a),
      args_good args σs vs τs h (back (uses spec e σs) (uses_args spec args σs) a),
    )
    args_good (by_grammar x site e args) σs vs τs (g, each, n, fresh, h) a =
        let rest = back (argument_uses spec site e (used_at site σs)) (uses spec e (used_at site σs) ++ uses_args spec args σs) a in (
          good e (used_at site σs) site.values g (front (uses spec e (used_at site σs)) (uses_args spec args σs) rest),
          each,
          needed_argument site e (used_at site σs) (front (argument_uses spec site e (used_at site σs))
              (uses spec e (used_at site σs) ++ uses_args spec args σs) a),
          fresh,
          args_good args σs vs (grammar_at x (argument_shape site e (used_at site σs)) τs) h
              (back (uses spec e (used_at site σs)) (uses_args spec args σs) rest),
        )
    args_good (by_class x c args) σs vs τs (i, some, fresh, h) a = (i, some, fresh, args_good args σs vs (with_set (class_set spec c (static_env σs)) x τs) h a)
    args_good (by_type x t args) σs vs τs (i, fresh, h) a = (i, fresh, args_good args σs vs (type_at x (closed_in σs t) τs) h a)
    args_good (by_hand there here args) σs vs τs g a = g

pub specialised_keeps : SpecialisedKeeps
specialised_keeps spec m params number entry variables sound holds called s =
    let N = Needs spec entry variables in
    let made = spec_of m in
    subst (λ f. Keeps 1 (λ n. Run n spec entry s) (λ n. Run n made f s)) (sym holds.entry_is)
    (specialises spec made params N number entry variables
    (record {
      closed = λ f τs body needed is.
          good spec params N body τs (params f) (sound f τs body needed is) (λ u i. by_use needed (subst (λ o. Within u (body_uses spec o τs)) (sym is) i));
      members = holds.members;
      arguments = holds.arguments;
      bits = holds.bits;
    })
    called at_entry s)
