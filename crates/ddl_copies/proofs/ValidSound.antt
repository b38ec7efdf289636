-- A valid specification is sound: each member that an entry needs is in scope.
use Rattle.std.proofs.Common.{◌≡◌, ℕ, zero, suc, Bool, true, false, if◌then◌else◌, List, [], ◌∷◌, ◌++◌, map, Option, Some, None, refl, ap, subst, sym, ◌∙◌}
use Rattle.std.proofs.Common.{arith, rules}
use Rattle.ddl_tree.specs.declared.kind.Kind.{Kind}
use Rattle.ddl_types.specs.Types.{Ty}
use Rattle.ddl_typed.specs.Tree.{Site, Expr, Form, Exprs, Named, Content, Cases, Bounds, Alts, Args}
use Rattle.ddl_typed.specs.Tree.{Items, Spec, expr, text, local, literal, truth, nothing_, just_, list, record_, union_, select, infix_, prefix_, cast}
use Rattle.ddl_typed.specs.Tree.{builtin, value_call, paren, if_, case_, for_, map_, pure, uint8, match, end, class, fail, primitive, is_, fits, block, first}
use Rattle.ddl_typed.specs.Tree.{choose, many, optional, call, parameter, no_exprs, more, no_named, named, no_content, content, no_cases, when, unbounded}
use Rattle.ddl_typed.specs.Tree.{exactly, from_, up_to, between, no_alts, alt, tag, no_args, by_value, by_grammar, by_class, by_type, by_hand, no_items, item}
use Rattle.ddl_typed.specs.Tree.{plain, let_, field, result_}
use Rattle.ddl_typed.specs.Classes.{class_set}
use Rattle.ddl_typed.specs.Meaning.{form_at}
use Rattle.ddl_typed.specs.Specification as sp
use Rattle.ddl_typed.specs.Specification.{Specification, Declaration, Standing, spec_of, decl_of, body_of}
use Rattle.ddl_copies.specs.Shapes.{Instance, Origin, no_parameters, grammar_at, type_at, member, argument, static_env, closed_in, used_at}
use Rattle.ddl_copies.specs.Shapes.{types_alone, argument_shape, with_set, call_instance, unit_types}
use Rattle.ddl_copies.specs.Queue as queue
use Rattle.ddl_copies.specs.Queue.{Within, at_front, behind, Reached, at_entry, by_use}
use Rattle.ddl_copies.specs.Needed.{argument_uses, uses, form_uses, uses_all, uses_named, uses_content, uses_cases, uses_bounds, uses_alts, uses_items}
use Rattle.ddl_copies.specs.Needed.{uses_args, body_uses, copy_uses}
use Rattle.ddl_copies.specs.Scoped.{Unless, NeededArgument, Scoped, ScopedForm, ScopedExprs, ScopedNamed, ScopedContent, ScopedCases, ScopedBounds}
use Rattle.ddl_copies.specs.Scoped.{ScopedAlts, ScopedItems, ScopedArgs, Takes, value_names}
use Rattle.ddl_copies.specs.Keeping.{Sound}
use Rattle.ddl_copies.specs.Kinds.{declared_at, kinds_in, kinds_at}
use Rattle.ddl_copies.specs.Valid.{Statics, statics_of, statics_in, values_in, values_at, value_parameters, variables_at, Matches, TypesInOrder}
use Rattle.ddl_copies.specs.Valid.{CallsWell, Bound, BoundForm, BoundExprs, BoundNamed, BoundContent, BoundCases, BoundBounds, BoundAlts, BoundItems}
use Rattle.ddl_copies.specs.Valid.{BoundArgs, IsValid}
use Rattle.ddl_copies.proofs.Lists.{some_is}
use Rattle.ddl_copies.proofs.AllMet.{declared_form}
use Rattle.ddl_copies.proofs.Covering.{Covers, covers_site, types_given, class_given, after_value, after_grammar, after_class, value_numbers, Sets, call_covers}
use Rattle.ddl_copies.proofs.Covering.{units_cover, Smaller, smaller_next, smaller_types, smaller_set, fresh_grammar, fresh_class, fresh_type}

module _ (s : Specification) where
  abbrev spec : Spec
  spec = spec_of s

  abbrev params : ℕ → List ℕ
  params f = value_parameters s f

  abbrev Any : Origin → Type 0
  Any o = Unit {0}

  takes : (f : ℕ) (args : Args) → CallsWell s f args → Takes spec params f (value_names args [])
  takes f args (form, matches, types) = record {
    body = form.body;
    is = declared_form s.declarations f form.is form.stands;
    values = ap values_at form.is ∙ value_numbers args 0 (kinds_in form.declared) [] (subst (λ d. Matches args 0 (kinds_at d)) form.is matches);
  }

  unless_any : (b : Bool) → Unless b (Unit {0})
  unless_any true = tt
  unless_any false = tt

  any_argument : (site : Site) (e : Expr) (τs : Instance) → NeededArgument spec params Any site e τs
  any_argument site (expr (parameter h) ty span) τs = tt
  any_argument site (expr (call f args) ty span) τs = unless_any (types_alone args)
  any_argument site e τs = tt

  mutual
    pub scoped : (e : Expr) (S : Statics) (vs : List ℕ) (σs : Instance) → Bound s e S vs → Covers σs S → Scoped spec params Any e σs vs
    scoped (expr form ty span) S vs σs b c = scoped_form form ty S vs σs b c

    scoped_form : (form : Form) (ty : Ty) (S : Statics) (vs : List ℕ) (σs : Instance) → BoundForm s form ty S vs → Covers σs S
        → ScopedForm spec params Any form ty σs vs
    scoped_form (text bs) ty S vs σs b c = tt
    scoped_form (local x) ty S vs σs b c = b
    scoped_form (literal n) ty S vs σs b c = types_given ty σs S c b
    scoped_form (truth t) ty S vs σs b c = tt
    scoped_form nothing_ ty S vs σs b c = tt
    scoped_form (just_ e) ty S vs σs b c = scoped e S vs σs b c
    scoped_form (list es) ty S vs σs b c = scoped_exprs es S vs σs b c
    scoped_form (record_ ns) ty S vs σs b c = scoped_named ns S vs σs b c
    scoped_form (union_ name d) ty S vs σs b c = scoped_content d S vs σs b c
    scoped_form (select e name) ty S vs σs b c = scoped e S vs σs b c
    scoped_form (infix_ op d e) ty S vs σs (a, b) c = (scoped d S vs σs a c, scoped e S vs σs b c)
    scoped_form (prefix_ op e) ty S vs σs b c = scoped e S vs σs b c
    scoped_form (cast q e) ty S vs σs (a, b) c = (types_given ty σs S c a, scoped e S vs σs b c)
    scoped_form (builtin q es) ty S vs σs b c = scoped_exprs es S vs σs b c
    scoped_form (value_call f args) ty S vs σs (b, calls) c = (
      scoped_args args S vs σs no_parameters 0 (kinds_at (declared_at s f)) 0 (variables_at (declared_at s f)) b calls.1 calls.2 c tt,
      takes f args calls,
      tt,
    )
    scoped_form (paren e) ty S vs σs b c = scoped e S vs σs b c
    scoped_form (if_ d e f) ty S vs σs (a, b, x) c = (scoped d S vs σs a c, scoped e S vs σs b c, scoped f S vs σs x c)
    scoped_form (case_ e cs) ty S vs σs (a, b) c = (scoped e S vs σs a c, scoped_cases cs S vs σs b c)
    scoped_form (for_ x start names e body) ty S vs σs (a, b, d) c = (scoped start S vs σs a c, scoped e S vs σs b c, scoped body S _ σs d c)
    scoped_form (map_ names e body) ty S vs σs (a, b) c = (scoped e S vs σs a c, scoped body S _ σs b c)
    scoped_form (pure e) ty S vs σs b c = scoped e S vs σs b c
    scoped_form uint8 ty S vs σs b c = tt
    scoped_form (match e) ty S vs σs b c = scoped e S vs σs b c
    scoped_form end ty S vs σs b c = tt
    scoped_form (class q) ty S vs σs b c = class_given s q σs S c b
    scoped_form (fail n) ty S vs σs b c = tt
    scoped_form (primitive p es) ty S vs σs b c = scoped_exprs es S vs σs b c
    scoped_form (is_ e p) ty S vs σs b c = scoped e S vs σs b c
    scoped_form (fits e) ty S vs σs (a, b) c = (types_given ty σs S c a, scoped e S vs σs b c)
    scoped_form (block is) ty S vs σs b c = scoped_items is S vs σs b c
    scoped_form (first as_) ty S vs σs b c = scoped_alts as_ S vs σs b c
    scoped_form (choose as_) ty S vs σs b c = scoped_alts as_ S vs σs b c
    scoped_form (many q d e) ty S vs σs (a, b) c = (scoped_bounds d S vs σs a c, scoped e S vs σs b c)
    scoped_form (optional q e) ty S vs σs b c = scoped e S vs σs b c
    scoped_form (call f args) ty S vs σs (b, calls) c = (
      scoped_args args S vs σs no_parameters 0 (kinds_at (declared_at s f)) 0 (variables_at (declared_at s f)) b calls.1 calls.2 c tt,
      takes f args calls,
      tt,
    )
    scoped_form (parameter g) ty S vs σs b c = c.grammars g b

    scoped_exprs : (es : Exprs) (S : Statics) (vs : List ℕ) (σs : Instance) → BoundExprs s es S vs → Covers σs S → ScopedExprs spec params Any es σs vs
    scoped_exprs no_exprs S vs σs b c = tt
    scoped_exprs (more e es) S vs σs (a, b) c = (scoped e S vs σs a c, scoped_exprs es S vs σs b c)

    scoped_named : (ns : Named) (S : Statics) (vs : List ℕ) (σs : Instance) → BoundNamed s ns S vs → Covers σs S → ScopedNamed spec params Any ns σs vs
    scoped_named no_named S vs σs b c = tt
    scoped_named (named name e ns) S vs σs (a, b) c = (scoped e S vs σs a c, scoped_named ns S vs σs b c)

    scoped_content : (d : Content) (S : Statics) (vs : List ℕ) (σs : Instance) → BoundContent s d S vs → Covers σs S → ScopedContent spec params Any d σs vs
    scoped_content no_content S vs σs b c = tt
    scoped_content (content e) S vs σs b c = scoped e S vs σs b c

    scoped_cases : (cs : Cases) (S : Statics) (vs : List ℕ) (σs : Instance) → BoundCases s cs S vs → Covers σs S → ScopedCases spec params Any cs σs vs
    scoped_cases no_cases S vs σs b c = tt
    scoped_cases (when p e cs) S vs σs (a, b) c = (scoped e S _ σs a c, scoped_cases cs S vs σs b c)

    scoped_bounds : (d : Bounds) (S : Statics) (vs : List ℕ) (σs : Instance) → BoundBounds s d S vs → Covers σs S → ScopedBounds spec params Any d σs vs
    scoped_bounds unbounded S vs σs b c = tt
    scoped_bounds (exactly e) S vs σs b c = scoped e S vs σs b c
    scoped_bounds (from_ e) S vs σs b c = scoped e S vs σs b c
    scoped_bounds (up_to e) S vs σs b c = scoped e S vs σs b c
    scoped_bounds (between d e) S vs σs (a, b) c = (scoped d S vs σs a c, scoped e S vs σs b c)

    scoped_alts : (as_ : Alts) (S : Statics) (vs : List ℕ) (σs : Instance) → BoundAlts s as_ S vs → Covers σs S → ScopedAlts spec params Any as_ σs vs
    scoped_alts no_alts S vs σs b c = tt
    scoped_alts (alt e as_) S vs σs (a, b) c = (scoped e S vs σs a c, scoped_alts as_ S vs σs b c)
    scoped_alts (tag name e as_) S vs σs (a, b) c = (scoped e S vs σs a c, scoped_alts as_ S vs σs b c)

    scoped_items : (is : Items) (S : Statics) (vs : List ℕ) (σs : Instance) → BoundItems s is S vs → Covers σs S → ScopedItems spec params Any is σs vs
    scoped_items no_items S vs σs b c = tt
    scoped_items (item (plain e) is) S vs σs (a, b) c = (scoped e S vs σs a c, scoped_items is S _ σs b c)
    scoped_items (item (let_ x e) is) S vs σs (a, b) c = (scoped e S vs σs a c, scoped_items is S _ σs b c)
    scoped_items (item (field name x e) is) S vs σs (a, b) c = (scoped e S vs σs a c, scoped_items is S _ σs b c)
    scoped_items (item (result_ e) is) S vs σs (a, b) c = (scoped e S vs σs a c, scoped_items is S _ σs b c)

    scoped_args : (args : Args) (S : Statics) (vs : List ℕ) (σs τs : Instance) (i : ℕ) (kinds : List Kind) (j n : ℕ) → BoundArgs s args S vs
        → Matches args i kinds → TypesInOrder args j n →
        Covers σs S → Smaller τs i j → ScopedArgs spec params Any args σs vs τs
    scoped_args no_args S vs σs τs i kinds j n b a t c m = tt
    scoped_args (by_value x e args) S vs σs τs i kinds j n (p, b) a t c m =
        let r = after_value x e args i kinds a in
        (scoped e S vs σs p c, scoped_args args S vs σs τs (suc i) r.rest j n b r.more t c (smaller_next τs i j m))
    scoped_args (by_grammar x site e args) S vs σs τs i kinds j n (p, values, gs, cs, ts, b) a t c m =
        let r = after_grammar x site e args i kinds a in (
          scoped e (statics_of site) site.values (used_at site σs) p (covers_site site σs S c gs cs ts),
          values,
          any_argument site e (used_at site σs),
          fresh_grammar x i j τs r.same m,
          scoped_args args S vs σs (grammar_at x (argument_shape site e (used_at site σs)) τs) (suc i) r.rest j n b r.more t c (
            omega (arith, r.same),
            smaller_next τs i j m,
          ),
        )
    scoped_args (by_class x q args) S vs σs τs i kinds j n (p, b) a t c m =
        let r = after_class x q args i kinds a in
        let g = class_given s q σs S c p in (
          g.0,
          g.1,
          fresh_class x i j τs r.same m,
          scoped_args args S vs σs (with_set (class_set spec q (static_env σs)) x τs) (suc i) r.rest j n b r.more t c
              (smaller_set (class_set spec q (static_env σs)) x i j τs r.same m),
        )
    scoped_args (by_type x ty args) S vs σs τs i kinds j n (p, b) a (same, t) c m = (
      types_given ty σs S c p,
      fresh_type x i j τs same m,
      scoped_args args S vs σs (type_at x (closed_in σs ty) τs) i kinds (suc j) n b a t c (omega (arith, same), smaller_types τs i j m),
    )
    scoped_args (by_hand there here args) S vs σs τs i kinds j n b a t c m = absurd b

  -- ---- each copy that is used covers its declaration's parameters

  abbrev CoversOrigin : Origin → Type 0
  CoversOrigin (member f τs) = (d : Declaration) → declared_at s f ≡ Some d → Covers τs (statics_in d)
  CoversOrigin (argument site e τs) = Unit {0}

  abbrev AllCover : List Origin → Type 0
  AllCover [] = Unit {0}
  AllCover (u ∷ us) = CoversOrigin u × AllCover us

  cover_at : {u : Origin} (us : List Origin) → AllCover us → Within u us → CoversOrigin u
  cover_at [] a i = elim i [ ]
  cover_at (u ∷ us) (f, a) at_front = f
  cover_at (u ∷ us) (f, a) (behind i) = cover_at us a i

  both : (us ws : List Origin) → AllCover us → AllCover ws → AllCover (us ++ ws)
  both [] ws a b = b
  both (u ∷ us) ws (f, a) b = (f, both us ws a b)

  none_or_one : (b : Bool) (site : Site) (e : Expr) (τs : Instance) → AllCover (if b then [] else argument site e τs ∷ [])
  none_or_one true site e τs = tt
  none_or_one false site e τs = (tt, tt)

  argument_cover : (site : Site) (e : Expr) (τs : Instance) → AllCover (argument_uses spec site e τs)
  argument_cover site (expr (parameter h) ty span) τs = tt
  argument_cover site (expr (call f args) ty span) τs = none_or_one (types_alone args) site (expr (call f args) ty span) τs
  argument_cover site e τs = (tt, tt)

  sets : (args : Args) (S : Statics) (vs : List ℕ) (σs : Instance) → BoundArgs s args S vs → Covers σs S → Sets spec σs args
  sets no_args S vs σs b c = tt
  sets (by_value x e args) S vs σs (p, b) c = sets args S vs σs b c
  sets (by_grammar x site e args) S vs σs (p, values, gs, cs, ts, b) c = sets args S vs σs b c
  sets (by_class x q args) S vs σs (p, b) c = ((class_given s q σs S c p).1, sets args S vs σs b c)
  sets (by_type x ty args) S vs σs (p, b) c = sets args S vs σs b c
  sets (by_hand there here args) S vs σs b c = absurd b

  call_cover : (f : ℕ) (args : Args) (S : Statics) (vs : List ℕ) (σs : Instance) → BoundArgs s args S vs → CallsWell s f args → Covers σs S →
      CoversOrigin (member f (call_instance spec args σs no_parameters))
  call_cover f args S vs σs b (form, matches, types) c d is =
      call_covers spec σs args (kinds_in d) d.typing.vars (subst (λ o. Matches args 0 (kinds_at o)) is matches)
      (subst (λ o. TypesInOrder args 0 (variables_at o)) is types) (sets args S vs σs b c)

  mutual
    pub cover : (e : Expr) (S : Statics) (vs : List ℕ) (σs : Instance) → Bound s e S vs → Covers σs S → AllCover (uses spec e σs)
    cover (expr form ty span) S vs σs b c = cover_form form ty S vs σs b c

    cover_form : (form : Form) (ty : Ty) (S : Statics) (vs : List ℕ) (σs : Instance) → BoundForm s form ty S vs → Covers σs S
        → AllCover (form_uses spec form σs)
    cover_form (just_ e) ty S vs σs b c = cover e S vs σs b c
    cover_form (list es) ty S vs σs b c = cover_exprs es S vs σs b c
    cover_form (record_ ns) ty S vs σs b c = cover_named ns S vs σs b c
    cover_form (union_ name d) ty S vs σs b c = cover_content d S vs σs b c
    cover_form (select e name) ty S vs σs b c = cover e S vs σs b c
    cover_form (infix_ op d e) ty S vs σs (a, b) c = both (uses spec d σs) (uses spec e σs) (cover d S vs σs a c) (cover e S vs σs b c)
    cover_form (prefix_ op e) ty S vs σs b c = cover e S vs σs b c
    cover_form (cast q e) ty S vs σs (a, b) c = cover e S vs σs b c
    cover_form (builtin q es) ty S vs σs b c = cover_exprs es S vs σs b c
    cover_form (value_call f args) ty S vs σs (b, calls) c = (call_cover f args S vs σs b calls c, cover_args args S vs σs b c)
    cover_form (paren e) ty S vs σs b c = cover e S vs σs b c
    cover_form (if_ d e f) ty S vs σs (a, b, x) c =
        both (uses spec d σs) (uses spec e σs ++ uses spec f σs) (cover d S vs σs a c)
        (both (uses spec e σs) (uses spec f σs) (cover e S vs σs b c) (cover f S vs σs x c))
    cover_form (case_ e cs) ty S vs σs (a, b) c = both (uses spec e σs) (uses_cases spec cs σs) (cover e S vs σs a c) (cover_cases cs S vs σs b c)
    cover_form (for_ x start names e body) ty S vs σs (a, b, d) c =
        both (uses spec start σs) (uses spec e σs ++ uses spec body σs) (cover start S vs σs a c)
        (both (uses spec e σs) (uses spec body σs) (cover e S vs σs b c) (cover body S _ σs d c))
    cover_form (map_ names e body) ty S vs σs (a, b) c = both (uses spec e σs) (uses spec body σs) (cover e S vs σs a c) (cover body S _ σs b c)
    cover_form (pure e) ty S vs σs b c = cover e S vs σs b c
    cover_form (match e) ty S vs σs b c = cover e S vs σs b c
    cover_form (primitive p es) ty S vs σs b c = cover_exprs es S vs σs b c
    cover_form (is_ e p) ty S vs σs b c = cover e S vs σs b c
    cover_form (fits e) ty S vs σs (a, b) c = cover e S vs σs b c
    cover_form (block is) ty S vs σs b c = cover_items is S vs σs b c
    cover_form (first as_) ty S vs σs b c = cover_alts as_ S vs σs b c
    cover_form (choose as_) ty S vs σs b c = cover_alts as_ S vs σs b c
    cover_form (many q d e) ty S vs σs (a, b) c = both (uses_bounds spec d σs) (uses spec e σs) (cover_bounds d S vs σs a c) (cover e S vs σs b c)
    cover_form (optional q e) ty S vs σs b c = cover e S vs σs b c
    cover_form (call f args) ty S vs σs (b, calls) c = (call_cover f args S vs σs b calls c, cover_args args S vs σs b c)
    cover_form _ ty S vs σs b c = tt

    cover_exprs : (es : Exprs) (S : Statics) (vs : List ℕ) (σs : Instance) → BoundExprs s es S vs → Covers σs S → AllCover (uses_all spec es σs)
    cover_exprs no_exprs S vs σs b c = tt
    cover_exprs (more e es) S vs σs (a, b) c = both (uses spec e σs) (uses_all spec es σs) (cover e S vs σs a c) (cover_exprs es S vs σs b c)

    cover_named : (ns : Named) (S : Statics) (vs : List ℕ) (σs : Instance) → BoundNamed s ns S vs → Covers σs S → AllCover (uses_named spec ns σs)
    cover_named no_named S vs σs b c = tt
    cover_named (named name e ns) S vs σs (a, b) c = both (uses spec e σs) (uses_named spec ns σs) (cover e S vs σs a c) (cover_named ns S vs σs b c)

    cover_content : (d : Content) (S : Statics) (vs : List ℕ) (σs : Instance) → BoundContent s d S vs → Covers σs S → AllCover (uses_content spec d σs)
    cover_content no_content S vs σs b c = tt
    cover_content (content e) S vs σs b c = cover e S vs σs b c

    cover_cases : (cs : Cases) (S : Statics) (vs : List ℕ) (σs : Instance) → BoundCases s cs S vs → Covers σs S → AllCover (uses_cases spec cs σs)
    cover_cases no_cases S vs σs b c = tt
    cover_cases (when p e cs) S vs σs (a, b) c = both (uses spec e σs) (uses_cases spec cs σs) (cover e S _ σs a c) (cover_cases cs S vs σs b c)

    cover_bounds : (d : Bounds) (S : Statics) (vs : List ℕ) (σs : Instance) → BoundBounds s d S vs → Covers σs S → AllCover (uses_bounds spec d σs)
    cover_bounds unbounded S vs σs b c = tt
    cover_bounds (exactly e) S vs σs b c = cover e S vs σs b c
    cover_bounds (from_ e) S vs σs b c = cover e S vs σs b c
    cover_bounds (up_to e) S vs σs b c = cover e S vs σs b c
    cover_bounds (between d e) S vs σs (a, b) c = both (uses spec d σs) (uses spec e σs) (cover d S vs σs a c) (cover e S vs σs b c)

    cover_alts : (as_ : Alts) (S : Statics) (vs : List ℕ) (σs : Instance) → BoundAlts s as_ S vs → Covers σs S → AllCover (uses_alts spec as_ σs)
    cover_alts no_alts S vs σs b c = tt
    cover_alts (alt e as_) S vs σs (a, b) c = both (uses spec e σs) (uses_alts spec as_ σs) (cover e S vs σs a c) (cover_alts as_ S vs σs b c)
    cover_alts (tag name e as_) S vs σs (a, b) c = both (uses spec e σs) (uses_alts spec as_ σs) (cover e S vs σs a c) (cover_alts as_ S vs σs b c)

    cover_items : (is : Items) (S : Statics) (vs : List ℕ) (σs : Instance) → BoundItems s is S vs → Covers σs S → AllCover (uses_items spec is σs)
    cover_items no_items S vs σs b c = tt
    cover_items (item (plain e) is) S vs σs (a, b) c = both (uses spec e σs) (uses_items spec is σs) (cover e S vs σs a c) (cover_items is S _ σs b c)
    cover_items (item (let_ x e) is) S vs σs (a, b) c = both (uses spec e σs) (uses_items spec is σs) (cover e S vs σs a c) (cover_items is S _ σs b c)
    cover_items (item (field name x e) is) S vs σs (a, b) c = both (uses spec e σs) (uses_items spec is σs) (cover e S vs σs a c) (cover_items is S _ σs b c)
    cover_items (item (result_ e) is) S vs σs (a, b) c = both (uses spec e σs) (uses_items spec is σs) (cover e S vs σs a c) (cover_items is S _ σs b c)

    cover_args : (args : Args) (S : Statics) (vs : List ℕ) (σs : Instance) → BoundArgs s args S vs → Covers σs S → AllCover (uses_args spec args σs)
    cover_args no_args S vs σs b c = tt
    cover_args (by_value x e args) S vs σs (p, b) c = both (uses spec e σs) (uses_args spec args σs) (cover e S vs σs p c) (cover_args args S vs σs b c)
    cover_args (by_grammar x site e args) S vs σs (p, values, gs, cs, ts, b) c =
        let inner = covers_site site σs S c gs cs ts in
        both (argument_uses spec site e (used_at site σs)) (uses spec e (used_at site σs) ++ uses_args spec args σs) (argument_cover site e (used_at site σs))
        (both (uses spec e (used_at site σs)) (uses_args spec args σs) (cover e (statics_of site) site.values (used_at site σs) p inner)
        (cover_args args S vs σs b c))
    cover_args (by_class x q args) S vs σs (p, b) c = cover_args args S vs σs b c
    cover_args (by_type x ty args) S vs σs (p, b) c = cover_args args S vs σs b c
    cover_args (by_hand there here args) S vs σs b c = absurd b

  -- ---- each member that is needed

  -- the declaration of a form that is there
  formed : (ds : List Declaration) (f : ℕ) (e : Expr) → form_at (map decl_of ds) f ≡ Some e → (d : Declaration) × (queue.item ds f ≡ Some d)
      × (d.standing ≡ sp.form e)
  formed [] f e is = absurd (search (rules, is))
  formed (d ∷ ds) zero e is = (d, refl, stands d.standing is)
    where
      stands : (t : Standing) → form_at (record { name = d.span; body = body_of t } ∷ []) 0 ≡ Some e → t ≡ sp.form e
      stands (sp.form p) h = ap sp.form (some_is h)
      stands (sp.class_of q) h = absurd (search (rules, h))
      stands (sp.bitdata n) h = absurd (search (rules, h))
      stands (sp.shape n) h = absurd (search (rules, h))
  formed (d ∷ ds) (suc f) e is = formed ds f e is

  module _ (valid : IsValid s) (entry : ℕ) (start : Declaration) (is_start : declared_at s entry ≡ Some start) (without : start.parameters ≡ []) where
    covered : {o : Origin} → Reached (copy_uses spec) (member entry (unit_types start.typing.vars)) o → CoversOrigin o
    covered at_entry = λ d is. subst (λ z. Covers (unit_types start.typing.vars) (statics_in z)) (some_is (sym is_start ∙ is)) (units start without)
      where
        units : (d : Declaration) → d.parameters ≡ [] → Covers (unit_types d.typing.vars) (statics_in d)
        units d e = subst (λ ps. Covers (unit_types d.typing.vars)
            (statics_in (record { unit = d.unit; name = d.name; span = d.span; kind = d.kind; parameters = ps; typing = d.typing; standing = d.standing })))
            (sym e) (units_cover d.typing.vars)
    covered (by_use {x = argument site e σs} r i) = elim i [ ]
    covered (by_use {x = member f σs} {u = u} r i) = from (form_at spec.decls f) refl i (covered r)
      where
        from : (o : Option Expr) → form_at spec.decls f ≡ o → Within u (body_uses spec o σs) → CoversOrigin (member f σs) → CoversOrigin u
        from None is j c = elim j [ ]
        from (Some e) is j c =
            let h = formed s.declarations f e is in
            cover_at (uses spec e σs) (cover e (statics_in h.0) (values_in h.0) σs (valid.bound f h.0 e h.1 h.2) (c h.0 h.1)) j

    pub valid_sound : Sound spec params entry start.typing.vars
    valid_sound f τs body needed is =
        let h = formed s.declarations f body is in
        subst (λ vs. Scoped spec params Any body τs vs) (sym (ap values_at h.1))
        (scoped body (statics_in h.0) (values_in h.0) τs (valid.bound f h.0 body h.1 h.2) (covered needed h.0 h.1))
