-- The copies that a form uses are at instances without variables, and the shapes there name copies that are needed.
use Rattle.std.proofs.Common.{ℕ, Bool, true, false, if◌then◌else◌, List, [], ◌∷◌, ◌++◌}
use Rattle.ddl_tree.specs.declared.kind.Kind.{Kind}
use Rattle.ddl_types.specs.Types.{Ty}
use Rattle.ddl_typed.specs.Tree.{Site, Expr, Form, Exprs, Named, Content, Cases, Bounds, Alts, Args, Items, Spec, expr, text, local, literal, truth, nothing_}
use Rattle.ddl_typed.specs.Tree.{just_, list, record_, union_, select, infix_, prefix_, cast, builtin, value_call, paren, if_, case_, for_, map_, pure, uint8}
use Rattle.ddl_typed.specs.Tree.{match, end, class, fail, primitive, is_, fits, block, first, choose, many, optional, call, parameter, no_exprs, more, no_named}
use Rattle.ddl_typed.specs.Tree.{named, no_content, content, no_cases, when, unbounded, exactly, from_, up_to, between, no_alts, alt, tag, no_args, by_value}
use Rattle.ddl_typed.specs.Tree.{by_grammar, by_class, by_type, by_hand, no_items, item, plain, let_, field, result_}
use Rattle.ddl_typed.specs.Specification.{Specification, spec_of}
use Rattle.ddl_copies.specs.Shapes.{Instance, Origin, no_parameters, member, argument, used_at, types_alone}
use Rattle.ddl_copies.specs.Scoped.{Scoped, ScopedForm, ScopedExprs, ScopedNamed, ScopedContent, ScopedCases, ScopedBounds, ScopedAlts, ScopedItems, ScopedArgs}
use Rattle.ddl_copies.specs.Queue.{Within, at_front, behind}
use Rattle.ddl_copies.specs.Needed.{argument_uses, uses, form_uses, uses_all, uses_named, uses_content, uses_cases, uses_bounds, uses_alts, uses_items}
use Rattle.ddl_copies.specs.Needed.{uses_args}
use Rattle.ddl_copies.specs.Kinds.{ValueForm, IsOfValue, ValueForms, ValueFields, ValueContent, ValueCases, ValueBounds, GrammarForm, IsOfGrammar, GrammarCases}
use Rattle.ddl_copies.specs.Kinds.{GrammarAlternatives, GrammarItems, Arguments}
use Rattle.ddl_copies.proofs.Fine.{V, K, value_rest, grammar_rest, class_rest, Fine, fine_used, fine_call}

module _ (s : Specification) (params : ℕ → List ℕ) (N : Origin → Type 0) where
  abbrev spec : Spec
  spec = spec_of s

  -- a copy that is used
  abbrev pub FineOrigin : Origin → Type 0
  FineOrigin (member f τs) = Fine s N τs
  FineOrigin (argument site e τs) = Fine s N τs × GrammarForm (V s) (K s) e × Scoped (spec_of s) params N e τs site.values

  abbrev pub AllFine : List Origin → Type 0
  AllFine [] = Unit {0}
  AllFine (u ∷ us) = FineOrigin u × AllFine us

  pub fine_at : {u : Origin} (us : List Origin) → AllFine us → Within u us → FineOrigin u
  fine_at [] a i = elim i [ ]
  fine_at (u ∷ us) (f, a) at_front = f
  fine_at (u ∷ us) (f, a) (behind i) = fine_at us a i

  both : (us vs : List Origin) → AllFine us → AllFine vs → AllFine (us ++ vs)
  both [] vs a b = b
  both (u ∷ us) vs (f, a) b = (f, both us vs a b)

  call_fine : (b : Bool) (o : Origin) → FineOrigin o → AllFine (if b then [] else o ∷ [])
  call_fine true o f = tt
  call_fine false o f = (f, tt)

  argument_fine : (site : Site) (e : Expr) (τs : Instance) → Fine s N τs → GrammarForm (V s) (K s) e → Scoped spec params N e τs site.values
      → AllFine (argument_uses spec site e τs)
  argument_fine site (expr (parameter h) ty span) τs f k g = tt
  argument_fine site (expr (call x args) ty span) τs f k g = call_fine (types_alone args) (argument site (expr (call x args) ty span) τs) (f, k, g)
  argument_fine site e τs f k g = ((f, k, g), tt)

  mutual
    pub value_fine : (e : Expr) (σs : Instance) (vs : List ℕ) → Scoped spec params N e σs vs → ValueForm (V s) (K s) e → Fine s N σs → AllFine (uses spec e σs)
    value_fine (expr form ty span) σs vs g k f = value_form form ty σs vs g k f

    value_form : (form : Form) (ty : Ty) (σs : Instance) (vs : List ℕ) → ScopedForm spec params N form ty σs vs → IsOfValue (V s) (K s) form → Fine s N σs
        → AllFine (form_uses spec form σs)
    value_form (just_ e) ty σs vs g k f = value_fine e σs vs g k f
    value_form (union_ name c) ty σs vs g k f = content_fine c σs vs g k f
    value_form (record_ ns) ty σs vs g k f = fields_fine ns σs vs g k f
    value_form (list es) ty σs vs g k f = values_fine es σs vs g k f
    value_form (builtin b es) ty σs vs g k f = values_fine es σs vs g k f
    value_form (cast q e) ty σs vs (t, g) k f = value_fine e σs vs g k f
    value_form (select e name) ty σs vs g k f = value_fine e σs vs g k f
    value_form (infix_ op a b) ty σs vs (g, h) (k, l) f = both (uses spec a σs) (uses spec b σs) (value_fine a σs vs g k f) (value_fine b σs vs h l f)
    value_form (prefix_ op e) ty σs vs g k f = value_fine e σs vs g k f
    value_form (value_call x args) ty σs vs (g, takes, needed) (v, a) f =
        (fine_call s N params args 0 (K s x) σs vs no_parameters g a f tt, args_fine args 0 (K s x) σs vs no_parameters g a f)
    value_form (paren e) ty σs vs g k f = value_fine e σs vs g k f
    value_form (if_ e a b) ty σs vs (g, h, i) (k, l, n) f =
        both (uses spec e σs) (uses spec a σs ++ uses spec b σs) (value_fine e σs vs g k f)
        (both (uses spec a σs) (uses spec b σs) (value_fine a σs vs h l f) (value_fine b σs vs i n f))
    value_form (case_ e cs) ty σs vs (g, h) (k, l) f = both (uses spec e σs) (uses_cases spec cs σs) (value_fine e σs vs g k f)
        (value_cases_fine cs σs vs h l f)
    value_form (for_ x start names e body) ty σs vs (g, h, i) (k, l, n) f =
        both (uses spec start σs) (uses spec e σs ++ uses spec body σs) (value_fine start σs vs g k f)
        (both (uses spec e σs) (uses spec body σs) (value_fine e σs vs h l f) (value_fine body σs _ i n f))
    value_form (map_ names e body) ty σs vs (g, h) (k, l) f = both (uses spec e σs) (uses spec body σs) (value_fine e σs vs g k f) (value_fine body σs _ h l f)
    value_form (text bs) ty σs vs g k f = tt
    value_form (local x) ty σs vs g k f = tt
    value_form (literal n) ty σs vs g k f = tt
    value_form (truth b) ty σs vs g k f = tt
    value_form nothing_ ty σs vs g k f = tt
    value_form _ ty σs vs g k f = absurd k

    values_fine : (es : Exprs) (σs : Instance) (vs : List ℕ) → ScopedExprs spec params N es σs vs → ValueForms (V s) (K s) es → Fine s N σs
        → AllFine (uses_all spec es σs)
    values_fine no_exprs σs vs g k f = tt
    values_fine (more e es) σs vs (g, h) (k, l) f = both (uses spec e σs) (uses_all spec es σs) (value_fine e σs vs g k f) (values_fine es σs vs h l f)

    fields_fine : (ns : Named) (σs : Instance) (vs : List ℕ) → ScopedNamed spec params N ns σs vs → ValueFields (V s) (K s) ns → Fine s N σs
        → AllFine (uses_named spec ns σs)
    fields_fine no_named σs vs g k f = tt
    fields_fine (named name e ns) σs vs (g, h) (k, l) f = both (uses spec e σs) (uses_named spec ns σs) (value_fine e σs vs g k f) (fields_fine ns σs vs h l f)

    content_fine : (c : Content) (σs : Instance) (vs : List ℕ) → ScopedContent spec params N c σs vs → ValueContent (V s) (K s) c → Fine s N σs
        → AllFine (uses_content spec c σs)
    content_fine no_content σs vs g k f = tt
    content_fine (content e) σs vs g k f = value_fine e σs vs g k f

    value_cases_fine : (cs : Cases) (σs : Instance) (vs : List ℕ) → ScopedCases spec params N cs σs vs → ValueCases (V s) (K s) cs → Fine s N σs
        → AllFine (uses_cases spec cs σs)
    value_cases_fine no_cases σs vs g k f = tt
    value_cases_fine (when p e cs) σs vs (g, h) (k, l) f =
        both (uses spec e σs) (uses_cases spec cs σs) (value_fine e σs _ g k f) (value_cases_fine cs σs vs h l f)

    bounds_fine : (b : Bounds) (σs : Instance) (vs : List ℕ) → ScopedBounds spec params N b σs vs → ValueBounds (V s) (K s) b → Fine s N σs
        → AllFine (uses_bounds spec b σs)
    bounds_fine unbounded σs vs g k f = tt
    bounds_fine (exactly a) σs vs g k f = value_fine a σs vs g k f
    bounds_fine (from_ a) σs vs g k f = value_fine a σs vs g k f
    bounds_fine (up_to b) σs vs g k f = value_fine b σs vs g k f
    bounds_fine (between a b) σs vs (g, h) (k, l) f = both (uses spec a σs) (uses spec b σs) (value_fine a σs vs g k f) (value_fine b σs vs h l f)

    pub grammar_fine : (e : Expr) (σs : Instance) (vs : List ℕ) → Scoped spec params N e σs vs → GrammarForm (V s) (K s) e → Fine s N σs
        → AllFine (uses spec e σs)
    grammar_fine (expr form ty span) σs vs g k f = grammar_form form ty σs vs g k f

    grammar_form : (form : Form) (ty : Ty) (σs : Instance) (vs : List ℕ) → ScopedForm spec params N form ty σs vs → IsOfGrammar (V s) (K s) form → Fine s N σs
        → AllFine (form_uses spec form σs)
    grammar_form (text bs) ty σs vs g k f = tt
    grammar_form (pure e) ty σs vs g k f = value_fine e σs vs g k f
    grammar_form uint8 ty σs vs g k f = tt
    grammar_form (match e) ty σs vs g k f = value_fine e σs vs g k f
    grammar_form end ty σs vs g k f = tt
    grammar_form (class c) ty σs vs g k f = tt
    grammar_form (fail n) ty σs vs g k f = tt
    grammar_form (is_ e p) ty σs vs g k f = value_fine e σs vs g k f
    grammar_form (primitive p es) ty σs vs g k f = values_fine es σs vs g k f
    grammar_form (fits e) ty σs vs (t, g) k f = value_fine e σs vs g k f
    grammar_form (paren e) ty σs vs g k f = grammar_fine e σs vs g k f
    grammar_form (block is) ty σs vs g k f = items_fine is σs vs g k f
    grammar_form (first as_) ty σs vs g k f = alternatives_fine as_ σs vs g k f
    grammar_form (choose as_) ty σs vs g k f = alternatives_fine as_ σs vs g k f
    grammar_form (many q b e) ty σs vs (g, h) (k, l) f = both (uses_bounds spec b σs) (uses spec e σs) (bounds_fine b σs vs g k f) (grammar_fine e σs vs h l f)
    grammar_form (optional q e) ty σs vs g k f = grammar_fine e σs vs g k f
    grammar_form (if_ e a b) ty σs vs (g, h, i) (k, l, n) f =
        both (uses spec e σs) (uses spec a σs ++ uses spec b σs) (value_fine e σs vs g k f)
        (both (uses spec a σs) (uses spec b σs) (grammar_fine a σs vs h l f) (grammar_fine b σs vs i n f))
    grammar_form (case_ e cs) ty σs vs (g, h) (k, l) f = both (uses spec e σs) (uses_cases spec cs σs) (value_fine e σs vs g k f)
        (grammar_cases_fine cs σs vs h l f)
    grammar_form (call x args) ty σs vs (g, takes, needed) (v, a) f =
        (fine_call s N params args 0 (K s x) σs vs no_parameters g a f tt, args_fine args 0 (K s x) σs vs no_parameters g a f)
    grammar_form (for_ x start names e body) ty σs vs (g, h, i) (k, l, n) f =
        both (uses spec start σs) (uses spec e σs ++ uses spec body σs) (value_fine start σs vs g k f)
        (both (uses spec e σs) (uses spec body σs) (value_fine e σs vs h l f) (grammar_fine body σs _ i n f))
    grammar_form (map_ names e body) ty σs vs (g, h) (k, l) f =
        both (uses spec e σs) (uses spec body σs) (value_fine e σs vs g k f) (grammar_fine body σs _ h l f)
    grammar_form (parameter x) ty σs vs g k f = tt
    grammar_form _ ty σs vs g k f = absurd k

    grammar_cases_fine : (cs : Cases) (σs : Instance) (vs : List ℕ) → ScopedCases spec params N cs σs vs → GrammarCases (V s) (K s) cs → Fine s N σs
        → AllFine (uses_cases spec cs σs)
    grammar_cases_fine no_cases σs vs g k f = tt
    grammar_cases_fine (when p e cs) σs vs (g, h) (k, l) f =
        both (uses spec e σs) (uses_cases spec cs σs) (grammar_fine e σs _ g k f) (grammar_cases_fine cs σs vs h l f)

    alternatives_fine : (as_ : Alts) (σs : Instance) (vs : List ℕ) → ScopedAlts spec params N as_ σs vs → GrammarAlternatives (V s) (K s) as_ → Fine s N σs
        → AllFine (uses_alts spec as_ σs)
    alternatives_fine no_alts σs vs g k f = tt
    alternatives_fine (alt e as_) σs vs (g, h) (k, l) f = both (uses spec e σs) (uses_alts spec as_ σs) (grammar_fine e σs vs g k f)
        (alternatives_fine as_ σs vs h l f)
    alternatives_fine (tag name e as_) σs vs (g, h) (k, l) f =
        both (uses spec e σs) (uses_alts spec as_ σs) (grammar_fine e σs vs g k f) (alternatives_fine as_ σs vs h l f)

    items_fine : (is : Items) (σs : Instance) (vs : List ℕ) → ScopedItems spec params N is σs vs → GrammarItems (V s) (K s) is → Fine s N σs
        → AllFine (uses_items spec is σs)
    items_fine no_items σs vs g k f = tt
    items_fine (item (plain e) is) σs vs (g, h) (k, l) f = both (uses spec e σs) (uses_items spec is σs) (grammar_fine e σs vs g k f) (items_fine is σs _ h l f)
    items_fine (item (let_ x e) is) σs vs (g, h) (k, l) f =
        both (uses spec e σs) (uses_items spec is σs) (grammar_fine e σs vs g k f) (items_fine is σs _ h l f)
    items_fine (item (field name x e) is) σs vs (g, h) (k, l) f =
        both (uses spec e σs) (uses_items spec is σs) (grammar_fine e σs vs g k f) (items_fine is σs _ h l f)
    items_fine (item (result_ e) is) σs vs (g, h) (k, l) f =
        both (uses spec e σs) (uses_items spec is σs) (grammar_fine e σs vs g k f) (items_fine is σs _ h l f)

    args_fine : (args : Args) (i : ℕ) (ks : List Kind) (σs : Instance) (vs : List ℕ) (τs : Instance) → ScopedArgs spec params N args σs vs τs
        → Arguments (V s) (K s) args i ks → Fine s N σs →
        AllFine (uses_args spec args σs)
    args_fine no_args i ks σs vs τs g a f = tt
    args_fine (by_value x e args) i ks σs vs τs (g, h) a f =
        let r = value_rest s x e args i ks a in
        both (uses spec e σs) (uses_args spec args σs) (value_fine e σs vs g r.of f) (args_fine args _ r.rest σs vs τs h r.more f)
    args_fine (by_grammar x site e args) i ks σs vs τs (g, every, needed, fresh, h) a f =
        let r = grammar_rest s x site e args i ks a in
        let used = fine_used s N site σs f in
        both (argument_uses spec site e (used_at site σs)) (uses spec e (used_at site σs) ++ uses_args spec args σs)
        (argument_fine site e (used_at site σs) used r.of g)
        (both (uses spec e (used_at site σs)) (uses_args spec args σs) (grammar_fine e (used_at site σs) site.values g r.of used)
        (args_fine args _ r.rest σs vs _ h r.more f))
    args_fine (by_class x c args) i ks σs vs τs (inside, some, fresh, h) a f = let r =
        class_rest s x c args i ks a in args_fine args _ r.rest σs vs _ h r.more f
    args_fine (by_type x t args) i ks σs vs τs (inside, fresh, h) a f = args_fine args i ks σs vs _ h a f
    args_fine (by_hand there here args) i ks σs vs τs g a f = absurd a
