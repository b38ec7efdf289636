-- A typed tree with its types changed twice.
use Rattle.std.proofs.Common.{◌≡◌, refl, ap, ◌∙◌}
use Rattle.ddl_types.specs.Types.{Ty}
use Rattle.ddl_typed.specs.Tree as t
use Rattle.ddl_typing.specs.Retyped.{retyped, retyped_form, retyped_all, retyped_named, retyped_content, retyped_cases, retyped_bounds, retyped_alts}
use Rattle.ddl_typing.specs.Retyped.{retyped_args, retyped_items, retyped_item}

module _ (f h g : Ty → Ty) (e : (u : Ty) → g u ≡ h (f u)) where
  mutual
    pub twice : (x : t.Expr) → retyped x g ≡ retyped (retyped x f) h
    twice (t.expr c u s) = ap (λ y. t.expr y (g u) s) (form_twice c) ∙ ap (λ y. t.expr (retyped_form (retyped_form c f) h) y s) (e u)

    pub form_twice : (c : t.Form) → retyped_form c g ≡ retyped_form (retyped_form c f) h
    form_twice (t.just_ x) = ap (λ y. t.just_ y) (twice x)
    form_twice (t.list xs) = ap (λ y. t.list y) (all_twice xs)
    form_twice (t.record_ ns) = ap (λ y. t.record_ y) (named_twice ns)
    form_twice (t.union_ n c) = ap (λ y. t.union_ n y) (content_twice c)
    form_twice (t.select x n) = ap (λ y. t.select y n) (twice x)
    form_twice (t.infix_ o x w) = ap (λ y. t.infix_ o y (retyped w g)) (twice x) ∙ ap (λ y. t.infix_ o (retyped (retyped x f) h) y) (twice w)
    form_twice (t.prefix_ o x) = ap (λ y. t.prefix_ o y) (twice x)
    form_twice (t.cast o x) = ap (λ y. t.cast o y) (twice x)
    form_twice (t.builtin o xs) = ap (λ y. t.builtin o y) (all_twice xs)
    form_twice (t.value_call d as_) = ap (λ y. t.value_call d y) (args_twice as_)
    form_twice (t.paren x) = ap (λ y. t.paren y) (twice x)
    form_twice (t.if_ x w v) = ap (λ y. t.if_ y (retyped w g) (retyped v g)) (twice x) ∙ ap (λ y. t.if_ (retyped (retyped x f) h) y (retyped v g)) (twice w)
        ∙ ap (λ y. t.if_ (retyped (retyped x f) h) (retyped (retyped w f) h) y) (twice v)
    form_twice (t.case_ x cs) = ap (λ y. t.case_ y (retyped_cases cs g)) (twice x) ∙ ap (λ y. t.case_ (retyped (retyped x f) h) y) (cases_twice cs)
    form_twice (t.for_ n x b w v) = ap (λ y. t.for_ n y b (retyped w g) (retyped v g)) (twice x)
        ∙ ap (λ y. t.for_ n (retyped (retyped x f) h) b y (retyped v g)) (twice w)
        ∙ ap (λ y. t.for_ n (retyped (retyped x f) h) b (retyped (retyped w f) h) y) (twice v)
    form_twice (t.map_ b x w) = ap (λ y. t.map_ b y (retyped w g)) (twice x) ∙ ap (λ y. t.map_ b (retyped (retyped x f) h) y) (twice w)
    form_twice (t.pure x) = ap (λ y. t.pure y) (twice x)
    form_twice (t.match x) = ap (λ y. t.match y) (twice x)
    form_twice (t.primitive o xs) = ap (λ y. t.primitive o y) (all_twice xs)
    form_twice (t.is_ x p) = ap (λ y. t.is_ y p) (twice x)
    form_twice (t.fits x) = ap (λ y. t.fits y) (twice x)
    form_twice (t.block is) = ap (λ y. t.block y) (items_twice is)
    form_twice (t.first as_) = ap (λ y. t.first y) (alts_twice as_)
    form_twice (t.choose as_) = ap (λ y. t.choose y) (alts_twice as_)
    form_twice (t.many c b x) = ap (λ y. t.many c y (retyped x g)) (bounds_twice b) ∙ ap (λ y. t.many c (retyped_bounds (retyped_bounds b f) h) y) (twice x)
    form_twice (t.optional c x) = ap (λ y. t.optional c y) (twice x)
    form_twice (t.call d as_) = ap (λ y. t.call d y) (args_twice as_)
    form_twice (t.text bs) = refl
    form_twice (t.local n) = refl
    form_twice (t.literal n) = refl
    form_twice (t.truth b) = refl
    form_twice t.nothing_ = refl
    form_twice t.uint8 = refl
    form_twice t.end = refl
    form_twice (t.class c) = refl
    form_twice (t.fail n) = refl
    form_twice (t.parameter n) = refl

    pub all_twice : (xs : t.Exprs) → retyped_all xs g ≡ retyped_all (retyped_all xs f) h
    all_twice t.no_exprs = refl
    all_twice (t.more x xs) = ap (λ y. t.more y (retyped_all xs g)) (twice x) ∙ ap (t.more (retyped (retyped x f) h)) (all_twice xs)

    pub named_twice : (ns : t.Named) → retyped_named ns g ≡ retyped_named (retyped_named ns f) h
    named_twice t.no_named = refl
    named_twice (t.named n x ns) = ap (λ y. t.named n y (retyped_named ns g)) (twice x) ∙ ap (t.named n (retyped (retyped x f) h)) (named_twice ns)

    pub content_twice : (c : t.Content) → retyped_content c g ≡ retyped_content (retyped_content c f) h
    content_twice t.no_content = refl
    content_twice (t.content x) = ap t.content (twice x)

    pub cases_twice : (cs : t.Cases) → retyped_cases cs g ≡ retyped_cases (retyped_cases cs f) h
    cases_twice t.no_cases = refl
    cases_twice (t.when p x cs) = ap (λ y. t.when p y (retyped_cases cs g)) (twice x) ∙ ap (t.when p (retyped (retyped x f) h)) (cases_twice cs)

    pub bounds_twice : (b : t.Bounds) → retyped_bounds b g ≡ retyped_bounds (retyped_bounds b f) h
    bounds_twice t.unbounded = refl
    bounds_twice (t.exactly x) = ap t.exactly (twice x)
    bounds_twice (t.from_ x) = ap t.from_ (twice x)
    bounds_twice (t.up_to x) = ap t.up_to (twice x)
    bounds_twice (t.between x w) = ap (λ y. t.between y (retyped w g)) (twice x) ∙ ap (t.between (retyped (retyped x f) h)) (twice w)

    pub alts_twice : (as_ : t.Alts) → retyped_alts as_ g ≡ retyped_alts (retyped_alts as_ f) h
    alts_twice t.no_alts = refl
    alts_twice (t.alt x as_) = ap (λ y. t.alt y (retyped_alts as_ g)) (twice x) ∙ ap (t.alt (retyped (retyped x f) h)) (alts_twice as_)
    alts_twice (t.tag n x as_) = ap (λ y. t.tag n y (retyped_alts as_ g)) (twice x) ∙ ap (t.tag n (retyped (retyped x f) h)) (alts_twice as_)

    pub args_twice : (as_ : t.Args) → retyped_args as_ g ≡ retyped_args (retyped_args as_ f) h
    args_twice t.no_args = refl
    args_twice (t.by_value n x as_) = ap (λ y. t.by_value n y (retyped_args as_ g)) (twice x) ∙ ap (t.by_value n (retyped (retyped x f) h)) (args_twice as_)
    args_twice (t.by_grammar n s x as_) = ap (λ y. t.by_grammar n s y (retyped_args as_ g)) (twice x)
        ∙ ap (t.by_grammar n s (retyped (retyped x f) h)) (args_twice as_)
    args_twice (t.by_class n c as_) = ap (t.by_class n c) (args_twice as_)
    args_twice (t.by_type n u as_) = ap (λ y. t.by_type n y (retyped_args as_ g)) (e u) ∙ ap (t.by_type n (h (f u))) (args_twice as_)
    args_twice (t.by_hand a b as_) = ap (t.by_hand a b) (args_twice as_)

    pub items_twice : (is : t.Items) → retyped_items is g ≡ retyped_items (retyped_items is f) h
    items_twice t.no_items = refl
    items_twice (t.item i is) = ap (λ y. t.item y (retyped_items is g)) (item_twice i) ∙ ap (t.item (retyped_item (retyped_item i f) h)) (items_twice is)

    pub item_twice : (i : t.Item) → retyped_item i g ≡ retyped_item (retyped_item i f) h
    item_twice (t.plain x) = ap t.plain (twice x)
    item_twice (t.let_ n x) = ap (t.let_ n) (twice x)
    item_twice (t.field l n x) = ap (t.field l n) (twice x)
    item_twice (t.result_ x) = ap t.result_ (twice x)
