-- The induction over forms, for both halves: a copy means what the form means.
use Rattle.std.proofs.Common.{◌≡◌, ℕ, suc, Bool, List, [], ◌∷◌, Option, Some, None, refl, ap, subst, sym, ◌∙◌}
use Rattle.ddl_base.specs.declared.span.Span.{Span}
use Rattle.ddl_types.specs.Types.{Ty}
use Rattle.ddl_types.specs.Value.{Value, Values, Pairs, Stream, nothing, just, array, no_values, no_pairs, pair}
use Rattle.ddl_types.specs.Outcome.{Outcome, parsed}
use Rattle.ddl_types.specs.Joining.{leave}
use Rattle.ddl_typed.specs.Tree.{under, Class, Expr, Form, Exprs, Named, Content, Cases, Bounds, Alts, Args, Items, Spec, expr, text, local, literal, truth}
use Rattle.ddl_typed.specs.Tree.{nothing_, just_, list, record_, union_, select, infix_, prefix_, cast, builtin, value_call, paren, if_, case_, for_, map_}
use Rattle.ddl_typed.specs.Tree.{pure, uint8, match, end, class, fail, primitive, is_, fits, block, first, choose, many, optional, call, parameter, no_exprs}
use Rattle.ddl_typed.specs.Tree.{more, no_named, named, no_content, content, no_cases, when, unbounded, exactly, from_, up_to, between, no_alts, alt, tag}
use Rattle.ddl_typed.specs.Tree.{no_args, by_value, by_grammar, by_class, by_type, by_hand, no_items, item, plain, let_, field, result_}
use Rattle.ddl_typed.specs.Env.{Env, empty, with_value, with_grammar, with_class, with_type, named_in, closed, lookup}
use Rattle.ddl_ops.specs.Valued.{gives, given, stuck, counts, then_value, then_parse}
use Rattle.ddl_typed.specs.Lower.{Lower}
use Rattle.ddl_ops.specs.Numbers.{number_type, number_at}
use Rattle.ddl_ops.specs.Casts.{target, fit, fitted, cast_value}
use Rattle.ddl_typed.specs.Classes.{class_set}
use Rattle.ddl_ops.specs.ByteSets.{class_byte}
use Rattle.ddl_typed.specs.Repetition.{Repetition, is_below, is_full}
use Rattle.ddl_typed.specs.Loops.{Fold, Each, elements_of, is_map, with_pair, gathered}
use Rattle.ddl_ops.specs.Arrays.{snoc}
use Rattle.ddl_typed.specs.Blocks.{Built, nothing_built}
use Rattle.ddl_ops.specs.Patterns.{matched, name_of}
use Rattle.ddl_typed.specs.Choices.{of_some}
use Rattle.ddl_typed.specs.Meaning.{called, val, form_val, vals, named_vals, content_val, case_val, args_env, limits_of, fold_values, each_values, folds}
use Rattle.ddl_typed.specs.Meaning.{eaches, den, form_den, den_items, den_first, den_choose, den_case, fold_value_turn, each_value_turn, fold_turn, each_turn}
use Rattle.ddl_typed.specs.Meaning.{on_or_stop, repeat_turn}
use Rattle.ddl_copies.specs.Shapes as sh
use Rattle.ddl_copies.specs.Shapes.{Shape, Instance, Origin, no_parameters, grammar_at, class_at, type_at, member, shape_of, static_env, closed_in, used_at}
use Rattle.ddl_copies.specs.Shapes.{captured, argument_shape, with_set, call_instance}
use Rattle.ddl_copies.specs.Copied.{name_here, hands_on, set_or, parameter_call, copied, copied_form, copied_exprs, copied_named, copied_content, copied_cases}
use Rattle.ddl_copies.specs.Copied.{copied_bounds, copied_alts, copied_items, copied_args}
use Rattle.ddl_copies.proofs.Turns.{copied_repetition, copied_fold, copied_each}
use Rattle.ddl_copies.specs.Scoped.{IsSome, TypesGiven, value_names, names_in_turn, Takes, Scoped, ScopedForm, ScopedExprs, ScopedNamed, ScopedContent}
use Rattle.ddl_copies.specs.Scoped.{ScopedCases, ScopedBounds, ScopedAlts, ScopedItems, ScopedArgs}
use Rattle.ddl_copies.proofs.Delivered.{Delivered}
use Rattle.ddl_copies.proofs.Names.{Agree, Have, handed, handed_all}
use Rattle.ddl_ops.proofs.Near.{Half, Near, at_stuck, at_tick, near_same, both_near, biased_near, bind_near, leave_near, choice_near}
use Rattle.ddl_ops.proofs.Meeting.{Meets, is_given, is_counted, is_stuck, meets_same, then_value_meets, then_parse_near, then_same, parse_same}
use Rattle.ddl_copies.proofs.NearParts.{infix_meets, branch_meets, branch_near, value_at_meets, outcome_at_near, under_tag_near, or_nothing_near}
use Rattle.ddl_copies.proofs.Fitting.{SameValue, Stands, Real, Use, leads_lift, values_part, real_agree, real_have, real_lift, fits_lift, fits_pick, fits_find}
use Rattle.ddl_copies.proofs.Fitting.{class_same, closed_same, arg_stands, arg_needed}
use Rattle.ddl_copies.proofs.Seeing.{Sees, sees_more, sees_optional, sees_turn, sees_type, sees_class, sees_grammar, sees_nothing, type_there, env_hands}
use Rattle.ddl_copies.proofs.Seeing.{given_class}

pub leave_given : {A : Type 0} (o : Option A) (k : A → Outcome) → then_parse (given o) (λ p. leave (k p)) ≡ leave (then_parse (given o) k)
leave_given (Some a) k = refl
leave_given None k = refl

class_there : {h : Half} (made : Spec) (o : Option (ℕ → Bool)) (c : Class) (copy : Env) (span : Span) (s : Stream) → IsSome o
    → Near h (class_byte o span s) (class_byte (class_set made (set_or o c) copy) span s)
class_there made (Some set) c copy span s i = near_same _
class_there made None c copy span s i = absurd i

module _ (h : Half) (spec made : Spec) (params : ℕ → List ℕ) (Needed : Origin → Type 0) (number : Origin
    → ℕ) (delivered : Delivered spec params Needed number made) where
  -- what calls and turns keep
  pub record LowerKeeps (l : ℕ → Lower) (l' : Lower) : Type 0 where
    pub den : (c : ℕ) (e : Expr) (σs : Instance) (vs : List ℕ) (env copy : Env) (s : Stream) → Scoped spec params Needed e σs vs
        → Sees spec params Needed c σs vs env copy →
        Near h ((l c).den e env s) (l'.den (copied spec number e σs) copy s)
    pub val : (c : ℕ) (e : Expr) (σs : Instance) (vs : List ℕ) (env copy : Env) → Scoped spec params Needed e σs vs → Sees spec params Needed c σs vs env copy →
        Meets h (λ a b. a ≡ b) ((l c).val e env) (l'.val (copied spec number e σs) copy)
    pub repeat : (c : ℕ) (r : Repetition) (σs : Instance) (vs : List ℕ) (env copy : Env) (xs : Values) (s : Stream) → Scoped spec params Needed r.body σs vs
        → Sees spec params Needed c σs vs env copy →
        Near h ((l c).repeat r env xs s) (l'.repeat (copied_repetition spec number r σs) copy xs s)
    pub fold_value : (c : ℕ) (f : Fold) (σs : Instance) (vs : List ℕ) (env copy : Env) (so_far k v : Value) (ps : Pairs)
        → Scoped spec params Needed f.body σs (names_in_turn f.names (f.result ∷ vs)) → Sees spec params Needed c σs vs env copy →
        Meets h (λ a b. a ≡ b) ((l c).fold_value f env so_far k v ps) (l'.fold_value (copied_fold spec number f σs) copy so_far k v ps)
    pub each_value : (c : ℕ) (m : Each) (σs : Instance) (vs : List ℕ) (env copy : Env) (done : Pairs) (k v : Value) (ps : Pairs)
        → Scoped spec params Needed m.body σs (names_in_turn m.names vs) → Sees spec params Needed c σs vs env copy →
        Meets h (λ a b. a ≡ b) ((l c).each_value m env done k v ps) (l'.each_value (copied_each spec number m σs) copy done k v ps)
    pub fold : (c : ℕ) (f : Fold) (σs : Instance) (vs : List ℕ) (env copy : Env) (so_far k v : Value) (ps : Pairs) (s : Stream)
        → Scoped spec params Needed f.body σs (names_in_turn f.names (f.result ∷ vs)) → Sees spec params Needed c σs vs env copy →
        Near h ((l c).fold f env so_far k v ps s) (l'.fold (copied_fold spec number f σs) copy so_far k v ps s)
    pub each : (c : ℕ) (m : Each) (σs : Instance) (vs : List ℕ) (env copy : Env) (done : Pairs) (k v : Value) (ps : Pairs) (s : Stream)
        → Scoped spec params Needed m.body σs (names_in_turn m.names vs) → Sees spec params Needed c σs vs env copy →
        Near h ((l c).each m env done k v ps s) (l'.each (copied_each spec number m σs) copy done k v ps s)
    pub stand : (c : ℕ) (σ : Shape) (p : Expr) (own copy : Env) (s : Stream) → Stands c (Real spec params Needed c σ (named_in copy)) p own
        → Needed (sh.origin_of σ) →
        Near h ((l c).den p own s) (then_parse (called made (number (sh.origin_of σ))) (λ b. l'.den b copy s))

  module _ (l : ℕ → Lower) (l' : Lower) (k : LowerKeeps l l') (c : ℕ) where
    abbrev S : Instance → List ℕ → Env → Env → Type 0
    S σs vs env copy = Sees spec params Needed c σs vs env copy

    lift : {σs : Instance} {vs : List ℕ} {env copy : Env} → Sees spec params Needed c σs vs env copy → Sees spec params Needed (suc c) σs vs env copy
    lift {σs = σs} {env = env} {copy = copy} sees = record { same = sees.same; fits = fits_lift spec params Needed c σs (named_in copy) env sees.fits }

    pub call_keeps : (f : ℕ) (τs : Instance) (zs : List ℕ) (own own' : Env) (s : Stream) → Takes spec params f zs → Needed (member f τs)
        → Sees spec params Needed (suc c) τs zs own own' →
        Near h (then_parse (called spec f) (λ e. (l (suc c)).den e own s)) (then_parse (called made (number (member f τs))) (λ e. l'.den e own' s))
    call_keeps f τs zs own own' s w needed sees =
        subst (λ o. Near h o (then_parse (called made (number (member f τs))) (λ e. l'.den e own' s)))
        (sym (ap (λ o. then_parse (given o) (λ e. (l (suc c)).den e own s)) w.is))
        (subst (λ o. Near h ((l (suc c)).den w.body own s) o)
        (sym (ap (λ o. then_parse (given o) (λ e. l'.den e own' s)) (delivered.members f τs w.body needed w.is)))
        (k.den (suc c) w.body τs (params f) own own' s (delivered.closed f τs w.body needed w.is)
        (subst (λ ys. Sees spec params Needed (suc c) τs ys own own') (sym w.values) sees)))

    value_call_keeps : (f : ℕ) (τs : Instance) (zs : List ℕ) (own own' : Env) → Takes spec params f zs → Needed (member f τs)
        → Sees spec params Needed (suc c) τs zs own own' →
        Meets h (λ a b. a ≡ b) (then_value (called spec f) (λ e. (l (suc c)).val e own)) (then_value (called made (number (member f τs))) (λ e. l'.val e own'))
    value_call_keeps f τs zs own own' w needed sees =
        subst (λ o. Meets h (λ a b. a ≡ b) o (then_value (called made (number (member f τs))) (λ e. l'.val e own')))
        (sym (ap (λ o. then_value (given o) (λ e. (l (suc c)).val e own)) w.is))
        (subst (λ o. Meets h (λ a b. a ≡ b) ((l (suc c)).val w.body own) o)
        (sym (ap (λ o. then_value (given o) (λ e. l'.val e own')) (delivered.members f τs w.body needed w.is)))
        (k.val (suc c) w.body τs (params f) own own' (delivered.closed f τs w.body needed w.is)
        (subst (λ ys. Sees spec params Needed (suc c) τs ys own own') (sym w.values) sees)))

    folds_keep : (f : Fold) (σs : Instance) (vs : List ℕ) (env copy : Env) (so_far : Value) (ps : Pairs)
        → Scoped spec params Needed f.body σs (names_in_turn f.names (f.result ∷ vs)) → S σs vs env copy →
        Meets h (λ a b. a ≡ b) (fold_values spec (l (suc c)) f env so_far ps) (fold_values made l' (copied_fold spec number f σs) copy so_far ps)
    folds_keep f σs vs env copy so_far no_pairs good sees = meets_same _
    folds_keep f σs vs env copy so_far (pair i v ps) good sees = k.fold_value (suc c) f σs vs env copy so_far i v ps good (lift sees)

    eaches_keep : (m : Each) (σs : Instance) (vs : List ℕ) (env copy : Env) (done ps : Pairs) → Scoped spec params Needed m.body σs (names_in_turn m.names vs)
        → S σs vs env copy →
        Meets h (λ a b. a ≡ b) (each_values spec (l (suc c)) m env done ps) (each_values made l' (copied_each spec number m σs) copy done ps)
    eaches_keep m σs vs env copy done no_pairs good sees = meets_same _
    eaches_keep m σs vs env copy done (pair i v ps) good sees = k.each_value (suc c) m σs vs env copy done i v ps good (lift sees)

    no_value : (x : ℕ) (ty : Ty) (span : Span) (copy : Env) (o : Option Shape)
        → Meets h (λ (a b : Value). a ≡ b) stuck (form_val made l' (parameter_call spec number x o) ty span copy)
    no_value x ty span copy None = is_stuck
    no_value x ty span copy (Some σ) = is_stuck

    target_there : {σs : Instance} {vs : List ℕ} {env copy : Env} (ty : Ty) → TypesGiven ty σs → S σs vs env copy
        → target spec.bits (closed env ty) ≡ target made.bits (closed copy (closed_in σs ty))
    target_there {σs = σs} {env = env} {copy = copy} ty i sees = ap (target spec.bits) (type_there spec params Needed ty i sees)
        ∙ ap (λ b. target b (closed copy (closed_in σs ty))) (sym delivered.bits)

    mutual
      pub val_keeps : (e : Expr) (σs : Instance) (vs : List ℕ) (env copy : Env) → Scoped spec params Needed e σs vs → S σs vs env copy
          → Meets h (λ a b. a ≡ b) (val spec (l (suc c)) e env) (val made l' (copied spec number e σs) copy)
      val_keeps (expr form ty span) σs vs env copy good sees = form_keeps form ty span σs vs env copy good sees

      form_keeps : (form : Form) (ty : Ty) (span : Span) (σs : Instance) (vs : List ℕ) (env copy : Env) → ScopedForm spec params Needed form ty σs vs
          → S σs vs env copy →
          Meets h (λ a b. a ≡ b) (form_val spec (l (suc c)) form ty span env) (form_val made l' (copied_form spec number form σs) (closed_in σs ty) span copy)
      form_keeps (text bs) ty span σs vs env copy good sees = meets_same _
      form_keeps (local x) ty span σs vs env copy good sees =
          let v : SameValue env (named_in copy) x = sees.same x good in
          subst (λ o. Meets h (λ a b. a ≡ b) (counts (given o)) (counts (lookup copy x))) (sym v.here)
          (subst (λ o. Meets h (λ a b. a ≡ b) (counts (gives v.value)) (counts (given o))) (sym v.there) (meets_same _))
      form_keeps (literal n) ty span σs vs env copy good sees =
          subst (λ z. Meets h (λ a b. a ≡ b) (counts (number_at n (number_type (closed env ty)))) (counts (number_at n (number_type z))))
          (type_there spec params Needed ty good sees) (meets_same _)
      form_keeps (truth b) ty span σs vs env copy good sees = meets_same _
      form_keeps nothing_ ty span σs vs env copy good sees = meets_same _
      form_keeps (just_ e) ty span σs vs env copy good sees = is_counted (then_same _ _ (val_keeps e σs vs env copy good sees) (λ v. meets_same _))
      form_keeps (list es) ty span σs vs env copy good sees = is_counted (then_same _ _ (exprs_keep es σs vs env copy good sees) (λ v. meets_same _))
      form_keeps (record_ ns) ty span σs vs env copy good sees = is_counted (then_same _ _ (named_keep ns σs vs env copy good sees) (λ v. meets_same _))
      form_keeps (union_ name e) ty span σs vs env copy good sees = is_counted (then_same _ _ (content_keeps e σs vs env copy good sees) (λ v. meets_same _))
      form_keeps (select e name) ty span σs vs env copy good sees = is_counted (then_same _ _ (val_keeps e σs vs env copy good sees) (λ v. meets_same _))
      form_keeps (infix_ op a b) ty span σs vs env copy (good, well) sees =
          is_counted (then_same _ _ (val_keeps a σs vs env copy good sees) (λ v. infix_meets op span v (val_keeps b σs vs env copy well sees)))
      form_keeps (prefix_ op e) ty span σs vs env copy good sees = is_counted (then_same _ _ (val_keeps e σs vs env copy good sees) (λ v. meets_same _))
      form_keeps (cast q e) ty span σs vs env copy (inside, good) sees =
          is_counted (then_same _ _ (val_keeps e σs vs env copy good sees)
          (λ v. subst (λ z. Meets h (λ a b. a ≡ b) (cast_value q (target spec.bits (closed env ty)) v) (cast_value q z v)) (target_there ty inside sees)
          (meets_same _)))
      form_keeps (builtin b es) ty span σs vs env copy good sees = is_counted (then_same _ _ (exprs_keep es σs vs env copy good sees) (λ v. meets_same _))
      form_keeps (value_call f args) ty span σs vs env copy (good, called, needed) sees =
          is_counted (then_value_meets _ _ (args_keep args σs vs [] no_parameters env copy empty empty good sees (sees_nothing spec params Needed))
          (λ to to' inner. value_call_keeps f (call_instance spec args σs no_parameters) (value_names args []) to to' called needed inner))
      form_keeps (paren e) ty span σs vs env copy good sees = val_keeps e σs vs env copy good sees
      form_keeps (if_ t a b) ty span σs vs env copy (p, q, r) sees =
          is_counted (then_same _ _ (val_keeps t σs vs env copy p sees) (λ v.
          branch_meets v (val_keeps a σs vs env copy q sees) (val_keeps b σs vs env copy r sees)))
      form_keeps (case_ e cs) ty span σs vs env copy (p, q) sees =
          is_counted (then_same _ _ (val_keeps e σs vs env copy p sees) (λ v. cases_keep cs v σs vs env copy q sees))
      form_keeps (for_ x start names e body) ty span σs vs env copy (p, q, r) sees =
          is_counted (then_same _ _ (val_keeps start σs vs env copy p sees) (λ v.
          then_same _ _ (val_keeps e σs vs env copy q sees) (λ w. then_same _ _ (meets_same _) (λ ps. folds_keep _ σs vs env copy v ps r sees))))
      form_keeps (map_ names e body) ty span σs vs env copy (p, q) sees =
          is_counted (then_same _ _ (val_keeps e σs vs env copy p sees) (λ w. then_same _ _ (meets_same (elements_of w)) (λ ps.
          then_same _ _ (eaches_keep (record { names = names; body = body; over_map = is_map w }) σs vs env copy no_pairs ps q sees) (λ done.
          meets_same (gives (gathered (is_map w) done))))))
      form_keeps (parameter x) ty span σs vs env copy good sees = no_value x (closed_in σs ty) span copy (shape_of σs x)
      form_keeps _ ty span σs vs env copy good sees = is_stuck

      exprs_keep : (es : Exprs) (σs : Instance) (vs : List ℕ) (env copy : Env) → ScopedExprs spec params Needed es σs vs → S σs vs env copy
          → Meets h (λ a b. a ≡ b) (vals spec (l (suc c)) es env) (vals made l' (copied_exprs spec number es σs) copy)
      exprs_keep no_exprs σs vs env copy good sees = meets_same _
      exprs_keep (more e es) σs vs env copy (p, q) sees = then_same _ _ (val_keeps e σs vs env copy p sees) (λ v.
          then_same _ _ (exprs_keep es σs vs env copy q sees) (λ w. meets_same _))

      named_keep : (ns : Named) (σs : Instance) (vs : List ℕ) (env copy : Env) → ScopedNamed spec params Needed ns σs vs → S σs vs env copy
          → Meets h (λ a b. a ≡ b) (named_vals spec (l (suc c)) ns env) (named_vals made l' (copied_named spec number ns σs) copy)
      named_keep no_named σs vs env copy good sees = meets_same _
      named_keep (named name e ns) σs vs env copy (p, q) sees =
          then_same _ _ (val_keeps e σs vs env copy p sees) (λ v. then_same _ _ (named_keep ns σs vs env copy q sees) (λ w. meets_same _))

      content_keeps : (d : Content) (σs : Instance) (vs : List ℕ) (env copy : Env) → ScopedContent spec params Needed d σs vs → S σs vs env copy
          → Meets h (λ a b. a ≡ b) (content_val spec (l (suc c)) d env) (content_val made l' (copied_content spec number d σs) copy)
      content_keeps no_content σs vs env copy good sees = meets_same _
      content_keeps (content e) σs vs env copy good sees = val_keeps e σs vs env copy good sees

      cases_keep : (cs : Cases) (v : Value) (σs : Instance) (vs : List ℕ) (env copy : Env) → ScopedCases spec params Needed cs σs vs → S σs vs env copy
          → Meets h (λ a b. a ≡ b) (case_val spec (l (suc c)) cs v env) (case_val made l' (copied_cases spec number cs σs) v copy)
      cases_keep no_cases v σs vs env copy good sees = is_stuck
      cases_keep (when p e cs) v σs vs env copy (good, well) sees =
          value_at_meets (matched p v) _ _ (λ w. val_keeps e σs _ _ _ good (sees_optional spec params Needed (name_of p) w sees))
          (cases_keep cs v σs vs env copy well sees)

      args_keep : (args : Args) (σs : Instance) (vs zs : List ℕ) (τs : Instance) (env copy to to' : Env) → ScopedArgs spec params Needed args σs vs τs
          → S σs vs env copy → Sees spec params Needed (suc c) τs zs to to' →
          Meets h (Sees spec params Needed (suc c) (call_instance spec args σs τs) (value_names args zs)) (args_env spec (l (suc c)) args env to)
          (args_env made l' (copied_args spec number args σs) copy to')
      args_keep no_args σs vs zs τs env copy to to' good sees inner = is_given inner
      args_keep (by_value x e args) σs vs zs τs env copy to to' (good, well) sees inner =
          then_same _ _ (val_keeps e σs vs env copy good sees) (λ v.
          args_keep args σs vs (x ∷ zs) τs env copy (with_value x v to) (with_value x v to') well sees (sees_more spec params Needed x v inner))
      args_keep (by_grammar x site e args) σs vs zs τs env copy to to' (good, every, needed, fresh, well) sees inner =
          let τ = used_at site σs in
          let σ = argument_shape site e τ in
          let fit = fits_pick spec params Needed c site σs (named_in copy) env sees.fits in
          let st : Stands (suc c) (Real spec params Needed (suc c) σ (λ n. named_in copy (name_here e n))) e env =
          arg_stands spec params Needed c site e τ (named_in copy) env good (values_part site.values vs env (named_in copy) every sees.same) fit in
          let have : Have (captured σ) (λ n. named_in copy (name_here e n)) =
          real_have spec params Needed (suc c) σ (λ n. named_in copy (name_here e n)) st.form st.last st.real in
          subst (λ o. Meets h (Sees spec params Needed (suc c) (call_instance spec args σs (grammar_at x σ τs)) (value_names args zs))
          (args_env spec (l (suc c)) args env (with_grammar x e env to)) o)
          (sym (env_hands made l' (under x) (name_here e) (captured σ) (copied_args spec number args σs) copy to' have))
          (args_keep args σs vs zs (grammar_at x σ τs) env copy (with_grammar x e env to) (handed (under x) (name_here e) (captured σ) copy to') well sees
          (sees_grammar spec params Needed (suc c) τs zs x e σ env copy to to' fresh st
          (arg_needed spec params Needed c site e τ (named_in copy) env needed good fit) inner))
      args_keep (by_class x q args) σs vs zs τs env copy to to' (inside, some, fresh, well) sees inner =
          subst (λ o. Meets h (Sees spec params Needed (suc c) (call_instance spec args σs (with_set (class_set spec q (static_env σs)) x τs))
          (value_names args zs)) (then_value (given o) (λ set. args_env spec (l (suc c)) args env (with_class x set to)))
          (args_env made l' (copied_args spec number args σs) copy to'))
          (sym (class_same spec params Needed c q σs (named_in copy) env inside sees.fits))
          (given_class (class_set spec q (static_env σs)) (ScopedArgs spec params Needed args σs vs) (λ υs.
          Sees spec params Needed (suc c) (call_instance spec args σs υs) (value_names args zs))
          (λ set. args_env spec (l (suc c)) args env (with_class x set to)) (args_env made l' (copied_args spec number args σs) copy to') x τs some well
          (λ set good. args_keep args σs vs zs (class_at x set τs) env copy (with_class x set to) to' good sees
          (sees_class spec params Needed x set fresh inner)))
      args_keep (by_type x ty args) σs vs zs τs env copy to to' (inside, fresh, well) sees inner =
          let r = closed_same spec params Needed c ty σs (named_in copy) env inside sees.fits in
          args_keep args σs vs zs (type_at x (closed_in σs ty) τs) env copy (with_type x (closed env ty) to) to' well sees
          (sees_type spec params Needed x (closed env ty) (closed_in σs ty) r.0 r.1 fresh inner)
      args_keep (by_hand there here args) σs vs zs τs env copy to to' good sees inner = absurd good

    bounds_keep : (b : Bounds) (σs : Instance) (vs : List ℕ) (env copy : Env) → ScopedBounds spec params Needed b σs vs → S σs vs env copy
        → Meets h (λ a b. a ≡ b) (limits_of spec (l (suc c)) b env) (limits_of made l' (copied_bounds spec number b σs) copy)
    bounds_keep unbounded σs vs env copy good sees = meets_same _
    bounds_keep (exactly a) σs vs env copy good sees = then_same _ _ (val_keeps a σs vs env copy good sees) (λ v. meets_same _)
    bounds_keep (from_ a) σs vs env copy good sees = then_same _ _ (val_keeps a σs vs env copy good sees) (λ v. meets_same _)
    bounds_keep (up_to b) σs vs env copy good sees = then_same _ _ (val_keeps b σs vs env copy good sees) (λ v. meets_same _)
    bounds_keep (between a b) σs vs env copy (p, q) sees =
        then_same _ _ (val_keeps a σs vs env copy p sees) (λ v.
        then_same _ _ (meets_same _) (λ low. then_same _ _ (val_keeps b σs vs env copy q sees) (λ w. meets_same _)))

    grammar_folds_keep : (f : Fold) (σs : Instance) (vs : List ℕ) (env copy : Env) (so_far : Value) (ps : Pairs) (s : Stream)
        → Scoped spec params Needed f.body σs (names_in_turn f.names (f.result ∷ vs)) → S σs vs env copy →
        Near h (folds spec (l (suc c)) f env so_far ps s) (folds made l' (copied_fold spec number f σs) copy so_far ps s)
    grammar_folds_keep f σs vs env copy so_far no_pairs s good sees = near_same _
    grammar_folds_keep f σs vs env copy so_far (pair i v ps) s good sees = k.fold (suc c) f σs vs env copy so_far i v ps s good (lift sees)

    grammar_eaches_keep : (m : Each) (σs : Instance) (vs : List ℕ) (env copy : Env) (done ps : Pairs) (s : Stream)
        → Scoped spec params Needed m.body σs (names_in_turn m.names vs) → S σs vs env copy →
        Near h (eaches spec (l (suc c)) m env done ps s) (eaches made l' (copied_each spec number m σs) copy done ps s)
    grammar_eaches_keep m σs vs env copy done no_pairs s good sees = near_same _
    grammar_eaches_keep m σs vs env copy done (pair i v ps) s good sees = k.each (suc c) m σs vs env copy done i v ps s good (lift sees)

    some_near : (as_ : Alts) (σs : Instance) {o o' : Outcome} → Near h o o' → Near h (of_some as_ o) (of_some (copied_alts spec number as_ σs) o')
    some_near no_alts σs n = at_stuck
    some_near (alt e as_) σs n = n
    some_near (tag name e as_) σs n = n

    -- the call of the copy that a parameter's shape names
    use_keeps : (x : ℕ) (ty copied_ty : Ty) (span : Span) (σs : Instance) (vs : List ℕ) (env copy : Env) (s : Stream)
        → Use spec params Needed c (named_in copy) env x (shape_of σs x) →
        Near h (form_den spec (l (suc c)) (parameter x) ty span env s) (form_den made l' (parameter_call spec number x (shape_of σs x)) copied_ty span copy s)
    use_keeps x ty copied_ty span σs vs env copy s u =
        let σ = u.meant in
        let st = u.found.stands in
        let have : Have (captured σ) (λ n. named_in copy (under x n)) =
        real_have spec params Needed c σ (λ n. named_in copy (under x n)) st.form st.last st.real in
        let made_env : Env = handed (λ n. n) (under x) (captured σ) copy empty in
        let agree : Agree (captured σ) (λ n. named_in copy (under x n)) (λ n. named_in made_env n) =
        handed_all (λ n. n) (under x) (λ m n. refl) (captured σ) copy empty have in
        let after : Stands (suc c) (Real spec params Needed (suc c) σ (named_in made_env)) u.found.form u.found.env =
        record {
          form = st.form;
          last = st.last;
          leads = leads_lift st.leads;
          real =
              real_lift spec params Needed c σ (named_in made_env) st.form st.last
              (real_agree spec params Needed c σ (λ n. named_in copy (under x n)) (λ n. named_in made_env n) st.form st.last agree st.real);
        } in
        let callee = number (sh.origin_of σ) in
        let reached : Near h (then_parse (called made callee) (λ b. l'.den b made_env s)) (then_parse (called made callee) (λ b. l'.den b made_env s)) =
        near_same _ in
        let inner : Near h (leave ((l (suc c)).den u.found.form u.found.env s)) (then_parse (called made callee) (λ b. leave (l'.den b made_env s))) =
        subst (λ o. Near h (leave ((l (suc c)).den u.found.form u.found.env s)) o) (sym (leave_given _ (λ b. l'.den b made_env s)))
        (leave_near (k.stand (suc c) σ u.found.form u.found.env made_env s after u.needed)) in
        subst (λ o. Near h (form_den spec (l (suc c)) (parameter x) ty span env s) (form_den made l' (parameter_call spec number x o) copied_ty span copy s))
        (sym u.is)
        (at_tick
        (subst (λ o. Near h (then_parse (given o) (λ q. leave ((l (suc c)).den q.form q.env s)))
        (then_parse (args_env made l' (hands_on (λ n. n) (under x) (captured σ) no_args) copy empty) (λ to.
        then_parse (called made callee) (λ b. leave (l'.den b to s))))) (sym u.found.is)
        (subst (λ o. Near h (leave ((l (suc c)).den u.found.form u.found.env s))
        (then_parse o (λ to. then_parse (called made callee) (λ b. leave (l'.den b to s)))))
        (sym (env_hands made l' (λ n. n) (under x) (captured σ) no_args copy empty have))
        inner)))

    leave_call : (f : ℕ) (τs : Instance) (zs : List ℕ) (own own' : Env) (s : Stream) → Takes spec params f zs → Needed (member f τs)
        → Sees spec params Needed (suc c) τs zs own own' →
        Near h (then_parse (called spec f) (λ e. leave ((l (suc c)).den e own s)))
        (then_parse (called made (number (member f τs))) (λ e. leave (l'.den e own' s)))
    leave_call f τs zs own own' s w needed sees =
        subst (λ o. Near h o (then_parse (called made (number (member f τs))) (λ e. leave (l'.den e own' s))))
        (sym (leave_given _ (λ e. (l (suc c)).den e own s)))
        (subst (λ o. Near h (leave (then_parse (called spec f) (λ e. (l (suc c)).den e own s))) o) (sym (leave_given _ (λ e. l'.den e own' s)))
        (leave_near (call_keeps f τs zs own own' s w needed sees)))

    mutual
      pub den_keeps : (e : Expr) (σs : Instance) (vs : List ℕ) (env copy : Env) (s : Stream) → Scoped spec params Needed e σs vs → S σs vs env copy
          → Near h (den spec (l (suc c)) e env s) (den made l' (copied spec number e σs) copy s)
      den_keeps (expr form ty span) σs vs env copy s good sees = grammar_keeps form ty span σs vs env copy s good sees

      grammar_keeps : (form : Form) (ty : Ty) (span : Span) (σs : Instance) (vs : List ℕ) (env copy : Env) (s : Stream)
          → ScopedForm spec params Needed form ty σs vs → S σs vs env copy →
          Near h (form_den spec (l (suc c)) form ty span env s) (form_den made l' (copied_form spec number form σs) (closed_in σs ty) span copy s)
      grammar_keeps (pure e) ty span σs vs env copy s good sees = at_tick (parse_same _ _ (val_keeps e σs vs env copy good sees) (λ v. near_same _))
      grammar_keeps uint8 ty span σs vs env copy s good sees = near_same _
      grammar_keeps (match e) ty span σs vs env copy s good sees = at_tick (parse_same _ _ (val_keeps e σs vs env copy good sees) (λ v. near_same _))
      grammar_keeps (text bs) ty span σs vs env copy s good sees = near_same _
      grammar_keeps end ty span σs vs env copy s good sees = near_same _
      grammar_keeps (class q) ty span σs vs env copy s (inside, some) sees =
          at_tick (subst (λ o. Near h (class_byte o span s) (class_byte (class_set made (set_or (class_set spec q (static_env σs)) q) copy) span s))
          (sym (class_same spec params Needed c q σs (named_in copy) env inside sees.fits))
          (class_there made (class_set spec q (static_env σs)) q copy span s some))
      grammar_keeps (fail n) ty span σs vs env copy s good sees = near_same _
      grammar_keeps (primitive p es) ty span σs vs env copy s good sees = at_tick (parse_same _ _ (exprs_keep es σs vs env copy good sees) (λ v. near_same _))
      grammar_keeps (is_ e p) ty span σs vs env copy s good sees = at_tick (parse_same _ _ (val_keeps e σs vs env copy good sees) (λ v. near_same _))
      grammar_keeps (fits e) ty span σs vs env copy s (inside, good) sees =
          at_tick (parse_same _ _ (val_keeps e σs vs env copy good sees)
          (λ v. subst (λ z. Near h (fitted (fit (target spec.bits (closed env ty)) v) span s) (fitted (fit z v) span s)) (target_there ty inside sees)
          (near_same _)))
      grammar_keeps (paren e) ty span σs vs env copy s good sees = den_keeps e σs vs env copy s good sees
      grammar_keeps (block is) ty span σs vs env copy s good sees = at_tick (leave_near (items_keep is σs vs env copy nothing_built s good sees))
      grammar_keeps (first as_) ty span σs vs env copy s good sees = at_tick (leave_near (some_near as_ σs (first_keeps as_ σs vs env copy s good sees)))
      grammar_keeps (choose as_) ty span σs vs env copy s good sees = at_tick (leave_near (some_near as_ σs (choose_keeps as_ σs vs env copy s good sees)))
      grammar_keeps (many q b p) ty span σs vs env copy s (good, well) sees =
          at_tick (parse_same _ _ (bounds_keep b σs vs env copy good sees) (λ m. leave_near (k.repeat (suc c) _ σs vs env copy no_values s well (lift sees))))
      grammar_keeps (optional q p) ty span σs vs env copy s good sees = at_tick (leave_near (or_nothing_near q s (den_keeps p σs vs env copy s good sees)))
      grammar_keeps (if_ t p q) ty span σs vs env copy s (one, two, three) sees =
          at_tick (parse_same _ _ (val_keeps t σs vs env copy one sees) (λ v.
          leave_near (branch_near v (den_keeps p σs vs env copy s two sees) (den_keeps q σs vs env copy s three sees))))
      grammar_keeps (case_ e cs) ty span σs vs env copy s (one, two) sees =
          at_tick (parse_same _ _ (val_keeps e σs vs env copy one sees) (λ v. leave_near (grammar_cases_keep cs v span σs vs env copy s two sees)))
      grammar_keeps (for_ x start names e p) ty span σs vs env copy s (one, two, three) sees =
          at_tick (parse_same _ _ (val_keeps start σs vs env copy one sees) (λ v.
          parse_same _ _ (val_keeps e σs vs env copy two sees) (λ w.
          parse_same _ _ (meets_same _) (λ ps. leave_near (grammar_folds_keep _ σs vs env copy v ps s three sees)))))
      grammar_keeps (map_ names e p) ty span σs vs env copy s (one, two) sees =
          at_tick (parse_same _ _ (val_keeps e σs vs env copy one sees) (λ w.
          parse_same _ _ (meets_same _) (λ ps. leave_near (grammar_eaches_keep _ σs vs env copy no_pairs ps s two sees))))
      grammar_keeps (call f args) ty span σs vs env copy s (good, called, needed) sees =
          at_tick (then_parse_near _ _ (args_keep args σs vs [] no_parameters env copy empty empty good sees (sees_nothing spec params Needed))
          (λ to to' inner. leave_call f (call_instance spec args σs no_parameters) (value_names args []) to to' s called needed inner))
      grammar_keeps (parameter x) ty span σs vs env copy s good sees =
          use_keeps x ty (closed_in σs ty) span σs vs env copy s (fits_find spec params Needed c σs (named_in copy) env x sees.fits good)
      grammar_keeps _ ty span σs vs env copy s good sees = at_stuck

      items_keep : (is : Items) (σs : Instance) (vs : List ℕ) (env copy : Env) (b : Built) (s : Stream) → ScopedItems spec params Needed is σs vs
          → S σs vs env copy → Near h (den_items spec (l (suc c)) is env b s) (den_items made l' (copied_items spec number is σs) copy b s)
      items_keep no_items σs vs env copy b s good sees = near_same _
      items_keep (item (plain e) is) σs vs env copy b s (good, well) sees =
          bind_near _ _ (den_keeps e σs vs env copy s good sees) (λ v t. items_keep is σs vs env copy _ t well sees)
      items_keep (item (let_ x e) is) σs vs env copy b s (good, well) sees =
          bind_near _ _ (den_keeps e σs vs env copy s good sees) (λ v t. items_keep is σs (x ∷ vs) _ _ _ t well (sees_more spec params Needed x v sees))
      items_keep (item (field name x e) is) σs vs env copy b s (good, well) sees =
          bind_near _ _ (den_keeps e σs vs env copy s good sees) (λ v t. items_keep is σs (x ∷ vs) _ _ _ t well (sees_more spec params Needed x v sees))
      items_keep (item (result_ e) is) σs vs env copy b s (good, well) sees =
          bind_near _ _ (den_keeps e σs vs env copy s good sees) (λ v t. items_keep is σs vs env copy _ t well sees)

      first_keeps : (as_ : Alts) (σs : Instance) (vs : List ℕ) (env copy : Env) (s : Stream) → ScopedAlts spec params Needed as_ σs vs → S σs vs env copy
          → Near h (den_first spec (l (suc c)) as_ env s) (den_first made l' (copied_alts spec number as_ σs) copy s)
      first_keeps no_alts σs vs env copy s good sees = near_same _
      first_keeps (alt e as_) σs vs env copy s (good, well) sees =
          biased_near (den_keeps e σs vs env copy s good sees) (first_keeps as_ σs vs env copy s well sees)
      first_keeps (tag name e as_) σs vs env copy s (good, well) sees =
          biased_near (under_tag_near name (den_keeps e σs vs env copy s good sees)) (first_keeps as_ σs vs env copy s well sees)

      choose_keeps : (as_ : Alts) (σs : Instance) (vs : List ℕ) (env copy : Env) (s : Stream) → ScopedAlts spec params Needed as_ σs vs → S σs vs env copy
          → Near h (den_choose spec (l (suc c)) as_ env s) (den_choose made l' (copied_alts spec number as_ σs) copy s)
      choose_keeps no_alts σs vs env copy s good sees = near_same _
      choose_keeps (alt e as_) σs vs env copy s (good, well) sees =
          both_near (den_keeps e σs vs env copy s good sees) (choose_keeps as_ σs vs env copy s well sees)
      choose_keeps (tag name e as_) σs vs env copy s (good, well) sees =
          both_near (under_tag_near name (den_keeps e σs vs env copy s good sees)) (choose_keeps as_ σs vs env copy s well sees)

      grammar_cases_keep : (cs : Cases) (v : Value) (span : Span) (σs : Instance) (vs : List ℕ) (env copy : Env) (s : Stream)
          → ScopedCases spec params Needed cs σs vs → S σs vs env copy →
          Near h (den_case spec (l (suc c)) cs v span env s) (den_case made l' (copied_cases spec number cs σs) v span copy s)
      grammar_cases_keep no_cases v span σs vs env copy s good sees = near_same _
      grammar_cases_keep (when p e cs) v span σs vs env copy s (good, well) sees =
          outcome_at_near (matched p v) _ _ (λ w. den_keeps e σs _ _ _ s good (sees_optional spec params Needed (name_of p) w sees))
          (grammar_cases_keep cs v span σs vs env copy s well sees)

    on_or_stop_keeps : (r : Repetition) (σs : Instance) (vs : List ℕ) (env copy : Env) (xs : Values) (good : Scoped spec params Needed r.body σs vs)
        (sees : S σs vs env copy) (v : Value) (s : Stream) →
        Near h (on_or_stop spec (l (suc c)) r env xs v s) (on_or_stop made l' (copied_repetition spec number r σs) copy xs v s)
    on_or_stop_keeps r σs vs env copy xs good sees (just v) s = k.repeat (suc c) r σs vs env copy (snoc xs v) s good (lift sees)
    on_or_stop_keeps r σs vs env copy xs good sees nothing s = near_same _
    on_or_stop_keeps r σs vs env copy xs good sees _ s = at_stuck

    pub repeat_keeps : (r : Repetition) (σs : Instance) (vs : List ℕ) (env copy : Env) (xs : Values) (s : Stream) → Scoped spec params Needed r.body σs vs
        → S σs vs env copy →
        Near h (repeat_turn spec (l (suc c)) r env xs s) (repeat_turn made l' (copied_repetition spec number r σs) copy xs s)
    repeat_keeps r σs vs env copy xs s good sees =
        at_tick (choice_near (is_below r.limits xs) (bind_near _ _ (den_keeps r.body σs vs env copy s good sees) (λ v t.
        k.repeat (suc c) r σs vs env copy (snoc xs v) t good (lift sees)))
        (choice_near (is_full r.limits xs) (near_same (parsed (array xs) s))
        (bind_near _ _ (or_nothing_near r.choice s (den_keeps r.body σs vs env copy s good sees)) (on_or_stop_keeps r σs vs env copy xs good sees))))

    pub fold_value_keeps : (f : Fold) (σs : Instance) (vs : List ℕ) (env copy : Env) (so_far i v : Value) (ps : Pairs)
        → Scoped spec params Needed f.body σs (names_in_turn f.names (f.result ∷ vs)) → S σs vs env copy →
        Meets h (λ a b. a ≡ b) (fold_value_turn spec (l (suc c)) f env so_far i v ps)
        (fold_value_turn made l' (copied_fold spec number f σs) copy so_far i v ps)
    fold_value_keeps f σs vs env copy so_far i v ps good sees =
        is_counted (then_same _ _ (val_keeps f.body σs _ _ _ good
        (sees_turn spec params Needed f.names i v (sees_more spec params Needed f.result so_far sees))) (λ w. folds_keep f σs vs env copy w ps good sees))

    pub each_value_keeps : (m : Each) (σs : Instance) (vs : List ℕ) (env copy : Env) (done : Pairs) (i v : Value) (ps : Pairs)
        → Scoped spec params Needed m.body σs (names_in_turn m.names vs) → S σs vs env copy →
        Meets h (λ a b. a ≡ b) (each_value_turn spec (l (suc c)) m env done i v ps) (each_value_turn made l' (copied_each spec number m σs) copy done i v ps)
    each_value_keeps m σs vs env copy done i v ps good sees =
        is_counted (then_same _ _ (val_keeps m.body σs _ _ _ good (sees_turn spec params Needed m.names i v sees)) (λ w.
        eaches_keep m σs vs env copy (with_pair done i w) ps good sees))

    pub fold_keeps : (f : Fold) (σs : Instance) (vs : List ℕ) (env copy : Env) (so_far i v : Value) (ps : Pairs) (s : Stream)
        → Scoped spec params Needed f.body σs (names_in_turn f.names (f.result ∷ vs)) → S σs vs env copy →
        Near h (fold_turn spec (l (suc c)) f env so_far i v ps s) (fold_turn made l' (copied_fold spec number f σs) copy so_far i v ps s)
    fold_keeps f σs vs env copy so_far i v ps s good sees =
        at_tick (bind_near _ _ (den_keeps f.body σs _ _ _ s good (sees_turn spec params Needed f.names i v (sees_more spec params Needed f.result so_far sees)))
        (λ w t. grammar_folds_keep f σs vs env copy w ps t good sees))

    pub each_keeps : (m : Each) (σs : Instance) (vs : List ℕ) (env copy : Env) (done : Pairs) (i v : Value) (ps : Pairs) (s : Stream)
        → Scoped spec params Needed m.body σs (names_in_turn m.names vs) → S σs vs env copy →
        Near h (each_turn spec (l (suc c)) m env done i v ps s) (each_turn made l' (copied_each spec number m σs) copy done i v ps s)
    each_keeps m σs vs env copy done i v ps s good sees =
        at_tick (bind_near _ _ (den_keeps m.body σs _ _ _ s good (sees_turn spec params Needed m.names i v sees)) (λ w t.
        grammar_eaches_keep m σs vs env copy (with_pair done i w) ps t good sees))
