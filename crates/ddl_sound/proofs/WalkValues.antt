-- A typed value form is never stuck, and its value has its type: one line a form.
use Rattle.std.proofs.Common.{◌≡◌, ℕ, Bool, true, false, if◌then◌else◌, List, refl, subst}
use Rattle.ddl_base.specs.declared.span.Span.{Span}
use Rattle.ddl_types.specs.Types.{Ty}
use Rattle.ddl_types.specs.Value.{Value, Values, Pairs, boolean, just, array, no_pairs, pair}
use Rattle.ddl_types.specs.Outcome.{Outcome}
use Rattle.ddl_typed.specs.Tree.{Expr, Form, Exprs, Named, Content, Cases, Args, Spec, expr, text, local, literal, truth, nothing_, just_, list, record_}
use Rattle.ddl_typed.specs.Tree.{union_, select, infix_, prefix_, cast, builtin, value_call, paren, if_, case_, for_, map_, no_exprs, more, no_named, named}
use Rattle.ddl_typed.specs.Tree.{no_content, content, no_cases, when, no_args, by_value, by_hand}
use Rattle.ddl_typed.specs.Env.{Env, empty, with_value, with_name, named_in, value_in, type_in, with_optional}
use Rattle.ddl_ops.specs.Valued.{Valued}
use Rattle.ddl_typed.specs.Lower.{Lower}
use Rattle.ddl_typed.specs.Loops.{Fold, Each, elements_of, is_map}
use Rattle.ddl_typed.specs.Choices.{branch_value}
use Rattle.ddl_ops.specs.Patterns.{Matched, has_it, has_another, has_none, matched, name_of, value_at}
use Rattle.ddl_typed.specs.Meaning.{called, val, form_val, vals, named_vals, content_val, case_val, args_env, fold_values, each_values}
use Rattle.ddl_typed.specs.Specification.{Place}
use Rattle.ddl_sound.specs.HasType.{HasType, AllHave, PairsHave}
use Rattle.ddl_sound.specs.Context.{Context, no_names, name, context_with, optional_name, turn_context}
use Rattle.ddl_sound.specs.BlockTypes.{type_of}
use Rattle.ddl_sound.specs.Typed.{types_of, names_in, types_in, content_type, values, Signature, TypedValue, ValueRule, AllOf, AreValues, AreNamed, IsContent}
use Rattle.ddl_sound.specs.Typed.{CasesRule, ArgumentsRule, TypedGrammar, AreTyped}
use Rattle.ddl_sound.specs.BasicTypes.{IsBool, array_type, maybe_type}
use Rattle.ddl_sound.specs.Sound.{Gives, Parses, EnvHas}
use Rattle.ddl_sound.proofs.Joins.{then_gives, gives_given, gives_as, has_as, has_back}
use Rattle.ddl_sound.proofs.Keys.{joined, Rising, rising_done}
use Rattle.ddl_sound.proofs.Reading.{on_bool, false_true}
use Rattle.ddl_sound.proofs.Collections.{elements_are, gathers, gathered_is}
use Rattle.ddl_sound.proofs.Operators.{literal_is, infix_is, prefix_is, cast_is, Typed, builtin_is}
use Rattle.ddl_sound.proofs.Members.{FieldsAre, selected_is, record_is, tagged_is, MatchHas, matched_is}
use Rattle.ddl_sound.proofs.Covering.{is_hit, hits, covered}
use Rattle.ddl_sound.proofs.Environments.{value_there, named_there, name_has, optional_has}
use Rattle.ddl_sound.proofs.Below.{LowerFine, body_of}

module _ (places : List Place) (spec : Spec) (signatures : ℕ → Signature) where
  abbrev Has : Value → Ty → Type 0
  Has w ty = HasType places spec.bits w ty

  abbrev Of : Ty → Valued → Type 0
  Of ty o = Gives (λ w. Has w ty) o

  abbrev Fine : Ty → Outcome → Type 0
  Fine ty o = Parses places spec.bits ty o

  abbrev Env_ : Env → Context → Type 0
  Env_ env Γ = EnvHas places spec.bits env Γ

  abbrev All : Values → Ty → Type 0
  All vs ty = AllHave places spec.bits vs ty

  abbrev Pairs_ : Pairs → Ty → Ty → Type 0
  Pairs_ ps key ty = PairsHave places spec.bits ps key ty

  abbrev V : Expr → Context → Type 0
  V e Γ = TypedValue places spec signatures e Γ

  abbrev G : Expr → Context → Type 0
  G e Γ = TypedGrammar places spec signatures e Γ

  abbrev FoldIs : (Expr → Context → Type 0) → Fold → Context → Ty → Ty → Ty → Type 0
  FoldIs P f Γ key element ty = P f.body (turn_context f.names key element (name f.result ty Γ)) × (type_of f.body ≡ ty)

  abbrev EachIs : (Expr → Context → Type 0) → Each → Context → Ty → Ty → Type 0
  EachIs P m Γ key element = P m.body (turn_context m.names key element Γ)

  abbrev pub Gathered_ : Each → Ty → Pairs → Type 0
  Gathered_ m key qs = Pairs_ qs key (type_of m.body) × Rising m.over_map qs

  module _ (bodies : AreTyped places spec signatures) (l : Lower) (h : LowerFine places spec signatures l) where
    pub folds_of : (f : Fold) (Γ : Context) (key element ty : Ty) (env : Env) (so_far : Value) (ps : Pairs) → FoldIs V f Γ key element ty → Env_ env Γ →
        Has so_far ty → Pairs_ ps key element → Of ty (fold_values spec l f env so_far ps)
    folds_of f Γ key element ty env so_far no_pairs r en a p = a
    folds_of f Γ key element ty env so_far (pair k w ps) r en a (b, c, p) = h.fold_value f Γ key element ty env so_far k w ps r en a b c p

    pub eaches_of : (m : Each) (Γ : Context) (key element : Ty) (env : Env) (done ps : Pairs) → EachIs V m Γ key element → Env_ env Γ →
        Pairs_ done key (type_of m.body) → Pairs_ ps key element → Rising m.over_map (joined done ps) →
        Gives (Gathered_ m key) (each_values spec l m env done ps)
    eaches_of m Γ key element env done no_pairs r en d p i = (d, rising_done m.over_map done i)
    eaches_of m Γ key element env done (pair k w ps) r en d (a, b, p) i = h.each_value m Γ key element env done k w ps r en d a b p i

    branch_of : (c ty : Ty) (w : Value) (a b : Valued) → IsBool c → Has w c → Of ty a → Of ty b → Of ty (branch_value w a b)
    branch_of c ty w a b ok k p q = on_bool places spec.bits (λ x. Of ty (branch_value x a b)) c ok (by a b p q) w k
      where
        by : (a b : Valued) → Of ty a → Of ty b → (x : Bool) → Of ty (branch_value (boolean x) a b)
        by a b p q true = p
        by a b p q false = q

    case_at : (m : Matched) (inside ty : Ty) (k : Value → Valued) (later : Valued) (rest : Bool) → MatchHas places spec.bits inside m →
        (if is_hit m then true else rest) ≡ true → ((w : Value) → Has w inside → Of ty (k w)) → (rest ≡ true → Of ty later) → Of ty (value_at m k later)
    case_at (has_it w) inside ty k later rest a e p q = p w a
    case_at has_another inside ty k later rest a e p q = q e
    case_at has_none inside ty k later rest a e p q = absurd a

    mutual
      pub val_of : (e : Expr) (Γ : Context) (env : Env) → V e Γ → Env_ env Γ → Of (type_of e) (val spec l e env)
      val_of (expr form ty span) Γ env r en = form_of form ty span Γ env r en

      form_of : (form : Form) (ty : Ty) (span : Span) (Γ : Context) (env : Env) → ValueRule places spec signatures form ty Γ → Env_ env Γ →
          Of ty (form_val spec l form ty span env)
      form_of (text bs) ty span Γ env r en = r
      form_of (local x) ty span Γ env r en = gives_given (λ w. Has w ty) (value_in env x) (value_there places spec.bits env Γ x ty en r)
      form_of (literal n) ty span Γ env (s, e, i) en = literal_is places spec.bits n ty s (type_in env) e i
      form_of (truth b) ty span Γ env r en = r
      form_of nothing_ ty span Γ env r en = r
      form_of (just_ e) ty span Γ env (r, q) en =
          then_gives _ _ (val spec l e env) _ (val_of e Γ env r en) (λ w k. has_back places spec.bits ty (maybe_type (type_of e)) (just w) q k)
      form_of (list es) ty span Γ env (u, r, q) en =
          then_gives _ _ (vals spec l es env) _ (all_of es u Γ env r en) (λ vs k. has_back places spec.bits ty (array_type u) (array vs) q k)
      form_of (record_ ns) ty span Γ env (r, q) en =
          then_gives _ _ (named_vals spec l ns env) _ (named_of ns Γ env r en) (λ fs k. record_is places spec.bits (names_in ns) (types_in ns) ty fs q k)
      form_of (union_ label c) ty span Γ env (r, q) en =
          then_gives _ _ (content_val spec l c env) _ (content_of c Γ env r en) (λ w k. tagged_is places spec.bits label (content_type c) ty w q k)
      form_of (select e label) ty span Γ env (r, q) en =
          then_gives _ _ (val spec l e env) _ (val_of e Γ env r en) (λ w k. selected_is places spec.bits label ty (type_of e) w q k)
      form_of (infix_ op a b) ty span Γ env (r, r2, q) en =
          then_gives _ _ (val spec l a env) _ (val_of a Γ env r en) (λ w k. infix_is places spec.bits op (type_of a) (type_of b) ty span w
          (val spec l b env) q k (val_of b Γ env r2 en))
      form_of (prefix_ op e) ty span Γ env (r, q) en =
          then_gives _ _ (val spec l e env) _ (val_of e Γ env r en) (λ w k. prefix_is places spec.bits op (type_of e) ty span w q k)
      form_of (cast c e) ty span Γ env (r, q) en =
          then_gives _ _ (val spec l e env) _ (val_of e Γ env r en) (λ w k. cast_is places spec.bits c (type_of e) ty (type_in env) w q k)
      form_of (builtin b es) ty span Γ env (r, q) en =
          then_gives _ _ (vals spec l es env) _ (vals_of es Γ env r en) (λ vs k. builtin_is places spec.bits b (types_of es) ty vs q k)
      form_of (value_call f args) ty span Γ env (callee, r, d) en =
          then_gives _ _ (args_env spec l args env empty) _ (args_of args Γ no_names callee env empty r en tt) (λ inner k.
          then_gives _ _ (called spec f) _ (body_of places spec signatures bodies f values callee ty d)
          (λ e b. gives_as places spec.bits (type_of e) ty (l.val e inner) b.1 (h.val e callee inner b.0 k)))
      form_of (paren e) ty span Γ env (r, q) en = gives_as places spec.bits (type_of e) ty (val spec l e env) q (val_of e Γ env r en)
      form_of (if_ c a b) ty span Γ env (r, ok, ra, qa, rb, qb) en =
          then_gives _ _ (val spec l c env) _ (val_of c Γ env r en) (λ w k. branch_of (type_of c) ty w (val spec l a env) (val spec l b env) ok k
          (gives_as places spec.bits (type_of a) ty (val spec l a env) qa (val_of a Γ env ra en))
          (gives_as places spec.bits (type_of b) ty (val spec l b env) qb (val_of b Γ env rb en)))
      form_of (case_ e cs) ty span Γ env (r, c, rs) en =
          then_gives _ _ (val spec l e env) _ (val_of e Γ env r en) (λ w k. case_of cs (type_of e) ty w Γ env rs en k
          (covered places spec.bits cs (type_of e) w c k))
      form_of (for_ x start names e body) ty span Γ env (rs, qs, r, (key, (element, lp, rb, qb))) en =
          then_gives _ _ (val spec l start env) _ (val_of start Γ env rs en) (λ w k.
          then_gives _ _ (val spec l e env) _ (val_of e Γ env r en) (λ u i.
          then_gives _ _ (elements_of u) _ (elements_are places spec.bits (type_of e) key element u lp i) (λ ps p.
          folds_of (record { result = x; names = names; body = body }) Γ key element ty env w ps (rb, qb) en
          (has_as places spec.bits (type_of start) ty w qs k) p.0)))
      form_of (map_ names e body) ty span Γ env (r, (key, (element, lp, rb, g))) en =
          then_gives _ _ (val spec l e env) _ (val_of e Γ env r en) (λ u i.
          then_gives _ _ (elements_of u) _ (elements_are places spec.bits (type_of e) key element u lp i) (λ ps p.
          then_gives _ _ (each_values spec l (record { names = names; body = body; over_map = is_map u }) env no_pairs ps) _
          (eaches_of (record { names = names; body = body; over_map = is_map u }) Γ key element env no_pairs ps rb en tt p.0 p.1)
          (λ done d. gathered_is places spec.bits (is_map u) done key (type_of body) ty
          (gathers places spec.bits (type_of e) key element (type_of body) ty u lp g i) d.0 d.1)))
      form_of _ ty span Γ env r en = absurd r

      pub vals_of : (es : Exprs) (Γ : Context) (env : Env) → AreValues places spec signatures es Γ → Env_ env Γ →
          Gives (λ vs. Typed places spec.bits vs (types_of es)) (vals spec l es env)
      vals_of no_exprs Γ env r en = tt
      vals_of (more e es) Γ env (r, rs) en =
          then_gives _ _ (val spec l e env) _ (val_of e Γ env r en) (λ w k. then_gives _ _ (vals spec l es env) _ (vals_of es Γ env rs en) (λ vs i. (k, i)))

      all_of : (es : Exprs) (u : Ty) (Γ : Context) (env : Env) → AllOf places spec signatures es u Γ → Env_ env Γ →
          Gives (λ vs. All vs u) (vals spec l es env)
      all_of no_exprs u Γ env r en = tt
      all_of (more e es) u Γ env (r, q, rs) en =
          then_gives _ _ (val spec l e env) _ (val_of e Γ env r en) (λ w k. then_gives _ _ (vals spec l es env) _ (all_of es u Γ env rs en)
          (λ vs i. (has_as places spec.bits (type_of e) u w q k, i)))

      named_of : (ns : Named) (Γ : Context) (env : Env) → AreNamed places spec signatures ns Γ → Env_ env Γ →
          Gives (λ fs. FieldsAre places spec.bits fs (names_in ns) (types_in ns)) (named_vals spec l ns env)
      named_of no_named Γ env r en = tt
      named_of (named label e ns) Γ env (r, rs) en =
          then_gives _ _ (val spec l e env) _ (val_of e Γ env r en) (λ w k. then_gives _ _ (named_vals spec l ns env) _ (named_of ns Γ env rs en)
          (λ fs i. (refl, k, i)))

      content_of : (c : Content) (Γ : Context) (env : Env) → IsContent places spec signatures c Γ → Env_ env Γ →
          Of (content_type c) (content_val spec l c env)
      content_of no_content Γ env r en = tt
      content_of (content e) Γ env r en = val_of e Γ env r en

      case_of : (cs : Cases) (subject ty : Ty) (w : Value) (Γ : Context) (env : Env) → CasesRule places spec signatures cs subject ty Γ → Env_ env Γ →
          Has w subject → hits cs w ≡ true → Of ty (case_val spec l cs w env)
      case_of no_cases subject ty w Γ env r en k e = absurd (false_true e)
      case_of (when p x cs) subject ty w Γ env ((inside, rp, rx, q), rs) en k e =
          case_at (matched p w) inside ty _ (case_val spec l cs w env) (hits cs w) (matched_is places spec.bits p subject inside w rp k) e
          (λ u i. gives_as places spec.bits (type_of x) ty (val spec l x (with_optional (name_of p) u env)) q
          (val_of x (optional_name (name_of p) inside Γ) (with_optional (name_of p) u env) rx
          (optional_has places spec.bits (name_of p) u inside env Γ i en)))
          (λ f. case_of cs subject ty w Γ env rs en k f)

      pub args_of : (args : Args) (Γ so_far callee : Context) (env inner : Env) → ArgumentsRule places spec signatures args Γ so_far callee → Env_ env Γ →
          Env_ inner so_far → Gives (λ e. Env_ e callee) (args_env spec l args env inner)
      args_of no_args Γ so_far callee env inner r en k = subst (λ q. Env_ inner q) r k
      args_of (by_value x e args) Γ so_far callee env inner (r, rs) en k =
          then_gives _ _ (val spec l e env) _ (val_of e Γ env r en) (λ w i. args_of args Γ (name x (type_of e) so_far) callee env (with_value x w inner) rs
          en (refl, i, k))
      args_of (by_hand there here args) Γ so_far callee env inner (ty, q, rs) en k =
          then_gives _ _ (Rattle.ddl_ops.specs.Valued.given (named_in env here)) _
          (gives_given (λ w. Has w ty) (named_in env here) (named_there places spec.bits env Γ here ty en q))
          (λ w i. args_of args Γ (context_with there ty so_far) callee env (with_name there w inner) rs en
          (name_has places spec.bits there w ty inner so_far i k))
      args_of _ Γ so_far callee env inner r en k = absurd r
