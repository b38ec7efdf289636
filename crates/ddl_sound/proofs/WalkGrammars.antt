-- A typed grammar form is never Stuck, and its parses have its type: one line a form.
use Rattle.std.proofs.Common.{◌≡◌, ℕ, Bool, true, false, if◌then◌else◌, List, refl, sym}
use Rattle.ddl_base.specs.declared.span.Span.{Span}
use Rattle.ddl_types.specs.Types.{Ty}
use Rattle.ddl_types.specs.Types as t
use Rattle.ddl_types.specs.Value.{Value, Values, Pairs, Stream, boolean, nothing, just, array, no_values, no_pairs, pair}
use Rattle.ddl_types.specs.Value as v
use Rattle.ddl_types.specs.Outcome.{Outcome, parsed}
use Rattle.ddl_types.specs.Joining.{Bind}
use Rattle.ddl_typed.specs.declared.parts.Choice.{Choice}
use Rattle.ddl_typed.specs.declared.parts.Choice.TheVariants.{Biased, Unbiased}
use Rattle.ddl_ops.specs.ByteSets.{class_byte}
use Rattle.ddl_typed.specs.Tree.{Expr, Form, Exprs, Cases, Bounds, Alts, Args, Items, Item, Spec, expr, text, paren, if_, case_, for_, map_, pure, uint8, match}
use Rattle.ddl_typed.specs.Tree.{end, class, fail, primitive, is_, fits, block, first, choose, many, optional, call, named, no_cases, when, unbounded, exactly}
use Rattle.ddl_typed.specs.Tree.{from_, up_to, between, no_alts, alt, tag, no_items, item, plain, let_, result_}
use Rattle.ddl_typed.specs.Tree as tree
use Rattle.ddl_typed.specs.Env.{Env, empty, with_value, type_in, with_optional}
use Rattle.ddl_ops.specs.Valued.{Valued}
use Rattle.ddl_typed.specs.Lower.{Lower}
use Rattle.ddl_ops.specs.Numbers.{count_of}
use Rattle.ddl_typed.specs.Repetition.{Repetition, is_below, is_full}
use Rattle.ddl_typed.specs.Loops.{Fold, Each, elements_of, is_map, with_element, with_pair}
use Rattle.ddl_ops.specs.Arrays.{snoc}
use Rattle.ddl_typed.specs.Blocks.{Built, nothing_built, with_part, bound}
use Rattle.ddl_typed.specs.Choices.{branch, under_tag, under_just, chosen, or_nothing, of_some}
use Rattle.ddl_ops.specs.Patterns.{Matched, has_it, has_another, has_none, matched, name_of, outcome_at}
use Rattle.ddl_base.specs.declared.why.Why.TheVariants.{Guard}
use Rattle.ddl_ops.specs.Primitives.{one_byte, at_end, match_value, byte_values, missed_at}
use Rattle.ddl_typed.specs.Classes.{class_set}
use Rattle.ddl_typed.specs.Meaning.{called, val, vals, args_env, limits_of, fold_values, each_values, folds, eaches, den, form_den, den_items, den_item}
use Rattle.ddl_typed.specs.Meaning.{den_first, den_choose, den_case, fold_value_turn, each_value_turn, fold_turn, each_turn, on_or_stop, repeat_turn}
use Rattle.ddl_typed.specs.Specification.{Place}
use Rattle.ddl_sound.specs.HasType.{HasType, AllHave, PairsHave, IsStream}
use Rattle.ddl_sound.specs.Context.{Context, no_names, name, optional_name, turn_context}
use Rattle.ddl_sound.specs.BlockTypes.{type_of, form_of_item, Making, nothing_made, made_with, context_after}
use Rattle.ddl_sound.specs.Typed.{types_of, grammars, Signature, HasAlternatives, TypedValue, AreValues, ArgumentsRule, BoundsRule, TypedGrammar, GrammarRule}
use Rattle.ddl_sound.specs.Typed.{ItemsRule, ItemRule, AlternativesRule, BranchesRule, AreTyped}
use Rattle.ddl_sound.specs.BasicTypes.{IsBool, array_type, maybe_type, unit_type, byte_type}
use Rattle.ddl_sound.specs.Members.{HasTag}
use Rattle.ddl_sound.specs.Sound.{Gives, Parses, EnvHas}
use Rattle.ddl_sound.proofs.Joins.{then_gives, then_fine, both_fine, biased_fine, bind_fine, leave_fine, choice_fine, fine_as, has_as}
use Rattle.ddl_sound.proofs.Keys.{joined, Rising, rising_next, rising_done}
use Rattle.ddl_sound.proofs.Reading.{on_bool, none_some}
use Rattle.ddl_sound.proofs.Collections.{snoc_all, elements_are, with_pair_are, Gathered, gathers, gathered_is, count_given}
use Rattle.ddl_sound.proofs.Operators.{fitted_is, Typed}
use Rattle.ddl_sound.proofs.Input.{one_byte_is, at_end_is, class_is, match_is, match_value_is, primitive_is}
use Rattle.ddl_sound.proofs.Members.{tagged_is, MatchHas, matched_is}
use Rattle.ddl_sound.proofs.Environments.{optional_has, turn_has, BuiltHas, built_with, bound_has, block_is}
use Rattle.ddl_sound.proofs.Below.{LowerFine, body_of}
use Rattle.ddl_sound.proofs.WalkValues as forms

module _ (places : List Place) (spec : Spec) (signatures : ℕ → Signature) where
  abbrev Has : Value → Ty → Type 0
  Has w ty = HasType places spec.bits w ty

  abbrev Of : Ty → Valued → Type 0
  Of ty o = Gives (λ w. Has w ty) o

  abbrev Fine : Ty → Outcome → Type 0
  Fine ty o = Parses places spec.bits ty o

  abbrev Env_ : Env → Context → Type 0
  Env_ env Γ = EnvHas places spec.bits env Γ

  abbrev All : Values → Ty → Type 0
  All vs ty = AllHave places spec.bits vs ty

  abbrev Pairs_ : Pairs → Ty → Ty → Type 0
  Pairs_ ps key ty = PairsHave places spec.bits ps key ty

  abbrev V : Expr → Context → Type 0
  V e Γ = TypedValue places spec signatures e Γ

  abbrev G : Expr → Context → Type 0
  G e Γ = TypedGrammar places spec signatures e Γ

  -- the bodies of `for` and `map`, in their context
  abbrev FoldIs : (Expr → Context → Type 0) → Fold → Context → Ty → Ty → Ty → Type 0
  FoldIs P f Γ key element ty = P f.body (turn_context f.names key element (name f.result ty Γ)) × (type_of f.body ≡ ty)

  abbrev EachIs : (Expr → Context → Type 0) → Each → Context → Ty → Ty → Type 0
  EachIs P m Γ key element = P m.body (turn_context m.names key element Γ)

  abbrev pub Gathered_ : Each → Ty → Pairs → Type 0
  Gathered_ m key qs = Pairs_ qs key (type_of m.body) × Rising m.over_map qs

  module _ (bodies : AreTyped places spec signatures) (l : Lower) (h : LowerFine places spec signatures l) where
    folds_of : (f : Fold) (Γ : Context) (key element ty : Ty) (env : Env) (so_far : Value) (ps : Pairs) → FoldIs V f Γ key element ty → Env_ env Γ →
        Has so_far ty → Pairs_ ps key element → Of ty (fold_values spec l f env so_far ps)
    folds_of = forms.folds_of places spec signatures bodies l h

    eaches_of : (m : Each) (Γ : Context) (key element : Ty) (env : Env) (done ps : Pairs) → EachIs V m Γ key element → Env_ env Γ →
        Pairs_ done key (type_of m.body) → Pairs_ ps key element → Rising m.over_map (joined done ps) →
        Gives (Gathered_ m key) (each_values spec l m env done ps)
    eaches_of = forms.eaches_of places spec signatures bodies l h

    val_of : (e : Expr) (Γ : Context) (env : Env) → V e Γ → Env_ env Γ → Of (type_of e) (val spec l e env)
    val_of = forms.val_of places spec signatures bodies l h

    vals_of : (es : Exprs) (Γ : Context) (env : Env) → AreValues places spec signatures es Γ → Env_ env Γ →
        Gives (λ vs. Typed places spec.bits vs (types_of es)) (vals spec l es env)
    vals_of = forms.vals_of places spec signatures bodies l h

    args_of : (args : Args) (Γ so_far callee : Context) (env inner : Env) → ArgumentsRule places spec signatures args Γ so_far callee → Env_ env Γ →
        Env_ inner so_far → Gives (λ e. Env_ e callee) (args_env spec l args env inner)
    args_of = forms.args_of places spec signatures bodies l h

    limits_are : (b : Bounds) (Γ : Context) (env : Env) → BoundsRule places spec signatures b Γ → Env_ env Γ → Gives (λ m. Unit {0}) (limits_of spec l b env)
    limits_are unbounded Γ env r en = tt
    limits_are (exactly a) Γ env (r, ok) en =
        then_gives _ _ (val spec l a env) _ (val_of a Γ env r en) (λ w k. then_gives _ _ (count_of w) _ (count_given places spec.bits (type_of a) w ok k)
        (λ n t. tt))
    limits_are (from_ a) Γ env (r, ok) en =
        then_gives _ _ (val spec l a env) _ (val_of a Γ env r en) (λ w k. then_gives _ _ (count_of w) _ (count_given places spec.bits (type_of a) w ok k)
        (λ n t. tt))
    limits_are (up_to a) Γ env (r, ok) en =
        then_gives _ _ (val spec l a env) _ (val_of a Γ env r en) (λ w k. then_gives _ _ (count_of w) _ (count_given places spec.bits (type_of a) w ok k)
        (λ n t. tt))
    limits_are (between a b) Γ env ((r, ok), (r2, ok2)) en =
        then_gives _ _ (val spec l a env) _ (val_of a Γ env r en) (λ w k. then_gives _ _ (count_of w) _ (count_given places spec.bits (type_of a) w ok k)
        (λ n t.
        then_gives _ _ (val spec l b env) _ (val_of b Γ env r2 en) (λ u i. then_gives _ _ (count_of u) _ (count_given places spec.bits (type_of b) u ok2 i)
        (λ m t2. tt))))

    folds_fine : (f : Fold) (Γ : Context) (key element ty : Ty) (env : Env) (so_far : Value) (ps : Pairs) (s : Stream) → FoldIs G f Γ key element ty →
        Env_ env Γ → Has so_far ty → Pairs_ ps key element → IsStream s → Fine ty (folds spec l f env so_far ps s)
    folds_fine f Γ key element ty env so_far no_pairs s r en a p i = (a, i, tt)
    folds_fine f Γ key element ty env so_far (pair k w ps) s r en a (b, c, p) i = h.fold f Γ key element ty env so_far k w ps s r en a b c p i

    eaches_fine : (m : Each) (Γ : Context) (key element ty : Ty) (env : Env) (done ps : Pairs) (s : Stream) → EachIs G m Γ key element →
        Gathered places spec.bits m.over_map key (type_of m.body) ty → Env_ env Γ → Pairs_ done key (type_of m.body) → Pairs_ ps key element →
        Rising m.over_map (joined done ps) → IsStream s → Fine ty (eaches spec l m env done ps s)
    eaches_fine m Γ key element ty env done no_pairs s r g en d p u i =
        (gathered_is places spec.bits m.over_map done key (type_of m.body) ty g d (rising_done m.over_map done u), i, tt)
    eaches_fine m Γ key element ty env done (pair k w ps) s r g en d (a, b, p) u i = h.each m Γ key element ty env done k w ps s r g en d a b p u i

    branch_fine : (c ty : Ty) (w : Value) (o p : Outcome) → IsBool c → Has w c → Fine ty o → Fine ty p → Fine ty (branch w o p)
    branch_fine c ty w o p ok k a b = on_bool places spec.bits (λ x. Fine ty (branch x o p)) c ok (by o p a b) w k
      where
        by : (o p : Outcome) → Fine ty o → Fine ty p → (x : Bool) → Fine ty (branch (boolean x) o p)
        by o p a b true = a
        by o p a b false = b

    under_tag_fine : (label : List ℕ) (u ty : Ty) (o : Outcome) → HasTag places label u ty → Fine u o → Fine ty (under_tag label o)
    under_tag_fine label u ty o q a = bind_fine places spec.bits u ty o _ a (λ w t k i. (tagged_is places spec.bits label u ty w q k, i, tt))

    chosen_fine : (c : Choice) (ty : Ty) (o p : Outcome) → Fine ty o → Fine ty p → Fine ty (chosen c o p)
    chosen_fine Biased ty o p a b = biased_fine places spec.bits ty o p a b
    chosen_fine Unbiased ty o p a b = both_fine places spec.bits ty o p a b

    or_nothing_fine : (c : Choice) (u : Ty) (o : Outcome) (s : Stream) → Fine u o → IsStream s → Fine (maybe_type u) (or_nothing c o s)
    or_nothing_fine c u o s a i =
        chosen_fine c (maybe_type u) (under_just o) (parsed nothing s) (bind_fine places spec.bits u (maybe_type u) o _ a (λ w t k j. (k, j, tt))) (tt, i, tt)

    outcome_fine : (m : Matched) (inside ty : Ty) (k : Value → Outcome) (later : Outcome) → MatchHas places spec.bits inside m →
        ((w : Value) → Has w inside → Fine ty (k w)) → Fine ty later → Fine ty (outcome_at m k later)
    outcome_fine (has_it w) inside ty k later a p q = p w a
    outcome_fine has_another inside ty k later a p q = q
    outcome_fine has_none inside ty k later a p q = absurd a

    mutual
      den_of : (e : Expr) (Γ : Context) (env : Env) (s : Stream) → G e Γ → Env_ env Γ → IsStream s → Fine (type_of e) (den spec l e env s)
      den_of (expr form ty span) Γ env s r en i = form_fine form ty span Γ env s r en i

      form_fine : (form : Form) (ty : Ty) (span : Span) (Γ : Context) (env : Env) (s : Stream) → GrammarRule places spec signatures form ty Γ → Env_ env Γ →
          IsStream s → Fine ty (form_den spec l form ty span env s)
      form_fine (pure e) ty span Γ env s (r, q) en i =
          then_fine places spec.bits _ ty (val spec l e env) _ (val_of e Γ env r en) (λ w k. (has_as places spec.bits (type_of e) ty w q k, i, tt))
      form_fine uint8 ty span Γ env s q en i = fine_as places spec.bits byte_type ty (one_byte span s) (sym q) (one_byte_is places spec.bits span s i)
      form_fine (match e) ty span Γ env s (r, qe, q) en i =
          then_fine places spec.bits _ ty (val spec l e env) _ (val_of e Γ env r en)
          (λ w k. fine_as places spec.bits (array_type byte_type) ty (match_value w span s) (sym q)
          (match_value_is places spec.bits w span s (has_as places spec.bits (type_of e) (array_type byte_type) w qe k) i))
      form_fine (text bs) ty span Γ env s r en i = match_is places spec.bits bs (array (byte_values bs)) ty span s r i
      form_fine end ty span Γ env s q en i = fine_as places spec.bits unit_type ty (at_end span s) (sym q) (at_end_is places spec.bits span s i)
      form_fine (class c) ty span Γ env s (ok, q) en i =
          fine_as places spec.bits byte_type ty (class_byte (class_set spec c env) span s) (sym q) (class_is places spec.bits spec c env span s ok i)
      form_fine (fail n) ty span Γ env s r en i = tt
      form_fine (primitive p es) ty span Γ env s (r, q) en i =
          then_fine places spec.bits _ ty (vals spec l es env) _ (vals_of es Γ env r en)
          (λ vs k. primitive_is places spec.bits p (types_of es) ty vs span s q k i)
      form_fine (is_ e p) ty span Γ env s (r, q) en i =
          then_fine places spec.bits _ ty (val spec l e env) _ (val_of e Γ env r en)
          (λ w k. outcome_fine (matched p w) ty ty (λ u. parsed u s) (missed_at Guard s span) (matched_is places spec.bits p (type_of e) ty w q k)
          (λ u j. (j, i, tt)) tt)
      form_fine (fits e) ty span Γ env s (r, q) en i =
          then_fine places spec.bits _ ty (val spec l e env) _ (val_of e Γ env r en)
          (λ w k. fitted_is places spec.bits (type_of e) ty (type_in env) w span s q k i)
      form_fine (paren e) ty span Γ env s (r, q) en i = fine_as places spec.bits (type_of e) ty (den spec l e env s) q (den_of e Γ env s r en i)
      form_fine (block is) ty span Γ env s r en i =
          leave_fine places spec.bits ty (den_items spec l is env nothing_built s)
          (items_fine is nothing_made ty Γ env nothing_built s r en (record { named = tt; result = tt; last = tt }) i)
      form_fine (first as_) ty span Γ env s (some, r) en i =
          leave_fine places spec.bits ty (of_some as_ (den_first spec l as_ env s)) (first_some as_ ty Γ env s some r en i)
      form_fine (choose as_) ty span Γ env s (some, r) en i =
          leave_fine places spec.bits ty (of_some as_ (den_choose spec l as_ env s)) (choose_some as_ ty Γ env s some r en i)
      form_fine (many c b p) ty span Γ env s (rb, rp, q) en i =
          then_fine places spec.bits _ ty (limits_of spec l b env) _ (limits_are b Γ env rb en)
          (λ m t. leave_fine places spec.bits ty (l.repeat (record { choice = c; limits = m; body = p }) env no_values s)
          (fine_as places spec.bits (array_type (type_of p)) ty (l.repeat (record { choice = c; limits = m; body = p }) env no_values s) (sym q)
          (h.repeat (record { choice = c; limits = m; body = p }) Γ env no_values s rp en tt i)))
      form_fine (optional c p) ty span Γ env s (r, q) en i =
          leave_fine places spec.bits ty (or_nothing c (den spec l p env s) s)
          (fine_as places spec.bits (maybe_type (type_of p)) ty (or_nothing c (den spec l p env s) s) (sym q)
          (or_nothing_fine c (type_of p) (den spec l p env s) s (den_of p Γ env s r en i) i))
      form_fine (if_ c p q) ty span Γ env s (r, ok, rp, ep, rq, eq) en i =
          then_fine places spec.bits _ ty (val spec l c env) _ (val_of c Γ env r en)
          (λ w k. leave_fine places spec.bits ty (branch w (den spec l p env s) (den spec l q env s))
          (branch_fine (type_of c) ty w (den spec l p env s) (den spec l q env s) ok k
          (fine_as places spec.bits (type_of p) ty (den spec l p env s) ep (den_of p Γ env s rp en i))
          (fine_as places spec.bits (type_of q) ty (den spec l q env s) eq (den_of q Γ env s rq en i))))
      form_fine (case_ e cs) ty span Γ env s (r, rs) en i =
          then_fine places spec.bits _ ty (val spec l e env) _ (val_of e Γ env r en)
          (λ w k. leave_fine places spec.bits ty (den_case spec l cs w span env s) (case_fine cs (type_of e) ty w span Γ env s rs en k i))
      form_fine (for_ x start names e p) ty span Γ env s (rs, qs, r, (key, (element, lp, rp, qp))) en i =
          then_fine places spec.bits _ ty (val spec l start env) _ (val_of start Γ env rs en) (λ w k.
          then_fine places spec.bits _ ty (val spec l e env) _ (val_of e Γ env r en) (λ u j.
          then_fine places spec.bits _ ty (elements_of u) _ (elements_are places spec.bits (type_of e) key element u lp j)
          (λ ps t. leave_fine places spec.bits ty (folds spec l (record { result = x; names = names; body = p }) env w ps s)
          (folds_fine (record { result = x; names = names; body = p }) Γ key element ty env w ps s (rp, qp) en
          (has_as places spec.bits (type_of start) ty w qs k) t.0 i))))
      form_fine (map_ names e p) ty span Γ env s (r, (key, (element, lp, rp, g))) en i =
          then_fine places spec.bits _ ty (val spec l e env) _ (val_of e Γ env r en) (λ u j.
          then_fine places spec.bits _ ty (elements_of u) _ (elements_are places spec.bits (type_of e) key element u lp j)
          (λ ps t. leave_fine places spec.bits ty (eaches spec l (record { names = names; body = p; over_map = is_map u }) env no_pairs ps s)
          (eaches_fine (record { names = names; body = p; over_map = is_map u }) Γ key element ty env no_pairs ps s rp
          (gathers places spec.bits (type_of e) key element (type_of p) ty u lp g j) en tt t.0 t.1 i)))
      form_fine (call f args) ty span Γ env s (callee, r, d) en i =
          then_fine places spec.bits _ ty (args_env spec l args env empty) _ (args_of args Γ no_names callee env empty r en tt) (λ inner k.
          then_fine places spec.bits _ ty (called spec f) _ (body_of places spec signatures bodies f grammars callee ty d)
          (λ e b. leave_fine places spec.bits ty (l.den e inner s)
          (fine_as places spec.bits (type_of e) ty (l.den e inner s) b.1 (h.den e callee inner s b.0 k i))))
      form_fine _ ty span Γ env s r en i = absurd r

      items_fine : (is : Items) (m : Making) (ty : Ty) (Γ : Context) (env : Env) (b : Built) (s : Stream) → ItemsRule places spec signatures is m ty Γ →
          Env_ env Γ → BuiltHas places spec.bits b m → IsStream s → Fine ty (den_items spec l is env b s)
      items_fine no_items m ty Γ env b s r en a i = (block_is places spec.bits b m ty a r, i, tt)
      items_fine (item x is) m ty Γ env b s (r, rs) en a i =
          bind_fine places spec.bits (type_of (form_of_item x)) ty (den_item spec l x env s) _ (item_fine x Γ env s r en i)
          (λ w t k j. items_fine is (made_with x m) ty (context_after x Γ) (bound x w env) (with_part x w b) t rs
          (bound_has places spec.bits x w env Γ en k) (built_with places spec.bits x w b m a k) j)

      item_fine : (x : Item) (Γ : Context) (env : Env) (s : Stream) → ItemRule places spec signatures x Γ → Env_ env Γ → IsStream s →
          Fine (type_of (form_of_item x)) (den_item spec l x env s)
      item_fine (plain e) Γ env s r en i = den_of e Γ env s r en i
      item_fine (let_ y e) Γ env s r en i = den_of e Γ env s r en i
      item_fine (tree.field label y e) Γ env s r en i = den_of e Γ env s r en i
      item_fine (result_ e) Γ env s r en i = den_of e Γ env s r en i

      first_some : (as_ : Alts) (ty : Ty) (Γ : Context) (env : Env) (s : Stream) → HasAlternatives as_ → AlternativesRule places spec signatures as_ ty Γ →
          Env_ env Γ → IsStream s → Fine ty (of_some as_ (den_first spec l as_ env s))
      first_some no_alts ty Γ env s some r en i = absurd some
      first_some (alt e as_) ty Γ env s some (r, q, rs) en i =
          biased_fine places spec.bits ty (den spec l e env s) (den_first spec l as_ env s)
          (fine_as places spec.bits (type_of e) ty (den spec l e env s) q (den_of e Γ env s r en i)) (first_fine as_ ty Γ env s rs en i)
      first_some (tag label e as_) ty Γ env s some (r, q, rs) en i =
          biased_fine places spec.bits ty (under_tag label (den spec l e env s)) (den_first spec l as_ env s)
          (under_tag_fine label (type_of e) ty (den spec l e env s) q (den_of e Γ env s r en i)) (first_fine as_ ty Γ env s rs en i)

      first_fine : (as_ : Alts) (ty : Ty) (Γ : Context) (env : Env) (s : Stream) → AlternativesRule places spec signatures as_ ty Γ → Env_ env Γ →
          IsStream s → Fine ty (den_first spec l as_ env s)
      first_fine no_alts ty Γ env s r en i = tt
      first_fine (alt e as_) ty Γ env s (r, q, rs) en i =
          biased_fine places spec.bits ty (den spec l e env s) (den_first spec l as_ env s)
          (fine_as places spec.bits (type_of e) ty (den spec l e env s) q (den_of e Γ env s r en i)) (first_fine as_ ty Γ env s rs en i)
      first_fine (tag label e as_) ty Γ env s (r, q, rs) en i =
          biased_fine places spec.bits ty (under_tag label (den spec l e env s)) (den_first spec l as_ env s)
          (under_tag_fine label (type_of e) ty (den spec l e env s) q (den_of e Γ env s r en i)) (first_fine as_ ty Γ env s rs en i)

      choose_some : (as_ : Alts) (ty : Ty) (Γ : Context) (env : Env) (s : Stream) → HasAlternatives as_ → AlternativesRule places spec signatures as_ ty Γ →
          Env_ env Γ → IsStream s → Fine ty (of_some as_ (den_choose spec l as_ env s))
      choose_some no_alts ty Γ env s some r en i = absurd some
      choose_some (alt e as_) ty Γ env s some (r, q, rs) en i =
          both_fine places spec.bits ty (den spec l e env s) (den_choose spec l as_ env s)
          (fine_as places spec.bits (type_of e) ty (den spec l e env s) q (den_of e Γ env s r en i)) (choose_fine as_ ty Γ env s rs en i)
      choose_some (tag label e as_) ty Γ env s some (r, q, rs) en i =
          both_fine places spec.bits ty (under_tag label (den spec l e env s)) (den_choose spec l as_ env s)
          (under_tag_fine label (type_of e) ty (den spec l e env s) q (den_of e Γ env s r en i)) (choose_fine as_ ty Γ env s rs en i)

      choose_fine : (as_ : Alts) (ty : Ty) (Γ : Context) (env : Env) (s : Stream) → AlternativesRule places spec signatures as_ ty Γ → Env_ env Γ →
          IsStream s → Fine ty (den_choose spec l as_ env s)
      choose_fine no_alts ty Γ env s r en i = tt
      choose_fine (alt e as_) ty Γ env s (r, q, rs) en i =
          both_fine places spec.bits ty (den spec l e env s) (den_choose spec l as_ env s)
          (fine_as places spec.bits (type_of e) ty (den spec l e env s) q (den_of e Γ env s r en i)) (choose_fine as_ ty Γ env s rs en i)
      choose_fine (tag label e as_) ty Γ env s (r, q, rs) en i =
          both_fine places spec.bits ty (under_tag label (den spec l e env s)) (den_choose spec l as_ env s)
          (under_tag_fine label (type_of e) ty (den spec l e env s) q (den_of e Γ env s r en i)) (choose_fine as_ ty Γ env s rs en i)

      case_fine : (cs : Cases) (subject ty : Ty) (w : Value) (span : Span) (Γ : Context) (env : Env) (s : Stream) →
          BranchesRule places spec signatures cs subject ty Γ → Env_ env Γ → Has w subject → IsStream s → Fine ty (den_case spec l cs w span env s)
      case_fine no_cases subject ty w span Γ env s r en k i = tt
      case_fine (when p x cs) subject ty w span Γ env s ((inside, rp, rx, q), rs) en k i =
          outcome_fine (matched p w) inside ty (λ u. den spec l x (with_optional (name_of p) u env) s) (den_case spec l cs w span env s)
          (matched_is places spec.bits p subject inside w rp k)
          (λ u j. fine_as places spec.bits (type_of x) ty (den spec l x (with_optional (name_of p) u env) s) q
          (den_of x (optional_name (name_of p) inside Γ) (with_optional (name_of p) u env) s rx
          (optional_has places spec.bits (name_of p) u inside env Γ j en) i))
          (case_fine cs subject ty w span Γ env s rs en k i)

    -- ---- turns

    on_or_stop_fine : (r : Repetition) (Γ : Context) (env : Env) (xs : Values) (w : Value) (s : Stream) → G r.body Γ → Env_ env Γ →
        All xs (type_of r.body) → Has w (maybe_type (type_of r.body)) → IsStream s → Fine (array_type (type_of r.body)) (on_or_stop spec l r env xs w s)
    on_or_stop_fine r Γ env xs (just w) s g en a k i = h.repeat r Γ env (snoc xs w) s g en (snoc_all places spec.bits xs w (type_of r.body) a k) i
    on_or_stop_fine r Γ env xs nothing s g en a k i = (a, i, tt)
    on_or_stop_fine r Γ env xs (v.number ty z) s g en a k i = absurd (none_some k.0)
    on_or_stop_fine r Γ env xs _ s g en a k i = absurd k

    repeat_fine : (r : Repetition) (Γ : Context) (env : Env) (xs : Values) (s : Stream) → G r.body Γ → Env_ env Γ → All xs (type_of r.body) → IsStream s →
        Fine (array_type (type_of r.body)) (repeat_turn spec l r env xs s)
    repeat_fine r Γ env xs s g en a i =
        let u = type_of r.body in
        let one = den spec l r.body env s in
        let fine = den_of r.body Γ env s g en i in
        let next = λ (w : Value) (t : Stream). l.repeat r env (snoc xs w) t in
        let last = Bind (or_nothing r.choice one s) (on_or_stop spec l r env xs) in
        choice_fine places spec.bits (array_type u) (is_below r.limits xs) (Bind one next) (if is_full r.limits xs then parsed (array xs) s else last)
        (λ e. bind_fine places spec.bits u (array_type u) one next fine (λ w t k j. h.repeat r Γ env (snoc xs w) t g en
        (snoc_all places spec.bits xs w u a k) j))
        (λ e. choice_fine places spec.bits (array_type u) (is_full r.limits xs) (parsed (array xs) s) last (λ f. (a, i, tt))
        (λ f. bind_fine places spec.bits (maybe_type u) (array_type u) (or_nothing r.choice one s) (on_or_stop spec l r env xs)
        (or_nothing_fine r.choice u one s fine i) (λ w t k j. on_or_stop_fine r Γ env xs w t g en a k j)))

    -- what calls and turns give one depth further up
    abbrev above : Lower
    above = record {
      den = den spec l;
      val = val spec l;
      repeat = repeat_turn spec l;
      fold_value = fold_value_turn spec l;
      each_value = each_value_turn spec l;
      fold = fold_turn spec l;
      each = each_turn spec l;
    }

    pub next_fine : LowerFine places spec signatures above
    next_fine = record {
      den = den_of;
      val = val_of;
      repeat = repeat_fine;
      fold_value = λ f Γ key element ty env so_far k w ps r en a b c p.
          then_gives _ _ (val spec l f.body (with_element f.names k w (with_value f.result so_far env))) _
          (val_of f.body (turn_context f.names key element (name f.result ty Γ)) (with_element f.names k w (with_value f.result so_far env)) r.0
          (turn_has places spec.bits f.names k w key element (with_value f.result so_far env) (name f.result ty Γ) b c (refl, a, en)))
          (λ u i. folds_of f Γ key element ty env u ps r en (has_as places spec.bits (type_of f.body) ty u r.1 i) p);
      each_value = λ m Γ key element env done k w ps r en d b c p v.
          then_gives _ _ (val spec l m.body (with_element m.names k w env)) _
          (val_of m.body (turn_context m.names key element Γ) (with_element m.names k w env) r
          (turn_has places spec.bits m.names k w key element env Γ b c en))
          (λ u i. eaches_of m Γ key element env (with_pair done k u) ps r en (with_pair_are places spec.bits done k u key (type_of m.body) d b i) p
          (rising_next m.over_map done k u w ps v));
      fold = λ f Γ key element ty env so_far k w ps s r en a b c p i.
          bind_fine places spec.bits (type_of f.body) ty (den spec l f.body (with_element f.names k w (with_value f.result so_far env)) s) _
          (den_of f.body (turn_context f.names key element (name f.result ty Γ)) (with_element f.names k w (with_value f.result so_far env)) s r.0
          (turn_has places spec.bits f.names k w key element (with_value f.result so_far env) (name f.result ty Γ) b c (refl, a, en)) i)
          (λ u t j q. folds_fine f Γ key element ty env u ps t r en (has_as places spec.bits (type_of f.body) ty u r.1 j) p q);
      each = λ m Γ key element ty env done k w ps s r g en d b c p v i.
          bind_fine places spec.bits (type_of m.body) ty (den spec l m.body (with_element m.names k w env) s) _
          (den_of m.body (turn_context m.names key element Γ) (with_element m.names k w env) s r
          (turn_has places spec.bits m.names k w key element env Γ b c en) i)
          (λ u t j q. eaches_fine m Γ key element ty env (with_pair done k u) ps t r g en
          (with_pair_are places spec.bits done k u key (type_of m.body) d b j) p (rising_next m.over_map done k u w ps v) q);
    }
