-- Lowering keeps what a specialised specification means: at each depth the same events, and at most eight ticks for one.
use Rattle.std.proofs.Common.{◌≡◌, ℕ, zero, suc, Bool, true, false, if◌then◌else◌, List, [], ◌∷◌, Some, refl, ap, subst, sym, ◌∙◌, arith, rules}
use Rattle.std.specs.Prelude.{map}
use Rattle.ddl_types.specs.Layout.{Layout}
use Rattle.ddl_types.specs.Types.{Ty}
use Rattle.ddl_types.specs.Value.{Stream}
use Rattle.ddl_ops.specs.declared.pattern.Pattern.{Pattern}
use Rattle.ddl_ops.specs.Valued.{given, then_parse}
use Rattle.ddl_ops.proofs.Paid.{Paid, pay, spend, at_deep, Costs, is_deep, more as more_paid, paid_follows, paid_covers}
use Rattle.ddl_typed.specs.Tree.{Expr, Spec}
use Rattle.ddl_typed.specs.Env.{empty}
use Rattle.ddl_typed.specs.Meaning.{form_at, val, den}
use Rattle.ddl_typed.specs.Meaning as meaning
use Rattle.ddl_mono.specs.Copies.{Copy, Mono, Scope, decl_of, spec_of, copy_at, names_before, scope_of, params_of, is_value_kind, is_value_copy, is_value}
use Rattle.ddl_mono.specs.IsMono.{IsMono}
use Rattle.ddl_mono.specs.IsMono as mono
use Rattle.ddl_core.specs.Core.{Function}
use Rattle.ddl_core.specs.Meaning.{outside, function_at}
use Rattle.ddl_core.specs.Meaning as core
use Rattle.ddl_lowering.specs.Laws.{LoweringKeeps}
use Rattle.ddl_lowering.specs.PartTypes.{content_type}
use Rattle.ddl_lowering.specs.Lowered.{valued, lowered}
use Rattle.ddl_lowering.specs.Program.{function_of, functions_of}
use Rattle.ddl_lowering.proofs.Below.{LowerCosts}
use Rattle.ddl_lowering.proofs.GrammarForms.{den_paid}
use Rattle.ddl_lowering.proofs.LoopTurns.{fold_value_paid, fold_paid, each_value_paid, each_paid}
use Rattle.ddl_lowering.proofs.RepetitionTurns.{turn_paid}
use Rattle.ddl_lowering.proofs.ValueForms.{val_costs}
use Rattle.ddl_lowering.proofs.Variables.{nil, values, none_named}

-- each declaration is of its kind, and its core is the body of the function of its number
pub record Lowers (spec : Spec) (params : ℕ → Scope) (is_value : ℕ → Bool) (within : Pattern → Ty → Ty) (functions : List Function) : Type 0 where
  pub values : (f : ℕ) (e : Expr) → form_at spec.decls f ≡ Some e → is_value f ≡ true →
      (d : Function) × (function_at functions f ≡ Some d) × (d.body ≡ valued spec.bits within e (params f))
  pub grammars : (f : ℕ) (e : Expr) → form_at spec.decls f ≡ Some e → is_value f ≡ false →
      (d : Function) × (function_at functions f ≡ Some d) × (d.body ≡ lowered spec.bits within e (params f))
  pub are_values : (f : ℕ) (e : Expr) → form_at spec.decls f ≡ Some e → is_value f ≡ true → mono.IsValue spec params is_value e
  pub are_grammars : (f : ℕ) (e : Expr) → form_at spec.decls f ≡ Some e → is_value f ≡ false → mono.IsGrammar spec params is_value e

module _ {spec : Spec} {params : ℕ → Scope} {is_value : ℕ → Bool} {within : Pattern → Ty
    → Ty} {functions : List Function} (lowers : Lowers spec params is_value within functions) where
  -- by the depth
  level_costs : (n : ℕ) → LowerCosts spec params is_value within (meaning.level spec n) (core.level functions n)
  level_costs zero = record {
    val = λ f e z env s is kind names m. is_deep;
    den = λ f e z env s is kind names m. at_deep;
    repeat = λ q b e ty span lim env z xs us s ok m st. at_deep;
    fold_value = λ x names e ov ty span env z u b p w st n i acc key el ps s ok m c left. is_deep;
    fold = λ x names e ov ty span env z u b p w st n i acc key el ps s ok m c left. at_deep;
    each_value = λ names e ov ty inner span env z u b p st w n i done key el ps s ok m c left g. is_deep;
    each = λ names e ov ty inner span env z u b p st w n i done key el ps s ok m c left g. at_deep;
  }
  level_costs (suc n) =
      let h = level_costs n in
      record {
        val = λ f e z env s is kind names m.
            let d = lowers.values f e is kind in
            subst (λ o. Costs 5 s 0 (val spec (meaning.level spec n) e env)
            (then_parse (given o) (λ d. core.core (core.level functions n) d.body outside (values z) s))) (sym d.1)
            (subst (λ b. Costs 5 s 0 (val spec (meaning.level spec n) e env) (core.core (core.level functions n) b outside (values z) s))
            (sym (d.2 ∙ ap (valued spec.bits within e) (sym names)))
            (val_costs h e env z outside s (lowers.are_values f e is kind) m));
        den = λ f e z env s is kind names m.
            let d = lowers.grammars f e is kind in
            subst (λ o. Paid 5 2 0 (den spec (meaning.level spec n) e env s)
            (then_parse (given o) (λ d. core.core (core.level functions n) d.body outside (values z) s))) (sym d.1)
            (subst (λ b. Paid 5 2 0 (den spec (meaning.level spec n) e env s) (core.core (core.level functions n) b outside (values z) s))
            (sym (d.2 ∙ ap (lowered spec.bits within e) (sym names)))
            (den_paid h e env z outside s (lowers.are_grammars f e is kind) m));
        repeat = turn_paid h;
        fold_value = fold_value_paid h;
        fold = fold_paid h;
        each_value = each_value_paid h;
        each = each_paid h;
      }

  -- the entry
  runs_paid : (entry n : ℕ) (s : Stream) → mono.Calls spec params is_value entry false [] →
      Paid 5 2 0 (meaning.Run n spec entry s) (core.Run n (record { functions = functions; entry = entry }) s)
  runs_paid entry n s calls =
      pay {b = 8} (omega arith) (spend {b = 7} (omega arith)
      (subst (λ o. Paid 5 2 7 (then_parse (given o) (λ e. (meaning.level spec n).den e empty s)) ((core.level functions n).call entry [] s)) (sym calls.is)
      (more_paid (omega arith) ((level_costs n).den entry calls.body nil empty s calls.is calls.kind_is (sym calls.names) (record { by = none_named })))))

-- ---- the functions of copies

-- the copy of a declaration, and its function
record Stands (layouts : List Layout) (within : Pattern → Ty → Ty) (ks : List Copy) (f : ℕ) (e : Expr) : Type 0 where
  pub copy : Copy
  pub at_number : copy_at ks f ≡ Some copy
  pub has_form : copy.body ≡ e
  pub function : function_at (functions_of layouts within ks) f ≡ Some (function_of layouts within copy)

stands : (layouts : List Layout) (within : Pattern → Ty → Ty) (ks : List Copy) (f : ℕ) (e : Expr) → form_at (map decl_of ks) f ≡ Some e
    → Stands layouts within ks f e
stands layouts within [] f e is = absurd (search (rules, is))
stands layouts within (k ∷ ks) zero e is = let same : k.body ≡ e = cc in record { copy = k; at_number = refl; has_form = same; function = refl }
stands layouts within (k ∷ ks) (suc f) e is = let r = stands layouts within ks f e is
    in record { copy = r.copy; at_number = r.at_number; has_form = r.has_form; function = r.function }

-- its body, by its kind
value_body : (layouts : List Layout) (within : Pattern → Ty → Ty) (k : Copy) (o : Scope) (e : Expr) → is_value_kind k.kind ≡ true → k.body ≡ e
    → names_before k.names [] ≡ o
    → (function_of layouts within k).body ≡ valued layouts within e o
value_body layouts within k o e kind form names =
    ap (λ b. if b then valued layouts within k.body (names_before k.names []) else lowered layouts within k.body (names_before k.names [])) kind ∙
    (ap (λ b. valued layouts within b (names_before k.names [])) form ∙ ap (valued layouts within e) names)

grammar_body : (layouts : List Layout) (within : Pattern → Ty → Ty) (k : Copy) (o : Scope) (e : Expr) → is_value_kind k.kind ≡ false → k.body ≡ e
    → names_before k.names [] ≡ o
    → (function_of layouts within k).body ≡ lowered layouts within e o
grammar_body layouts within k o e kind form names =
    ap (λ b. if b then valued layouts within k.body (names_before k.names []) else lowered layouts within k.body (names_before k.names [])) kind ∙
    (ap (λ b. lowered layouts within b (names_before k.names [])) form ∙ ap (lowered layouts within e) names)

lowers_copies : (m : Mono) → IsMono m → Lowers (spec_of m) (params_of m) (is_value m) (content_type m.places)
    (functions_of (spec_of m).bits (content_type m.places) m.copies)
lowers_copies m ok = record {
  values = λ f e is kind. let r = stands (spec_of m).bits (content_type m.places) m.copies f e is in (
    function_of (spec_of m).bits (content_type m.places) r.copy,
    r.function,
    value_body (spec_of m).bits (content_type m.places) r.copy (params_of m f) e (sym (ap is_value_copy r.at_number)
        ∙ kind) r.has_form (sym (ap scope_of r.at_number)),
  );
  grammars = λ f e is kind. let r = stands (spec_of m).bits (content_type m.places) m.copies f e is in (
    function_of (spec_of m).bits (content_type m.places) r.copy,
    r.function,
    grammar_body (spec_of m).bits (content_type m.places) r.copy (params_of m f) e (sym (ap is_value_copy r.at_number)
        ∙ kind) r.has_form (sym (ap scope_of r.at_number)),
  );
  are_values = ok.values;
  are_grammars = ok.grammars;
}

pub lowering_keeps : LoweringKeeps
lowering_keeps m ok s = record {
  first = λ n. (n, paid_follows (runs_paid (lowers_copies m ok) m.entry n s ok.entry));
  second = λ n. (n, paid_covers (runs_paid (lowers_copies m ok) m.entry n s ok.entry));
}
