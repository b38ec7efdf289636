-- What is told of a simple entry.
use Rattle.std.proofs.Common.{◌≡◌, ℕ, zero, suc, List, [], ◌∷◌, Some, None, Bool, true, false, refl, ap, sym, ◌∙◌, if◌then◌else◌, subst, Err}
use Rattle.ddl_base.specs.declared.span.Span.{Span}
use Rattle.ddl_base.specs.declared.why.Why.{Why}
use Rattle.ddl_types.specs.declared.fault.Fault.TheVariants.{DeepResult}
use Rattle.ddl_types.specs.Value.{Value, Stream, Source, in_input, in_array}
use Rattle.ddl_types.specs.Outcome.{Outcome, Faulted, ends, tick, miss, parse, parsed, missed, unticked, parses}
use Rattle.ddl_types.specs.Cut.{cut_by}
use Rattle.ddl_types.specs.PlainOf.{plain_of, is_too_deep, cut}
use Rattle.ddl_types.specs.Growth.{IsWhole}
use Rattle.ddl_types.specs.BestFailure.{best_failure}
use Rattle.ddl_types.specs.Answer.{counted, failed, faulted, answer_of, answer_at}
use Rattle.ddl_types.proofs.Joins.{answer_unticked}
use Rattle.ddl_typed.specs.Tree.{Expr, alone}
use Rattle.ddl_typed.specs.Env.{empty}
use Rattle.ddl_typed.specs.Meaning.{level, den}
use Rattle.ddl_typed.specs.Denoted.{Denoted, whole_input}
use Rattle.ddl_typed.specs.Simple.{IsSimple}
use Rattle.ddl_typed.specs.Told.{Told, IsAnswer, told, told_of}
use Rattle.ddl_typed.specs.Evaluated.{Gives, meant}
use Rattle.ddl_typed.specs.AnswerView.{source_of, is_said}
use Rattle.ddl_typed.specs.declared.answer.Failure.{Failure}
use Rattle.ddl_typed.specs.declared.step.Stop.{Stop}
use Rattle.ddl_typed.specs.declared.step.Stop.TheVariants.{Failed}
use Rattle.ddl_typed.proofs.Depthless.{same_den}

-- ---- what is told of one parse and of one failure

pub told_parse : (name : Span) (v : Value) (s : Stream) → is_too_deep v ≡ false
    → told (cut name (parsed v s)) ≡ Some (record { parses = record { value = plain_of v; source = s.source; end = s.from } ∷ []; closing = counted 1 })
told_parse name v s h = ap (λ (b : Bool). told (if b then ends (Faulted DeepResult name) else parsed v s)) h

pub told_deep : (name : Span) (v : Value) (s : Stream) → is_too_deep v ≡ true
    → told (cut name (parsed v s)) ≡ Some (record { parses = []; closing = faulted DeepResult name })
told_deep name v s h = ap (λ (b : Bool). told (if b then ends (Faulted DeepResult name) else parsed v s)) h

pub told_failed : (name : Span) (w : Why) (source : Source) (a : ℕ) (span : Span)
    → told (cut name (missed w source a span)) ≡ Some (record { parses = []; closing = failed (record { why = w; source = source; at = a; span = span }) })
told_failed name w in_input a span = refl
told_failed name w in_array a span = refl

-- a stop by a failure
pub gives_failed : (input : List ℕ) (o : Outcome) (stop : Stop) (f : Failure) → stop ≡ Failed f → Gives input o (Err stop)
    → o ≡ missed f.why (source_of f.in_input) f.at f.span
gives_failed input o stop f e g = (subst (λ s. Gives input o (Err s)) e g).0

pub gives_unsaid : (input : List ℕ) (o : Outcome) (stop : Stop) (f : Failure) → stop ≡ Failed f → Gives input o (Err stop) → is_said f.why ≡ false
gives_unsaid input o stop f e g = (subst (λ s. Gives input o (Err s)) e g).1

pub ruleset telling = (told_parse, told_deep, told_failed)

-- ---- an entry

-- ticks have no part in what is told
choice_unticked : (b : Bool) (o p : Outcome) → unticked (if b then o else p) ≡ (if b then unticked o else unticked p)
choice_unticked true o p = refl
choice_unticked false o p = refl

cut_unticked : (too_deep : Value → Bool) (name : Span) (o : Outcome) → unticked (cut_by too_deep name o) ≡ cut_by too_deep name (unticked o)
cut_unticked too_deep name (ends e) = refl
cut_unticked too_deep name (tick o) = cut_unticked too_deep name o
cut_unticked too_deep name (miss w i a f o) = ap (miss w i a f) (cut_unticked too_deep name o)
cut_unticked too_deep name (parse v s o) =
    choice_unticked (too_deep v) (ends (Faulted DeepResult name)) (parse v s (cut_by too_deep name o))
    ∙ ap (λ q. if too_deep v then ends (Faulted DeepResult name) else parse v s q) (cut_unticked too_deep name o)

told_unticked : (name : Span) (o : Outcome) → told (cut name o) ≡ told (cut name (unticked o))
told_unticked name o = ap told_of (sym (answer_unticked (cut name o)) ∙ ap answer_of (cut_unticked is_too_deep name o))

-- what tells something is not Deep
told_is_whole : (o : Outcome) (a : Told) → told o ≡ Some a → IsWhole o
told_is_whole o a h = λ deep. told_deep_is_none (ap (λ e. told_of (answer_at e (parses o) (best_failure o))) (sym deep) ∙ h)
  where
    told_deep_is_none : None ≡ Some a → ⊥
    told_deep_is_none e = cc

-- at every depth from 1 on
told_denoted : (name : Span) (e : Expr) (input : List ℕ) (a : Told) (n : ℕ) → IsSimple e 0 → told (cut name (meant input e empty 0)) ≡ Some a
    → told (Denoted (suc n) (alone name e) 0 input) ≡ Some a
unfolding meant
told_denoted name e input a n simple h =
    told_unticked name (tick (den (alone name e) (level (alone name e) n) e empty (whole_input input)))
    ∙ ap (λ o. told (cut name (unticked o))) (same_den (alone name e) (level (alone name e) n) e 0 empty (whole_input input) simple)
    ∙ h

pub simple_answer : (name : Span) (e : Expr) (input : List ℕ) (a : Told) → IsSimple e 0 → told (cut name (meant input e empty 0)) ≡ Some a
    → IsAnswer (alone name e) 0 input a
simple_answer name e input a simple h = record {
  enough = (1, told_is_whole (Denoted 1 (alone name e) 0 input) a (told_denoted name e input a 0 simple h));
  always = each_depth;
}
  where
    each_depth : (n : ℕ) → IsWhole (Denoted n (alone name e) 0 input) → told (Denoted n (alone name e) 0 input) ≡ Some a
    each_depth zero whole = absurd (whole refl)
    each_depth (suc n) whole = told_denoted name e input a n simple h
