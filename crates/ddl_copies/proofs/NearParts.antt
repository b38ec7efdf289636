-- Ticks left out: choices by a value, and joined alternatives.
use Rattle.std.proofs.Common.{◌≡◌, ℕ, List, true, false}
use Rattle.ddl_base.specs.declared.span.Span.{Span}
use Rattle.ddl_types.specs.Value.{Value, Stream, boolean}
use Rattle.ddl_types.specs.Outcome.{Outcome}
use Rattle.ddl_ops.specs.declared.operators.Infix.{Infix}
use Rattle.ddl_ops.specs.declared.operators.Infix.TheVariants.{Arithmetic, Compare, Beside, Append, And, Or}
use Rattle.ddl_typed.specs.declared.parts.Choice.{Choice}
use Rattle.ddl_typed.specs.declared.parts.Choice.TheVariants.{Biased, Unbiased}
use Rattle.ddl_ops.specs.Valued.{Valued}
use Rattle.ddl_ops.specs.Operators.{infix_value}
use Rattle.ddl_typed.specs.Choices.{branch_value, branch, under_tag, chosen, or_nothing}
use Rattle.ddl_ops.specs.Patterns.{Matched, has_it, has_another, has_none, value_at, outcome_at}
use Rattle.ddl_ops.proofs.Near.{Half, Near, at_stuck, near_same, both_near, biased_near, bind_near}
use Rattle.ddl_ops.proofs.Meeting.{Meets, is_stuck, meets_same, then_same}

abbrev Alike : Half → Valued → Valued → Type 0
Alike h o p = Meets h (λ a b. a ≡ b) o p

pub infix_meets : {h : Half} (op : Infix) (span : Span) (v : Value) {o o' : Valued} → Alike h o o'
    → Alike h (infix_value op span v o) (infix_value op span v o')
infix_meets (Arithmetic op) span v m = then_same _ _ m (λ w. meets_same _)
infix_meets (Compare c) span v m = then_same _ _ m (λ w. meets_same _)
infix_meets Beside span v m = then_same _ _ m (λ w. meets_same _)
infix_meets Append span v m = then_same _ _ m (λ w. meets_same _)
infix_meets And span (boolean true) m = then_same _ _ m (λ w. meets_same _)
infix_meets And span (boolean false) m = meets_same _
infix_meets Or span (boolean true) m = meets_same _
infix_meets Or span (boolean false) m = then_same _ _ m (λ w. meets_same _)
infix_meets op span v m = is_stuck

pub branch_meets : {h : Half} (v : Value) {a a' b b' : Valued} → Alike h a a' → Alike h b b' → Alike h (branch_value v a b) (branch_value v a' b')
branch_meets (boolean true) m k = m
branch_meets (boolean false) m k = k
branch_meets v m k = is_stuck

pub branch_near : {h : Half} (v : Value) {a a' b b' : Outcome} → Near h a a' → Near h b b' → Near h (branch v a b) (branch v a' b')
branch_near (boolean true) m k = m
branch_near (boolean false) m k = k
branch_near v m k = at_stuck

pub value_at_meets : {h : Half} (m : Matched) (k k' : Value → Valued) {b b' : Valued} → ((v : Value) → Alike h (k v) (k' v)) → Alike h b b'
    → Alike h (value_at m k b) (value_at m k' b')
value_at_meets (has_it content) k k' e n = e content
value_at_meets has_another k k' e n = n
value_at_meets has_none k k' e n = is_stuck

pub outcome_at_near : {h : Half} (m : Matched) (k k' : Value → Outcome) {b b' : Outcome} → ((v : Value) → Near h (k v) (k' v)) → Near h b b'
    → Near h (outcome_at m k b) (outcome_at m k' b')
outcome_at_near (has_it content) k k' e n = e content
outcome_at_near has_another k k' e n = n
outcome_at_near has_none k k' e n = at_stuck

pub under_tag_near : {h : Half} (name : List ℕ) {o o' : Outcome} → Near h o o' → Near h (under_tag name o) (under_tag name o')
under_tag_near name n = bind_near _ _ n (λ v s. near_same _)

pub chosen_near : {h : Half} (c : Choice) {o o' p p' : Outcome} → Near h o o' → Near h p p' → Near h (chosen c o p) (chosen c o' p')
chosen_near Biased n k = biased_near n k
chosen_near Unbiased n k = both_near n k

pub or_nothing_near : {h : Half} (c : Choice) {o o' : Outcome} (s : Stream) → Near h o o' → Near h (or_nothing c o s) (or_nothing c o' s)
or_nothing_near c s n = chosen_near c (bind_near _ _ n (λ v t. near_same _)) (near_same _)
