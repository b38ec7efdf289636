-- Value forms that differ in ticks left out and in depth, with related results.
use Rattle.std.proofs.Common.{◌≡◌, refl, subst}
use Rattle.ddl_base.specs.declared.span.Span.{Span}
use Rattle.ddl_types.specs.declared.fault.Fault.{Fault}
use Rattle.ddl_types.specs.Outcome.{Outcome}
use Rattle.ddl_ops.specs.Valued.{Given, gives, fails, deep, stuck, counts, then_value, then_parse}
use Rattle.ddl_ops.proofs.Rising as V
use Rattle.ddl_ops.proofs.Rising.{Rises}
use Rattle.ddl_ops.proofs.Near.{Half, one, two, IsOne, IsTwo, Near, deep_left, deep_right, at_fault, at_stuck, at_tick}

-- the same of value forms, whose results have R
pub data Meets (h : Half) {A B : Type 0} (R : A → B → Type 0) : Given A → Given B → Type 0 where
  is_left : {o : Given B} → IsOne h → Meets h R deep o
  is_right : {o : Given A} → IsTwo h → Meets h R o deep
  is_given : {a : A} {b : B} → R a b → Meets h R (gives a) (gives b)
  is_fault : {fault : Fault} {span : Span} → Meets h R (fails fault span) (fails fault span)
  is_stuck : Meets h R stuck stuck
  is_counted : {o : Given A} {p : Given B} → Meets h R o p → Meets h R (counts o) (counts p)

-- equal results
abbrev pub Same : {A : Type 0} → A → A → Type 0
Same a b = a ≡ b

deep_meets : (h : Half) {A B : Type 0} {R : A → B → Type 0} → Meets h R deep deep
deep_meets one = is_left tt
deep_meets two = is_right tt

pub meets_same : {h : Half} {A : Type 0} (o : Given A) → Meets h (λ a b. a ≡ b) o o
meets_same (gives v) = is_given refl
meets_same (fails fault span) = is_fault
meets_same deep = deep_meets _
meets_same stuck = is_stuck
meets_same (counts o) = is_counted (meets_same o)

pub then_value_meets : {h : Half} {A A' B B' : Type 0} {R : A → A' → Type 0} {T : B → B' → Type 0} {o : Given A} {o' : Given A'}
    (k : A → Given B) (k' : A' → Given B') → Meets h R o o' → ((a : A) (a' : A') → R a a' → Meets h T (k a) (k' a'))
    → Meets h T (then_value o k) (then_value o' k')
then_value_meets k k' (is_left d) e = is_left d
then_value_meets k k' (is_right d) e = is_right d
then_value_meets k k' (is_given {a = a} {b = b} r) e = e a b r
then_value_meets k k' is_fault e = is_fault
then_value_meets k k' is_stuck e = is_stuck
then_value_meets k k' (is_counted m) e = is_counted (then_value_meets k k' m e)

pub then_parse_near : {h : Half} {A A' : Type 0} {R : A → A' → Type 0} {o : Given A} {o' : Given A'} (k : A → Outcome) (k' : A' → Outcome) →
    Meets h R o o' → ((a : A) (a' : A') → R a a' → Near h (k a) (k' a')) → Near h (then_parse o k) (then_parse o' k')
then_parse_near k k' (is_left d) e = deep_left d
then_parse_near k k' (is_right d) e = deep_right d
then_parse_near k k' (is_given {a = a} {b = b} r) e = e a b r
then_parse_near k k' is_fault e = at_fault
then_parse_near k k' is_stuck e = at_stuck
then_parse_near k k' (is_counted m) e = at_tick (then_parse_near k k' m e)

-- with equal results
pub then_same : {h : Half} {A B B' : Type 0} {T : B → B' → Type 0} {o o' : Given A} (k : A → Given B) (k' : A → Given B') →
    Meets h (λ a b. a ≡ b) o o' → ((a : A) → Meets h T (k a) (k' a)) → Meets h T (then_value o k) (then_value o' k')
then_same {h = h} {T = T} k k' m e = then_value_meets k k' m (λ a b r. subst (λ z. Meets h T (k a) (k' z)) r (e a))

pub parse_same : {h : Half} {A : Type 0} {o o' : Given A} (k k' : A → Outcome) →
    Meets h (λ a b. a ≡ b) o o' → ((a : A) → Near h (k a) (k' a)) → Near h (then_parse o k) (then_parse o' k')
parse_same {h = h} k k' m e = then_parse_near k k' m (λ a b r. subst (λ z. Near h (k a) (k' z)) r (e a))

pub meets_rises : {A B : Type 0} {R : A → B → Type 0} {o : Given A} {p q : Given B} → Meets one R o p → Rises p q → Meets one R o q
meets_rises (is_left d) k = is_left d
meets_rises (is_right d) k = absurd d
meets_rises (is_given r) V.is_value = is_given r
meets_rises is_fault V.is_fault = is_fault
meets_rises is_stuck V.is_stuck = is_stuck
meets_rises (is_counted m) (V.is_counted k) = is_counted (meets_rises m k)

pub rises_meets : {A B : Type 0} {R : A → B → Type 0} {o p : Given A} {q : Given B} → Meets two R o q → Rises o p → Meets two R p q
rises_meets (is_left d) k = absurd d
rises_meets (is_right d) k = is_right d
rises_meets (is_given r) V.is_value = is_given r
rises_meets is_fault V.is_fault = is_fault
rises_meets is_stuck V.is_stuck = is_stuck
rises_meets (is_counted m) (V.is_counted k) = is_counted (rises_meets m k)
