-- Each join of typed outcomes is typed.
use Rattle.std.proofs.Common.{◌≡◌, List, Bool, true, false, if◌then◌else◌, Option, Some, None, refl, sym, subst}
use Rattle.ddl_types.specs.Layout.{Layout}
use Rattle.ddl_types.specs.Types.{Ty}
use Rattle.ddl_types.specs.Value.{Value, Values, Stream}
use Rattle.ddl_types.specs.Outcome.{Outcome, End, Faulted, Deep, Stuck, ends, tick, miss, parse, ending}
use Rattle.ddl_types.specs.Joining.{Both, Biased, Bind, leave}
use Rattle.ddl_ops.specs.Valued.{Given, gives, fails, deep, stuck, counts, then_value, then_parse, given}
use Rattle.ddl_ops.specs.Arrays.{counted}
use Rattle.ddl_types.specs.Value as v
use Rattle.ddl_typed.specs.Specification.{Place}
use Rattle.ddl_sound.specs.HasType.{HasType, IsStream}
use Rattle.ddl_sound.specs.Sound.{Gives, There, Parses}

-- ---- what value forms give

pub then_gives : {A B : Type 0} (P : A → Type 0) (Q : B → Type 0) (o : Given A) (k : A → Given B) → Gives P o → ((w : A) → P w → Gives Q (k w)) →
    Gives Q (then_value o k)
then_gives P Q (gives w) k h e = e w h
then_gives P Q (fails fault span) k h e = tt
then_gives P Q deep k h e = tt
then_gives P Q stuck k h e = h
then_gives P Q (counts o) k h e = then_gives P Q o k h e

pub gives_given : {A : Type 0} (P : A → Type 0) (o : Option A) → There P o → Gives P (given o)
gives_given P (Some w) h = h
gives_given P None h = h

pub gives_counted : {A : Type 0} (P : A → Type 0) (vs : Values) (o : Given A) → Gives P o → Gives P (counted vs o)
gives_counted P v.no_values o h = h
gives_counted P (v.value w vs) o h = gives_counted P vs o h

module _ (places : List Place) (layouts : List Layout) where
  abbrev Fine : Ty → Outcome → Type 0
  Fine ty o = Parses places layouts ty o

  abbrev Has : Value → Ty → Type 0
  Has w ty = HasType places layouts w ty

  pub then_fine : {A : Type 0} (P : A → Type 0) (ty : Ty) (o : Given A) (k : A → Outcome) → Gives P o → ((w : A) → P w → Fine ty (k w)) →
      Fine ty (then_parse o k)
  then_fine P ty (gives w) k h e = e w h
  then_fine P ty (fails fault span) k h e = tt
  then_fine P ty deep k h e = tt
  then_fine P ty stuck k h e = h
  then_fine P ty (counts o) k h e = then_fine P ty o k h e

  pub both_fine : (ty : Ty) (o p : Outcome) → Fine ty o → Fine ty p → Fine ty (Both o p)
  both_fine ty (ends End) p h k = k
  both_fine ty (ends (Faulted fault span)) p h k = tt
  both_fine ty (ends Deep) p h k = tt
  both_fine ty (ends Stuck) p h k = h
  both_fine ty (tick o) p h k = both_fine ty o p h k
  both_fine ty (miss why source at span o) p h k = both_fine ty o p h k
  both_fine ty (parse w s o) p (a, b, h) k = (a, b, both_fine ty o p h k)

  pub biased_fine : (ty : Ty) (o p : Outcome) → Fine ty o → Fine ty p → Fine ty (Biased o p)
  biased_fine ty (ends End) p h k = k
  biased_fine ty (ends (Faulted fault span)) p h k = tt
  biased_fine ty (ends Deep) p h k = tt
  biased_fine ty (ends Stuck) p h k = h
  biased_fine ty (tick o) p h k = biased_fine ty o p h k
  biased_fine ty (miss why source at span o) p h k = biased_fine ty o p h k
  biased_fine ty (parse w s o) p h k = h

  pub bind_fine : (u ty : Ty) (o : Outcome) (k : Value → Stream → Outcome) → Fine u o →
      ((w : Value) (s : Stream) → Has w u → IsStream s → Fine ty (k w s)) → Fine ty (Bind o k)
  bind_fine u ty (ends End) k h e = tt
  bind_fine u ty (ends (Faulted fault span)) k h e = tt
  bind_fine u ty (ends Deep) k h e = tt
  bind_fine u ty (ends Stuck) k h e = h
  bind_fine u ty (tick o) k h e = bind_fine u ty o k h e
  bind_fine u ty (miss why source at span o) k h e = bind_fine u ty o k h e
  bind_fine u ty (parse w s o) k (a, b, h) e = both_fine ty (k w s) (Bind o k) (e w s a b) (bind_fine u ty o k h e)

  pub leave_fine : (ty : Ty) (o : Outcome) → Fine ty o → Fine ty (leave o)
  leave_fine ty (ends End) h = tt
  leave_fine ty (ends (Faulted fault span)) h = tt
  leave_fine ty (ends Deep) h = tt
  leave_fine ty (ends Stuck) h = h
  leave_fine ty (tick o) h = leave_fine ty o h
  leave_fine ty (miss why source at span o) h = leave_fine ty o h
  leave_fine ty (parse w s o) (a, b, h) = (a, b, leave_fine ty o h)

  pub choice_fine : (ty : Ty) (b : Bool) (o p : Outcome) → (b ≡ true → Fine ty o) → (b ≡ false → Fine ty p) → Fine ty (if b then o else p)
  choice_fine ty true o p h k = h refl
  choice_fine ty false o p h k = k refl

  pub fine_ending : (ty : Ty) (o : Outcome) → Fine ty o → ending o ≡ Stuck → ⊥
  fine_ending ty (ends End) h e = absurd cc
  fine_ending ty (ends (Faulted fault span)) h e = absurd cc
  fine_ending ty (ends Deep) h e = absurd cc
  fine_ending ty (ends Stuck) h e = h
  fine_ending ty (tick o) h e = fine_ending ty o h e
  fine_ending ty (miss why source at span o) h e = fine_ending ty o h e
  fine_ending ty (parse w s o) (a, b, h) e = fine_ending ty o h e

  -- a type that is equal
  pub fine_as : (u ty : Ty) (o : Outcome) → u ≡ ty → Fine u o → Fine ty o
  fine_as u ty o e h = subst (λ t. Fine t o) e h

  pub gives_as : (u ty : Ty) (o : Given Value) → u ≡ ty → Gives (λ w. Has w u) o → Gives (λ w. Has w ty) o
  gives_as u ty o e h = subst (λ t. Gives (λ w. Has w t) o) e h

  pub has_as : (u ty : Ty) (w : Value) → u ≡ ty → Has w u → Has w ty
  has_as u ty w e h = subst (λ t. Has w t) e h

  pub has_back : (ty u : Ty) (w : Value) → ty ≡ u → Has w u → Has w ty
  has_back ty u w e h = subst (λ t. Has w t) (sym e) h
