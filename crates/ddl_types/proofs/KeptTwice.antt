-- What is kept twice is kept with the product of the factors.
use Rattle.std.proofs.Common.{◌≡◌, ◌≢◌, ℕ, ◌*◌, ◌≤◌, List, [], ◌∷◌, sym, ◌∙◌, arith}
use Rattle.std.proofs.Math.Nat.{mul-le-mul_left}
use Rattle.ddl_types.specs.Outcome.{Deep, ending}
use Rattle.ddl_types.specs.Keeping.{Mark, StartsWith, StartsWithin, KeepsTwice}

starts_on : (as_ bs cs : List Mark) → StartsWith as_ bs → StartsWith bs cs → StartsWith as_ cs
starts_on [] bs cs p q = tt
starts_on (a ∷ as_) [] cs p q = absurd p
starts_on (a ∷ as_) (b ∷ bs) [] p q = absurd q
starts_on (a ∷ as_) (b ∷ bs) (c ∷ cs) p q = (p.0 ∙ q.0, starts_on as_ bs cs p.1 q.1)

twice_at_most : (c e x y z : ℕ) → y ≤ c * x → z ≤ e * y → z ≤ c * e * x
twice_at_most c e x y z p q =
    let r : e * y ≤ e * (c * x) = mul-le-mul_left e p in
    let s : e * (c * x) ≡ c * e * x = omega arith in
    omega (arith, q, r, s)

within_on : (c e : ℕ) (as_ bs ds : List Mark) → StartsWithin c as_ bs → StartsWithin e bs ds → StartsWithin (c * e) as_ ds
within_on c e [] bs ds p q = tt
within_on c e (a ∷ as_) [] ds p q = absurd p
within_on c e (a ∷ as_) (b ∷ bs) [] p q = absurd q
within_on c e (a ∷ as_) (b ∷ bs) (d ∷ ds) p q = (p.0 ∙ q.0, twice_at_most c e a.ticks b.ticks d.ticks p.1 q.1, within_on c e as_ bs ds p.2 q.2)

pub keeps_twice : KeepsTwice
keeps_twice c e a b d p q = record {
  first = λ n.
      let x = p.first n in
      let y = q.first x.0 in
      let deep : ending (a n) ≢ Deep → ending (b x.0) ≢ Deep = λ h g. h (sym (x.1.end h) ∙ g) in (
        y.0,
        record {
          events = within_on c e _ _ _ x.1.events y.1.events;
          no_more = λ h. starts_on _ _ _ (y.1.no_more (deep h)) (x.1.no_more h);
          end = λ h. y.1.end (deep h) ∙ x.1.end h;
          cost = λ h. twice_at_most c e _ _ _ (x.1.cost h) (y.1.cost (deep h));
        },
      );
  second = λ m.
      let y = q.second m in
      let x = p.second y.0 in (
        x.0,
        record {
          events = starts_on _ _ _ y.1.events x.1.events;
          no_more = λ h. starts_on _ _ _ (x.1.no_more (λ g. h (sym (y.1.end h) ∙ g))) (y.1.no_more h);
          end = λ h. x.1.end (λ g. h (sym (y.1.end h) ∙ g)) ∙ y.1.end h;
        },
      );
}
