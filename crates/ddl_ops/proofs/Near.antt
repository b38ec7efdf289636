-- Outcomes that differ in ticks left out and in depth: joining keeps it, and it is keeping with factor 1.
use Rattle.std.proofs.Common.{◌≡◌, ◌≢◌, ℕ, ◌+◌, ◌≤◌, refl, subst, arith, Bool, true, false, if◌then◌else◌}
use Rattle.ddl_base.specs.declared.span.Span.{Span}
use Rattle.ddl_base.specs.declared.why.Why.{Why}
use Rattle.ddl_types.specs.declared.fault.Fault.{Fault}
use Rattle.ddl_types.specs.Value.{Value, Stream, Source}
use Rattle.ddl_types.specs.Outcome.{Outcome, End, Faulted, Deep, Stuck, ends, tick, miss, parse, ending, ticks}
use Rattle.ddl_types.specs.Joining.{Both, Biased, Bind, leave}
use Rattle.ddl_types.specs.Growth as G
use Rattle.ddl_types.specs.Growth.{Grows}
use Rattle.ddl_types.specs.Keeping.{marks, StartsWith, StartsWithin, Follows, Covers}

-- which half of keeping is meant: in the first one the left side may be Deep too early, in the second one the right side
pub data Half : Type 0 where
  one : Half
  two : Half

abbrev pub IsOne : Half → Type 0
IsOne one = Unit {0}
IsOne two = ⊥

abbrev pub IsTwo : Half → Type 0
IsTwo one = ⊥
IsTwo two = Unit {0}

-- the right outcome is the left one with ticks left out, up to where one of them is Deep
pub data Near (h : Half) : Outcome → Outcome → Type 0 where
  deep_left : {o : Outcome} → IsOne h → Near h (ends Deep) o
  deep_right : {o : Outcome} → IsTwo h → Near h o (ends Deep)
  at_end : Near h (ends End) (ends End)
  at_fault : {fault : Fault} {span : Span} → Near h (ends (Faulted fault span)) (ends (Faulted fault span))
  at_stuck : Near h (ends Stuck) (ends Stuck)
  at_tick : {o p : Outcome} → Near h o p → Near h (tick o) (tick p)
  less_tick : {o p : Outcome} → Near h o p → Near h (tick o) p
  at_miss : {why : Why} {source : Source} {at : ℕ} {span : Span} {o p : Outcome} → Near h o p →
      Near h (miss why source at span o) (miss why source at span p)
  at_parse : {v : Value} {s : Stream} {o p : Outcome} → Near h o p → Near h (parse v s o) (parse v s p)

deep_same : (h : Half) → Near h (ends Deep) (ends Deep)
deep_same one = deep_left tt
deep_same two = deep_right tt

pub near_same : {h : Half} (o : Outcome) → Near h o o
near_same (ends End) = at_end
near_same (ends (Faulted fault span)) = at_fault
near_same (ends Deep) = deep_same _
near_same (ends Stuck) = at_stuck
near_same (tick o) = at_tick (near_same o)
near_same (miss w i a f o) = at_miss (near_same o)
near_same (parse v s o) = at_parse (near_same o)

pub both_near : {h : Half} {o o' p p' : Outcome} → Near h o o' → Near h p p' → Near h (Both o p) (Both o' p')
both_near (deep_left d) k = deep_left d
both_near (deep_right d) k = deep_right d
both_near at_end k = k
both_near at_fault k = at_fault
both_near at_stuck k = at_stuck
both_near (at_tick n) k = at_tick (both_near n k)
both_near (less_tick n) k = less_tick (both_near n k)
both_near (at_miss n) k = at_miss (both_near n k)
both_near (at_parse n) k = at_parse (both_near n k)

pub biased_near : {h : Half} {o o' p p' : Outcome} → Near h o o' → Near h p p' → Near h (Biased o p) (Biased o' p')
biased_near (deep_left d) k = deep_left d
biased_near (deep_right d) k = deep_right d
biased_near at_end k = k
biased_near at_fault k = at_fault
biased_near at_stuck k = at_stuck
biased_near (at_tick n) k = at_tick (biased_near n k)
biased_near (less_tick n) k = less_tick (biased_near n k)
biased_near (at_miss n) k = at_miss (biased_near n k)
biased_near (at_parse n) k = at_parse n

pub bind_near : {h : Half} {o o' : Outcome} (k k' : Value → Stream → Outcome) → Near h o o' → ((v : Value) (s : Stream) → Near h (k v s) (k' v s)) →
    Near h (Bind o k) (Bind o' k')
bind_near k k' (deep_left d) e = deep_left d
bind_near k k' (deep_right d) e = deep_right d
bind_near k k' at_end e = at_end
bind_near k k' at_fault e = at_fault
bind_near k k' at_stuck e = at_stuck
bind_near k k' (at_tick n) e = at_tick (bind_near k k' n e)
bind_near k k' (less_tick n) e = less_tick (bind_near k k' n e)
bind_near k k' (at_miss n) e = at_miss (bind_near k k' n e)
bind_near k k' (at_parse {v = v} {s = s} n) e = both_near (e v s) (bind_near k k' n e)

pub leave_near : {h : Half} {o o' : Outcome} → Near h o o' → Near h (leave o) (leave o')
leave_near (deep_left d) = deep_left d
leave_near (deep_right d) = deep_right d
leave_near at_end = at_end
leave_near at_fault = at_fault
leave_near at_stuck = at_stuck
leave_near (at_tick n) = at_tick (leave_near n)
leave_near (less_tick n) = less_tick (leave_near n)
leave_near (at_miss n) = at_miss (leave_near n)
leave_near (at_parse n) = at_tick (at_parse (leave_near n))

-- one call less
pub left_out : {h : Half} {o o' : Outcome} → Near h o o' → Near h (leave o) o'
left_out (deep_left d) = deep_left d
left_out (deep_right d) = deep_right d
left_out at_end = at_end
left_out at_fault = at_fault
left_out at_stuck = at_stuck
left_out (at_tick n) = at_tick (left_out n)
left_out (less_tick n) = less_tick (left_out n)
left_out (at_miss n) = at_miss (left_out n)
left_out (at_parse n) = less_tick (at_parse (left_out n))

pub choice_near : {h : Half} (b : Bool) {o o' p p' : Outcome} → Near h o o' → Near h p p' → Near h (if b then o else p) (if b then o' else p')
choice_near true n k = n
choice_near false n k = k

-- a larger depth of the right side
pub near_grows : {o p q : Outcome} → Near one o p → Grows p q → Near one o q
near_grows (deep_left d) k = deep_left d
near_grows (deep_right d) k = absurd d
near_grows at_end G.at_end = at_end
near_grows at_fault G.at_fault = at_fault
near_grows at_stuck G.at_stuck = at_stuck
near_grows (at_tick n) (G.at_tick k) = at_tick (near_grows n k)
near_grows (less_tick n) k = less_tick (near_grows n k)
near_grows (at_miss n) (G.at_miss k) = at_miss (near_grows n k)
near_grows (at_parse n) (G.at_parse k) = at_parse (near_grows n k)

-- a larger depth of the left side
pub grows_near : {o p q : Outcome} → Near two o q → Grows o p → Near two p q
grows_near (deep_left d) k = absurd d
grows_near (deep_right d) k = deep_right d
grows_near at_end G.at_end = at_end
grows_near at_fault G.at_fault = at_fault
grows_near at_stuck G.at_stuck = at_stuck
grows_near (at_tick n) (G.at_tick k) = at_tick (grows_near n k)
grows_near (less_tick n) (G.at_tick k) = less_tick (grows_near n k)
grows_near (at_miss n) (G.at_miss k) = at_miss (grows_near n k)
grows_near (at_parse n) (G.at_parse k) = at_parse (grows_near n k)

-- ---- keeping with factor 1

within : {o q : Outcome} (n : Near one o q) (x y : ℕ) → y ≤ x → StartsWithin 1 (marks x o) (marks y q)
within (deep_left d) x y e = tt
within (deep_right d) x y e = absurd d
within at_end x y e = tt
within at_fault x y e = tt
within at_stuck x y e = tt
within (at_tick n) x y e = within n (x + 1) (y + 1) (omega arith)
within (less_tick n) x y e = within n (x + 1) y (omega arith)
within (at_miss n) x y e = (refl, omega arith, within n x y e)
within (at_parse n) x y e = (refl, omega arith, within n x y e)

no_more : {o q : Outcome} (n : Near one o q) (x y : ℕ) → ending o ≢ Deep → StartsWith (marks y q) (marks x o)
no_more (deep_left d) x y n = absurd (n refl)
no_more (deep_right d) x y n = absurd d
no_more at_end x y n = tt
no_more at_fault x y n = tt
no_more at_stuck x y n = tt
no_more (at_tick h) x y n = no_more h (x + 1) (y + 1) n
no_more (less_tick h) x y n = no_more h (x + 1) y n
no_more (at_miss h) x y n = (refl, no_more h x y n)
no_more (at_parse h) x y n = (refl, no_more h x y n)

same_end : {o q : Outcome} (n : Near one o q) → ending o ≢ Deep → ending q ≡ ending o
same_end (deep_left d) n = absurd (n refl)
same_end (deep_right d) n = absurd d
same_end at_end n = refl
same_end at_fault n = refl
same_end at_stuck n = refl
same_end (at_tick h) n = same_end h n
same_end (less_tick h) n = same_end h n
same_end (at_miss h) n = same_end h n
same_end (at_parse h) n = same_end h n

cost : {o q : Outcome} (n : Near one o q) → ending o ≢ Deep → ticks q ≤ ticks o
cost (deep_left d) n = absurd (n refl)
cost (deep_right d) n = absurd d
cost at_end n = omega arith
cost at_fault n = omega arith
cost at_stuck n = omega arith
cost (at_tick h) n = omega (arith, cost h n)
cost (less_tick h) n = omega (arith, cost h n)
cost (at_miss h) n = cost h n
cost (at_parse h) n = cost h n

pub near_follows : {o q : Outcome} → Near one o q → Follows 1 o q
near_follows h = record { events = within h 0 0 (omega arith); no_more = no_more h 0 0; end = same_end h; cost = λ n. omega (arith, cost h n) }

starts : {o q : Outcome} (h : Near two o q) (x y : ℕ) → StartsWith (marks y q) (marks x o)
starts (deep_left d) x y = absurd d
starts (deep_right d) x y = tt
starts at_end x y = tt
starts at_fault x y = tt
starts at_stuck x y = tt
starts (at_tick h) x y = starts h (x + 1) (y + 1)
starts (less_tick h) x y = starts h (x + 1) y
starts (at_miss h) x y = (refl, starts h x y)
starts (at_parse h) x y = (refl, starts h x y)

no_others : {o q : Outcome} (h : Near two o q) (x y : ℕ) → ending q ≢ Deep → StartsWith (marks x o) (marks y q)
no_others (deep_left d) x y n = absurd d
no_others (deep_right d) x y n = absurd (n refl)
no_others at_end x y n = tt
no_others at_fault x y n = tt
no_others at_stuck x y n = tt
no_others (at_tick h) x y n = no_others h (x + 1) (y + 1) n
no_others (less_tick h) x y n = no_others h (x + 1) y n
no_others (at_miss h) x y n = (refl, no_others h x y n)
no_others (at_parse h) x y n = (refl, no_others h x y n)

ends_so : {o q : Outcome} (h : Near two o q) → ending q ≢ Deep → ending o ≡ ending q
ends_so (deep_left d) n = absurd d
ends_so (deep_right d) n = absurd (n refl)
ends_so at_end n = refl
ends_so at_fault n = refl
ends_so at_stuck n = refl
ends_so (at_tick h) n = ends_so h n
ends_so (less_tick h) n = ends_so h n
ends_so (at_miss h) n = ends_so h n
ends_so (at_parse h) n = ends_so h n

pub near_covers : {o q : Outcome} → Near two o q → Covers o q
near_covers h = record { events = starts h 0 0; no_more = no_others h 0 0; end = ends_so h }
