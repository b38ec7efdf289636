-- What loops go over: positions in place of what is left.
use Rattle.std.proofs.Common.{◌≡◌, ℕ, suc, ◌+◌, Bool, true, false, if◌then◌else◌, refl, ap, subst, sym, ◌∙◌, arith}
use Rattle.std.specs.Prelude.{nat_lt}
use Rattle.ddl_base.specs.declared.span.Span.{Span}
use Rattle.ddl_types.specs.Value.{Value, Values, Pairs, number, bitdata, boolean, unit, nothing, just, fields, tagged, array, mapping, stream, no_values, value}
use Rattle.ddl_types.specs.Value.{no_pairs, pair}
use Rattle.ddl_ops.specs.Valued.{Valued, gives, stuck, given, then_value}
use Rattle.ddl_ops.specs.Arrays.{snoc, size, element}
use Rattle.ddl_typed.specs.Loops.{elements_of, is_map, with_pair, values_of_pairs, gathered, positioned}
use Rattle.ddl_core.specs.Core as c
use Rattle.ddl_core.specs.Operations.{applied, position, elements_count, element_there, key_there, gathered_as, count_pairs, pair_at, pair_key_at}
use Rattle.ddl_core.specs.Operations.{with_elements}

-- these are the elements of a value of a length, with their keys, from a position on
abbrev pub Left : Value → ℕ → ℕ → Pairs → Type 0
Left w n i no_pairs = nat_lt i n ≡ false
Left w n i (pair k v ps) = (nat_lt i n ≡ true) × (key_there w i ≡ gives k) × (element_there w i ≡ gives v) × Left w n (suc i) ps

-- ---- keys of maps

abbrev pub pairs_after : Pairs → Pairs → Pairs
pairs_after no_pairs qs = qs
pairs_after (pair k v ps) qs = pair k v (pairs_after ps qs)

abbrev pub SameKeys : Pairs → Pairs → Type 0
SameKeys no_pairs no_pairs = Unit {0}
SameKeys no_pairs (pair k v ps) = ⊥
SameKeys (pair k v ps) no_pairs = ⊥
SameKeys (pair k v ps) (pair other w qs) = (k ≡ other) × SameKeys ps qs

-- what is gathered so far, and what is left: over a map they have its keys
abbrev pub Gathers : Value → Pairs → Pairs → Type 0
Gathers (array vs) done rest = Unit {0}
Gathers (mapping ps) done rest = SameKeys ps (pairs_after done rest)
Gathers v done rest = ⊥

same_keys : (ps : Pairs) → SameKeys ps ps
same_keys no_pairs = tt
same_keys (pair k v ps) = (refl, same_keys ps)

keys_on : (ps done : Pairs) (k v w : Value) (rest : Pairs) → SameKeys ps (pairs_after done (pair k v rest))
    → SameKeys ps (pairs_after (with_pair done k w) rest)
keys_on no_pairs no_pairs k v w rest h = absurd h
keys_on no_pairs (pair l u done) k v w rest h = absurd h
keys_on (pair j t ps) no_pairs k v w rest h = h
keys_on (pair j t ps) (pair l u done) k v w rest (e, h) = (e, keys_on ps done k v w rest h)

pub gathers_on : (all : Value) (done : Pairs) (k v w : Value) (rest : Pairs) → Gathers all done (pair k v rest) → Gathers all (with_pair done k w) rest
gathers_on (array vs) done k v w rest h = tt
gathers_on (mapping ps) done k v w rest h = keys_on ps done k v w rest h
gathers_on (number ty z) done k v w rest h = absurd h
gathers_on (bitdata l n) done k v w rest h = absurd h
gathers_on (boolean b) done k v w rest h = absurd h
gathers_on unit done k v w rest h = absurd h
gathers_on nothing done k v w rest h = absurd h
gathers_on (just u) done k v w rest h = absurd h
gathers_on (fields fs) done k v w rest h = absurd h
gathers_on (tagged name u) done k v w rest h = absurd h
gathers_on (stream s) done k v w rest h = absurd h

pub values_on : (ps : Pairs) (k v : Value) → values_of_pairs (with_pair ps k v) ≡ snoc (values_of_pairs ps) v
values_on no_pairs k v = refl
values_on (pair l u ps) k v = ap (value u) (values_on ps k v)

after_none : (ps : Pairs) → pairs_after ps no_pairs ≡ ps
after_none no_pairs = refl
after_none (pair k v ps) = ap (pair k v) (after_none ps)

elements_keys : (ps done : Pairs) → SameKeys ps done → with_elements ps (values_of_pairs done) ≡ gives done
elements_keys no_pairs no_pairs h = refl
elements_keys no_pairs (pair k v done) h = absurd h
elements_keys (pair k v ps) no_pairs h = absurd h
elements_keys (pair k v ps) (pair other w done) (e, h) = ap (λ o. then_value o (λ qs. gives (pair k w qs))) (elements_keys ps done h)
    ∙ ap (λ z. gives (pair z w done)) e

pub gathered_all : (all : Value) (done : Pairs) → Gathers all done no_pairs → gathered_as all (values_of_pairs done) ≡ gives (gathered (is_map all) done)
gathered_all (array vs) done h = refl
gathered_all (mapping ps) done h = ap (λ o. then_value o (λ qs. gives (mapping qs))) (elements_keys ps done (subst (λ z. SameKeys ps z) (after_none done) h))
gathered_all (number ty z) done h = absurd h
gathered_all (bitdata l n) done h = absurd h
gathered_all (boolean b) done h = absurd h
gathered_all unit done h = absurd h
gathered_all nothing done h = absurd h
gathered_all (just u) done h = absurd h
gathered_all (fields fs) done h = absurd h
gathered_all (tagged name u) done h = absurd h
gathered_all (stream s) done h = absurd h

-- ---- positions

below : (i m n : ℕ) → n ≡ i + suc m → nat_lt i n ≡ true
below i m n e = grind (arith, e)

not_below : (i n : ℕ) → n ≡ i + 0 → nat_lt i n ≡ false
not_below i n e = grind (arith, e)

from_zero : (i : ℕ) → i + 0 ≡ i
from_zero i = omega arith

one_on : (i j : ℕ) → i + suc j ≡ suc i + j
one_on i j = omega arith

zero_on : (j : ℕ) → 0 + j ≡ j
zero_on j = omega arith

array_left : (all vs : Values) (i n : ℕ) → ((j : ℕ) → element all (i + j) ≡ element vs j) → n ≡ i + size vs → Left (array all) n i (positioned vs i)
array_left all no_values i n h e = not_below i n e
array_left all (value v vs) i n h e = (
  below i (size vs) n e,
  refl,
  ap given (ap (element all) (sym (from_zero i)) ∙ h 0),
  array_left all vs (suc i) n (λ j. ap (element all) (sym (one_on i j)) ∙ h (suc j)) (e ∙ one_on i (size vs)),
)

mapping_left : (all ps : Pairs) (i n : ℕ) → ((j : ℕ) → pair_at all (i + j) ≡ pair_at ps j) → ((j : ℕ) → pair_key_at all (i + j) ≡ pair_key_at ps j)
    → n ≡ i + count_pairs ps → Left (mapping all) n i ps
mapping_left all no_pairs i n h g e = not_below i n e
mapping_left all (pair k v ps) i n h g e = (
  below i (count_pairs ps) n e,
  ap given (ap (pair_key_at all) (sym (from_zero i)) ∙ g 0),
  ap given (ap (pair_at all) (sym (from_zero i)) ∙ h 0),
  mapping_left all ps (suc i) n (λ j. ap (pair_at all) (sym (one_on i j)) ∙ h (suc j)) (λ j. ap (pair_key_at all) (sym (one_on i j)) ∙ g (suc j)) (e
      ∙ one_on i (count_pairs ps)),
)

-- a value is gone over by its positions, or it is nothing to go over
pub data Over : Value → Type 0 where
  goes : {w : Value} (n : ℕ) (ps : Pairs) → elements_of w ≡ gives ps → elements_count w ≡ gives n → Left w n 0 ps → Gathers w no_pairs ps → Over w
  no_way : {w : Value} → elements_of w ≡ stuck → elements_count w ≡ stuck → Over w

pub over : (w : Value) → Over w
over (array vs) = goes (size vs) (positioned vs 0) refl refl (array_left vs vs 0 (size vs) (λ j. ap (element vs) (zero_on j)) (sym (zero_on (size vs)))) tt
over (mapping ps) = goes (count_pairs ps) ps refl refl
    (mapping_left ps ps 0 (count_pairs ps) (λ j. ap (pair_at ps) (zero_on j)) (λ j. ap (pair_key_at ps) (zero_on j)) (sym (zero_on (count_pairs ps))))
    (same_keys ps)
over (number ty z) = no_way refl refl
over (bitdata l n) = no_way refl refl
over (boolean b) = no_way refl refl
over unit = no_way refl refl
over nothing = no_way refl refl
over (just u) = no_way refl refl
over (fields fs) = no_way refl refl
over (tagged name u) = no_way refl refl
over (stream s) = no_way refl refl

-- ---- what the operations give

abbrev pub at_key : Value → ℕ → Span → Valued
at_key w i span = applied c.key_at (value w (value (position i) no_values)) span

abbrev pub at_element : Value → ℕ → Span → Valued
at_element w i span = applied c.element_at (value w (value (position i) no_values)) span

abbrev pub next_at : Value → ℕ → Span → Valued
next_at w i span = applied c.next_position (value w (value (position i) no_values)) span

abbrev pub has_at : Value → ℕ → Span → Valued
has_at w i span = applied c.has_position (value w (value (position i) no_values)) span

pub has_given : (w : Value) (n i : ℕ) (b : Bool) (span : Span) → elements_count w ≡ gives n → nat_lt i n ≡ b → has_at w i span ≡ gives (boolean b)
has_given w n i b span e f = ap (λ o. then_value o (λ n. gives (boolean (nat_lt i n)))) e ∙ ap (λ b. gives (boolean b)) f

pub has_stuck : (w : Value) (i : ℕ) (span : Span) → elements_count w ≡ stuck → has_at w i span ≡ stuck
has_stuck w i span e = ap (λ o. then_value o (λ n. gives (boolean (nat_lt i n)))) e

pub next_given : (w : Value) (n i : ℕ) (span : Span) → elements_count w ≡ gives n → nat_lt i n ≡ true → next_at w i span ≡ gives (position (suc i))
next_given w n i span e f = ap (λ o. then_value o (λ n. gives (position (if nat_lt i n then suc i else i)))) e
    ∙ ap (λ b. gives (position (if b then suc i else i))) f
