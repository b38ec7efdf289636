-- The order of keys is one: it turns round, and keys that are equal in it are the same. So the keys of a map go on to rise.
use Rattle.std.proofs.Common.{◌≡◌, ℕ, ◌==◌, Bool, true, false, if◌then◌else◌, ℤ, Option, Some, None, refl, ◌∙◌, ap, arith}
use Rattle.std.specs.declared.cmp.Ordering.{Ordering}
use Rattle.std.specs.declared.cmp.Ordering.TheVariants.{Less, Equal, Greater}
use Rattle.std.specs.Ordering.{partial_ordering_then, ordering_reverse, int_cmp}
use Rattle.std.specs.FinMap.{int_cmp-IsAntisymmetric}
use Rattle.std.specs.Cmp.{bool_cmp_total}
use Rattle.std.proofs.lemmas.Cmp.{int_cmp_total}
use Rattle.ddl_types.specs.declared.num.NumType.{NumType}
use Rattle.ddl_types.specs.declared.num.NumType.TheVariants as num
use Rattle.ddl_types.specs.Value.{Value, Values, Pairs, number, boolean, array, no_values, value, no_pairs, pair}
use Rattle.ddl_ops.specs.Numbers.{same_type}
use Rattle.ddl_ops.specs.Comparisons.{number_order, bytes_order, key_order}
use Rattle.ddl_typed.specs.Loops.{with_pair}
use Rattle.ddl_sound.specs.HasType.{IsBefore, KeysRise}
use Rattle.ddl_sound.proofs.Reading.{none_some, some_is, false_true}

equal_is : (x y : ℕ) → (x == y) ≡ true → x ≡ y
equal_is x y e = grind arith

equal_turned : (x y : ℕ) → (x == y) ≡ (y == x)
equal_turned x y = grind arith

-- ---- the other way round

abbrev turned : Option Ordering → Option Ordering
turned None = None
turned (Some o) = Some (ordering_reverse o)

type_turned : (s t : NumType) → same_type s t ≡ same_type t s
type_turned num.Int num.Int = refl
type_turned num.Int (num.Uint n) = refl
type_turned num.Int (num.Sint n) = refl
type_turned (num.Uint m) num.Int = refl
type_turned (num.Uint m) (num.Uint n) = equal_turned m n
type_turned (num.Uint m) (num.Sint n) = refl
type_turned (num.Sint m) num.Int = refl
type_turned (num.Sint m) (num.Uint n) = refl
type_turned (num.Sint m) (num.Sint n) = equal_turned m n

test_turned : (b : Bool) (x y : ℤ) → (if b then Some (int_cmp x y) else None) ≡ turned (if b then Some (int_cmp y x) else None)
test_turned true x y = ap Some (int_cmp_total.antisymm x y)
test_turned false x y = refl

number_turned : (v w : Value) → number_order v w ≡ turned (number_order w v)
number_turned (number s x) (number t y) =
    ap (λ b. if b then Some (int_cmp x y) else None) (type_turned s t) ∙ test_turned (same_type t s) x y
number_turned v (number t y) = refl
number_turned v w = refl

then_turned : (c b d : Option Ordering) → b ≡ turned d → partial_ordering_then (turned c) b ≡ turned (partial_ordering_then c d)
then_turned None b d e = refl
then_turned (Some Less) b d e = refl
then_turned (Some Equal) b d e = e
then_turned (Some Greater) b d e = refl

bytes_turned : (vs ws : Values) → bytes_order vs ws ≡ turned (bytes_order ws vs)
bytes_turned no_values no_values = refl
bytes_turned no_values (value w ws) = refl
bytes_turned (value v vs) no_values = refl
bytes_turned (value v vs) (value w ws) =
    ap (λ o. partial_ordering_then o (bytes_order vs ws)) (number_turned v w) ∙
    then_turned (number_order w v) (bytes_order vs ws) (bytes_order ws vs) (bytes_turned vs ws)

key_turned : (k l : Value) → key_order k l ≡ turned (key_order l k)
key_turned (number s x) (number t y) = number_turned (number s x) (number t y)
key_turned (boolean a) (boolean b) = ap Some (bool_cmp_total.antisymm a b)
key_turned (array vs) (array ws) = bytes_turned vs ws
key_turned k (number t y) = refl
key_turned k l = refl

pub less_of_greater : (k l : Value) → key_order k l ≡ Some Greater → key_order l k ≡ Some Less
less_of_greater k l e = key_turned l k ∙ ap turned e

-- ---- equal keys

type_is : (s t : NumType) → same_type s t ≡ true → s ≡ t
type_is num.Int num.Int e = refl
type_is (num.Uint m) (num.Uint n) e = ap num.Uint (equal_is m n e)
type_is (num.Sint m) (num.Sint n) e = ap num.Sint (equal_is m n e)
type_is s t e = absurd (false_true e)

test_equal : (b : Bool) (s t : NumType) (x y : ℤ) → same_type s t ≡ b → (if b then Some (int_cmp x y) else None) ≡ Some Equal → number s x ≡ number t y
test_equal true s t x y e h = ap (λ r. number r x) (type_is s t e) ∙ ap (λ z. number t z) (int_cmp-IsAntisymmetric x y (some_is h))
test_equal false s t x y e h = absurd (none_some h)

number_equal : (v w : Value) → number_order v w ≡ Some Equal → v ≡ w
number_equal (number s x) (number t y) e = test_equal (same_type s t) s t x y refl e
number_equal v w e = absurd (none_some e)

record BothEqual (a b : Option Ordering) : Type 0 where
  first : a ≡ Some Equal
  second : b ≡ Some Equal

less_equal : Less ≡ Equal → ⊥
less_equal e = absurd cc

greater_equal : Greater ≡ Equal → ⊥
greater_equal e = absurd cc

then_equal : (a b : Option Ordering) → partial_ordering_then a b ≡ Some Equal → BothEqual a b
then_equal None b e = absurd (none_some e)
then_equal (Some Less) b e = absurd (less_equal (some_is e))
then_equal (Some Equal) b e = record { first = refl; second = e }
then_equal (Some Greater) b e = absurd (greater_equal (some_is e))

bytes_equal : (vs ws : Values) → bytes_order vs ws ≡ Some Equal → vs ≡ ws
bytes_equal no_values no_values e = refl
bytes_equal no_values (value w ws) e = absurd (less_equal (some_is e))
bytes_equal (value v vs) no_values e = absurd (greater_equal (some_is e))
bytes_equal (value v vs) (value w ws) e =
    let two = then_equal (number_order v w) (bytes_order vs ws) e in
    ap (λ u. value u vs) (number_equal v w two.first) ∙ ap (λ us. value w us) (bytes_equal vs ws two.second)

truth_equal : (a b : Bool) → key_order (boolean a) (boolean b) ≡ Some Equal → a ≡ b
truth_equal true true e = refl
truth_equal true false e = absurd (greater_equal (some_is e))
truth_equal false true e = absurd (less_equal (some_is e))
truth_equal false false e = refl

pub key_equal : (k l : Value) → key_order k l ≡ Some Equal → k ≡ l
key_equal (number s x) (number t y) e = number_equal (number s x) (number t y) e
key_equal (boolean a) (boolean b) e = ap boolean (truth_equal a b e)
key_equal (array vs) (array ws) e = ap array (bytes_equal vs ws e)
key_equal k l e = absurd (none_some e)

-- ---- the turns of a `map`

-- the pairs so far, and those that are left
abbrev pub joined : Pairs → Pairs → Pairs
joined no_pairs qs = qs
joined (pair k w ps) qs = pair k w (joined ps qs)

before_next : (o : Value) (done : Pairs) (k u w : Value) (ps : Pairs) → IsBefore o (joined done (pair k w ps)) → IsBefore o (joined (with_pair done k u) ps)
before_next o no_pairs k u w ps h = h
before_next o (pair l x done) k u w ps h = h

rise_next : (done : Pairs) (k u w : Value) (ps : Pairs) → KeysRise (joined done (pair k w ps)) → KeysRise (joined (with_pair done k u) ps)
rise_next no_pairs k u w ps h = h
rise_next (pair l x done) k u w ps (b, r) = (before_next l done k u w ps b, rise_next done k u w ps r)

before_done : (o : Value) (done : Pairs) → IsBefore o (joined done no_pairs) → IsBefore o done
before_done o no_pairs h = h
before_done o (pair l x done) h = h

rise_done : (done : Pairs) → KeysRise (joined done no_pairs) → KeysRise done
rise_done no_pairs h = h
rise_done (pair l x done) (b, r) = (before_done l done b, rise_done done r)

-- over a map the keys rise
abbrev pub Rising : Bool → Pairs → Type 0
Rising true ps = KeysRise ps
Rising false ps = Unit {0}

pub rising_next : (m : Bool) (done : Pairs) (k u w : Value) (ps : Pairs) → Rising m (joined done (pair k w ps)) → Rising m (joined (with_pair done k u) ps)
rising_next true done k u w ps h = rise_next done k u w ps h
rising_next false done k u w ps h = tt

pub rising_done : (m : Bool) (done : Pairs) → Rising m (joined done no_pairs) → Rising m done
rising_done true done h = rise_done done h
rising_done false done h = tt
