-- Arrays, maps and streams of typed values are typed.
use Rattle.std.proofs.Common.{◌≡◌, ℕ, zero, suc, ◌-◌, ◌<◌, List, [], ◌∷◌, take, drop, Bool, true, false, Option, Some, None, refl, sym, subst, ◌∙◌, ap, arith}
use Rattle.std.specs.Prelude.{slice_range, slice_index, nat_le}
use Rattle.std.proofs.lemmas.Bool.{ltb-true, leb-true}
use Rattle.std.specs.declared.cmp.Ordering.{Ordering}
use Rattle.std.specs.declared.cmp.Ordering.TheVariants.{Less, Equal, Greater}
use Rattle.std.specs.Ordering.{partial_ordering_then}
use Rattle.ddl_types.specs.declared.num.NumType.{NumType}
use Rattle.ddl_types.specs.declared.num.NumType.TheVariants as num
use Rattle.ddl_types.specs.Layout.{Layout}
use Rattle.ddl_types.specs.Types.{Ty, Tys, con, int, uint, sint, bool, maybe_of, array_of, map_of}
use Rattle.ddl_types.specs.Types as t
use Rattle.ddl_types.specs.Value.{Value, Values, Pairs, Stream, number, boolean, array, mapping, no_values, value, no_pairs, pair}
use Rattle.ddl_ops.specs.Valued.{Given, gives, then_value}
use Rattle.ddl_ops.specs.Arrays.{snoc, followed, element, elements_joined, bytes_of}
use Rattle.ddl_ops.specs.Comparisons.{key_order, number_order, bytes_order}
use Rattle.ddl_ops.specs.Maps.{by_order, found, inserted, maybe_value}
use Rattle.ddl_ops.specs.Numbers.{number_type, count_of}
use Rattle.ddl_typed.specs.Loops.{positioned, elements_of, with_pair, values_of_pairs, gathered, is_map}
use Rattle.ddl_ops.specs.Primitives.{byte_value, byte_values, has_byte, onward}
use Rattle.ddl_ops.specs.Streams.{remaining, front, behind, stream_of}
use Rattle.ddl_typed.specs.Specification.{Place}
use Rattle.ddl_sound.specs.HasType.{HasType, AllHave, IsBefore, KeysRise, PairsHave, Bytes, IsStream}
use Rattle.ddl_sound.specs.BasicTypes.{IsKey, IsUnsigned, Loops, Gathers, byte_type, count_type, array_type, map_type}
use Rattle.ddl_sound.specs.Sound.{Gives, There}
use Rattle.ddl_sound.proofs.Joins.{then_gives}
use Rattle.ddl_sound.proofs.Reading.{on_number, on_bool, on_array, on_map, on_unsigned, none_some, some_is}
use Rattle.ddl_sound.proofs.Keys.{less_of_greater, key_equal, Rising}
use Rattle.ddl_sound.proofs.Arithmetic.{same_number, uint_in, uint_below, count_is}

-- ---- bytes

pub byte_at : (bs : List ℕ) (i : ℕ) → Bytes bs → slice_index bs i < 256
byte_at [] zero h = omega arith
byte_at [] (suc i) h = omega arith
byte_at (b ∷ bs) zero (h, k) = h
byte_at (b ∷ bs) (suc i) (h, k) = byte_at bs i k

bytes_drop : (n : ℕ) (bs : List ℕ) → Bytes bs → Bytes (drop n bs)
bytes_drop zero bs h = h
bytes_drop (suc n) [] h = h
bytes_drop (suc n) (b ∷ bs) (h, k) = bytes_drop n bs k

bytes_take : (n : ℕ) (bs : List ℕ) → Bytes bs → Bytes (take n bs)
bytes_take zero bs h = tt
bytes_take (suc n) [] h = tt
bytes_take (suc n) (b ∷ bs) (h, k) = (h, bytes_take n bs k)

pub bytes_part : (bs : List ℕ) (from to : ℕ) → Bytes bs → Bytes (slice_range bs from to)
bytes_part bs from to h = bytes_take (to - from) (drop from bs) (bytes_drop from bs h)

pub onward_is : (s : Stream) → has_byte s ≡ true → IsStream s → IsStream (onward s)
onward_is s e (h, k, l) = let below = ltb-true s.from s.to e in (h, omega arith, l)

pub front_is : (n : ℕ) (s : Stream) → nat_le n (remaining s) ≡ true → IsStream s → IsStream (front n s)
front_is n s e (h, k, l) = let le = leb-true n (s.to - s.from) e in (h, omega arith, omega arith)

pub behind_is : (n : ℕ) (s : Stream) → nat_le n (remaining s) ≡ true → IsStream s → IsStream (behind n s)
behind_is n s e (h, k, l) = let le = leb-true n (s.to - s.from) e in (h, omega arith, l)

pub stream_is : (bs : List ℕ) → Bytes bs → IsStream (stream_of bs)
stream_is bs h = (h, omega arith, omega arith)

module _ (places : List Place) (layouts : List Layout) where
  abbrev Has : Value → Ty → Type 0
  Has w ty = HasType places layouts w ty

  abbrev All : Values → Ty → Type 0
  All vs ty = AllHave places layouts vs ty

  abbrev Pairs_ : Pairs → Ty → Ty → Type 0
  Pairs_ ps key ty = PairsHave places layouts ps key ty

  pub byte_is : (b : ℕ) (ty : Ty) → number_type ty ≡ Some (num.Uint 8) → b < 256 → Has (byte_value b) ty
  byte_is b ty e h = (e, uint_in 8 b h)

  pub bytes_are : (bs : List ℕ) → Bytes bs → All (byte_values bs) byte_type
  bytes_are [] h = tt
  bytes_are (b ∷ bs) (h, k) = (byte_is b byte_type refl h, bytes_are bs k)

  -- ---- arrays

  pub snoc_all : (vs : Values) (w : Value) (ty : Ty) → All vs ty → Has w ty → All (snoc vs w) ty
  snoc_all no_values w ty h k = (k, tt)
  snoc_all (value x vs) w ty (a, h) k = (a, snoc_all vs w ty h k)

  pub followed_all : (vs ws : Values) (ty : Ty) → All vs ty → All ws ty → All (followed vs ws) ty
  followed_all no_values ws ty h k = k
  followed_all (value x vs) ws ty (a, h) k = (a, followed_all vs ws ty h k)

  pub element_is : (vs : Values) (i : ℕ) (ty : Ty) (w : Value) → All vs ty → element vs i ≡ Some w → Has w ty
  element_is no_values i ty w h e = absurd (none_some e)
  element_is (value x vs) zero ty w (a, h) e = let same : x ≡ w = some_is e in subst (λ y. Has y ty) same a
  element_is (value x vs) (suc i) ty w (a, h) e = element_is vs i ty w h e

  pub joined_all : (vss : Values) (ty : Ty) (ts : Tys) → All vss (con array_of (t.more ty ts)) → Gives (λ ws. All ws ty) (elements_joined vss)
  joined_all no_values ty ts h = tt
  joined_all (value x vss) ty ts (a, h) =
      on_array places layouts (λ y. Gives (λ ws. All ws ty) (elements_joined (value y vss))) ty ts
      (λ vs k. then_gives _ _ (elements_joined vss) _ (joined_all vss ty ts h) (λ ws l. followed_all vs ws ty k l)) x a

  pub bytes_given : (vs : Values) → All vs byte_type → Gives Bytes (bytes_of vs)
  bytes_given no_values h = tt
  bytes_given (value x vs) (a, h) =
      on_unsigned places layouts (λ y. Gives Bytes (bytes_of (value y vs))) byte_type 8 refl
      (λ n k. then_gives _ _ (bytes_of vs) _ (bytes_given vs h) (λ bs l. (uint_below 8 n k, l))) x a

  -- ---- keys

  number_ordered : (ty : Ty) (s : NumType) (k l : Value) → number_type ty ≡ Some s → Has k ty → Has l ty → There (λ o. Unit {0}) (number_order k l)
  number_ordered ty s k l e h i =
      on_number places layouts (λ x. There (λ o. Unit {0}) (number_order x l)) ty s e
      (λ x p. on_number places layouts (λ y. There (λ o. Unit {0}) (number_order (number s x) y)) ty s e (λ y q. rw (same_number s) tt) l i) k h

  then_ordered : (a b : Option Ordering) → There (λ o. Unit {0}) a → There (λ o. Unit {0}) b → There (λ o. Unit {0}) (partial_ordering_then a b)
  then_ordered (Some Less) b h k = tt
  then_ordered (Some Equal) b h k = k
  then_ordered (Some Greater) b h k = tt
  then_ordered None b h k = h

  bytes_ordered : (vs ws : Values) (ty : Ty) (s : NumType) → number_type ty ≡ Some s → All vs ty → All ws ty → There (λ o. Unit {0}) (bytes_order vs ws)
  bytes_ordered no_values no_values ty s e h k = tt
  bytes_ordered no_values (value w ws) ty s e h k = tt
  bytes_ordered (value x vs) no_values ty s e h k = tt
  bytes_ordered (value x vs) (value w ws) ty s e (a, h) (b, k) =
      then_ordered (number_order x w) (bytes_order vs ws) (number_ordered ty s x w e a b) (bytes_ordered vs ws ty s e h k)

  numbers_ordered : (ty : Ty) (s : NumType) (k l : Value) → number_type ty ≡ Some s → Has k ty → Has l ty → There (λ o. Unit {0}) (key_order k l)
  numbers_ordered ty s k l e h i =
      on_number places layouts (λ x. There (λ o. Unit {0}) (key_order x l)) ty s e
      (λ x p. on_number places layouts (λ y. There (λ o. Unit {0}) (key_order (number s x) y)) ty s e (λ y q. rw (same_number s) tt) l i) k h

  pub ordered : (ty : Ty) (k l : Value) → IsKey ty → Has k ty → Has l ty → There (λ o. Unit {0}) (key_order k l)
  ordered (con int ts) k l ok h i = numbers_ordered (con int ts) num.Int k l refl h i
  ordered (con (uint w) ts) k l ok h i = numbers_ordered (con (uint w) ts) (num.Uint w) k l refl h i
  ordered (con (sint w) ts) k l ok h i = numbers_ordered (con (sint w) ts) (num.Sint w) k l refl h i
  ordered (con bool ts) k l ok h i =
      on_bool places layouts (λ x. There (λ o. Unit {0}) (key_order x l)) (con bool ts) tt
      (λ a. on_bool places layouts (λ y. There (λ o. Unit {0}) (key_order (boolean a) y)) (con bool ts) tt (λ b. tt) l i) k h
  ordered (con array_of (t.more (con (uint w) us) ts)) k l ok h i =
      on_array places layouts (λ x. There (λ o. Unit {0}) (key_order x l)) (con (uint w) us) ts
      (λ vs p. on_array places layouts (λ y. There (λ o. Unit {0}) (key_order (array vs) y)) (con (uint w) us) ts
      (λ ws q. bytes_ordered vs ws (con (uint w) us) (num.Uint w) refl p q) l i) k h
  ordered _ k l ok h i = absurd ok

  -- ---- maps

  by_ordered : {A : Type 0} (P : A → Type 0) (o : Option Ordering) (below same above : Given A) → There (λ x. Unit {0}) o →
      (o ≡ Some Less → Gives P below) → (o ≡ Some Equal → Gives P same) → (o ≡ Some Greater → Gives P above) → Gives P (by_order o below same above)
  by_ordered P (Some Less) below same above h a b c = a refl
  by_ordered P (Some Equal) below same above h a b c = b refl
  by_ordered P (Some Greater) below same above h a b c = c refl
  by_ordered P None below same above h a b c = h

  abbrev pub Perhaps : Ty → Option Value → Type 0
  Perhaps ty (Some w) = Has w ty
  Perhaps ty None = Unit {0}

  pub found_is : (k : Value) (ps : Pairs) (key ty : Ty) → IsKey key → Has k key → Pairs_ ps key ty → Gives (Perhaps ty) (found k ps)
  found_is k no_pairs key ty ok h i = tt
  found_is k (pair other w ps) key ty ok h (a, b, i) =
      by_ordered (Perhaps ty) (key_order k other) (gives None) (gives (Some w)) (found k ps) (ordered key k other ok h a) (λ e. tt) (λ e. b)
      (λ e. found_is k ps key ty ok h i)

  -- a map with one key more: it rises, and what stood before the key and the map stands before it
  abbrev pub Put : Value → Pairs → Ty → Ty → Pairs → Type 0
  Put k ps key ty qs = KeysRise qs × Pairs_ qs key ty × ((o : Value) → key_order o k ≡ Some Less → IsBefore o ps → IsBefore o qs)

  put_more : (k other w : Value) (ps qs : Pairs) (key ty : Ty) → key_order k other ≡ Some Greater → Has other key → Has w ty → IsBefore other ps →
      Put k ps key ty qs → Put k (pair other w ps) key ty (pair other w qs)
  put_more k other w ps qs key ty e a b before (r, t, f) = ((f other (less_of_greater k other e) before, r), (a, b, t), λ o l g. g)

  pub put_is : (k x : Value) (ps : Pairs) (key ty : Ty) → IsKey key → Has k key → Has x ty → KeysRise ps → Pairs_ ps key ty →
      Gives (Put k ps key ty) (inserted k x ps)
  put_is k x no_pairs key ty ok h g r i = ((tt, tt), (h, g, tt), λ o l b. l)
  put_is k x (pair other w ps) key ty ok h g (before, r) (a, b, i) =
      by_ordered (Put k (pair other w ps) key ty) (key_order k other) (gives (pair k x (pair other w ps))) (gives (pair k x ps))
      (then_value (inserted k x ps) (λ qs. gives (pair other w qs))) (ordered key k other ok h a)
      (λ e. ((e, (before, r)), (h, g, (a, b, i)), λ o l c. l))
      (λ e. ((subst (λ q. IsBefore q ps) (sym (key_equal k other e)) before, r), (h, g, i), λ o l c. l))
      (λ e. then_gives (Put k ps key ty) _ (inserted k x ps) _ (put_is k x ps key ty ok h g r i) (λ qs p. put_more k other w ps qs key ty e a b before p))

  put_typed : (k : Value) (ps qs : Pairs) (key ty : Ty) → Put k ps key ty qs → Has (mapping qs) (map_type key ty)
  put_typed k ps qs key ty (r, t, f) = (r, t)

  pub inserted_is : (k x : Value) (ps : Pairs) (key ty : Ty) → IsKey key → Has k key → Has x ty → KeysRise ps → Pairs_ ps key ty →
      Gives (λ qs. Has (mapping qs) (map_type key ty)) (inserted k x ps)
  inserted_is k x ps key ty ok h g r i = weaken (inserted k x ps) (put_is k x ps key ty ok h g r i)
    where
      weaken : (o : Given Pairs) → Gives (Put k ps key ty) o → Gives (λ qs. Has (mapping qs) (map_type key ty)) o
      weaken (gives qs) p = put_typed k ps qs key ty p
      weaken (Rattle.ddl_ops.specs.Valued.fails fault span) p = tt
      weaken Rattle.ddl_ops.specs.Valued.deep p = tt
      weaken Rattle.ddl_ops.specs.Valued.stuck p = p
      weaken (Rattle.ddl_ops.specs.Valued.counts o) p = weaken o p

  pub maybe_is : (w : Option Value) (ty : Ty) (ts : Tys) → Perhaps ty w → Has (maybe_value w) (con maybe_of (t.more ty ts))
  maybe_is (Some w) ty ts h = h
  maybe_is None ty ts h = tt

  -- ---- turns

  positioned_are : (vs : Values) (i : ℕ) (ty : Ty) → All vs ty → Pairs_ (positioned vs i) count_type ty
  positioned_are no_values i ty h = tt
  positioned_are (value w vs) i ty (a, h) = (count_is places layouts count_type i refl, a, positioned_are vs (suc i) ty h)

  -- the pairs of a value, whose keys rise if it is a map
  abbrev pub Turns : Ty → Ty → Bool → Pairs → Type 0
  Turns key ty m ps = Pairs_ ps key ty × Rising m ps

  pub elements_are : (over key ty : Ty) (w : Value) → Loops over key ty → Has w over → Gives (Turns key ty (is_map w)) (elements_of w)
  elements_are (con array_of (t.more u ts)) key ty w (a, b) h =
      rw (a, b) (on_array places layouts (λ x. Gives (Turns count_type u (is_map x)) (elements_of x)) u ts (λ vs k. (positioned_are vs 0 u k, tt)) w h)
  elements_are (con map_of (t.more k (t.more u ts))) key ty w (a, b) h =
      rw (a, b) (on_map places layouts (λ x. Gives (Turns k u (is_map x)) (elements_of x)) k u ts (λ ps r l. (l, r)) w h)
  elements_are _ key ty w ok h = absurd ok

  pub with_pair_are : (ps : Pairs) (k w : Value) (key ty : Ty) → Pairs_ ps key ty → Has k key → Has w ty → Pairs_ (with_pair ps k w) key ty
  with_pair_are no_pairs k w key ty h a b = (a, b, tt)
  with_pair_are (pair other x ps) k w key ty (c, d, h) a b = (c, d, with_pair_are ps k w key ty h a b)

  values_are : (ps : Pairs) (key ty : Ty) → Pairs_ ps key ty → All (values_of_pairs ps) ty
  values_are no_pairs key ty h = tt
  values_are (pair k w ps) key ty (a, b, h) = (b, values_are ps key ty h)

  -- what is gathered over a value of a type
  abbrev pub Gathered : Bool → Ty → Ty → Ty → Type 0
  Gathered true key body ty = ty ≡ map_type key body
  Gathered false key body ty = ty ≡ array_type body

  pub gathers : (over key element body ty : Ty) (w : Value) → Loops over key element → Gathers over body ty → Has w over → Gathered (is_map w) key body ty
  gathers (con array_of (t.more u ts)) key element body ty w l g h = on_array places layouts (λ x. Gathered (is_map x) key body ty) u ts (λ vs k. g) w h
  gathers (con map_of (t.more k (t.more u ts))) key element body ty w (a, b) g h =
      on_map places layouts (λ x. Gathered (is_map x) key body ty) k u ts (λ ps r i. g ∙ ap (λ q. map_type q body) (sym a)) w h
  gathers _ key element body ty w ok g h = absurd ok

  pub gathered_is : (m : Bool) (ps : Pairs) (key body ty : Ty) → Gathered m key body ty → Pairs_ ps key body → Rising m ps → Has (gathered m ps) ty
  gathered_is true ps key body ty e h r = subst (λ u. Has (mapping ps) u) (sym e) (r, h)
  gathered_is false ps key body ty e h r = subst (λ u. Has (array (values_of_pairs ps)) u) (sym e) (values_are ps key body h)

  -- ---- counts

  pub count_given : (ty : Ty) (w : Value) → IsUnsigned ty → Has w ty → Gives (λ n. Unit {0}) (count_of w)
  count_given (con (uint m) ts) w ok h = on_unsigned places layouts (λ x. Gives (λ n. Unit {0}) (count_of x)) (con (uint m) ts) m refl (λ n k. tt) w h
  count_given _ w ok h = absurd ok
