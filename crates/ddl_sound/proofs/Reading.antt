-- Which values a type has.
use Rattle.std.proofs.Common.{◌≡◌, ℕ, List, Bool, true, false, Some, None, sym, subst, ◌∙◌, ℤ, pos, negsuc}
use Rattle.ddl_types.specs.declared.num.NumType.{NumType}
use Rattle.ddl_types.specs.declared.num.NumType.TheVariants as num
use Rattle.ddl_types.specs.Num.{in_range}
use Rattle.ddl_types.specs.Layout.{Layout, fits}
use Rattle.ddl_types.specs.Types.{Ty, Tys, con, int, uint, sint, bool, stream, maybe_of, array_of, map_of, bits, place}
use Rattle.ddl_types.specs.Types as t
use Rattle.ddl_types.specs.Value.{Value, Values, Fields, Pairs, Stream, number, bitdata, boolean, nothing, just, fields, tagged, array, mapping}
use Rattle.ddl_types.specs.Value as v
use Rattle.ddl_ops.specs.Numbers.{number_type}
use Rattle.ddl_ops.specs.Bitdata.{layout_at}
use Rattle.ddl_typed.specs.Specification.{Place}
use Rattle.ddl_sound.specs.HasType.{HasType, AllHave, KeysRise, PairsHave, IsStream}
use Rattle.ddl_sound.specs.BasicTypes.{IsBool}

pub none_some : {A : Type 0} {x : A} → None ≡ Some x → ⊥
none_some e = absurd cc

pub some_is : {A : Type 0} {x y : A} → Some x ≡ Some y → x ≡ y
some_is e = cc

pub false_true : false ≡ true → ⊥
false_true e = absurd cc

module _ (places : List Place) (layouts : List Layout) where
  abbrev Has : Value → Ty → Type 0
  Has w ty = HasType places layouts w ty

  pub on_number : (P : Value → Type 0) (ty : Ty) (s : NumType) → number_type ty ≡ Some s → ((z : ℤ) → in_range s z ≡ true → P (number s z)) → (w : Value) →
      Has w ty → P w
  on_number P ty s e k (number r z) (a, b) =
      let same : r ≡ s = some_is (sym a ∙ e) in subst (λ q. P (number q z)) (sym same) (k z (subst (λ q. in_range q z ≡ true) same b))
  on_number P (con int ts) s e k _ h = absurd h
  on_number P (con (uint w) ts) s e k _ h = absurd h
  on_number P (con (sint w) ts) s e k _ h = absurd h
  on_number P _ s e k _ h = absurd (none_some e)

  pub on_bool : (P : Value → Type 0) (ty : Ty) → IsBool ty → ((b : Bool) → P (boolean b)) → (w : Value) → Has w ty → P w
  on_bool P (con bool ts) ok k (number r z) h = absurd (none_some h.0)
  on_bool P (con bool ts) ok k (boolean b) h = k b
  on_bool P (con bool ts) ok k _ h = absurd h
  on_bool P _ ok k w h = absurd ok

  pub is_boolean : (ty : Ty) (b : Bool) → IsBool ty → Has (boolean b) ty
  is_boolean (con bool ts) b ok = tt
  is_boolean _ b ok = absurd ok

  -- a number that is not below 0
  pub natural : (P : ℤ → Type 0) (w : ℕ) → ((n : ℕ) → in_range (num.Uint w) (pos n) ≡ true → P (pos n)) → (z : ℤ) → in_range (num.Uint w) z ≡ true → P z
  natural P w k (pos n) h = k n h
  natural P w k (negsuc n) h = absurd (false_true h)

  pub on_unsigned : (P : Value → Type 0) (ty : Ty) (w : ℕ) → number_type ty ≡ Some (num.Uint w) →
      ((n : ℕ) → in_range (num.Uint w) (pos n) ≡ true → P (number (num.Uint w) (pos n))) → (x : Value) → Has x ty → P x
  on_unsigned P ty w e k x h = on_number P ty (num.Uint w) e (natural (λ z. P (number (num.Uint w) z)) w k) x h

  pub on_stream : (P : Value → Type 0) (ts : Tys) → ((s : Stream) → IsStream s → P (v.stream s)) → (w : Value) → Has w (con stream ts) → P w
  on_stream P ts k (number r z) h = absurd (none_some h.0)
  on_stream P ts k (v.stream s) h = k s h
  on_stream P ts k _ h = absurd h

  pub on_array : (P : Value → Type 0) (ty : Ty) (ts : Tys) → ((vs : Values) → AllHave places layouts vs ty → P (array vs)) → (w : Value) →
      Has w (con array_of (t.more ty ts)) → P w
  on_array P ty ts k (number r z) h = absurd (none_some h.0)
  on_array P ty ts k (array vs) h = k vs h
  on_array P ty ts k _ h = absurd h

  pub on_map : (P : Value → Type 0) (key ty : Ty) (ts : Tys) → ((ps : Pairs) → KeysRise ps → PairsHave places layouts ps key ty → P (mapping ps)) →
      (w : Value) → Has w (con map_of (t.more key (t.more ty ts))) → P w
  on_map P key ty ts k (number r z) h = absurd (none_some h.0)
  on_map P key ty ts k (mapping ps) (r, h) = k ps r h
  on_map P key ty ts k _ h = absurd h

  pub on_maybe : (P : Value → Type 0) (ty : Ty) (ts : Tys) → P nothing → ((w : Value) → Has w ty → P (just w)) → (w : Value) →
      Has w (con maybe_of (t.more ty ts)) → P w
  on_maybe P ty ts k j (number r z) h = absurd (none_some h.0)
  on_maybe P ty ts k j nothing h = k
  on_maybe P ty ts k j (just w) h = j w h
  on_maybe P ty ts k j _ h = absurd h

  pub on_bits : (P : Value → Type 0) (m : ℕ) (ts : Tys) → ((l : Layout) (n : ℕ) → layout_at layouts m ≡ Some l → fits l n ≡ true → P (bitdata l n)) →
      (w : Value) → Has w (con (bits m) ts) → P w
  on_bits P m ts k (number r z) h = absurd (none_some h.0)
  on_bits P m ts k (bitdata l n) (a, b) = k l n a b
  on_bits P m ts k _ h = absurd h

  -- a record or a union
  pub on_place : (P : Value → Type 0) (m : ℕ) (ts : Tys) → ((fs : Fields) → Has (fields fs) (con (place m) ts) → P (fields fs)) →
      ((label : List ℕ) (w : Value) → Has (tagged label w) (con (place m) ts) → P (tagged label w)) → (w : Value) → Has w (con (place m) ts) → P w
  on_place P m ts f u (number r z) h = absurd (none_some h.0)
  on_place P m ts f u (fields fs) h = f fs h
  on_place P m ts f u (tagged label w) h = u label w h
  on_place P m ts f u _ h = absurd h
