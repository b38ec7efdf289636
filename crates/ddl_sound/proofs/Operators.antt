-- Operators, casts and built-ins at values of their types.
use Rattle.std.proofs.Common.{◌≡◌, ℕ, ◌==◌, List, [], ◌∷◌, Bool, true, false, if◌then◌else◌, not, ℤ, pos, Option, Some, None, refl, sym, subst, ◌∙◌, ap, arith}
use Rattle.std.proofs.Common.{rules, ◌≤◌}
use Rattle.ddl_base.specs.declared.span.Span.{Span}
use Rattle.ddl_types.specs.declared.num.NumType.{NumType}
use Rattle.ddl_types.specs.declared.num.NumType.TheVariants as num
use Rattle.ddl_types.specs.Num.{in_range, number_of, whole, width_of}
use Rattle.ddl_types.specs.Layout.{Layout, width}
use Rattle.ddl_types.specs.Layout as layout
use Rattle.ddl_types.specs.Types.{Ty, Tys, Sub, con, none, int, uint, sint, bool, unit, stream, maybe_of, array_of, map_of, bits, place, on}
use Rattle.ddl_types.specs.Types as t
use Rattle.ddl_types.specs.Value.{Value, Values, Stream, number, boolean, array, no_values, value}
use Rattle.ddl_types.specs.Outcome.{Outcome}
use Rattle.ddl_arith.specs.Exact.{right_type, kept, cut_of}
use Rattle.ddl_ops.specs.declared.operators.Infix.{Infix}
use Rattle.ddl_ops.specs.declared.operators.Infix.TheVariants.{Arithmetic, Compare, Beside, Append, And, Or}
use Rattle.ddl_ops.specs.declared.operators.Prefix.{Prefix}
use Rattle.ddl_ops.specs.declared.operators.Prefix.TheVariants.{Minus, Not, Complement}
use Rattle.ddl_ops.specs.declared.operators.Cast.{Cast}
use Rattle.ddl_ops.specs.declared.operators.Cast.TheVariants.{Keep, Cut}
use Rattle.ddl_ops.specs.declared.operators.Builtin.{Builtin}
use Rattle.ddl_ops.specs.declared.operators.Builtin.TheVariants.{Length, Concat, ArrayStream, BytesOfStream, Empty, InsertInto, LookupIn}
use Rattle.ddl_ops.specs.declared.operators.Comparison.{Comparison}
use Rattle.ddl_ops.specs.Valued.{Valued, gives}
use Rattle.ddl_ops.specs.Numbers.{number_type, number_at, arithmetic_value, bits_beside, bits_appended, complement_of, negated}
use Rattle.ddl_ops.specs.Comparisons.{compared, key_order, holds}
use Rattle.ddl_ops.specs.Operators.{infix_value, prefix_value, truth_of}
use Rattle.ddl_ops.specs.Casts.{Fit, fitting, unfit, no_cast, to_number, to_bits, target, fit, fit_of, fit_bits, kept_value, cut, cast_value, fitted}
use Rattle.ddl_ops.specs.Bitdata.{layout_at}
use Rattle.ddl_ops.specs.Arrays.{elements_joined, bytes_of, size}
use Rattle.ddl_ops.specs.Maps.{found, inserted}
use Rattle.ddl_ops.specs.Streams.{bytes_in}
use Rattle.ddl_ops.specs.Primitives.{byte_values}
use Rattle.ddl_ops.specs.Builtins.{builtin_value}
use Rattle.ddl_typed.specs.Specification.{Place}
use Rattle.std.specs.declared.cmp.Ordering.{Ordering}
use Rattle.ddl_sound.specs.HasType.{HasType, AllHave, IsStream}
use Rattle.ddl_sound.specs.BasicTypes.{IsBool, IsNumeric, array_type, map_type, maybe_type, byte_type, count_type, stream_type}
use Rattle.ddl_sound.specs.Operations.{InfixRule, PrefixRule, Lossless, same, numbers, bits_number, number_bits, Cuts, MayFit, fits_same, fits_number}
use Rattle.ddl_sound.specs.Operations.{fits_bits, CastRule, BuiltinRule}
use Rattle.ddl_sound.specs.Sound.{Gives, There, Parses}
use Rattle.ddl_sound.proofs.Joins.{then_gives, gives_counted}
use Rattle.ddl_sound.proofs.Reading.{on_number, on_bool, is_boolean, on_unsigned, on_array, on_map, on_stream, on_bits, none_some, some_is}
use Rattle.ddl_sound.proofs.Arithmetic.{arithmetic_of, negated_of, complement_is, beside_is, append_is, count_is, whole_is, kept_is, cut_in}
use Rattle.ddl_sound.proofs.Collections.{ordered, joined_all, bytes_given, bytes_are, bytes_part, stream_is, found_is, inserted_is, maybe_is}

number_on : (ty : Ty) (s : NumType) (f : Sub) → number_type ty ≡ Some s → number_type (on ty f) ≡ Some s
number_on (con int ts) s f e = e
number_on (con (uint w) ts) s f e = e
number_on (con (sint w) ts) s f e = e
number_on _ s f e = absurd (none_some e)

target_on : (ls : List Layout) (ty : Ty) (s : NumType) (f : Sub) → number_type ty ≡ Some s → target ls (on ty f) ≡ to_number s
target_on ls (con int ts) s f e = ap to_number cc
target_on ls (con (uint w) ts) s f e = ap to_number cc
target_on ls (con (sint w) ts) s f e = ap to_number cc
target_on ls _ s f e = absurd (none_some e)

module _ (places : List Place) (layouts : List Layout) where
  abbrev Has : Value → Ty → Type 0
  Has w ty = HasType places layouts w ty

  abbrev Of : Ty → Valued → Type 0
  Of ty o = Gives (λ w. Has w ty) o

  abbrev Fine : Ty → Outcome → Type 0
  Fine ty o = Parses places layouts ty o

  pub literal_is : (n : ℕ) (ty : Ty) (s : NumType) (f : Sub) → number_type ty ≡ Some s → in_range s (pos n) ≡ true →
      Of ty (number_at n (number_type (on ty f)))
  literal_is n ty s f e h = rw (number_on ty s f e) (e, h)

  compared_is : (c : Comparison) (o : Option Ordering) (ty : Ty) → IsBool ty → There (λ x. Unit {0}) o → Of ty (compared c o)
  compared_is c (Some o) ty ok h = is_boolean places layouts ty (holds c o) ok
  compared_is c None ty ok h = h

  truth_is : (a ty : Ty) (w : Value) → IsBool a → IsBool ty → Has w a → Of ty (truth_of w)
  truth_is a ty w ok ok2 h = on_bool places layouts (λ x. Of ty (truth_of x)) a ok (λ b. is_boolean places layouts ty b ok2) w h

  pub infix_is : (op : Infix) (a b ty : Ty) (span : Span) (x : Value) (right : Valued) → InfixRule op a b ty → Has x a → Of b right →
      Of ty (infix_value op span x right)
  infix_is (Arithmetic op) a b ty span x right (s, ea, eb, has, et) h k =
      then_gives _ _ right _ k (λ y l.
      on_number places layouts (λ x. Of ty (arithmetic_value op span x y)) a s ea (λ p hp.
      on_number places layouts (λ y. Of ty (arithmetic_value op span (number s p) y)) b (right_type op s) eb
      (λ q hq. arithmetic_of places layouts op ty s p q span et has) y l) x h)
  infix_is (Compare c) a b ty span x right (ok, e, ok2) h k =
      then_gives _ _ right _ k (λ y l. compared_is c (key_order x y) ty ok2 (ordered places layouts a x y ok h (subst (λ u. Has y u) e l)))
  infix_is Beside (con (uint m) ts) (con (uint n) us) ty span x right (le, e) h k =
      then_gives _ _ right _ k (λ y l.
      on_unsigned places layouts (λ x. Of ty (bits_beside x y)) (con (uint m) ts) m refl (λ p hp.
      on_unsigned places layouts (λ y. Of ty (bits_beside (number (num.Uint m) (pos p)) y)) (con (uint n) us) n refl
      (λ q hq. beside_is places layouts ty m n p q le e hp hq) y l) x h)
  infix_is Append (con (uint m) ts) (con (uint n) us) ty span x right e h k =
      then_gives _ _ right _ k (λ y l.
      on_unsigned places layouts (λ x. Of ty (bits_appended x y)) (con (uint m) ts) m refl (λ p hp.
      on_unsigned places layouts (λ y. Of ty (bits_appended (number (num.Uint m) (pos p)) y)) (con (uint n) us) n refl
      (λ q hq. append_is places layouts ty m n p q e) y l) x h)
  infix_is And a b ty span x right (oa, ob, ot) h k =
      on_bool places layouts (λ x. Of ty (infix_value And span x right)) a oa (both_of b ty span right ob ot k) x h
    where
      both_of : (b ty : Ty) (span : Span) (right : Valued) → IsBool b → IsBool ty → Of b right → (c : Bool) → Of ty (infix_value And span (boolean c) right)
      both_of b ty span right ob ot k true = then_gives _ _ right _ k (λ y l. truth_is b ty y ob ot l)
      both_of b ty span right ob ot k false = is_boolean places layouts ty false ot
  infix_is Or a b ty span x right (oa, ob, ot) h k =
      on_bool places layouts (λ x. Of ty (infix_value Or span x right)) a oa (either_of b ty span right ob ot k) x h
    where
      either_of : (b ty : Ty) (span : Span) (right : Valued) → IsBool b → IsBool ty → Of b right → (c : Bool) → Of ty (infix_value Or span (boolean c) right)
      either_of b ty span right ob ot k true = is_boolean places layouts ty true ot
      either_of b ty span right ob ot k false = then_gives _ _ right _ k (λ y l. truth_is b ty y ob ot l)
  infix_is _ a b ty span x right ok h k = absurd ok

  pub prefix_is : (op : Prefix) (a ty : Ty) (span : Span) (x : Value) → PrefixRule op a ty → Has x a → Of ty (prefix_value op span x)
  prefix_is Minus a ty span x (s, ea, et) h =
      on_number places layouts (λ x. Of ty (negated span x)) a s ea (λ z hz. negated_of places layouts ty s z span et) x h
  prefix_is Not a ty span x (oa, ot) h = on_bool places layouts (λ x. Of ty (prefix_value Not span x)) a oa (λ b. is_boolean places layouts ty (not b) ot) x h
  prefix_is Complement (con (uint w) ts) ty span x e h =
      on_unsigned places layouts (λ x. Of ty (complement_of x)) (con (uint w) ts) w refl (λ n hn. complement_is places layouts ty w n e) x h
  prefix_is _ a ty span x ok h = absurd ok

  -- ---- casts

  abbrev Kept : Ty → Fit → Type 0
  Kept ty (fitting w) = Has w ty
  Kept ty unfit = ⊥
  Kept ty no_cast = ⊥

  abbrev Fitted : Ty → Fit → Type 0
  Fitted ty (fitting w) = Has w ty
  Fitted ty unfit = Unit {0}
  Fitted ty no_cast = ⊥

  kept_gives : (ty : Ty) (f : Fit) → Kept ty f → Of ty (kept_value f)
  kept_gives ty (fitting w) h = h
  kept_gives ty unfit h = h
  kept_gives ty no_cast h = h

  kept_fits : (ty : Ty) (f : Fit) → Kept ty f → Fitted ty f
  kept_fits ty (fitting w) h = h
  kept_fits ty unfit h = tt
  kept_fits ty no_cast h = h

  number_kept : (ty : Ty) (r : NumType) (z : ℤ) → number_type ty ≡ Some r → in_range r z ≡ true → Kept ty (fit_of r (kept r z))
  number_kept ty r z e h = rw (kept_is r z h, whole_is r z h) (e, h)

  same_is : (h : t.Head) (ts : Tys) (f : Sub) (w : Value) → Has w (con h ts) → Kept (con h ts) (fit (target layouts (on (con h ts) f)) w)
  same_is int ts f w k =
      on_number places layouts (λ w. Kept (con int ts) (fit (to_number num.Int) w)) (con int ts) num.Int refl
      (λ z hz. number_kept (con int ts) num.Int z refl hz) w k
  same_is (uint m) ts f w k =
      on_number places layouts (λ w. Kept (con (uint m) ts) (fit (to_number (num.Uint m)) w)) (con (uint m) ts) (num.Uint m) refl
      (λ z hz. number_kept (con (uint m) ts) (num.Uint m) z refl hz) w k
  same_is (sint m) ts f w k =
      on_number places layouts (λ w. Kept (con (sint m) ts) (fit (to_number (num.Sint m)) w)) (con (sint m) ts) (num.Sint m) refl
      (λ z hz. number_kept (con (sint m) ts) (num.Sint m) z refl hz) w k
  same_is (bits m) ts f w k =
      on_bits places layouts (λ w. Kept (con (bits m) ts) (fit (target layouts (con (bits m) ts)) w)) m ts (λ l n e h. rw e (e, h)) w k
  same_is bool ts f w k = k
  same_is unit ts f w k = k
  same_is stream ts f w k = k
  same_is maybe_of ts f w k = k
  same_is array_of ts f w k = k
  same_is map_of ts f w k = k
  same_is (place m) ts f w k = k

  wide : (m n : ℕ) → m ≡ n → (m == n) ≡ true
  wide m n e = grind (arith, e)

  keeps_is : (a b : Ty) (f : Sub) (w : Value) → Lossless layouts a b → Has w a → Kept b (fit (target layouts (on b f)) w)
  keeps_is a b f w (same {h = h} {ts = ts}) k = same_is h ts f w k
  keeps_is a b f w (numbers {s = s} {r = r} ea eb within) k =
      rw (target_on layouts b r f eb) (on_number places layouts (λ w. Kept b (fit (to_number r) w)) a s ea (λ z hz. number_kept b r z eb (within z hz)) w k)
  keeps_is a b f w (bits_number {m = m} {ts = ts} {l = l} {r = r} el eb within) k =
      rw (target_on layouts b r f eb) (on_bits places layouts (λ w. Kept b (fit (to_number r) w)) m ts
      (λ l2 n e h. let same : l2 ≡ l = some_is (sym e ∙ el) in number_kept b r (pos n) eb (within n (subst (λ q. layout.fits q n ≡ true) same h))) w k)
  keeps_is a b f w (number_bits {w = m} {m = i} {us = us} {ts = ts} {l = l} el ew within) k =
      rw el (on_unsigned places layouts (λ w. Kept b (fit (to_bits l) w)) a m refl (λ n hn. rw (wide m (width l) ew, within n hn) (el, within n hn)) w k)

  cut_number : (ty : Ty) (r : NumType) (z : ℤ) → number_type ty ≡ Some r → 1 ≤ width_of r → Has (number r (whole (cut_of r z))) ty
  cut_number ty r z e h = (e, cut_in r z h)

  cuts_is : (a b : Ty) (f : Sub) (w : Value) → Cuts a b → Has w a → Of b (cut (target layouts (on b f)) w)
  cuts_is (con int ts) b f w (ok, (r, eb, one)) h =
      rw (target_on layouts b r f eb) (on_number places layouts (λ w. Of b (cut (to_number r) w)) (con int ts) num.Int refl
      (λ z hz. cut_number b r z eb one) w h)
  cuts_is (con (uint m) ts) b f w (ok, (r, eb, one)) h =
      rw (target_on layouts b r f eb) (on_number places layouts (λ w. Of b (cut (to_number r) w)) (con (uint m) ts) (num.Uint m) refl
      (λ z hz. cut_number b r z eb one) w h)
  cuts_is (con (sint m) ts) b f w (ok, (r, eb, one)) h =
      rw (target_on layouts b r f eb) (on_number places layouts (λ w. Of b (cut (to_number r) w)) (con (sint m) ts) (num.Sint m) refl
      (λ z hz. cut_number b r z eb one) w h)
  cuts_is (con (bits m) ts) b f w (ok, (r, eb, one)) h =
      rw (target_on layouts b r f eb) (on_bits places layouts (λ w. Of b (cut (to_number r) w)) m ts (λ l n e hn. cut_number b r (pos n) eb one) w h)
  cuts_is _ b f w (ok, c) h = absurd ok

  pub cast_is : (c : Cast) (a b : Ty) (f : Sub) (w : Value) → CastRule layouts c a b → Has w a → Of b (cast_value c (target layouts (on b f)) w)
  cast_is Keep a b f w k h = kept_gives b (fit (target layouts (on b f)) w) (keeps_is a b f w k h)
  cast_is Cut a b f w k h = cuts_is a b f w k h

  number_fitted : (ty : Ty) (r : NumType) (z : ℤ) (b : Bool) → number_type ty ≡ Some r → in_range r z ≡ b →
      Fitted ty (fit_of r (if b then Some (number_of r z) else None))
  number_fitted ty r z true e h = rw (whole_is r z h) (e, h)
  number_fitted ty r z false e h = tt

  bits_fitted : (m : ℕ) (ts : Tys) (l : Layout) (n : ℕ) (b : Bool) → layout_at layouts m ≡ Some l → layout.fits l n ≡ b →
      Fitted (con (bits m) ts) (fit_bits l n true b)
  bits_fitted m ts l n true el h = (el, h)
  bits_fitted m ts l n false el h = tt

  fits_is : (a b : Ty) (f : Sub) (w : Value) → MayFit layouts a b → Has w a → Fitted b (fit (target layouts (on b f)) w)
  fits_is a b f w (fits_same {h = h} {ts = ts}) k = kept_fits b (fit (target layouts (on b f)) w) (same_is h ts f w k)
  fits_is a b f w (fits_number {r = r} ok eb) k = rw (target_on layouts b r f eb) (numeric a ok w k)
    where
      numeric : (a : Ty) → IsNumeric a → (w : Value) → Has w a → Fitted b (fit (to_number r) w)
      numeric (con int ts) ok w k =
          on_number places layouts (λ w. Fitted b (fit (to_number r) w)) (con int ts) num.Int refl (λ z hz. number_fitted b r z _ eb refl) w k
      numeric (con (uint m) ts) ok w k =
          on_number places layouts (λ w. Fitted b (fit (to_number r) w)) (con (uint m) ts) (num.Uint m) refl (λ z hz. number_fitted b r z _ eb refl) w k
      numeric (con (sint m) ts) ok w k =
          on_number places layouts (λ w. Fitted b (fit (to_number r) w)) (con (sint m) ts) (num.Sint m) refl (λ z hz. number_fitted b r z _ eb refl) w k
      numeric (con (bits m) ts) ok w k =
          on_bits places layouts (λ w. Fitted b (fit (to_number r) w)) m ts (λ l n e hn. number_fitted b r (pos n) _ eb refl) w k
      numeric _ ok w k = absurd ok
  fits_is a b f w (fits_bits {w = m} {m = i} {us = us} {ts = ts} {l = l} el ew) k =
      rw el (on_unsigned places layouts (λ w. Fitted b (fit (to_bits l) w)) a m refl (λ n hn. rw (wide m (width l) ew) (bits_fitted i ts l n _ el refl)) w k)

  pub fitted_is : (a b : Ty) (f : Sub) (w : Value) (span : Span) (s : Stream) → MayFit layouts a b → Has w a → IsStream s →
      Fine b (fitted (fit (target layouts (on b f)) w) span s)
  fitted_is a b f w span s k h i = by (fit (target layouts (on b f)) w) (fits_is a b f w k h)
    where
      by : (x : Fit) → Fitted b x → Fine b (fitted x span s)
      by (fitting w) h = (h, i, tt)
      by unfit h = tt
      by no_cast h = h

  -- ---- built-ins

  abbrev pub Typed : Values → List Ty → Type 0
  Typed no_values [] = Unit {0}
  Typed (value w vs) (ty ∷ tys) = Has w ty × Typed vs tys
  Typed vs tys = ⊥

  as_ : (a b : Ty) (w : Value) → a ≡ b → Has w a → Has w b
  as_ a b w e h = subst (λ u. Has w u) e h

  back : (a b : Ty) (o : Valued) → a ≡ b → Of b o → Of a o
  back a b o e h = subst (λ u. Of u o) (sym e) h

  pub builtin_is : (b : Builtin) (tys : List Ty) (ty : Ty) (vs : Values) → BuiltinRule b tys ty → Typed vs tys → Of ty (builtin_value b vs)
  builtin_is Length (con array_of (t.more a none) ∷ []) ty (value x no_values) e (h, k) =
      back ty count_type (builtin_value Length (value x no_values)) e (on_array places layouts
      (λ x. Of count_type (builtin_value Length (value x no_values))) a none (λ vs l. count_is places layouts count_type (size vs) refl) x h)
  builtin_is Concat (con array_of (t.more (con array_of (t.more a none)) none) ∷ []) ty (value x no_values) e (h, k) =
      back ty (array_type a) (builtin_value Concat (value x no_values)) e
      (on_array places layouts (λ x. Of (array_type a) (builtin_value Concat (value x no_values))) (con array_of (t.more a none)) none
      (λ vss l. then_gives (λ vs. AllHave places layouts vs a) _ (elements_joined vss) _ (joined_all places layouts vss a none l)
      (λ vs i. gives_counted _ vs (gives (array vs)) i)) x h)
  builtin_is ArrayStream (a ∷ []) ty (value x no_values) (ea, e) (h, k) =
      back ty stream_type (builtin_value ArrayStream (value x no_values)) e
      (on_array places layouts (λ x. Of stream_type (builtin_value ArrayStream (value x no_values))) byte_type none
      (λ vs l. then_gives _ _ (bytes_of vs) _ (bytes_given places layouts vs l) (λ bs i. stream_is bs i)) x (as_ a (array_type byte_type) x ea h))
  builtin_is BytesOfStream (a ∷ []) ty (value x no_values) (ea, e) (h, k) =
      back ty (array_type byte_type) (builtin_value BytesOfStream (value x no_values)) e
      (on_stream places layouts (λ x. Of (array_type byte_type) (builtin_value BytesOfStream (value x no_values))) none
      (λ s i. gives_counted _ (byte_values (bytes_in s)) (gives (array (byte_values (bytes_in s))))
      (bytes_are places layouts (bytes_in s) (bytes_part s.bytes s.from s.to i.0))) x (as_ a stream_type x ea h))
  builtin_is Empty [] ty no_values (k, (w, e)) h = back ty (map_type k w) (builtin_value Empty no_values) e (tt, tt)
  builtin_is InsertInto (k ∷ w ∷ m ∷ []) ty (value a (value b (value c no_values))) (ok, em, e) (h, (i, (j, l))) =
      back ty (map_type k w) (builtin_value InsertInto (value a (value b (value c no_values)))) e
      (on_map places layouts (λ x. Of (map_type k w) (builtin_value InsertInto (value a (value b (value x no_values))))) k w none
      (λ ps r p. then_gives _ _ (inserted a b ps) _ (inserted_is places layouts a b ps k w ok h i r p) (λ qs q. q)) c (as_ m (map_type k w) c em j))
  builtin_is LookupIn (k ∷ m ∷ []) ty (value a (value c no_values)) (ok, (w, em, e)) (h, (j, l)) =
      back ty (maybe_type w) (builtin_value LookupIn (value a (value c no_values))) e
      (on_map places layouts (λ x. Of (maybe_type w) (builtin_value LookupIn (value a (value x no_values)))) k w none
      (λ ps r p. then_gives _ _ (found a ps) _ (found_is places layouts a ps k w ok h p) (λ y q. maybe_is places layouts y w none q)) c
      (as_ m (map_type k w) c em j))
  builtin_is _ tys ty vs ok h = absurd (search (rules, ok, h))
