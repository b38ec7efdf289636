-- What operations do: some ticks, and then one parse, one failure where they may fail, or a fault that they may have.
use Rattle.std.proofs.Common.{◌≡◌, ℕ, ◌+◌, List, [], ◌∷◌, ◌==◌, inl, inr, Bool, true, false, Option, Some, None, if◌then◌else◌, ◌&&◌, refl}
use Rattle.std.specs.Prelude.{nat_le, nat_lt, pos, ℤ, ◌^◌, ◌+ℤ◌, ◌-ℤ◌, ◌*ℤ◌, int_div, int_rem, unsigned_abs, bit_and, bit_or, bit_xor, Result, Ok, Err}
use Rattle.std.specs.Int.{int_shr}
use Rattle.std.specs.declared.cmp.Ordering.{Ordering}
use Rattle.std.specs.declared.cmp.Ordering.TheVariants.{Less, Equal, Greater}
use Rattle.ddl_base.specs.declared.span.Span.{Span}
use Rattle.ddl_base.specs.declared.why.Why.{Why}
use Rattle.ddl_base.specs.declared.why.Why.TheVariants as why
use Rattle.ddl_types.specs.declared.fault.Fault.{Fault}
use Rattle.ddl_types.specs.declared.fault.Fault.TheVariants.{Overflow, DivZero, Shift}
use Rattle.ddl_types.specs.declared.num.Num.{Num}
use Rattle.ddl_types.specs.declared.num.NumType.{NumType}
use Rattle.ddl_types.specs.declared.num.NumType.TheVariants as Ty
use Rattle.ddl_types.specs.Num.{in_range, width_of}
use Rattle.ddl_types.specs.Value.{Value, Values, Pairs, Stream, number, bitdata, boolean, fields, array, mapping, stream, no_values, value, no_pairs, pair}
use Rattle.ddl_types.specs.Outcome.{Outcome, parsed}
use Rattle.ddl_types.specs.Layout.{only_con}
use Rattle.ddl_arith.specs.declared.operation.Op.{Op}
use Rattle.ddl_arith.specs.declared.operation.Op.TheVariants as op
use Rattle.ddl_arith.specs.Exact.{op_of, settled, is_zero, right_type, has_op}
use Rattle.ddl_ops.specs.declared.operators.Builtin.{Builtin}
use Rattle.ddl_ops.specs.declared.operators.Builtin.TheVariants as B
use Rattle.ddl_ops.specs.declared.operators.Cast.{Cast}
use Rattle.ddl_ops.specs.declared.operators.Cast.TheVariants.{Keep, Cut}
use Rattle.ddl_ops.specs.declared.operators.Comparison.{Comparison}
use Rattle.ddl_ops.specs.declared.operators.Infix.{Infix}
use Rattle.ddl_ops.specs.declared.operators.Infix.TheVariants as I
use Rattle.ddl_ops.specs.declared.operators.Prefix.{Prefix}
use Rattle.ddl_ops.specs.declared.operators.Prefix.TheVariants as F
use Rattle.ddl_ops.specs.declared.operators.Primitive.{Primitive}
use Rattle.ddl_ops.specs.declared.operators.Primitive.TheVariants as P
use Rattle.ddl_ops.specs.Valued.{Given, gives, fails, deep, stuck, counts, given, then_value, then_parse}
use Rattle.ddl_ops.specs.Numbers.{number_at, count_of, same_type, settled_at, arithmetic_value, negated, complement_of, bits_beside, bits_appended}
use Rattle.ddl_ops.specs.Operators.{truth_of, infix_value, prefix_value}
use Rattle.ddl_ops.specs.Comparisons.{key_order, compared}
use Rattle.ddl_ops.specs.Records.{selected, field_in, record_of}
use Rattle.ddl_ops.specs.Bitdata.{fields_of_only}
use Rattle.ddl_ops.specs.Casts.{Fit, Target, fitting, unfit, no_cast, fit, cut, kept_value, cast_value, fitted, to_number}
use Rattle.ddl_ops.specs.Builtins.{builtin_value, primitive_outcome, present, part_of, insert_absent}
use Rattle.ddl_ops.specs.Arrays.{element, counted, elements_joined, bytes_of, followed}
use Rattle.ddl_ops.specs.Maps.{by_order, found, inserted, maybe_value}
use Rattle.ddl_ops.specs.Streams.{remaining, front, behind, bytes_in, stream_of}
use Rattle.ddl_ops.specs.Primitives.{byte_value, byte_values, has_byte, first_byte, onward, missed_at, one_byte, at_end, match_bytes, with_bytes, match_value}
use Rattle.ddl_ops.specs.ByteSets.{class_byte}
use Rattle.ddl_ops.specs.Patterns.{Matched, has_it, has_another, has_none, matched, outcome_at}
use Rattle.ddl_core.specs.Core.{Operation}
use Rattle.ddl_core.specs.Core as c
use Rattle.ddl_core.specs.Operations.{applied, named_fields, with_elements, elements_count, position_of, element_there, key_there, gathered_as, pair_at}
use Rattle.ddl_core.specs.Operations.{pair_key_at}
use Rattle.ddl_blocks.specs.Failing.{primitive_fails, may_fail, faults_of, faults_at, IsAmong, May, ComesTo}

-- of what a value form gives
abbrev pub Calm : {A : Type 0} → List Fault → Span → Given A → Type 0
Calm fs span (gives v) = Unit {0}
Calm fs span (fails f sp) = IsAmong f fs × (sp ≡ span)
Calm fs span deep = ⊥
Calm fs span stuck = Unit {0}
Calm fs span (counts o) = Calm fs span o

module _ (fs : List Fault) (span : Span) where
  then_calm : {A B : Type 0} (o : Given A) (k : A → Given B) → Calm fs span o → ((a : A) → Calm fs span (k a)) → Calm fs span (then_value o k)
  then_calm (gives v) k p h = h v
  then_calm (fails f sp) k p h = p
  then_calm deep k p h = p
  then_calm stuck k p h = tt
  then_calm (counts o) k p h = then_calm o k p h

  then_may : {A : Type 0} (b : Bool) (o : Given A) (k : A → Outcome) → Calm fs span o → ((a : A) → May b fs span (k a)) → May b fs span (then_parse o k)
  then_may b (gives v) k p h = h v
  then_may b (fails f sp) k p h = p
  then_may b deep k p h = p
  then_may b stuck k p h = tt
  then_may b (counts o) k p h = then_may b o k p h

  given_calm : {A : Type 0} (o : Option A) → Calm fs span (given o)
  given_calm (Some v) = tt
  given_calm None = tt

  if_calm : {A : Type 0} (b : Bool) (o p : Given A) → Calm fs span o → Calm fs span p → Calm fs span (if b then o else p)
  if_calm true o p h k = h
  if_calm false o p h k = k

  if_may : (b t : Bool) (o p : Outcome) → May b fs span o → May b fs span p → May b fs span (if t then o else p)
  if_may b true o p h k = h
  if_may b false o p h k = k

  counted_calm : {A : Type 0} (vs : Values) (o : Given A) → Calm fs span o → Calm fs span (counted vs o)
  counted_calm no_values o h = h
  counted_calm (value v vs) o h = counted_calm vs o h

  order_calm : {A : Type 0} (q : Option Ordering) (x y z : Given A) → Calm fs span x → Calm fs span y → Calm fs span z → Calm fs span (by_order q x y z)
  order_calm (Some Less) x y z a b d = a
  order_calm (Some Equal) x y z a b d = b
  order_calm (Some Greater) x y z a b d = d
  order_calm None x y z a b d = tt

  found_calm : (k : Value) (ps : Pairs) → Calm fs span (found k ps)
  found_calm k no_pairs = tt
  found_calm k (pair other v ps) = order_calm (key_order k other) (gives None) (gives (Some v)) (found k ps) tt tt (found_calm k ps)

  inserted_calm : (k v : Value) (ps : Pairs) → Calm fs span (inserted k v ps)
  inserted_calm k v no_pairs = tt
  inserted_calm k v (pair other w ps) =
      order_calm (key_order k other) (gives (pair k v (pair other w ps))) (gives (pair k v ps)) (then_value (inserted k v ps) (λ qs. gives (pair other w qs)))
      tt tt
      (then_calm (inserted k v ps) (λ qs. gives (pair other w qs)) (inserted_calm k v ps) (λ qs. tt))

  joined_calm : (vs : Values) → Calm fs span (elements_joined vs)
  joined_calm no_values = tt
  joined_calm (value (array vs) rest) = then_calm (elements_joined rest) (λ ws. gives (followed vs ws)) (joined_calm rest) (λ ws. tt)
  joined_calm (value v rest) = tt

  bytes_calm : (vs : Values) → Calm fs span (bytes_of vs)
  bytes_calm no_values = tt
  bytes_calm (value (number (Ty.Uint width) (pos n)) vs) = then_calm (bytes_of vs) (λ bs. gives (n ∷ bs)) (bytes_calm vs) (λ bs. tt)
  bytes_calm (value v vs) = tt

  count_calm : (v : Value) → Calm fs span (count_of v)
  count_calm (number (Ty.Uint width) (pos n)) = tt
  count_calm v = tt

  builtin_calm : (b : Builtin) (vs : Values) → Calm fs span (builtin_value b vs)
  builtin_calm B.Length (value (array vs) no_values) = tt
  builtin_calm B.Concat (value (array vss) no_values) = then_calm (elements_joined vss) (λ vs. counted vs (gives (array vs))) (joined_calm vss) (λ vs.
      counted_calm vs (gives (array vs)) tt)
  builtin_calm B.ArrayStream (value (array vs) no_values) = then_calm (bytes_of vs) (λ bs. gives (stream (stream_of bs))) (bytes_calm vs) (λ bs. tt)
  builtin_calm B.BytesOfStream (value (stream s) no_values) = let vs = byte_values (bytes_in s) in counted_calm vs (gives (array vs)) tt
  builtin_calm B.Empty no_values = tt
  builtin_calm B.InsertInto (value k (value v (value (mapping ps) no_values))) =
      then_calm (inserted k v ps) (λ qs. gives (mapping qs)) (inserted_calm k v ps) (λ qs. tt)
  builtin_calm B.LookupIn (value k (value (mapping ps) no_values)) = then_calm (found k ps) (λ w. gives (maybe_value w)) (found_calm k ps) (λ w. tt)
  builtin_calm b vs = tt

  compared_calm : (q : Comparison) (o : Option Ordering) → Calm fs span (compared q o)
  compared_calm q (Some o) = tt
  compared_calm q None = tt

  truth_calm : (v : Value) → Calm fs span (truth_of v)
  truth_calm (boolean b) = tt
  truth_calm v = tt

  beside_calm : (v w : Value) → Calm fs span (bits_beside v w)
  beside_calm (number (Ty.Uint m) (pos x)) (number (Ty.Uint n) (pos y)) = if_calm (nat_le (m + n) 128) _ _ tt tt
  beside_calm v w = tt

  appended_calm : (v w : Value) → Calm fs span (bits_appended v w)
  appended_calm (number (Ty.Uint m) (pos x)) (number (Ty.Uint n) (pos y)) = tt
  appended_calm v w = tt

  complement_calm : (v : Value) → Calm fs span (complement_of v)
  complement_calm (number (Ty.Uint width) (pos n)) = tt
  complement_calm v = tt

  selected_calm : (name : List ℕ) (v : Value) → Calm fs span (selected name v)
  selected_calm name (fields ws) = given_calm (field_in ws name)
  selected_calm name (bitdata l n) = given_calm (field_in (fields_of_only (only_con l) n) name)
  selected_calm name v = tt

  kept_calm : (f : Fit) → Calm fs span (kept_value f)
  kept_calm (fitting v) = tt
  kept_calm unfit = tt
  kept_calm no_cast = tt

  cut_calm : (to : Target) (v : Value) → Calm fs span (cut to v)
  cut_calm (to_number to) (number ty z) = tt
  cut_calm (to_number to) (bitdata l n) = tt
  cut_calm to v = tt

  cast_calm : (q : Cast) (to : Target) (v : Value) → Calm fs span (cast_value q to v)
  cast_calm Keep to v = kept_calm (fit to v)
  cast_calm Cut to v = cut_calm to v

  named_calm : (names : List (List ℕ)) (vs : Values) → Calm fs span (named_fields names vs)
  named_calm [] no_values = tt
  named_calm (name ∷ names) (value v vs) = then_calm (named_fields names vs) _ (named_calm names vs) (λ ws. tt)
  named_calm names vs = tt

  elements_calm : (ps : Pairs) (vs : Values) → Calm fs span (with_elements ps vs)
  elements_calm no_pairs no_values = tt
  elements_calm (pair k v ps) (value w ws) = then_calm (with_elements ps ws) (λ qs. gives (pair k w qs)) (elements_calm ps ws) (λ qs. tt)
  elements_calm ps vs = tt

  many_calm : (v : Value) → Calm fs span (elements_count v)
  many_calm (array vs) = tt
  many_calm (mapping ps) = tt
  many_calm v = tt

  position_calm : (v : Value) → Calm fs span (position_of v)
  position_calm (number (Ty.Uint width) (pos n)) = tt
  position_calm v = tt

  element_calm : (v : Value) (i : ℕ) → Calm fs span (element_there v i)
  element_calm (array vs) i = given_calm (element vs i)
  element_calm (mapping ps) i = given_calm (pair_at ps i)
  element_calm v i = tt

  key_calm : (v : Value) (i : ℕ) → Calm fs span (key_there v i)
  key_calm (array vs) i = tt
  key_calm (mapping ps) i = given_calm (pair_key_at ps i)
  key_calm v i = tt

  gathered_calm : (v : Value) (ws : Values) → Calm fs span (gathered_as v ws)
  gathered_calm (array vs) ws = tt
  gathered_calm (mapping ps) ws = then_calm (with_elements ps ws) (λ qs. gives (mapping qs)) (elements_calm ps ws) (λ qs. tt)
  gathered_calm v ws = tt

  number_calm : (n : ℕ) (ty : Option NumType) → Calm fs span (number_at n ty)
  number_calm n (Some ty) = tt
  number_calm n None = tt

  -- outcomes ------------------------------------------------------------------

  byte_may : (s : Stream) → May true fs span (one_byte span s)
  byte_may s = if_may true (has_byte s) _ _ refl (refl, refl)

  end_may : (s : Stream) → May true fs span (at_end span s)
  end_may s = if_may true (has_byte s) _ _ (refl, refl) refl

  class_may : (test : ℕ → Bool) (s : Stream) → May true fs span (class_byte (Some test) span s)
  class_may test s = if_may true (has_byte s && test (first_byte s)) (parsed (byte_value (first_byte s)) (onward s)) (missed_at why.Class s span) refl (
    refl,
    refl,
  )

  match_may : (bs : List ℕ) (whole : Value) (s : Stream) → May true fs span (match_bytes bs whole span s)
  match_may [] whole s = refl
  match_may (b ∷ bs) whole s = if_may true (has_byte s) _ _ (if_may true (first_byte s == b) _ _ (match_may bs whole (onward s)) (refl, refl)) (refl, refl)

  with_bytes_may : (vs : Values) (rest : List ℕ → Outcome) → ((bs : List ℕ) → May true fs span (rest bs)) → May true fs span (with_bytes vs rest)
  with_bytes_may no_values rest h = h []
  with_bytes_may (value (number ty (pos n)) vs) rest h = with_bytes_may vs _ (λ bs. h (n ∷ bs))
  with_bytes_may (value v vs) rest h = tt

  match_value_may : (v : Value) (s : Stream) → May true fs span (match_value v span s)
  match_value_may (array vs) s = with_bytes_may vs _ (λ bs. match_may bs (array vs) s)
  match_value_may v s = tt

  guard_may : (m : Matched) (s : Stream) → May true fs span (outcome_at m (λ w. parsed w s) (missed_at why.Guard s span))
  guard_may (has_it w) s = refl
  guard_may has_another s = (refl, refl)
  guard_may has_none s = tt

  fitted_may : (f : Fit) (s : Stream) → May true fs span (fitted f span s)
  fitted_may (fitting v) s = refl
  fitted_may unfit s = (refl, refl)
  fitted_may no_cast s = tt

  present_may : (o : Option Value) (w : Why) (s : Stream) → May true fs span (present o w span s)
  present_may (Some v) w s = refl
  present_may None w s = (refl, refl)

  part_may : (n : ℕ) (from part : Stream) (w : Why) (s : Stream) → May true fs span (part_of n from part w span s)
  part_may n from part w s = if_may true (nat_le n (remaining from)) (parsed (stream part) s) (missed_at w s span) refl (refl, refl)

  absent_may : (o : Option Value) (k v : Value) (ps : Pairs) (s : Stream) → May true fs span (insert_absent o k v ps span s)
  absent_may None k v ps s = then_may true (inserted k v ps) (λ qs. parsed (mapping qs) s) (inserted_calm k v ps) (λ qs. refl)
  absent_may (Some old) k v ps s = (refl, refl)

  primitive_may : (p : Primitive) (vs : Values) (s : Stream) → May (primitive_fails p) fs span (primitive_outcome p vs span s)
  primitive_may P.GetStream no_values s = refl
  primitive_may P.Offset no_values s = refl
  primitive_may P.SetStream (value (stream t) no_values) s = refl
  primitive_may P.Take (value n (value (stream t) no_values)) s =
      then_may true (count_of n) (λ k. part_of k t (front k t) why.Take span s) (count_calm n) (λ k. part_may k t (front k t) why.Take s)
  primitive_may P.Drop (value n (value (stream t) no_values)) s =
      then_may true (count_of n) (λ k. part_of k t (behind k t) why.Drop span s) (count_calm n) (λ k. part_may k t (behind k t) why.Drop s)
  primitive_may P.Index (value (array vs) (value i no_values)) s =
      then_may true (count_of i) (λ k. present (element vs k) why.Index span s) (count_calm i) (λ k. present_may (element vs k) why.Index s)
  primitive_may P.Lookup (value k (value (mapping ps) no_values)) s =
      then_may true (found k ps) (λ w. present w why.Lookup span s) (found_calm k ps) (λ w. present_may w why.Lookup s)
  primitive_may P.Insert (value k (value v (value (mapping ps) no_values))) s =
      then_may true (found k ps) (λ w. insert_absent w k v ps span s) (found_calm k ps) (λ w. absent_may w k v ps s)
  primitive_may p vs s = tt

-- arithmetic ------------------------------------------------------------------

abbrev Answers : List Fault → Result Num Fault → Type 0
Answers fs (Ok n) = Unit {0}
Answers fs (Err f) = IsAmong f fs

if_answers : (fs : List Fault) (b : Bool) (x y : Result Num Fault) → Answers fs x → Answers fs y → Answers fs (if b then x else y)
if_answers fs true x y p q = p
if_answers fs false x y p q = q

settled_answers : (fs : List Fault) (ty : NumType) (z : ℤ) → Answers (Overflow ∷ fs) (settled ty z)
settled_answers fs (Ty.Uint w) z = tt
settled_answers fs (Ty.Sint w) z = if_answers (Overflow ∷ fs) (in_range (Ty.Sint w) z) _ _ tt (inl refl)
settled_answers fs Ty.Int z = if_answers (Overflow ∷ fs) (in_range Ty.Int z) _ _ tt (inl refl)

op_answers : (o : Op) (ty : NumType) (x y : ℤ) → Answers (faults_at o) (op_of o ty x y)
op_answers op.Add ty x y = settled_answers [] ty (x +ℤ y)
op_answers op.Sub ty x y = settled_answers [] ty (x -ℤ y)
op_answers op.Mul ty x y = settled_answers [] ty (x *ℤ y)
op_answers op.Div ty x y = if_answers (Overflow ∷ DivZero ∷ []) (is_zero y) (Err DivZero) (settled ty (int_div x y)) (inr (inl refl))
    (settled_answers (DivZero ∷ []) ty (int_div x y))
op_answers op.Rem ty x y = if_answers (Overflow ∷ DivZero ∷ []) (is_zero y) (Err DivZero) (settled ty (int_rem x y)) (inr (inl refl))
    (settled_answers (DivZero ∷ []) ty (int_rem x y))
op_answers op.Shl ty x y = if_answers (Overflow ∷ Shift ∷ []) (nat_le (width_of ty) (unsigned_abs y)) (Err Shift) (settled ty (x *ℤ pos (2 ^ unsigned_abs y)))
    (inr (inl refl)) (settled_answers (Shift ∷ []) ty (x *ℤ pos (2 ^ unsigned_abs y)))
op_answers op.Shr ty x y = if_answers (Overflow ∷ Shift ∷ []) (nat_le (width_of ty) (unsigned_abs y)) (Err Shift) (settled ty (int_shr x (unsigned_abs y)))
    (inr (inl refl)) (settled_answers (Shift ∷ []) ty (int_shr x (unsigned_abs y)))
op_answers op.And ty x y = settled_answers [] ty (pos (bit_and (unsigned_abs x) (unsigned_abs y)))
op_answers op.Or ty x y = settled_answers [] ty (pos (bit_or (unsigned_abs x) (unsigned_abs y)))
op_answers op.Xor ty x y = settled_answers [] ty (pos (bit_xor (unsigned_abs x) (unsigned_abs y)))

settled_calm : (fs : List Fault) (ty : NumType) (span : Span) (x : Result Num Fault) → Answers fs x → Calm fs span (settled_at ty span x)
settled_calm fs ty span (Ok n) h = tt
settled_calm fs ty span (Err f) h = (h, refl)

arithmetic_calm : (o : Op) (span : Span) (v w : Value) → Calm (faults_at o) span (arithmetic_value o span v w)
arithmetic_calm o span (number s x) (number t y) = if_calm (faults_at o) span (same_type t (right_type o s) && has_op s o) (settled_at s span (op_of o s x y))
    stuck (settled_calm (faults_at o) s span (op_of o s x y) (op_answers o s x y)) tt
arithmetic_calm o span v w = tt

negated_calm : (span : Span) (v : Value) → Calm (Overflow ∷ []) span (negated span v)
negated_calm span (number ty z) = settled_calm (Overflow ∷ []) ty span (op_of op.Sub ty (pos 0) z) (op_answers op.Sub ty (pos 0) z)
negated_calm span v = tt

infix_calm : (o : Infix) (span : Span) (v w : Value) → Calm (faults_of (c.infix_ o)) span (infix_value o span v (gives w))
infix_calm (I.Arithmetic o) span v w = arithmetic_calm o span v w
infix_calm (I.Compare q) span v w = compared_calm [] span q (key_order v w)
infix_calm I.Beside span v w = beside_calm [] span v w
infix_calm I.Append span v w = appended_calm [] span v w
infix_calm I.And span (boolean true) w = truth_calm [] span w
infix_calm I.And span (boolean false) w = tt
infix_calm I.Or span (boolean true) w = tt
infix_calm I.Or span (boolean false) w = truth_calm [] span w
infix_calm o span v w = tt

prefix_calm : (o : Prefix) (span : Span) (v : Value) → Calm (faults_of (c.prefix_ o)) span (prefix_value o span v)
prefix_calm F.Minus span v = negated_calm span v
prefix_calm F.Not span (boolean b) = tt
prefix_calm F.Complement span v = complement_calm [] span v
prefix_calm o span v = tt

applied_calm : (o : Operation) (vs : Values) (span : Span) → Calm (faults_of o) span (applied o vs span)
applied_calm (c.text bs) no_values span = tt
applied_calm (c.literal n ty) no_values span = number_calm [] span n ty
applied_calm (c.truth b) no_values span = tt
applied_calm c.unit_ no_values span = tt
applied_calm c.nothing_ no_values span = tt
applied_calm c.just_ (value v no_values) span = tt
applied_calm c.list vs span = tt
applied_calm (c.record_ names) vs span = then_calm [] span (named_fields names vs) (λ ws. gives (record_of ws)) (named_calm [] span names vs) (λ ws. tt)
applied_calm (c.union_ name) (value v no_values) span = tt
applied_calm (c.select name) (value v no_values) span = selected_calm [] span name v
applied_calm (c.infix_ o) (value v (value w no_values)) span = infix_calm o span v w
applied_calm (c.prefix_ o) (value v no_values) span = prefix_calm o span v
applied_calm (c.cast q to) (value v no_values) span = cast_calm [] span q to v
applied_calm (c.builtin b) vs span = builtin_calm [] span b vs
applied_calm c.truth_of_ (value v no_values) span = truth_calm [] span v
applied_calm c.count_ (value v no_values) span = then_calm [] span (position_of v) (λ n. gives v) (position_calm [] span v) (λ n. tt)
applied_calm c.most (value (number ty (pos m)) (value (number other (pos n)) no_values)) span = tt
applied_calm c.push (value (array vs) (value v no_values)) span = tt
applied_calm c.less_one (value (number ty (pos n)) no_values) span = tt
applied_calm c.first_position no_values span = tt
applied_calm c.has_position (value w (value i no_values)) span =
    then_calm [] span (elements_count w) _ (many_calm [] span w) (λ n.
    then_calm [] span (position_of i) (λ k. gives (boolean (nat_lt k n))) (position_calm [] span i) (λ k. tt))
applied_calm c.element_at (value w (value i no_values)) span =
    then_calm [] span (position_of i) (λ k. element_there w k) (position_calm [] span i) (λ k. element_calm [] span w k)
applied_calm c.key_at (value w (value i no_values)) span =
    then_calm [] span (position_of i) (λ k. key_there w k) (position_calm [] span i) (λ k. key_calm [] span w k)
applied_calm c.next_position (value w (value i no_values)) span =
    then_calm [] span (elements_count w) _ (many_calm [] span w) (λ n. then_calm [] span (position_of i) _ (position_calm [] span i) (λ k. tt))
applied_calm c.gather (value w (value (array ws) no_values)) span = gathered_calm [] span w ws
applied_calm o vs span = tt

-- what an operation does
pub allowed : ComesTo
allowed c.uint8 no_values span s = byte_may [] span s
allowed (c.match_text bs) no_values span s = match_may [] span bs (array (byte_values bs)) s
allowed c.match (value v no_values) span s = match_value_may [] span v s
allowed c.end no_values span s = end_may [] span s
allowed (c.class test) no_values span s = class_may [] span test s
allowed (c.fail n) no_values span s = (refl, refl)
allowed c.no_case no_values span s = (refl, refl)
allowed (c.primitive p) vs span s = primitive_may [] span p vs s
allowed (c.guard p) (value v no_values) span s = guard_may [] span (matched p v) s
allowed (c.fits to) (value v no_values) span s = fitted_may [] span (fit to v) s
allowed o vs span s = then_may (faults_of o) span (may_fail o) (applied o vs span) (λ v. parsed v s) (applied_calm o vs span) (λ v. refl)
