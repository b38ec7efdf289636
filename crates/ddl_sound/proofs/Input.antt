-- The forms that read bytes, and the built-in grammars, at values of their types.
use Rattle.std.proofs.Common.{◌≡◌, ℕ, ◌==◌, ◌&&◌, List, [], ◌∷◌, Bool, true, false, if◌then◌else◌, Option, Some, None, refl, sym, subst, rules}
use Rattle.std.specs.Prelude.{nat_le}
use Rattle.ddl_base.specs.declared.span.Span.{Span}
use Rattle.ddl_base.specs.declared.why.Why.{Why}
use Rattle.ddl_base.specs.declared.why.Why.TheVariants as why
use Rattle.ddl_types.specs.Layout.{Layout}
use Rattle.ddl_types.specs.Types.{Ty, none}
use Rattle.ddl_types.specs.Value.{Value, Values, Pairs, Stream, array, no_values, value}
use Rattle.ddl_types.specs.Outcome.{Outcome, parsed}
use Rattle.ddl_ops.specs.declared.operators.Primitive.{Primitive}
use Rattle.ddl_ops.specs.declared.operators.Primitive.TheVariants.{GetStream, Offset, SetStream, Take, Drop, Index, Lookup, Insert}
use Rattle.ddl_ops.specs.ByteSets.{class_byte}
use Rattle.ddl_typed.specs.Tree.{Class, those, Spec}
use Rattle.ddl_typed.specs.Env.{Env}
use Rattle.ddl_ops.specs.Numbers.{count_of}
use Rattle.ddl_ops.specs.Arrays.{element}
use Rattle.ddl_ops.specs.Maps.{found, inserted}
use Rattle.ddl_ops.specs.Streams.{remaining, front, behind}
use Rattle.ddl_ops.specs.Primitives.{byte_value, missed_at, has_byte, first_byte, onward, one_byte, at_end, match_bytes, with_bytes, match_value}
use Rattle.ddl_typed.specs.Classes.{class_set}
use Rattle.ddl_ops.specs.Builtins.{primitive_outcome, present, part_of, insert_absent}
use Rattle.ddl_typed.specs.Specification.{Place}
use Rattle.ddl_sound.specs.HasType.{HasType, AllHave, KeysRise, PairsHave, IsStream}
use Rattle.ddl_sound.specs.BasicTypes.{IsKey, array_type, map_type, byte_type, count_type, stream_type, unit_type}
use Rattle.ddl_mono.specs.IsMono.{IsThose}
use Rattle.ddl_sound.specs.Operations.{PrimitiveRule}
use Rattle.ddl_sound.specs.Sound.{Parses}
use Rattle.ddl_sound.proofs.Joins.{then_fine, choice_fine}
use Rattle.ddl_sound.proofs.Reading.{on_unsigned, on_array, on_map, on_stream}
use Rattle.ddl_sound.proofs.Arithmetic.{count_is}
use Rattle.ddl_sound.proofs.Collections.{byte_at, byte_is, onward_is, front_is, behind_is, found_is, inserted_is, Perhaps, count_given, element_is}
use Rattle.ddl_sound.proofs.Operators.{Typed}

module _ (places : List Place) (layouts : List Layout) where
  abbrev Has : Value → Ty → Type 0
  Has w ty = HasType places layouts w ty

  abbrev Fine : Ty → Outcome → Type 0
  Fine ty o = Parses places layouts ty o

  next_byte : (s : Stream) (b : Bool) → (b ≡ true → has_byte s ≡ true) → IsStream s → (span : Span) (why : Why) →
      Fine byte_type (if b then parsed (byte_value (first_byte s)) (onward s) else missed_at why s span)
  next_byte s true e i span why = (byte_is places layouts (first_byte s) byte_type refl (byte_at s.bytes s.from i.0), onward_is s (e refl) i, tt)
  next_byte s false e i span why = tt

  pub one_byte_is : (span : Span) (s : Stream) → IsStream s → Fine byte_type (one_byte span s)
  one_byte_is span s i = next_byte s (has_byte s) (λ e. e) i span _

  pub at_end_is : (span : Span) (s : Stream) → IsStream s → Fine unit_type (at_end span s)
  at_end_is span s i = choice_fine places layouts unit_type (has_byte s) _ _ (λ e. tt) (λ e. (tt, i, tt))

  and_left_true : (a b : Bool) → (a && b) ≡ true → a ≡ true
  and_left_true true b e = refl
  and_left_true false b e = e

  pub class_is : (spec : Spec) (c : Class) (env : Env) (span : Span) (s : Stream) → IsThose c → IsStream s →
      Fine byte_type (class_byte (class_set spec c env) span s)
  class_is spec (those test) env span s ok i = next_byte s (has_byte s && test (first_byte s)) (λ e. and_left_true _ _ e) i span _
  class_is spec _ env span s ok i = absurd ok

  pub match_is : (bs : List ℕ) (w : Value) (ty : Ty) (span : Span) (s : Stream) → Has w ty → IsStream s → Fine ty (match_bytes bs w span s)
  match_is [] w ty span s h i = (h, i, tt)
  match_is (b ∷ bs) w ty span s h i =
      choice_fine places layouts ty (has_byte s) _ _ (λ e. choice_fine places layouts ty (first_byte s == b) _ _
      (λ f. match_is bs w ty span (onward s) h (onward_is s e i)) (λ f. tt)) (λ e. tt)

  with_bytes_is : (vs : Values) (ty : Ty) (k : List ℕ → Outcome) → AllHave places layouts vs byte_type → ((bs : List ℕ) → Fine ty (k bs)) →
      Fine ty (with_bytes vs k)
  with_bytes_is no_values ty k h e = e []
  with_bytes_is (value x vs) ty k (a, h) e =
      on_unsigned places layouts (λ y. Fine ty (with_bytes (value y vs) k)) byte_type 8 refl
      (λ n l. with_bytes_is vs ty (λ bs. k (n ∷ bs)) h (λ bs. e (n ∷ bs))) x a

  pub match_value_is : (w : Value) (span : Span) (s : Stream) → Has w (array_type byte_type) → IsStream s → Fine (array_type byte_type) (match_value w span s)
  match_value_is w span s h i =
      on_array places layouts (λ x. Fine (array_type byte_type) (match_value x span s)) byte_type none
      (λ vs l. with_bytes_is vs (array_type byte_type) (λ bs. match_bytes bs (array vs) span s) l
      (λ bs. match_is bs (array vs) (array_type byte_type) span s l i)) w h

  -- ---- built-in grammars

  present_is : (w : Option Value) (ty : Ty) (why : Why) (span : Span) (s : Stream) → Perhaps places layouts ty w → IsStream s → Fine ty (present w why span s)
  present_is (Some w) ty why span s h i = (h, i, tt)
  present_is None ty why span s h i = tt

  part_is : (n : ℕ) (from part : Stream) (why : Why) (span : Span) (s : Stream) → (nat_le n (remaining from) ≡ true → IsStream part) → IsStream s →
      Fine stream_type (part_of n from part why span s)
  part_is n from part why span s h i = choice_fine places layouts stream_type (nat_le n (remaining from)) _ _ (λ e. (h e, i, tt)) (λ e. tt)

  insert_is : (old : Option Value) (k x : Value) (ps : Pairs) (key ty : Ty) (span : Span) (s : Stream) → IsKey key → Has k key → Has x ty → KeysRise ps →
      PairsHave places layouts ps key ty → IsStream s → Fine (map_type key ty) (insert_absent old k x ps span s)
  insert_is None k x ps key ty span s ok h g r p i =
      then_fine places layouts _ (map_type key ty) (inserted k x ps) _ (inserted_is places layouts k x ps key ty ok h g r p) (λ qs q. (q, i, tt))
  insert_is (Some old) k x ps key ty span s ok h g r p i = tt

  element_there : (vs : Values) (n : ℕ) (ty : Ty) (o : Option Value) → element vs n ≡ o → AllHave places layouts vs ty → Perhaps places layouts ty o
  element_there vs n ty (Some w) e h = element_is places layouts vs n ty w h e
  element_there vs n ty None e h = tt

  as_ : (a b : Ty) (w : Value) → a ≡ b → Has w a → Has w b
  as_ a b w e h = subst (λ u. Has w u) e h

  back : (a b : Ty) (o : Outcome) → a ≡ b → Fine b o → Fine a o
  back a b o e h = subst (λ u. Fine u o) (sym e) h

  pub primitive_is : (p : Primitive) (tys : List Ty) (ty : Ty) (vs : Values) (span : Span) (s : Stream) → PrimitiveRule p tys ty →
      Typed places layouts vs tys → IsStream s → Fine ty (primitive_outcome p vs span s)
  primitive_is GetStream [] ty no_values span s e h i = back ty stream_type (primitive_outcome GetStream no_values span s) e (i, i, tt)
  primitive_is Offset [] ty no_values span s e h i =
      back ty count_type (primitive_outcome Offset no_values span s) e (count_is places layouts count_type s.from refl, i, tt)
  primitive_is SetStream (a ∷ []) ty (value x no_values) span s (ea, e) (h, k) i =
      back ty unit_type (primitive_outcome SetStream (value x no_values) span s) e
      (on_stream places layouts (λ x. Fine unit_type (primitive_outcome SetStream (value x no_values) span s)) none (λ r l. (tt, l, tt)) x
      (as_ a stream_type x ea h))
  primitive_is Take (n ∷ a ∷ []) ty (value c (value x no_values)) span s (ok, ea, e) (h, (k, l)) i =
      back ty stream_type (primitive_outcome Take (value c (value x no_values)) span s) e
      (on_stream places layouts (λ x. Fine stream_type (primitive_outcome Take (value c (value x no_values)) span s)) none
      (λ r j. then_fine places layouts _ stream_type (count_of c) _ (count_given places layouts n c ok h)
      (λ m q. part_is m r (front m r) why.Take span s (λ le. front_is m r le j) i)) x (as_ a stream_type x ea k))
  primitive_is Drop (n ∷ a ∷ []) ty (value c (value x no_values)) span s (ok, ea, e) (h, (k, l)) i =
      back ty stream_type (primitive_outcome Drop (value c (value x no_values)) span s) e
      (on_stream places layouts (λ x. Fine stream_type (primitive_outcome Drop (value c (value x no_values)) span s)) none
      (λ r j. then_fine places layouts _ stream_type (count_of c) _ (count_given places layouts n c ok h)
      (λ m q. part_is m r (behind m r) why.Drop span s (λ le. behind_is m r le j) i)) x (as_ a stream_type x ea k))
  primitive_is Index (a ∷ n ∷ []) ty (value x (value c no_values)) span s (ok, ea) (h, (k, l)) i =
      on_array places layouts (λ x. Fine ty (primitive_outcome Index (value x (value c no_values)) span s)) ty none
      (λ vs j. then_fine places layouts _ ty (count_of c) _ (count_given places layouts n c ok k)
      (λ m q. present_is (element vs m) ty why.Index span s (element_there vs m ty _ refl j) i)) x (as_ a (array_type ty) x ea h)
  primitive_is Lookup (k ∷ m ∷ []) ty (value a (value x no_values)) span s (ok, em) (h, (j, l)) i =
      on_map places layouts (λ x. Fine ty (primitive_outcome Lookup (value a (value x no_values)) span s)) k ty none
      (λ ps r p. then_fine places layouts _ ty (found a ps) _ (found_is places layouts a ps k ty ok h p) (λ w q. present_is w ty why.Lookup span s q i)) x
      (as_ m (map_type k ty) x em j)
  primitive_is Insert (k ∷ w ∷ m ∷ []) ty (value a (value b (value x no_values))) span s (ok, em, e) (h, (g, (j, l))) i =
      back ty (map_type k w) (primitive_outcome Insert (value a (value b (value x no_values))) span s) e
      (on_map places layouts (λ x. Fine (map_type k w) (primitive_outcome Insert (value a (value b (value x no_values))) span s)) k w none
      (λ ps r p. then_fine places layouts _ (map_type k w) (found a ps) _ (found_is places layouts a ps k w ok h p)
      (λ o q. insert_is o a b ps k w span s ok h g r p i)) x (as_ m (map_type k w) x em j))
  primitive_is _ tys ty vs span s ok h i = absurd (search (rules, ok, h))
