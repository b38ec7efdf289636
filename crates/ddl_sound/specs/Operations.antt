-- Operators, casts and what is built in: the types of their parts, and of what they give.
use Rattle.std.specs.Prelude.{◌≡◌, ◌≤◌, ℕ, ◌+◌, true, List, [], ◌∷◌, pos, ℤ, Some}
use Rattle.ddl_types.specs.declared.num.NumType.{NumType}
use Rattle.ddl_types.specs.declared.num.NumType.TheVariants as num
use Rattle.ddl_types.specs.Num.{in_range, width_of}
use Rattle.ddl_types.specs.Layout.{Layout, width, fits}
use Rattle.ddl_types.specs.Types.{Ty, Tys, Head, con, none, uint, array_of, bits}
use Rattle.ddl_types.specs.Types as t
use Rattle.ddl_arith.specs.Exact.{right_type, has_op}
use Rattle.ddl_ops.specs.declared.operators.Infix.{Infix}
use Rattle.ddl_ops.specs.declared.operators.Infix.TheVariants.{Arithmetic, Compare, Beside, Append, And, Or}
use Rattle.ddl_ops.specs.declared.operators.Prefix.{Prefix}
use Rattle.ddl_ops.specs.declared.operators.Prefix.TheVariants.{Minus, Not, Complement}
use Rattle.ddl_ops.specs.declared.operators.Cast.{Cast}
use Rattle.ddl_ops.specs.declared.operators.Cast.TheVariants.{Keep, Cut}
use Rattle.ddl_ops.specs.declared.operators.Builtin.{Builtin}
use Rattle.ddl_ops.specs.declared.operators.Builtin.TheVariants.{Length, Concat, ArrayStream, BytesOfStream, Empty, InsertInto, LookupIn}
use Rattle.ddl_ops.specs.declared.operators.Primitive.{Primitive}
use Rattle.ddl_ops.specs.declared.operators.Primitive.TheVariants.{GetStream, Offset, SetStream, Take, Drop, Index, Lookup, Insert}
use Rattle.ddl_ops.specs.Numbers.{number_type}
use Rattle.ddl_ops.specs.Bitdata.{layout_at}
use Rattle.ddl_sound.specs.BasicTypes.{byte_type, count_type, unit_type, stream_type, array_type, maybe_type, map_type, IsBool, IsUnsigned, IsNumeric, IsKey}

-- the types of both sides and of the result: an operation stays in the type of its left side, keys of one type are
-- compared, bits that stand beside each other are at most 128
abbrev pub InfixRule : Infix → Ty → Ty → Ty → Type 0
InfixRule (Arithmetic op) a b ty =
    (s : NumType) × (number_type a ≡ Some s) × (number_type b ≡ Some (right_type op s)) × (has_op s op ≡ true) ×
    (number_type ty ≡ Some s)
InfixRule (Compare c) a b ty = IsKey a × (b ≡ a) × IsBool ty
InfixRule Beside (con (uint m) ts) (con (uint n) us) ty = (m + n ≤ 128) × (number_type ty ≡ Some (num.Uint (m + n)))
InfixRule Append (con (uint m) ts) (con (uint n) us) ty = number_type ty ≡ Some (num.Uint m)
InfixRule And a b ty = IsBool a × IsBool b × IsBool ty
InfixRule Or a b ty = IsBool a × IsBool b × IsBool ty
InfixRule op a b ty = ⊥

abbrev pub PrefixRule : Prefix → Ty → Ty → Type 0
PrefixRule Minus a ty = (s : NumType) × (number_type a ≡ Some s) × (number_type ty ≡ Some s)
PrefixRule Not a ty = IsBool a × IsBool ty
PrefixRule Complement (con (uint w) ts) ty = number_type ty ≡ Some (num.Uint w)
PrefixRule op a ty = ⊥

-- `as!` leads from a number or a bitdata to a number
abbrev pub Cuts : Ty → Ty → Type 0
Cuts a b = IsNumeric a × ((r : NumType) × (number_type b ≡ Some r) × (1 ≤ width_of r))

-- the arguments' types of a built-in value, and the type of its value
abbrev pub BuiltinRule : Builtin → List Ty → Ty → Type 0
BuiltinRule Length (con array_of (t.more a none) ∷ []) ty = ty ≡ count_type
BuiltinRule Concat (con array_of (t.more (con array_of (t.more a none)) none) ∷ []) ty = ty ≡ array_type a
BuiltinRule ArrayStream (a ∷ []) ty = (a ≡ array_type byte_type) × (ty ≡ stream_type)
BuiltinRule BytesOfStream (a ∷ []) ty = (a ≡ stream_type) × (ty ≡ array_type byte_type)
BuiltinRule Empty [] ty = (k : Ty) × ((w : Ty) × (ty ≡ map_type k w))
BuiltinRule InsertInto (k ∷ w ∷ m ∷ []) ty = IsKey k × (m ≡ map_type k w) × (ty ≡ map_type k w)
BuiltinRule LookupIn (k ∷ m ∷ []) ty = IsKey k × ((w : Ty) × (m ≡ map_type k w) × (ty ≡ maybe_type w))
BuiltinRule b tys ty = ⊥

-- the same of a built-in grammar
abbrev pub PrimitiveRule : Primitive → List Ty → Ty → Type 0
PrimitiveRule GetStream [] ty = ty ≡ stream_type
PrimitiveRule Offset [] ty = ty ≡ count_type
PrimitiveRule SetStream (a ∷ []) ty = (a ≡ stream_type) × (ty ≡ unit_type)
PrimitiveRule Take (n ∷ a ∷ []) ty = IsUnsigned n × (a ≡ stream_type) × (ty ≡ stream_type)
PrimitiveRule Drop (n ∷ a ∷ []) ty = IsUnsigned n × (a ≡ stream_type) × (ty ≡ stream_type)
PrimitiveRule Index (a ∷ n ∷ []) ty = IsUnsigned n × (a ≡ array_type ty)
PrimitiveRule Lookup (k ∷ m ∷ []) ty = IsKey k × (m ≡ map_type k ty)
PrimitiveRule Insert (k ∷ w ∷ m ∷ []) ty = IsKey k × (m ≡ map_type k w) × (ty ≡ map_type k w)
PrimitiveRule p tys ty = ⊥

module _ (layouts : List Layout) where
  -- `as` loses nothing: the types are the same, or each number of the one is in the other's range or fits its layout
  pub data Lossless : Ty → Ty → Type 0 where
    same : {h : Head} {ts : Tys} → Lossless (con h ts) (con h ts)
    numbers : {a b : Ty} {s r : NumType} → number_type a ≡ Some s → number_type b ≡ Some r →
        ((z : ℤ) → in_range s z ≡ true → in_range r z ≡ true) → Lossless a b
    bits_number : {m : ℕ} {ts : Tys} {b : Ty} {l : Layout} {r : NumType} →
        layout_at layouts m ≡ Some l → number_type b ≡ Some r →
        ((n : ℕ) → fits l n ≡ true → in_range r (pos n) ≡ true) → Lossless (con (bits m) ts) b
    number_bits : {w m : ℕ} {us ts : Tys} {l : Layout} → layout_at layouts m ≡ Some l → w ≡ width l →
        ((n : ℕ) → in_range (num.Uint w) (pos n) ≡ true → fits l n ≡ true) →
        Lossless (con (uint w) us) (con (bits m) ts)

  -- `as?` leads to the same type, from a number or a bitdata to a number, or from a number to a bitdata of its width
  pub data MayFit : Ty → Ty → Type 0 where
    fits_same : {h : Head} {ts : Tys} → MayFit (con h ts) (con h ts)
    fits_number : {a b : Ty} {r : NumType} → IsNumeric a → number_type b ≡ Some r → MayFit a b
    fits_bits : {w m : ℕ} {us ts : Tys} {l : Layout} → layout_at layouts m ≡ Some l → w ≡ width l →
        MayFit (con (uint w) us) (con (bits m) ts)

  abbrev pub CastRule : Cast → Ty → Ty → Type 0
  CastRule Keep a b = Lossless a b
  CastRule Cut a b = Cuts a b
