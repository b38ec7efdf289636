-- The value that a word stands for, by its type.
use Rattle.std.specs.Prelude.{ℕ, zero, suc, List, [], ◌∷◌, ◌++◌, map, pos, Option, Some, None, slice_get}
use Rattle.ddl_types.specs.declared.num.NumType.TheVariants as N
use Rattle.ddl_types.specs.Types.{Ty, Tys, Head, Sub, var, con, none, more, on, arguments}
use Rattle.ddl_types.specs.Types as t
use Rattle.ddl_types.specs.Value.{Value, Values, Fields, Pairs, Source, in_input, in_array, number, bitdata, boolean, unit, nothing, just, fields, tagged}
use Rattle.ddl_types.specs.Value.{array, mapping, stream, no_values, value, no_fields, field, no_pairs, pair}
use Rattle.ddl_types.specs.Value as values
use Rattle.ddl_slots.specs.declared.node.Node.{Node}
use Rattle.ddl_slots.specs.declared.node.NodeKind.{NodeKind}
use Rattle.ddl_slots.specs.declared.node.NodeKind.TheVariants as K
use Rattle.ddl_slots.specs.declared.word.Origin.{Origin}
use Rattle.ddl_slots.specs.declared.word.Origin.TheVariants as O
use Rattle.ddl_slots.specs.declared.word.Stream.{Stream}
use Rattle.ddl_slots.specs.declared.word.Word.{Word}
use Rattle.ddl_slots.specs.declared.word.Word.TheVariants as W
use Rattle.ddl_slots.specs.Slots.{Entry, Slots, entry, live}
use Rattle.ddl_core.specs.Places.{PlaceShape, record_shape, union_shape}
use Rattle.ddl_blocks.specs.Code.{ValueType, of_type, builder, thread}
use Rattle.ddl_blocks.specs.Machine.{number_value}
use Rattle.ddl_blocks.specs.Places.{listed, place_at, bits_at}

-- what is there, and then what that gives
abbrev pub and_there : {A B : Type 0} → Option A → (A → Option B) → Option B
and_there (Some x) rest = rest x
and_there None rest = None

-- the node that a word refers to; its slot must be live
abbrev pub node_in : Option Entry → Option Node
node_in None = None
node_in (Some e) = Some e.node

abbrev pub node_at : Slots → Word → Option Node
node_at m (W.Ref id) = node_in (entry m id.key)
node_at m w = None

-- the bytes of an array of them
abbrev pub bytes_by : NodeKind → List ℕ → Option (List ℕ)
bytes_by K.ByteArray bs = Some bs
bytes_by kind bs = None

-- the elements of an array
abbrev pub elements_by : NodeKind → List Word → List ℕ → Option (List Word)
elements_by K.Array ws bs = Some ws
elements_by K.ByteArray ws bs = Some (map W.Uint bs)
elements_by kind ws bs = None

abbrev pub elements_at : Slots → Word → Option (List Word)
elements_at m w = and_there (node_at m w) (λ n. elements_by n.kind n.words n.bytes)

-- the keys and values of a map
abbrev pub entries_by : NodeKind → List Word → Option (List Word)
entries_by K.MapNode ws = Some ws
entries_by kind ws = None

abbrev pub entries_at : Slots → Word → Option (List Word)
entries_at m w = and_there (node_at m w) (λ n. entries_by n.kind n.words)

-- the content of a `just` or of a union
abbrev pub content_by : NodeKind → List Word → Option Word
content_by K.Just (w ∷ []) = Some w
content_by (K.Union tag) (w ∷ []) = Some w
content_by kind ws = None

-- the elements of a builder: those of the builder before it, and its own
abbrev pub items_by : (Word → Option (List Word)) → NodeKind → List Word → Option (List Word)
items_by before K.Builder (w ∷ ws) = and_there (before w) (λ us. Some (us ++ ws))
items_by before kind ws = None

abbrev pub items_in : ℕ → Slots → Word → Option (List Word)
items_in n m W.Unit = Some []
items_in zero m w = None
items_in (suc n) m w = and_there (node_at m w) (λ k. items_by (items_in n m) k.kind k.words)

-- no chain is longer than the number of live slots
abbrev pub items_at : Slots → Word → Option (List Word)
items_at m w = items_in (live m) m w

-- values, pairs and fields of words in order
abbrev pub values_by : (Word → Option Value) → List Word → Option Values
values_by of [] = Some no_values
values_by of (w ∷ ws) = and_there (of w) (λ v. and_there (values_by of ws) (λ vs. Some (value v vs)))

abbrev pub pairs_by : (Word → Option Value) → (Word → Option Value) → List Word → Option Pairs
pairs_by key of [] = Some no_pairs
pairs_by key of (w ∷ []) = None
pairs_by key of (w ∷ u ∷ ws) = and_there (key w) (λ k. and_there (of u) (λ v. and_there (pairs_by key of ws) (λ ps. Some (pair k v ps))))

abbrev pub fields_by : (Ty → Word → Option Value) → List (List ℕ) → List Ty → List Word → Option Fields
fields_by of [] [] [] = Some no_fields
fields_by of (name ∷ names) (ty ∷ types) (w ∷ ws) = and_there (of ty w) (λ v. and_there (fields_by of names types ws) (λ fs. Some (field name v fs)))
fields_by of names types ws = None

-- the value of a node at a place whose variables have these types
abbrev pub placed_by : (Ty → Word → Option Value) → Sub → PlaceShape → NodeKind → List Word → Option Value
placed_by of args (record_shape names types) K.Record ws = and_there (fields_by (λ ty w. of (on ty args) w) names types ws) (λ fs. Some (fields fs))
placed_by of args (union_shape tags types) (K.Union tag) (w ∷ []) =
    and_there (slice_get tags tag) (λ name. and_there (slice_get types tag) (λ ty. and_there (of (on ty args) w) (λ v. Some (tagged name v))))
placed_by of args shape kind ws = None

abbrev pub source_of : Origin → Source
source_of O.Input = in_input
source_of (O.Array id) = in_array

module _ (places : List PlaceShape) (input : List ℕ) (m : Slots) where
  -- the bytes that a stream goes over
  abbrev pub origin_bytes : Origin → Option (List ℕ)
  origin_bytes O.Input = Some input
  origin_bytes (O.Array id) = and_there (node_in (entry m id.key)) (λ n. bytes_by n.kind n.bytes)

  abbrev pub stream_at : Stream → Option values.Stream
  stream_at s = and_there (origin_bytes s.origin) (λ bs. Some (record { bytes = bs; source = source_of s.origin; from = s.from; to = s.to }))

  -- one level of a value, where what is inside is read already
  abbrev pub read_by : (Ty → Word → Option Value) → Head → Tys → Word → Option Value
  read_by of t.int ts (W.Sint z) = Some (number N.Int z)
  read_by of (t.uint width) ts (W.Uint n) = Some (number (N.Uint width) (pos n))
  read_by of (t.sint width) ts (W.Sint z) = Some (number (N.Sint width) z)
  read_by of t.bool ts (W.Bool b) = Some (boolean b)
  read_by of t.unit ts W.Unit = Some unit
  read_by of t.stream ts (W.Stream s) = and_there (stream_at s) (λ p. Some (stream p))
  read_by of (t.bits b) ts (W.Uint n) = and_there (bits_at places b) (λ l. Some (bitdata l n))
  read_by of t.maybe_of (more ty none) W.Unit = Some nothing
  read_by of t.maybe_of (more ty none) (W.Ref id) =
      and_there (node_at m (W.Ref id)) (λ n. and_there (content_by n.kind n.words) (λ w. and_there (of ty w) (λ v. Some (just v))))
  read_by of t.array_of (more ty none) (W.Ref id) = and_there (elements_at m (W.Ref id)) (λ ws. and_there (values_by (of ty) ws) (λ vs. Some (array vs)))
  read_by of t.map_of (more k (more v none)) (W.Ref id) =
      and_there (entries_at m (W.Ref id)) (λ ws. and_there (pairs_by (of k) (of v) ws) (λ ps. Some (mapping ps)))
  read_by of (t.place p) ts (W.Ref id) =
      and_there (node_at m (W.Ref id)) (λ n. and_there (place_at places p) (λ shape. placed_by of (arguments (listed ts)) shape n.kind n.words))
  read_by of h ts w = None

  abbrev pub read : ℕ → Ty → Word → Option Value
  read zero ty w = None
  read (suc n) (var v) w = None
  read (suc n) (con h ts) w = read_by (read n) h ts w

  -- the value that a word stands for; it nests no deeper than the number of live slots
  abbrev pub value_of : ValueType → Word → Option Value
  value_of (of_type ty) w = read (suc (live m)) ty w
  value_of (builder ty) w = and_there (items_at m w) (λ ws. and_there (values_by (read (suc (live m)) ty) ws) (λ vs. Some (array vs)))
  value_of thread (W.Thread n) = Some (number_value n)
  value_of thread w = None
