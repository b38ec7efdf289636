-- Where the result of an operation stands: in a word that is there, or in one new node.
use Rattle.std.specs.Prelude.{ℕ, zero, suc, ◌+◌, ◌==◌, Bool, true, false, List, [], ◌∷◌, ◌++◌, unsigned_abs, bytes_eq, nat_eq, if◌then◌else◌, Option, Some}
use Rattle.std.specs.Prelude.{None, slice_get}
use Rattle.std.specs.declared.cmp.Ordering.{Ordering}
use Rattle.std.specs.declared.cmp.Ordering.TheVariants.{Equal}
use Rattle.ddl_types.specs.declared.num.NumType.TheVariants as N
use Rattle.ddl_types.specs.Types.{Ty, con, none, more}
use Rattle.ddl_types.specs.Types as t
use Rattle.ddl_types.specs.Value.{Value, Fields, Pairs, number, bitdata, boolean, unit, nothing, fields, array, mapping, stream, no_fields, field, no_pairs}
use Rattle.ddl_types.specs.Value.{pair}
use Rattle.ddl_ops.specs.Arrays.{bytes_of}
use Rattle.ddl_ops.specs.Comparisons.{key_order}
use Rattle.ddl_ops.specs.Valued.{Given, gives}
use Rattle.ddl_ops.specs.declared.operators.Builtin.TheVariants.{Concat, ArrayStream, InsertInto, LookupIn}
use Rattle.ddl_ops.specs.declared.operators.Primitive.TheVariants.{GetStream, Take, Drop, Index, Lookup, Insert}
use Rattle.ddl_core.specs.Core.{Operation, just_, list, record_, union_, select, cast, builtin, push, element_at, key_at, gather, match, primitive, guard, fits}
use Rattle.ddl_core.specs.Operations.{count_pairs, position_of}
use Rattle.ddl_slots.specs.declared.node.Node.{Node}
use Rattle.ddl_slots.specs.declared.node.NodeKind.{NodeKind}
use Rattle.ddl_slots.specs.declared.node.NodeKind.TheVariants as K
use Rattle.ddl_slots.specs.declared.word.Origin.TheVariants as O
use Rattle.ddl_slots.specs.declared.word.Stream.{Stream}
use Rattle.ddl_slots.specs.declared.word.Word.{Word}
use Rattle.ddl_slots.specs.declared.word.Word.TheVariants as W
use Rattle.ddl_slots.specs.Slots.{Entry, Slots, entry}
use Rattle.ddl_core.specs.Places.{PlaceShape, record_shape, union_shape, bits_shape}
use Rattle.ddl_blocks.specs.Code.{ValueType, of_type}
use Rattle.ddl_blocks.specs.Code as code
use Rattle.ddl_blocks.specs.Machine.{one_more}
use Rattle.ddl_blocks.specs.Places.{place_at}
use Rattle.ddl_blocks.specs.Reading.{and_there, node_at, elements_at, entries_at, content_by}

-- a word that is there, or a new node
pub data Placed : Type 0 where
  as_word : Word → Placed
  as_node : Node → Placed

abbrev pub node_of : NodeKind → List Word → Node
node_of kind ws = record { kind = kind; words = ws; bytes = [] }

abbrev pub new_node : NodeKind → List Word → Option Placed
new_node kind ws = Some (as_node (node_of kind ws))

abbrev pub byte_node : List ℕ → Option Placed
byte_node bs = Some (as_node (record { kind = K.ByteArray; words = []; bytes = bs }))

-- a word that must be there
abbrev pub the_word : Option Word → Option Placed
the_word o = and_there o (λ w. Some (as_word w))

-- numbers, booleans, `{}` and what is absent are words
abbrev pub word_in : Value → Option Word
word_in (number N.Int z) = Some (W.Sint z)
word_in (number (N.Uint width) z) = Some (W.Uint (unsigned_abs z))
word_in (number (N.Sint width) z) = Some (W.Sint z)
word_in (bitdata l n) = Some (W.Uint n)
word_in (boolean b) = Some (W.Bool b)
word_in unit = Some W.Unit
word_in nothing = Some W.Unit
word_in v = None

-- the bytes of an array of them
abbrev pub given_in : {A : Type 0} → Given A → Option A
given_in (gives x) = Some x
given_in o = None

abbrev pub bytes_in : Value → Option (List ℕ)
bytes_in (array vs) = given_in (bytes_of vs)
bytes_in v = None

abbrev pub byte_words : List Word → Option (List ℕ)
byte_words [] = Some []
byte_words (W.Uint n ∷ ws) = and_there (byte_words ws) (λ bs. Some (n ∷ bs))
byte_words ws = None

-- an array of these elements: bytes stand as bytes
abbrev pub is_byte : Ty → Bool
is_byte (con (t.uint width) none) = width == 8
is_byte ty = false

abbrev pub array_of : Ty → List Word → Option Placed
array_of ty ws = if is_byte ty then and_there (byte_words ws) byte_node else new_node K.Array ws

abbrev pub array_at : ValueType → List Word → Option Placed
array_at (of_type (con t.array_of (more ty none))) ws = array_of ty ws
array_at (code.builder ty) [] = Some (as_word W.Unit)
array_at ty ws = None

-- one element more: in a builder that nothing else refers to beside the others, else in a node of its own
abbrev pub pushed_on : Option Entry → Word → Word → Option Placed
pushed_on None w item = None
pushed_on (Some e) w item = if nat_eq e.count 1 then new_node K.Builder (e.node.words ++ item ∷ []) else new_node K.Builder (w ∷ item ∷ [])

abbrev pub pushed_to : Slots → List Word → Option Placed
pushed_to m (W.Unit ∷ item ∷ []) = new_node K.Builder (W.Unit ∷ item ∷ [])
pushed_to m (W.Ref id ∷ item ∷ []) = pushed_on (entry m id.key) (W.Ref id) item
pushed_to m ws = None

-- the place of a name in a list
abbrev pub index_of : List (List ℕ) → List ℕ → Option ℕ
index_of [] name = None
index_of (other ∷ names) name = if bytes_eq other name then Some 0 else one_more (index_of names name)

abbrev pub names_in : PlaceShape → List (List ℕ)
names_in (record_shape names types) = names
names_in (union_shape tags types) = tags
names_in (bits_shape name l) = []

-- the place of a key in a map
abbrev pub is_same : Option Ordering → Bool
is_same (Some Equal) = true
is_same o = false

abbrev pub key_index : Value → Pairs → Option ℕ
key_index k no_pairs = None
key_index k (pair other v ps) = if is_same (key_order k other) then Some 0 else one_more (key_index k ps)

abbrev pub index_in : Value → Value → Option ℕ
index_in k (mapping ps) = key_index k ps
index_in k v = None

-- the key and the value at a place, among the words of a map
abbrev pub key_word : List Word → ℕ → Option Word
key_word ws i = slice_get ws (i + i)

abbrev pub value_word : List Word → ℕ → Option Word
value_word ws i = slice_get ws (suc (i + i))

-- a key with its value at a place: in place of another one, or before it
abbrev pub entry_put : ℕ → Bool → Word → Word → List Word → List Word
entry_put zero true key item (k ∷ v ∷ ws) = key ∷ item ∷ ws
entry_put (suc i) same key item (k ∷ v ∷ ws) = k ∷ v ∷ entry_put i same key item ws
entry_put i same key item ws = key ∷ item ∷ ws

-- two maps have as many keys
abbrev pub same_size : Value → Value → Bool
same_size (mapping ps) (mapping qs) = nat_eq (count_pairs ps) (count_pairs qs)
same_size v w = false

abbrev pub entry_into : Slots → List Word → List Value → Value → Option Placed
entry_into m (key ∷ item ∷ w ∷ []) (k ∷ u ∷ old ∷ []) v =
    and_there (index_in k v) (λ i. and_there (entries_at m w) (λ ws. new_node K.MapNode (entry_put i (same_size old v) key item ws)))
entry_into m ws vs v = None

-- the value of a key
abbrev pub found_in : Slots → List Word → List Value → Option Word
found_in m (key ∷ w ∷ []) (k ∷ old ∷ []) = and_there (index_in k old) (λ i. and_there (entries_at m w) (λ ws. value_word ws i))
found_in m ws vs = None

-- the element at a position of an array or of a map
abbrev pub element_in : Slots → Word → Value → ℕ → Option Word
element_in m w (mapping ps) i = and_there (entries_at m w) (λ ws. value_word ws i)
element_in m w v i = and_there (elements_at m w) (λ ws. slice_get ws i)

abbrev pub element_of : Slots → List Word → List Value → Option Word
element_of m (w ∷ i ∷ []) (v ∷ k ∷ []) = and_there (given_in (position_of k)) (λ n. element_in m w v n)
element_of m ws vs = None

abbrev pub key_of : Slots → List Word → List Value → Option Word
key_of m (w ∷ i ∷ []) (v ∷ k ∷ []) = and_there (given_in (position_of k)) (λ n. and_there (entries_at m w) (λ ws. key_word ws n))
key_of m ws vs = None

-- the keys of a map with other values
abbrev pub rekeyed : List Word → List Word → List Word
rekeyed (k ∷ v ∷ ws) (u ∷ us) = k ∷ u ∷ rekeyed ws us
rekeyed ws us = []

abbrev pub gathered_in : Slots → List Word → Value → Option Placed
gathered_in m (w ∷ u ∷ []) (mapping ps) = and_there (entries_at m w) (λ ws. and_there (elements_at m u) (λ us. new_node K.MapNode (rekeyed ws us)))
gathered_in m (w ∷ u ∷ []) v = Some (as_word u)
gathered_in m ws v = None

-- the elements of arrays, one array after the other
abbrev pub joined : Slots → List Word → Option (List Word)
joined m [] = Some []
joined m (w ∷ ws) = and_there (elements_at m w) (λ us. and_there (joined m ws) (λ vs. Some (us ++ vs)))

abbrev pub joined_in : Slots → List Word → Option (List Word)
joined_in m (w ∷ []) = and_there (elements_at m w) (joined m)
joined_in m ws = None

-- a stream over the bytes of an array, and a part of a stream
abbrev pub stream_over : List Word → Value → Option Placed
stream_over (W.Ref id ∷ []) (stream s) = Some (as_word (W.Stream (record { origin = O.Array id; from = s.from; to = s.to })))
stream_over ws v = None

abbrev pub part_in : List Word → Value → Option Placed
part_in (w ∷ W.Stream from ∷ []) (stream s) = Some (as_word (W.Stream (record { origin = from.origin; from = s.from; to = s.to })))
part_in ws v = None

-- the fields of a bitdata's constructor, which are words
abbrev pub field_words : Fields → Option (List Word)
field_words no_fields = Some []
field_words (field name v fs) = and_there (word_in v) (λ w. and_there (field_words fs) (λ ws. Some (w ∷ ws)))

-- the content of a value that has a pattern
abbrev pub content_of : Option Node → Value → Option Placed
content_of (Some n) v = the_word (content_by n.kind n.words)
content_of None (fields fs) = and_there (field_words fs) (new_node K.Record)
content_of None v = None

abbrev pub content_at : Slots → List Word → Value → Option Placed
content_at m (w ∷ []) v = content_of (node_at m w) v
content_at m ws v = None

abbrev pub placed_word : Option Word → Option Placed → Option Placed
placed_word (Some w) later = Some (as_word w)
placed_word None later = later

-- the content of a pattern: a word, or as it stands
abbrev pub placed_content : Slots → List Word → Value → Option Placed
placed_content m ws v = placed_word (word_in v) (content_at m ws v)

-- the one argument, as it stands
abbrev pub same_word : List Word → Option Placed
same_word (w ∷ []) = Some (as_word w)
same_word ws = None

module _ (places : List PlaceShape) (m : Slots) (at : Stream) where
  -- the shape of the record or union that a type is
  abbrev pub shape_of : ValueType → Option PlaceShape
  shape_of (of_type (con (t.place p) ts)) = place_at places p
  shape_of ty = None

  -- a union of a tag, and the field of a record
  abbrev pub tagged_at : ValueType → List ℕ → List Word → Option Placed
  tagged_at ty name ws = and_there (shape_of ty) (λ shape. and_there (index_of (names_in shape) name) (λ i. new_node (K.Union i) ws))

  abbrev pub selected_at : List ValueType → List ℕ → List Word → Option Word
  selected_at (ty ∷ []) name (w ∷ []) =
      and_there (shape_of ty) (λ shape. and_there (index_of (names_in shape) name) (λ i. and_there (node_at m w) (λ n. slice_get n.words i)))
  selected_at types name ws = None

  -- a result that is no word, of an operation at arguments with these types, words and values
  abbrev pub placed_by : Operation → ValueType → List ValueType → List Word → List Value → Value → Option Placed
  placed_by just_ ty types ws vs v = new_node K.Just ws
  placed_by list ty types ws vs v = array_at ty ws
  placed_by (record_ names) ty types ws vs v = new_node K.Record ws
  placed_by (union_ name) ty types ws vs v = tagged_at ty name ws
  placed_by (select name) ty types ws vs v = the_word (selected_at types name ws)
  placed_by (cast c to) ty types ws vs v = same_word ws
  placed_by (fits to) ty types ws vs v = same_word ws
  placed_by match ty types ws vs v = same_word ws
  placed_by push ty types ws vs v = pushed_to m ws
  placed_by element_at ty types ws vs v = the_word (element_of m ws vs)
  placed_by key_at ty types ws vs v = the_word (key_of m ws vs)
  placed_by gather ty types ws vs v = gathered_in m ws v
  placed_by (guard p) ty types ws vs v = content_at m ws v
  placed_by (builtin Concat) ty types ws vs v = and_there (joined_in m ws) (array_at ty)
  placed_by (builtin ArrayStream) ty types ws vs v = stream_over ws v
  placed_by (builtin InsertInto) ty types ws vs v = entry_into m ws vs v
  placed_by (builtin LookupIn) ty types ws vs v = and_there (found_in m ws vs) (λ w. new_node K.Just (w ∷ []))
  placed_by (primitive GetStream) ty types ws vs v = Some (as_word (W.Stream at))
  placed_by (primitive Take) ty types ws vs v = part_in ws v
  placed_by (primitive Drop) ty types ws vs v = part_in ws v
  placed_by (primitive Index) ty types ws vs v = the_word (element_of m ws vs)
  placed_by (primitive Lookup) ty types ws vs v = the_word (found_in m ws vs)
  placed_by (primitive Insert) ty types ws vs v = entry_into m ws vs v
  placed_by op ty types ws vs (mapping no_pairs) = new_node K.MapNode []
  placed_by op ty types ws vs v = and_there (bytes_in v) byte_node

  -- the result of an operation
  abbrev pub placed : Operation → ValueType → List ValueType → List Word → List Value → Value → Option Placed
  placed op ty types ws vs v = placed_word (word_in v) (placed_by op ty types ws vs v)
