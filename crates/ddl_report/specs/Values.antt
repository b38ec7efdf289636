-- The JSON of printable values.
use Rattle.std.specs.Prelude.{ℕ, List, [], ◌∷◌, ◌++◌, Bool, if◌then◌else◌, codes}
use Rattle.serde_json.specs.Data.{Data, null, boolean, string, array, object, Items, no_items, item, Members, no_members, member, put}
use Rattle.ddl_types.specs.Plain as p
use Rattle.ddl_report.specs.Names.{shown}
use Rattle.ddl_report.specs.Numbers.{natural, integer_data}

-- an object of one member
abbrev pub only : List ℕ → Data → Data
only key d = object (member key d no_members)

-- where a stream of bytes is: in the input or in an array
abbrev pub place_data : Bool → Data
place_data in_input = string (if in_input then codes "input" else codes "array")

abbrev pub stream_data : Bool → ℕ → ℕ → Data
stream_data in_input from to =
    only (codes "$stream") (object (member (codes "from") (natural from)
    (member (codes "in") (place_data in_input) (member (codes "to") (natural to) no_members))))

-- an entry of a map, as a list of its key and its value
abbrev pub entry_data : Data → Data → Data
entry_data key value = array (item key (item value no_items))

abbrev pub entries_data : Items → Items → Items
entries_data no_items values = no_items
entries_data (item k keys) no_items = no_items
entries_data (item k keys) (item v values) = item (entry_data k v) (entries_data keys values)

abbrev mutual
  pub plain_data : p.Printable → Data
  plain_data p.unit = object no_members
  plain_data (p.bool b) = boolean b
  plain_data (p.number z) = integer_data z
  plain_data p.nothing = null
  plain_data (p.just v) = only (codes "$just") (plain_data v)
  plain_data (p.fields names vs) = object (fields_data vs names no_members)
  plain_data (p.union tag v) = only (codes "$" ++ shown tag) (plain_data v)
  plain_data (p.array vs) = array (plains_data vs)
  plain_data (p.entries ks vs) = only (codes "$map") (array (entries_data (plains_data ks) (plains_data vs)))
  plain_data (p.stream in_input from to) = stream_data in_input from to

  pub plains_data : p.Printables → Items
  plains_data p.none = no_items
  plains_data (p.one v vs) = item (plain_data v) (plains_data vs)

  -- the fields put, from the first on, into the members that are there: of equal keys the last one stays
  pub fields_data : p.Printables → List (List ℕ) → Members → Members
  fields_data p.none names ms = ms
  fields_data (p.one v vs) [] ms = ms
  fields_data (p.one v vs) (name ∷ names) ms = fields_data vs names (if p.is_hidden name then ms else put (shown name) (plain_data v) ms)
