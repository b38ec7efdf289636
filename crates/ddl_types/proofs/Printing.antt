-- What is printed of a value.
use Rattle.std.proofs.Common.{◌≡◌, ℕ, suc, List, [], ◌∷◌, length, refl, ap, Bool, true, false, if◌then◌else◌, Option, Some, None}
use Rattle.std.specs.Prelude.{pos}
use Rattle.ddl_types.specs.Layout.{Layout, Con, Parts, no_cons, one_of, named_con, no_parts, part, fixed, free, inner, upper, lower, con_fits}
use Rattle.ddl_types.specs.Plain.{Printable, Printables, IsPaired, ArePaired, count}
use Rattle.ddl_types.specs.Plain as p
use Rattle.ddl_types.specs.PlainOf.{part_names, under_name, if_named, plain_bits, plain_con, plain_parts, plain_of, plain_values, plain_fields, plain_keys}
use Rattle.ddl_types.specs.PlainOf.{plain_entries, names_of}
use Rattle.ddl_types.specs.Value.{Value, Values, Fields, Pairs, number, bitdata, boolean, unit, nothing, just, fields, tagged, array, mapping, stream}
use Rattle.ddl_types.specs.Value.{no_values, value, no_fields, field, no_pairs, pair}

names_counted : (fs : Fields) → length (names_of fs) ≡ count (plain_fields fs)
names_counted no_fields = refl
names_counted (field name v fs) = ap suc (names_counted fs)

keys_counted : (ps : Pairs) → count (plain_keys ps) ≡ count (plain_entries ps)
keys_counted no_pairs = refl
keys_counted (pair k v ps) = ap suc (keys_counted ps)

-- a bitdata has as many names as fields
names_and_parts : (ps : Parts) (n : ℕ) → length (part_names ps) ≡ count (plain_parts ps n)
names_and_parts no_parts n = refl
names_and_parts (part (fixed bits w) ps) n = names_and_parts ps (lower ps n)
names_and_parts (part (free (Some name) w) ps) n = ap suc (names_and_parts ps (lower ps n))
names_and_parts (part (free None w) ps) n = names_and_parts ps (lower ps n)
names_and_parts (part (inner (Some name) l) ps) n = ap suc (names_and_parts ps (lower ps n))
names_and_parts (part (inner None l) ps) n = names_and_parts ps (lower ps n)

choice_paired : (b : Bool) (v w : Printable) → IsPaired v → IsPaired w → IsPaired (if b then v else w)
choice_paired true v w h k = h
choice_paired false v w h k = k

name_paired : (name : List ℕ) (v : Printable) → IsPaired v → IsPaired (under_name name v)
name_paired [] v h = h
name_paired (b ∷ bs) v h = h

if_named_paired : (name : Option (List ℕ)) (v : Printable) (vs : Printables) → IsPaired v → ArePaired vs → ArePaired (if_named name v vs)
if_named_paired None v vs h k = k
if_named_paired (Some name) v vs h k = (h, k)

mutual
  bits_paired : (l : Layout) (n : ℕ) → IsPaired (plain_bits l n)
  bits_paired no_cons n = tt
  bits_paired (one_of c cs) n = choice_paired (con_fits c n) (plain_con c n) (plain_bits cs n) (con_paired c n) (bits_paired cs n)

  con_paired : (c : Con) (n : ℕ) → IsPaired (plain_con c n)
  con_paired (named_con name ps) n = name_paired name (p.fields (part_names ps) (plain_parts ps n)) (names_and_parts ps n, parts_paired ps n)

  parts_paired : (ps : Parts) (n : ℕ) → ArePaired (plain_parts ps n)
  parts_paired no_parts n = tt
  parts_paired (part (fixed bits w) ps) n = parts_paired ps (lower ps n)
  parts_paired (part (free name w) ps) n = if_named_paired name (p.number (pos (upper ps n))) (plain_parts ps (lower ps n)) tt (parts_paired ps (lower ps n))
  parts_paired (part (inner name l) ps) n =
      if_named_paired name (plain_bits l (upper ps n)) (plain_parts ps (lower ps n)) (bits_paired l (upper ps n)) (parts_paired ps (lower ps n))

-- a record has as many names as values, a map as many keys as values, at every level
mutual
  pub plain_of_paired : (v : Value) → IsPaired (plain_of v)
  plain_of_paired (number ty z) = tt
  plain_of_paired (bitdata l n) = bits_paired l n
  plain_of_paired (boolean b) = tt
  plain_of_paired unit = tt
  plain_of_paired nothing = tt
  plain_of_paired (just v) = plain_of_paired v
  plain_of_paired (fields fs) = (names_counted fs, fields_paired fs)
  plain_of_paired (tagged tag v) = plain_of_paired v
  plain_of_paired (array vs) = values_paired vs
  plain_of_paired (mapping ps) = (keys_counted ps, keys_paired ps, entries_paired ps)
  plain_of_paired (stream s) = tt

  values_paired : (vs : Values) → ArePaired (plain_values vs)
  values_paired no_values = tt
  values_paired (value v vs) = (plain_of_paired v, values_paired vs)

  fields_paired : (fs : Fields) → ArePaired (plain_fields fs)
  fields_paired no_fields = tt
  fields_paired (field name v fs) = (plain_of_paired v, fields_paired fs)

  keys_paired : (ps : Pairs) → ArePaired (plain_keys ps)
  keys_paired no_pairs = tt
  keys_paired (pair k v ps) = (plain_of_paired k, keys_paired ps)

  entries_paired : (ps : Pairs) → ArePaired (plain_entries ps)
  entries_paired no_pairs = tt
  entries_paired (pair k v ps) = (plain_of_paired v, entries_paired ps)
