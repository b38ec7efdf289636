-- How a number that is read from its highest bit on goes through the leaves of a constructor: the parts that hold no layout.
use Rattle.std.specs.Prelude.{◌≡◌, ℕ, ◌+◌, ◌/◌, ◌%◌, ◌^◌, ◌<◌, ◌≤◌, Bool, true, false, ◌||◌, ◌⊎◌, nat_lt, if◌then◌else◌, List, take, drop, Option, Some, None}
use Rattle.std.specs.Prelude.{slice_index_or, refl}
use Rattle.ddl_bits.specs.declared.ranges.Range.{Range}
use Rattle.ddl_bits.specs.declared.stepping.Bit.{Bit}
use Rattle.ddl_bits.specs.FixedBits.{part_bit, differ}
use Rattle.ddl_bits.specs.Tree.{Part, fixed, any, inner, Parts, no_parts, part, Cons, no_cons, con, part_width, parts_width}

-- how many leaves there are
abbrev mutual
  pub part_leaves : Part → ℕ
  part_leaves (fixed bits width) = 1
  part_leaves (any width) = 1
  part_leaves (inner cons) = cons_leaves cons

  pub parts_leaves : Parts → ℕ
  parts_leaves no_parts = 0
  parts_leaves (part p ps) = part_leaves p + parts_leaves ps

  pub cons_leaves : Cons → ℕ
  cons_leaves no_cons = 0
  cons_leaves (con ps cons) = parts_leaves ps + cons_leaves cons

-- given bits are below 2 ^ width: else no number fits them
abbrev pub is_possible : Part → Bool
is_possible (fixed bits width) = nat_lt bits (2 ^ width)
is_possible (any width) = true
is_possible (inner cons) = true

-- n has the bits that a leaf gives, with so many bits below the leaf
pub record HasLeaf (p : Part) (low n : ℕ) : Type 0 where
  pub possible : is_possible p ≡ true
  pub bits : (place b : ℕ) → place < part_width p → part_bit p place ≡ Some b → n / 2 ^ (low + place) % 2 ≡ b

-- n is read as this part, with so many bits below it: it has the bits of its leaves, and of one constructor of an inner layout
abbrev mutual
  pub ReadsPart : Part → ℕ → ℕ → Type 0
  ReadsPart (fixed bits width) low n = HasLeaf (fixed bits width) low n
  ReadsPart (any width) low n = HasLeaf (any width) low n
  ReadsPart (inner cons) low n = ReadsCons cons low n

  pub ReadsParts : Parts → ℕ → ℕ → Type 0
  ReadsParts no_parts low n = Unit {0}
  ReadsParts (part p ps) low n = ReadsPart p (low + parts_width ps) n × ReadsParts ps low n

  pub ReadsCons : Cons → ℕ → ℕ → Type 0
  ReadsCons no_cons low n = ⊥
  ReadsCons (con ps cons) low n = ReadsParts ps low n ⊎ ReadsCons cons low n

-- n has the bits of a leaf; and where k bits are left to read, some of them of this leaf and all that stand before it read, the first mark stands
abbrev pub RunsLeaf : Part → ℕ → List Bool → ℕ → ℕ → Type 0
RunsLeaf p low marks k n = HasLeaf p low n × (low < k → k ≤ low + part_width p → slice_index_or marks 0 false ≡ true)

-- the same of each leaf that n is read by, with a mark for each leaf in their order
abbrev mutual
  pub RunsPart : Part → ℕ → List Bool → ℕ → ℕ → Type 0
  RunsPart (fixed bits width) low marks k n = RunsLeaf (fixed bits width) low marks k n
  RunsPart (any width) low marks k n = RunsLeaf (any width) low marks k n
  RunsPart (inner cons) low marks k n = RunsCons cons low marks k n

  pub RunsParts : Parts → ℕ → List Bool → ℕ → ℕ → Type 0
  RunsParts no_parts low marks k n = Unit {0}
  RunsParts (part p ps) low marks k n = RunsPart p (low + parts_width ps) (take (part_leaves p) marks) k n × RunsParts ps low (drop (part_leaves p) marks) k n

  pub RunsCons : Cons → ℕ → List Bool → ℕ → ℕ → Type 0
  RunsCons no_cons low marks k n = ⊥
  RunsCons (con ps cons) low marks k n = RunsParts ps low (take (parts_leaves ps) marks) k n ⊎ RunsCons cons low (drop (parts_leaves ps) marks) k n

-- n has the bit that is read
abbrev pub HasBit : Bit → ℕ → Type 0
HasBit bit n = ((b : ℕ) → bit.given ≡ Some b → n / 2 ^ bit.place % 2 ≡ b) × ((b : ℕ) → bit.shared ≡ Some b → n / 2 ^ bit.place % 2 ≡ b)

-- one bit is read: each number that has it, and ran with the old marks, runs with the new ones a bit further. Where this begins there,
-- `entered` is to hold; where it ends there, `done` does
abbrev pub IsStep : (List Bool → ℕ → ℕ → Type 0) → ℕ → ℕ → Bit → Bool → List Bool → List Bool → Bool → Type 0
IsStep runs low width bit entered old new done = (n : ℕ) → HasBit bit n → runs old (bit.place + 1) n → (bit.place ≡ low + width → entered ≡ true)
    → runs new bit.place n × (bit.place ≡ low → done ≡ true)

-- n runs by all of a constructor: the mark behind those of its leaves stands where it is read to its end
abbrev pub RunsWhole : Parts → List Bool → ℕ → ℕ → Type 0
RunsWhole ps marks k n = RunsParts ps 0 (take (parts_leaves ps) marks) k n × (k ≡ 0 → slice_index_or marks (parts_leaves ps) false ≡ true)

-- n has all but its lowest bits as `from` has them
abbrev pub IsIn : ℕ → ℕ → ℕ → Type 0
IsIn from bits n = n / 2 ^ bits ≡ from / 2 ^ bits

-- the bit at a place that all these have
abbrev pub shared_bit : ℕ → ℕ → ℕ → Option ℕ
shared_bit from bits place = if nat_lt place bits then None else Some (from / 2 ^ place % 2)

-- some two of three bits are given and differ
abbrev pub some_differ : Option ℕ → Option ℕ → Option ℕ → Bool
some_differ a b c = differ a b || differ a c || differ b c

-- all bits of something are read: each number of a range that it reads, and that ran by ps above it with the old marks, runs below it with the new ones
abbrev pub IsFlow : (ℕ → Type 0) → ℕ → ℕ → Parts → Range → List Bool → List Bool → Type 0
IsFlow reads low width ps range old new = (n : ℕ) → IsIn range.from range.bits n → reads n → RunsWhole ps old (low + width) n → RunsWhole ps new low n

-- ---- worked

-- { a = { 0b0, _ : uint 1 }; b = 0b11 } has three leaves
three_leaves : part_leaves (inner (con (part (fixed 0 1) (part (any 1) no_parts)) (con (part (fixed 3 2) no_parts) no_cons))) ≡ 3
three_leaves = refl

-- bits that are 2 ^ width or more fit no number
too_many_bits : (is_possible (fixed 3 2) ≡ true) × (is_possible (fixed 4 2) ≡ false)
too_many_bits = (refl, refl)

-- all numbers from 4 to 7 have bit 2, and differ in bit 1
upper_bits : (shared_bit 4 2 2 ≡ Some 1) × (shared_bit 4 2 1 ≡ None)
upper_bits = (refl, refl)
