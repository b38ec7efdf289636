-- Worked rows of `deep` and `IsPaired`, computed.
use Rattle.std.proofs.Common.{◌≡◌, ◌^◌, [], ◌∷◌, refl}
use Rattle.std.specs.Prelude.{pos, negsuc, codes, true}
use Rattle.ddl_types.specs.Plain.{Printable, unit, bool, number, nothing, just, fields, union, array, entries, stream, none, one, deep, IsPaired}

small : Printable
small = number (pos 7)

-- the bounds of the numbers that JSON holds here
largest : deep (number (pos 0xffff_ffff_ffff_ffff)) ≡ 0
largest = refl

above_largest : deep (number (pos (2 ^ 64))) ≡ 1
above_largest = refl

least : deep (number (negsuc 0x7fff_ffff_ffff_ffff)) ≡ 0
least = refl

below_least : deep (number (negsuc (2 ^ 63))) ≡ 1
below_least = refl

empty_object : deep unit ≡ 1
empty_object = refl

empty_list : deep (array none) ≡ 1
empty_list = refl

empty_map : deep (entries none none) ≡ 2
empty_map = refl

of_just : deep (just (just nothing)) ≡ 2
of_just = refl

of_union : deep (union (codes "a") (array none)) ≡ 2
of_union = refl

of_stream : deep (stream true 0 1) ≡ 2
of_stream = refl

-- {"$map":[[true,[[]]]]}
of_map : deep (entries (one (bool true) none) (one (array (one (array none) none)) none)) ≡ 5
of_map = refl

-- of two fields with one name the first counts too
doubled : deep (fields (codes "x" ∷ codes "x" ∷ []) (one (array none) (one (bool true) none))) ≡ 2
doubled = refl

hidden : deep (fields (codes "_" ∷ codes "x" ∷ []) (one (array none) (one (bool true) none))) ≡ 1
hidden = refl

paired : IsPaired (fields (codes "x" ∷ []) (one (entries none none) none))
paired = (refl, ((refl, tt, tt), tt))
