-- Maps: their keys rise.
use Rattle.std.specs.Prelude.{Option, Some, None}
use Rattle.std.specs.declared.cmp.Ordering.{Ordering}
use Rattle.std.specs.declared.cmp.Ordering.TheVariants.{Less, Equal, Greater}
use Rattle.ddl_types.specs.Value.{Value, Pairs, nothing, just, no_pairs, pair}
use Rattle.ddl_ops.specs.Valued.{Given, gives, stuck, then_value}
use Rattle.ddl_ops.specs.Comparisons.{key_order}

-- one of three by an order, which keys of one type have
abbrev pub by_order : {A : Type 0} → Option Ordering → Given A → Given A → Given A → Given A
by_order (Some Less) below same above = below
by_order (Some Equal) below same above = same
by_order (Some Greater) below same above = above
by_order None below same above = stuck

-- the value of a key
abbrev pub found : Value → Pairs → Given (Option Value)
found k no_pairs = gives None
found k (pair other v ps) = by_order (key_order k other) (gives None) (gives (Some v)) (found k ps)

-- the map with a key and its value, in place of the one that the key had
abbrev pub inserted : Value → Value → Pairs → Given Pairs
inserted k v no_pairs = gives (pair k v no_pairs)
inserted k v (pair other w ps) =
    by_order (key_order k other) (gives (pair k v (pair other w ps))) (gives (pair k v ps)) (then_value (inserted k v ps) (λ qs. gives (pair other w qs)))

-- what may be absent, as a value
abbrev pub maybe_value : Option Value → Value
maybe_value None = nothing
maybe_value (Some v) = just v
