-- Arrays.
use Rattle.std.specs.Prelude.{ℕ, zero, suc, List, [], ◌∷◌, pos, Option, Some, None}
use Rattle.ddl_types.specs.declared.num.NumType.TheVariants.{Uint}
use Rattle.ddl_types.specs.Value.{Value, Values, number, array, no_values, value}
use Rattle.ddl_ops.specs.Valued.{Given, Valued, gives, stuck, counts, then_value}

-- the number of elements
abbrev pub size : Values → ℕ
size no_values = 0
size (value v vs) = suc (size vs)

-- one more at the end
abbrev pub snoc : Values → Value → Values
snoc no_values w = value w no_values
snoc (value v vs) w = value v (snoc vs w)

-- one array after another
abbrev pub followed : Values → Values → Values
followed no_values ws = ws
followed (value v vs) ws = value v (followed vs ws)

-- the element at a place
abbrev pub element : Values → ℕ → Option Value
element no_values i = None
element (value v vs) zero = Some v
element (value v vs) (suc i) = element vs i

-- a tick for each element, and then a result
abbrev pub counted : {A : Type 0} → Values → Given A → Given A
counted no_values o = o
counted (value v vs) o = counts (counted vs o)

-- the elements of an array of arrays, in order
abbrev pub elements_joined : Values → Given Values
elements_joined no_values = gives no_values
elements_joined (value (array vs) rest) = then_value (elements_joined rest) (λ ws. gives (followed vs ws))
elements_joined (value v rest) = stuck

-- `concat`: one tick for each element of the result
abbrev pub concatenated : Values → Valued
concatenated vss = then_value (elements_joined vss) (λ vs. counted vs (gives (array vs)))

-- the bytes of an array of them
abbrev pub bytes_of : Values → Given (List ℕ)
bytes_of no_values = gives []
bytes_of (value (number (Uint width) (pos n)) vs) = then_value (bytes_of vs) (λ bs. gives (n ∷ bs))
bytes_of (value v vs) = stuck
