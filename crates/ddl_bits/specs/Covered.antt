-- Whether each number fits a constructor, or the least one that fits none.
use Rattle.std.specs.Prelude.{ℕ, ◌^◌, ◌<◌, Result, Ok, Err}
use Rattle.ddl_bits.specs.declared.error.Gap.{Gap}
use Rattle.ddl_bits.specs.declared.error.Gap.TheVariants.{Number}
use Rattle.ddl_bits.specs.Overlaps.{left_out}
use Rattle.ddl_bits.specs.Tree.{Cons, IsCovered, IsLeast}

abbrev pub IsCoverage : {A : Type 0} → Cons → ℕ → Result A Gap → Type 0
IsCoverage cons width (Ok _) = IsCovered cons width
IsCoverage cons width (Err (Number n)) = (n < 2 ^ width) × IsLeast (left_out cons) n
