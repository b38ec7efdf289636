-- A meaning keeps itself.
use Rattle.std.proofs.Common.{List, [], ◌∷◌, refl, arith}
use Rattle.ddl_types.specs.Keeping.{Mark, marks, StartsWith, StartsWithin, KeepsItself}

starts_same : (ms : List Mark) → StartsWith ms ms
starts_same [] = tt
starts_same (m ∷ ms) = (refl, starts_same ms)

within_same : (ms : List Mark) → StartsWithin 1 ms ms
within_same [] = tt
within_same (m ∷ ms) = (refl, omega arith, within_same ms)

pub keeps_itself : KeepsItself
keeps_itself a = record {
  first = λ n. (n, record { events = within_same (marks 0 (a n)); no_more = λ h. starts_same (marks 0 (a n)); end = λ h. refl; cost = λ h. omega arith });
  second = λ m. (m, record { events = starts_same (marks 0 (a m)); no_more = λ h. starts_same (marks 0 (a m)); end = λ h. refl });
}
