use Rattle.std.proofs.Common.{◌≡◌, nat_lt, drop}
use Rattle.ddl_typed.specs.SharedView.{parts_deep}
use Rattle.ddl_typed.proofs.shared.+deeper.Given as goal

abbrev pub invariant-has_deeper-loop-part : goal.invariant-has_deeper-loop-part
invariant-has_deeper-loop-part l = nat_lt l.room (parts_deep (drop l.part-index l.parts)) ≡ nat_lt l.room (parts_deep l.parts)
