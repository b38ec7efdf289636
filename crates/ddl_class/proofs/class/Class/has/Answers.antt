use Rattle.std.proofs.Common.{refl, ◌≡◌, ◌/◌}
use Rattle.std.proofs.lemmas.Nat.Bits.{shr_and_one}
use Rattle.ddl_class.specs.Class.{contains}
use Rattle.ddl_class.proofs.class.Class.has.Goals as goal

pub returns : goal.returns
unfolding contains
returns c =
    let place : c.from.result ≡ c.args.byte / 64 = c.from.ensures in
    rw (shr_and_one, place) refl
