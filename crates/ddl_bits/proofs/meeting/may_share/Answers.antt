use Rattle.ddl_bits.specs.Overlaps.{parts_both}
use Rattle.ddl_bits.specs.Tree.{parts_fit}
use Rattle.ddl_bits.specs.View.{parts_view}
use Rattle.ddl_bits.proofs.Flowing.{in_range, fitting_read}
use Rattle.ddl_bits.proofs.Searching.{false_unless, first_true, second_true}
use Rattle.ddl_bits.proofs.meeting.may_share.Goals as goal

pub returns-in-Ok : goal.returns-in-Ok
returns-in-Ok c =
    λ none n above below.
    let a = parts_view c.args.a.now in
    let b = parts_view c.args.b.now in
    false_unless (parts_both a b n) (λ both.
    c.in-Ok.ensures none n (in_range c.args.from c.args.bits c.requires.aligned.0 n c.requires.aligned.1 above below)
    (fitting_read a n c.requires.a_sized (first_true (parts_fit a n) (parts_fit b n) both))
    (fitting_read b n c.requires.b_sized (second_true (parts_fit a n) (parts_fit b n) both)))
