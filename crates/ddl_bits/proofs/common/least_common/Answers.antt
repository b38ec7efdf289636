use Rattle.std.proofs.Common.{◌+◌, ◌^◌, Some, None, arith}
use Rattle.ddl_bits.specs.View.{parts_view}
use Rattle.ddl_bits.proofs.Searching.{whole_search}
use Rattle.ddl_bits.proofs.Sized.{parts_sized}
use Rattle.ddl_bits.proofs.common.least_common.Goals as goal

pub are_told_apart-requires-clause-a_sized : goal.are_told_apart-requires-clause-a_sized
are_told_apart-requires-clause-a_sized c = parts_sized (parts_view c.args.a.now) c.requires.a_accepted

pub are_told_apart-requires-clause-b_sized : goal.are_told_apart-requires-clause-b_sized
are_told_apart-requires-clause-b_sized c = parts_sized (parts_view c.args.b.now) c.requires.b_accepted

pub search_range-requires-clause-aligned : goal.search_range-requires-clause-aligned
search_range-requires-clause-aligned c = (0, omega arith)

pub returns-in-Number : goal.returns-in-Number
returns-in-Number c =
    whole_search (parts_view c.args.a.now) (parts_view c.args.b.now) c.args.width (0 + 2 ^ c.args.width) (Some c.in-Number.number) (omega arith)
    c.requires.a_width (parts_sized (parts_view c.args.a.now) c.requires.a_accepted) c.in-Number.ensures

pub returns-in-NoneHere : goal.returns-in-NoneHere
returns-in-NoneHere c =
    whole_search (parts_view c.args.a.now) (parts_view c.args.b.now) c.args.width (0 + 2 ^ c.args.width) None (omega arith) c.requires.a_width
    (parts_sized (parts_view c.args.a.now) c.requires.a_accepted) c.in-NoneHere.ensures
