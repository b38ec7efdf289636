use Rattle.ddl_bits.proofs.common.+search_range.Given as goal

abbrev pub decreases-search_range : goal.decreases-search_range
decreases-search_range l = l.bits
