use Rattle.ddl_outside.proofs.NamedLemmas.{rest_from, place_found, place_next}
use Rattle.ddl_outside.proofs.named.place.Goals as goal

pub returns-then-eq : goal.returns-then-eq
returns-then-eq g c = place_found _ _ c.loop-at.at c.args.name.now _ _
    (rest_from c.args.entries.now c.loop-at.at c.index-entries-at.result c.loop-at-test.true c.index-entries-at.is) (cc) c.loop-at.invariant

pub loop-at-preserved : goal.loop-at-preserved
loop-at-preserved g c = place_next _ _ c.loop-at.at c.args.name.now _ _
    (rest_from c.args.entries.now c.loop-at.at c.index-entries-at.result c.loop-at-test.true c.index-entries-at.is) (cc) c.loop-at.invariant
