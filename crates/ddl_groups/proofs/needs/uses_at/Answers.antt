use Rattle.ddl_groups.proofs.Needing.{inner_uses, last_uses}
use Rattle.ddl_groups.proofs.needs.uses_at.Goals as goal

pub returns-then-place-decls : goal.returns-then-place-decls
returns-then-place-decls c =
    inner_uses c.args.decls.now c.args.uses.now c.args.place c.saturating_sub-count.result c.min.result c.min-then-place-decls.result
    c.index-decls-place.result c.index-decls-place-then-place-decls.result c.if-place-decls.true c.min.ensures c.saturating_sub-count.ensures
    c.min-then-place-decls.ensures

pub returns-else-place-decls : goal.returns-else-place-decls
returns-else-place-decls c =
    last_uses c.args.decls.now c.args.uses.now c.args.place c.min.result c.index-decls-place.result c.requires c.if-place-decls.false c.min.ensures
