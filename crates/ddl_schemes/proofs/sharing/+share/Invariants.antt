use Rattle.std.proofs.Common.{◌≡◌, map, take}
use Rattle.ddl_types.specs.TyView.{ty_view}
use Rattle.ddl_schemes.specs.Renaming.{shared}
use Rattle.ddl_schemes.proofs.sharing.+share.Given as goal

abbrev pub invariant-share_all-loop-t : goal.invariant-share_all-loop-t
invariant-share_all-loop-t l = map ty_view l.made.items ≡ map (shared l.sharing.first l.sharing.count) (map ty_view (take l.t-index l.ts))
