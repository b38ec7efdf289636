use Rattle.std.proofs.Common.{◌≡◌, map, take}
use Rattle.ddl_tree.specs.ViewModule.{param_view}
use Rattle.ddl_uses.specs.Scope.{param_kind}
use Rattle.ddl_names.proofs.kept_decls.param_kinds.Given as goal

abbrev pub invariant-loop-param : goal.invariant-loop-param
invariant-loop-param l = l.kinds.items ≡ map param_kind (map param_view (take l.param-index l.params))
