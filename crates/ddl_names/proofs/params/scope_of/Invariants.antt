use Rattle.std.proofs.Common.{◌≡◌, map, take}
use Rattle.ddl_tree.specs.ViewModule.{param_view}
use Rattle.ddl_uses.specs.Held.{IsScope, scope_view}
use Rattle.ddl_uses.specs.Scope.{param_scope}
use Rattle.ddl_names.proofs.params.scope_of.Given as goal

abbrev pub invariant-loop-param : goal.invariant-loop-param
invariant-loop-param l = (scope_view l.scope ≡ param_scope (map param_view (take l.param-index l.params))) × IsScope l.scope
