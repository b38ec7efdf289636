use Rattle.std.proofs.Common.{◌≡◌, sym, subst, rules}
use Rattle.ddl_tree.proofs.Layers.{layers}
use Rattle.ddl_tree.specs.ClassTree as y
use Rattle.ddl_tree.specs.View.{class_view}
use Rattle.ddl_rules.proofs.Composed.{class_both}
use Rattle.ddl_rules.specs.ClassForms.{IsClass, class_made}
use Rattle.ddl_rules.specs.Views.{asks_of, state_of, env_of}
use Rattle.ddl_rules.proofs.elaboration.Elaboration.+class.Goals as goal

pub returns-in_ok-either-in-Union : goal.returns-in_ok-either-in-Union
unfolding asks_of state_of env_of
returns-in_ok-either-in-Union t c =
    let tree : class_view c.args.class.now ≡ y.Union (class_view c.deref.result.now) (class_view c.deref-in-Union.result.now) c.in-Union.span =
    search (rules, layers) in
    let P : y.Cls → Type 0 = λ x. IsClass c.in_ok-either-in-Union.either (class_made x (env_of c.args.self.now) (state_of c.args.self.now))
    (env_of c.args.self.now) c.args.self.now c.class-in-Union.new.self in
    subst P (sym tree) (class_both (class_view c.deref.result.now) (class_view c.deref-in-Union.result.now) c.in-Union.span c.in_ok-left-in-Union.left
    c.in_ok-right-in-Union.right c.in_ok-either-in-Union.either c.args.self.now c.class.new.self c.class-in-Union.new.self c.in_ok-left-in-Union.ensures
    c.in_ok-right-in-Union.ensures c.in_ok-either-in-Union.ensures)
