use Rattle.std.proofs.Common.{◌≡◌, sym, subst, rules, arith}
use Rattle.ddl_tree.proofs.Layers.{layers}
use Rattle.ddl_tree.specs.TypeTree as y
use Rattle.ddl_tree.specs.View.{type_view}
use Rattle.ddl_rules.proofs.Composed.{written_here, written_both}
use Rattle.ddl_rules.specs.Writing.{IsWritten, written}
use Rattle.ddl_rules.specs.Views.{asks_of, state_of, env_of}
use Rattle.ddl_rules.proofs.elaboration.Elaboration.+written.Goals as goal

pub returns-in-Int : goal.returns-in-Int
unfolding asks_of state_of env_of
returns-in-Int t c = search (rules, layers, written_here)

pub returns-in-Uint : goal.returns-in-Uint
unfolding asks_of state_of env_of
returns-in-Uint t c = search (rules, layers, written_here)

pub returns-in-Sint : goal.returns-in-Sint
unfolding asks_of state_of env_of
returns-in-Sint t c = search (rules, layers, written_here)

pub returns-in-Bool : goal.returns-in-Bool
unfolding asks_of state_of env_of
returns-in-Bool t c = search (rules, layers, written_here)

pub returns-in-Stream : goal.returns-in-Stream
unfolding asks_of state_of env_of
returns-in-Stream t c = search (rules, layers, written_here)

pub returns-in-Float : goal.returns-in-Float
unfolding asks_of state_of env_of
returns-in-Float t c = search (rules, layers, written_here)

pub returns-in_ok-map-in-MapOf : goal.returns-in_ok-map-in-MapOf
unfolding asks_of state_of env_of
returns-in_ok-map-in-MapOf t c =
    let tree : type_view c.args.of.now ≡ y.MapOf (type_view c.deref-in-MapOf.result.now) (type_view c.deref-in-MapOf-2.result.now) c.in-MapOf.span =
    grind (arith, layers) in
    let P : y.TypeExpr → Type 0 = λ x. IsWritten c.in_ok-map-in-MapOf.map (written (env_of c.args.self.now).known x (state_of c.args.self.now))
    (env_of c.args.self.now) c.args.self.now c.written-in-MapOf-2.new.self in
    subst P (sym tree) (written_both (type_view c.deref-in-MapOf.result.now) (type_view c.deref-in-MapOf-2.result.now) c.in-MapOf.span c.in_ok-key-in-MapOf.key
    c.in_ok-value-in-MapOf.value c.in_ok-map-in-MapOf.map c.args.self.now c.written-in-MapOf.new.self c.written-in-MapOf-2.new.self
    c.in_ok-key-in-MapOf.ensures c.in_ok-value-in-MapOf.ensures c.in_ok-map-in-MapOf.ensures)
