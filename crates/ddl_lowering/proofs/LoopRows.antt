-- Worked rows of `for` and `map`: the same events in the typed tree and in its core, and the ticks of both.
use Rattle.std.proofs.Common.{Some, None, refl, []}
use Rattle.std.specs.Prelude.{codes}
use Rattle.ddl_arith.specs.declared.operation.Op.TheVariants.{Add}
use Rattle.ddl_ops.specs.declared.operators.Infix.TheVariants.{Arithmetic}
use Rattle.ddl_typed.specs.Tree.{Expr, local, list, infix_, for_, map_, pure, block, choose, builtin, no_exprs, no_alts, alt, no_items, item, plain}
use Rattle.ddl_ops.specs.declared.operators.Builtin.TheVariants as B
use Rattle.ddl_typed.specs.Tree as t
use Rattle.ddl_lowering.proofs.RowForms.{e, byte, num, Agrees}

-- for and map, over an array and over a map, of values and of grammars
abbrev four : Expr
four = e (list (t.more (num 4) (t.more (num 5) (t.more (num 6) no_exprs))))

abbrev sum_of : Expr
sum_of = e (pure (e (for_ 0 (num 0) (record { key = Some 2; element = 1 }) four
    (e (infix_ (Arithmetic Add) (e (infix_ (Arithmetic Add) (e (local 0)) (e (local 1)))) (e (local 2)))))))

sum_of_four : Agrees sum_of []
sum_of_four = (refl, refl)

abbrev doubled : Expr
doubled = e (pure (e (map_ (record { key = None; element = 1 }) four (e (infix_ (Arithmetic Add) (e (local 1)) (e (local 1)))))))

doubled_four : Agrees doubled []
doubled_four = (refl, refl)

abbrev small_map : Expr
small_map = e (builtin B.InsertInto (t.more (num 2) (t.more (num 20)
    (t.more (e (builtin B.InsertInto (t.more (num 1) (t.more (num 10) (t.more (e (builtin B.Empty no_exprs)) no_exprs))))) no_exprs))))

abbrev mapped : Expr
mapped = e (pure (e (map_ (record { key = Some 2; element = 1 }) small_map (e (infix_ (Arithmetic Add) (e (local 1)) (e (local 2)))))))

mapped_map : Agrees mapped []
mapped_map = (refl, refl)

abbrev mapped_nothing : Expr
mapped_nothing = e (pure (e (map_ (record { key = Some 2; element = 1 }) (e (list no_exprs)) (e (local 1)))))

mapped_none : Agrees mapped_nothing []
mapped_none = (refl, refl)

abbrev grammars : Expr
grammars = e (map_ (record { key = Some 2; element = 1 }) four (e (choose (alt byte (alt (e (pure (e (local 1)))) no_alts)))))

grammars_over_four : Agrees grammars (codes "ab")
grammars_over_four = (refl, refl)

abbrev fold_grammar : Expr
fold_grammar = e (for_ 0 (num 0) (record { key = None; element = 1 }) four
    (e (block (item (plain byte) (item (plain (e (pure (e (infix_ (Arithmetic Add) (e (local 0)) (e (local 1))))))) no_items)))))

fold_on_abc : Agrees fold_grammar (codes "abc")
fold_on_abc = (refl, refl)

fold_on_ab : Agrees fold_grammar (codes "ab")
fold_on_ab = (refl, refl)
