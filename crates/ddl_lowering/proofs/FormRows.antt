-- Worked rows of blocks, choices, cases, operators and calls: the same events in the typed tree and in its core, and the ticks of both.
use Rattle.std.proofs.Common.{refl, [], ◌∷◌}
use Rattle.std.specs.Prelude.{codes}
use Rattle.ddl_tree.specs.declared.kind.Kind.TheVariants.{Grammar, Value}
use Rattle.ddl_arith.specs.declared.operation.Op.TheVariants.{Sub, Div}
use Rattle.ddl_ops.specs.declared.operators.Comparison.TheVariants.{Less}
use Rattle.ddl_ops.specs.declared.operators.Infix.TheVariants.{Arithmetic, Compare, And}
use Rattle.ddl_typed.specs.Tree.{own, Expr, text, local, literal, list, infix_, value_call, paren, if_, case_, when, no_cases, pure, match, end, fail, block}
use Rattle.ddl_typed.specs.Tree.{first, choose, call, no_exprs, no_alts, alt, tag, no_args, by_value, by_hand, no_items, item, plain, let_, field, result_}
use Rattle.ddl_typed.specs.Tree.{under}
use Rattle.ddl_ops.specs.declared.pattern.Pattern.TheVariants as P
use Rattle.ddl_typed.specs.Tree as t
use Rattle.ddl_mono.specs.Copies.{Mono}
use Rattle.ddl_lowering.proofs.RowForms.{word, e, at_byte, x, byte, num, any_byte, copy, mono, AgreesAll, Agrees}

-- blocks, choices, cases, lazy operators, faults
abbrev tagged_block : Expr
tagged_block = e (block (item (field (codes "a") 0 byte)
    (item (let_ 1 byte) (item (field (codes "b") 2 (e (first (tag (codes "p") (e (match (e (text (codes "x"))))) (tag (codes "q") byte no_alts))))) no_items))))

tagged_on_abx : Agrees tagged_block (codes "abx")
tagged_on_abx = (refl, refl)

tagged_on_aby : Agrees tagged_block (codes "aby")
tagged_on_aby = (refl, refl)

tagged_on_ab : Agrees tagged_block (codes "ab")
tagged_on_ab = (refl, refl)

abbrev by_cases : Expr
by_cases = e (block (item (let_ 0 byte) (item (plain (e (case_ x (when (P.Number 97) (e (text (codes "b"))) (when (P.Number 99) (e (fail 3)) no_cases)))))
    no_items)))

cases_on_ab : Agrees by_cases (codes "ab")
cases_on_ab = (refl, refl)

cases_on_c : Agrees by_cases (codes "c")
cases_on_c = (refl, refl)

cases_on_d : Agrees by_cases (codes "d")
cases_on_d = (refl, refl)

abbrev fault_late : Expr
fault_late = e (choose (alt byte (alt (e (pure (e (infix_ (Arithmetic Div) (num 1) (num 0))))) (alt byte no_alts))))

fault_on_a : Agrees fault_late (codes "a")
fault_on_a = (refl, refl)

abbrev lazy : Expr
lazy = e (pure (e (infix_ And (e (infix_ (Compare Less) (num 1) (num 2))) (e (infix_ (Compare Less) (num 2) (num 1))))))

lazily : Agrees lazy []
lazily = (refl, refl)

-- nested First around many parses
abbrev nested : Expr
nested = e (first (tag (codes "x") (e (first (tag (codes "p") (e (choose (tag (codes "q") byte (tag (codes "r") (e (text (codes "a"))) no_alts))))
    (tag (codes "s") byte no_alts)))) (tag (codes "y") byte no_alts)))

nested_on_a : Agrees nested (codes "a")
nested_on_a = (refl, refl)

-- the value of a block: its `$$`; nothing after a last `let`
result_on_ab : Agrees (e (block (item (field (codes "a") 0 byte) (item (result_ (e (pure x))) (item (plain byte) no_items))))) (codes "ab")
result_on_ab = (refl, refl)

last_let : Agrees (e (block (item (plain byte) (item (let_ 0 byte) no_items)))) (codes "ab")
last_let = (refl, refl)

-- an `if`, both ways
abbrev by_truth : Expr
by_truth = e (block (item (let_ 0 byte) (item (plain (e (if_ (e (infix_ (Compare Less) x (num 98))) (e (text (codes "b"))) byte))) no_items)))

truth_on_ab : Agrees by_truth (codes "ab")
truth_on_ab = (refl, refl)

truth_on_cd : Agrees by_truth (codes "cd")
truth_on_cd = (refl, refl)

-- an `if` on no truth value has no meaning, and neither has its core
no_truth : Agrees (e (if_ (num 1) byte byte)) (codes "a")
no_truth = (refl, refl)

-- a match of a text in parentheses, of one alone and of an array
matches : Agrees (e (first (alt (e (match (e (text (codes "ab"))))) (alt (e (match (e (paren (e (text (codes "ac"))))))) no_alts)))) (codes "ac")
matches = (refl, refl)

match_of_list : Agrees (e (match (e (list (t.more (at_byte (literal 97)) no_exprs))))) (codes "b")
match_of_list = (refl, refl)

-- ---- calls

-- a value with two parameters, called with two values in order
abbrev less_second : Mono
less_second =
    mono (copy Grammar [] [] (e (pure (e (value_call 1 (by_value 4 (num 7) (by_value 5 (num 2) no_args))))))
    ∷ copy Value (own 4 ∷ own 5 ∷ []) (word ∷ word ∷ []) (e (infix_ (Arithmetic Sub) (e (local 4)) (e (local 5)))) ∷ [])

seven_less_two : AgreesAll less_second []
seven_less_two = (refl, refl)

-- a grammar with a captured value that is handed on from copy to copy
abbrev handed : Mono
handed =
    mono (copy Grammar [] [] (e (block (item (let_ 0 byte)
    (item (plain (e (call 1 (by_value 3 (num 5) (by_hand (under 8 (own 0)) (own 0) no_args))))) no_items))))
    ∷ copy Grammar (own 3 ∷ under 8 (own 0) ∷ []) (word ∷ word ∷ []) (e (call 2 (by_hand (own 0) (under 8 (own 0)) no_args)))
    ∷ copy Grammar (own 0 ∷ []) (word ∷ []) (e (choose (alt (e (pure x)) (alt byte no_alts)))) ∷ [])

handed_on : AgreesAll handed (codes "ab")
handed_on = (refl, refl)

-- one that calls itself is too deep at the same place
abbrev endless : Mono
endless = mono (copy Grammar [] [] (e (first (alt (e (block (item (plain any_byte) (item (plain (e (call 0 no_args))) no_items)))) (alt (e end) no_alts))))
    ∷ [])

ends_on_ab : AgreesAll endless (codes "ab")
ends_on_ab = (refl, refl)

deep_on_many : AgreesAll endless (codes "aaaaaaaaaaaa")
deep_on_many = (refl, refl)
