-- Worked examples of the definitions.
use Rattle.std.proofs.Common.{◌≡◌, ℕ, zero, suc, ◌≤◌, List, [], ◌∷◌, None, refl, arith}
use Rattle.std.specs.Prelude.{codes}
use Rattle.ddl_base.specs.declared.span.Span.{Span}
use Rattle.ddl_token.specs.declared.token.Tok.{Tok}
use Rattle.ddl_token.specs.declared.token.Tok.TheVariants as k
use Rattle.ddl_token.specs.declared.word.Word.TheVariants as w
use Rattle.ddl_token.specs.declared.mark.Mark.{Mark}
use Rattle.ddl_token.specs.declared.mark.Mark.TheVariants as m
use Rattle.ddl_tree.specs.declared.name.Name.{Name}
use Rattle.ddl_tree.specs.declared.operator.InfixOp.{InfixOp}
use Rattle.ddl_tree.specs.declared.operator.InfixOp.TheVariants as op
use Rattle.ddl_tree.specs.ExprTree as ex
use Rattle.ddl_tree.specs.ModuleTree as mo
use Rattle.ddl_tree.specs.Print.{print}
use Rattle.ddl_tree.specs.PrintModule.{print_module}
use Rattle.ddl_tree.specs.Grammar.{IsExpr}
use Rattle.ddl_tree.specs.Depth.{depth, module_depth}
use Rattle.ddl_tree.specs.Spans.{nowhere}
use Rattle.ddl_tree.specs.SpansModule.{placed}

-- a span of module 0
abbrev at : ℕ → ℕ → Span
at i j = record { «module» = 0; from = i; to = j }

abbrev name : List ℕ → Name
name x = record { text = x; span = nowhere }

abbrev name_at : List ℕ → ℕ → ℕ → Name
name_at x i j = record { text = x; span = at i j }

abbrev some_byte : ex.Expr
some_byte = ex.Upper (name (codes "UInt8"))

abbrev mark : Mark → Tok
mark s = k.Mark s

abbrev main_is : ex.Expr → mo.Module
main_is e = record { imports = []; decls = mo.Grammar (name (codes "Main")) [] None e nowhere ∷ [] }

-- def Main = ( block { UInt8 ; UInt8 } )
two_bytes : print_module (main_is (ex.Paren (ex.Block (ex.an_item (ex.Plain some_byte) (ex.an_item (ex.Plain some_byte) ex.no_items)) nowhere) None nowhere))
    ≡ k.Word w.Def ∷ k.Upper (codes "Main") ∷ mark m.Equals ∷ mark m.OpenParen ∷ k.Word w.Block ∷ mark m.OpenBrace
    ∷ k.Upper (codes "UInt8") ∷ mark m.Semicolon ∷ k.Upper (codes "UInt8") ∷ mark m.CloseBrace ∷ mark m.CloseParen ∷ []
two_bytes = refl

-- ---- grouping

abbrev var : ex.Expr
var = ex.Lower (name (codes "x"))

abbrev two : InfixOp → ex.Expr → ex.Expr → ex.Expr
two o a b = ex.Infix o a b nowhere

-- x - x - x is a difference and x, and no other module has these tokens
minus_left : IsExpr (two op.Subtract (two op.Subtract var var) var)
minus_left = ((tt, tt, omega arith, omega arith), tt, omega arith, omega arith)

minus_not_right : IsExpr (two op.Subtract var (two op.Subtract var var)) → ⊥
minus_not_right h = let less : 13 ≤ 12 = h.3 in omega (arith, less)

minus_same_print : print (two op.Subtract (two op.Subtract var var) var) [] ≡ print (two op.Subtract var (two op.Subtract var var)) []
minus_same_print = refl

-- x | x | x is x and a choice
either_right : IsExpr (two op.Either var (two op.Either var var))
either_right = (tt, (tt, tt, omega arith, omega arith), omega arith, omega arith)

either_not_left : IsExpr (two op.Either (two op.Either var var) var) → ⊥
either_not_left h = let less : 2 ≤ 1 = h.2 in omega (arith, less)

-- x == x == x is nothing
equal_not_left : IsExpr (two op.Equal (two op.Equal var var) var) → ⊥
equal_not_left h = let less : 7 ≤ 6 = h.2 in omega (arith, less)

equal_not_right : IsExpr (two op.Equal var (two op.Equal var var)) → ⊥
equal_not_right h = let less : 7 ≤ 6 = h.3 in omega (arith, less)

-- a sum is a part of a product in parentheses alone
sum_not_in_product : IsExpr (two op.Multiply (two op.Add var var) var) → ⊥
sum_not_in_product h = let less : 13 ≤ 12 = h.2 in omega (arith, less)

sum_in_product : IsExpr (two op.Multiply (ex.Paren (two op.Add var var) None nowhere) var)
sum_in_product = ((tt, tt, omega arith, omega arith), tt, omega arith, omega arith)

-- ---- depth

abbrev in_parens : ℕ → ex.Expr
in_parens zero = some_byte
in_parens (suc n) = ex.Paren (in_parens n) None nowhere

-- UInt8 in 200 parentheses
too_nested : module_depth (main_is (in_parens 200)) ≡ 201
too_nested = refl

-- an operator's sides are one deeper than it is, and no more
sides : depth (two op.Add (two op.Add var var) var) ≡ 3
sides = refl

-- ---- spans

-- def Main = x - x
abbrev difference : mo.Module
difference = main_is (two op.Subtract var var)

abbrev its_places : List Span
its_places = at 0 3 ∷ at 4 8 ∷ at 9 10 ∷ at 11 12 ∷ at 13 14 ∷ at 15 16 ∷ []

difference_stands : placed difference its_places ≡ record {
  imports = [];
  decls = mo.Grammar (name_at (codes "Main") 4 8) [] None
      (ex.Infix op.Subtract (ex.Lower (name_at (codes "x") 11 12)) (ex.Lower (name_at (codes "x") 15 16)) (at 11 16)) (at 0 16) ∷ [];
}
difference_stands = refl
