-- Worked examples of the machine.
use Rattle.std.proofs.Common.{◌≡◌, ℕ, List, [], ◌∷◌, Option, Some, None, option_and_then, refl}
use Rattle.std.specs.Prelude.{codes}
use Rattle.ddl_base.specs.declared.span.Span.{Span}
use Rattle.ddl_token.specs.declared.token.Tok.{Tok}
use Rattle.ddl_token.specs.declared.token.Tok.TheVariants as k
use Rattle.ddl_token.specs.declared.word.Word.TheVariants as w
use Rattle.ddl_token.specs.declared.mark.Mark.{Mark}
use Rattle.ddl_token.specs.declared.mark.Mark.TheVariants as m
use Rattle.ddl_tree.specs.declared.name.Name.{Name}
use Rattle.ddl_tree.specs.declared.operator.InfixOp.TheVariants as op
use Rattle.ddl_tree.specs.ExprTree as ex
use Rattle.ddl_tree.specs.ModuleTree as mo
use Rattle.ddl_reader.specs.Frames.{Seen}
use Rattle.ddl_reader.specs.Depths.{lowest}
use Rattle.ddl_reader.specs.Step.{begun, parsed, reach}

-- a span of module 0
abbrev span : ℕ → ℕ → Span
span i j = record { «module» = 0; from = i; to = j }

abbrev token : Tok → ℕ → ℕ → Seen
token x i j = record { kind = x; at = span i j }

abbrev name : List ℕ → ℕ → ℕ → Name
name x i j = record { text = x; span = span i j }

-- def Main =
abbrev main_is : List Seen → List Seen
main_is xs = token (k.Word w.Def) 0 3 ∷ token (k.Upper (codes "Main")) 4 8 ∷ token (k.Mark m.Equals) 9 10 ∷ xs

no_body : parsed (main_is []) ≡ None
no_body = refl

-- def Main = x - x - x
abbrev x : ℕ → ℕ → Seen
x i j = token (k.Lower (codes "x")) i j

difference : parsed (main_is (x 11 12 ∷ token (k.Mark m.Minus) 13 14 ∷ x 15 16 ∷ token (k.Mark m.Minus) 17 18 ∷ x 19 20 ∷ []))
    ≡ Some (record {
      imports = [];
      decls = mo.Grammar (name (codes "Main") 4 8) [] None
          (ex.Infix op.Subtract
          (ex.Infix op.Subtract (ex.Lower (name (codes "x") 11 12)) (ex.Lower (name (codes "x") 15 16)) (span 11 16))
          (ex.Lower (name (codes "x") 19 20)) (span 11 20))
          (span 0 20) ∷ [];
    })
difference = refl

-- def Main = x == x == x
chain : parsed (main_is (x 11 12 ∷ token (k.Mark m.EqualEqual) 13 15 ∷ x 16 17 ∷ token (k.Mark m.EqualEqual) 18 20 ∷ x 21 22 ∷ [])) ≡ None
chain = refl

-- a block whose last part is empty
trailing : parsed (main_is (token (k.Word w.Block) 11 16 ∷ token (k.Mark m.OpenBrace) 16 17 ∷ x 17 18 ∷ token (k.Mark m.Semicolon) 18 19
    ∷ token (k.Mark m.CloseBrace) 19 20 ∷ [])) ≡ None
trailing = refl

-- an alternative with a tag, and one without
mixed : parsed (main_is (token (k.Word w.First) 11 16 ∷ token (k.Mark m.OpenBrace) 16 17 ∷ x 17 18 ∷ token (k.Mark m.Equals) 18 19 ∷ x 19 20
    ∷ token (k.Mark m.Semicolon) 20 21 ∷ x 21 22 ∷ token (k.Mark m.CloseBrace) 22 23 ∷ [])) ≡ None
mixed = refl

-- ---- the depth of the shallowest module that begins so

abbrev least : List Seen → Option ℕ
least xs = option_and_then (λ z. Some (lowest z)) (reach (main_is xs) begun)

abbrev mark : Mark → Seen
mark o = token (k.Mark o) 0 1

abbrev many : Seen
many = token (k.Word w.Many) 0 4

-- any body is of one level
body : least [] ≡ Some 1
body = refl

-- `[` may be followed by `]`
array : least (mark m.OpenBracket ∷ []) ≡ Some 1
array = refl

array_of_one : least (mark m.OpenBracket ∷ x 1 2 ∷ []) ≡ Some 2
array_of_one = refl

paren : least (mark m.OpenParen ∷ mark m.OpenParen ∷ []) ≡ Some 3
paren = refl

-- a parenthesis behind `Many` may be that of a bound, until it closes
bound : least (many ∷ mark m.OpenParen ∷ x 6 7 ∷ []) ≡ Some 2
bound = refl

bound_in_parentheses : least (many ∷ mark m.OpenParen ∷ x 6 7 ∷ mark m.CloseParen ∷ []) ≡ Some 3
bound_in_parentheses = refl

-- x - x - x groups to the left
levels_of_difference : least (x 11 12 ∷ mark m.Minus ∷ x 15 16 ∷ mark m.Minus ∷ []) ≡ Some 3
levels_of_difference = refl

-- a declaration that follows is no deeper by the one before
next_declaration : least (x 11 12 ∷ mark m.Minus ∷ x 15 16 ∷ token (k.Word w.Def) 20 23 ∷ []) ≡ Some 2
next_declaration = refl
