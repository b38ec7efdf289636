-- Worked rows: which kinds stand where, and how many arguments.
use Rattle.std.proofs.Common.{◌≡◌, ℕ, ◌+◌, List, [], ◌∷◌, None, Some, refl}
use Rattle.std.specs.Prelude.{codes}
use Rattle.ddl_token.specs.declared.token.Base.TheVariants.{Decimal}
use Rattle.ddl_tree.specs.declared.name.ByteLit.TheVariants.{Quoted}
use Rattle.ddl_tree.specs.declared.operator.Bias.TheVariants.{Biased}
use Rattle.ddl_tree.specs.declared.operator.CastOp.TheVariants as cast
use Rattle.ddl_tree.specs.declared.operator.InfixOp.TheVariants as op
use Rattle.ddl_tree.specs.TypeTree as ty
use Rattle.ddl_tree.specs.ClassTree as cls
use Rattle.ddl_tree.specs.ExprTree as ex
use Rattle.ddl_tree.specs.ModuleTree as mo
use Rattle.ddl_kinds.specs.declared.error.NameError.TheVariants as e
use Rattle.ddl_names.specs.Modules.{refusal}
use Rattle.ddl_names.proofs.RowForms.{alone, at, block, byte, def_grammar, def_main, def_value, digit, exprs, field_x, lower, main, name, nowhere, plain, pure}
use Rattle.ddl_names.proofs.RowForms.{upper}

abbrev call : List ℕ → ℕ → List ex.Expr → ex.Expr
call x i xs = ex.CallGrammar (name x i) (exprs xs) nowhere

abbrev parens : ex.Expr → ex.Expr
parens a = ex.Paren a None (at 20 30)

abbrev text : ℕ → ex.Expr
text i = ex.Text (codes "a") (at i (i + 3))

-- ---- kinds

-- def Main = 3
body : refusal (main (digit 11)) ≡ Some (e.WrongKind (at 11 12))
body = refl

-- def f = UInt8
value_body : refusal (alone (def_value (codes "f") [] (upper (codes "UInt8") 8) ∷ [])) ≡ Some (e.WrongKind (at 8 13))
value_body = refl

-- def Main = ^ (UInt8 3): at the name, before its arguments are counted
name_first : refusal (main (pure (parens (call (codes "UInt8") 14 (digit 20 ∷ []))))) ≡ Some (e.WrongKind (at 14 19))
name_first = refl

-- def Main = ^ Foo: that nothing binds it, before its kind
unknown_first : refusal (main (pure (upper (codes "Foo") 13))) ≡ Some (e.Unknown (at 13 16))
unknown_first = refl

-- def Main = ^ (block { Foo }): the form, before what is in it
form_first : refusal (main (pure (ex.Block (ex.an_item (plain (upper (codes "Foo") 22)) ex.no_items) (at 14 26)))) ≡ Some (e.WrongKind (at 14 26))
form_first = refl

-- block { x = 3 } is free there, block { 3 } is not
free_field : refusal (main (block (field_x 20 (digit 24) ∷ []))) ≡ None
free_field = refl

plain_item : refusal (main (block (plain (digit 20) ∷ []))) ≡ Some (e.WrongKind (at 20 21))
plain_item = refl

-- First { x = 3 } and First { 3 }
free_tag : refusal (main (ex.Choice Biased (ex.WithTags (ex.a_binding (name (codes "x") 20) (digit 24) nowhere ex.no_bindings)) nowhere)) ≡ None
free_tag = refl

untagged : refusal (main (ex.Choice Biased (ex.Untagged (exprs (digit 20 ∷ []))) nowhere)) ≡ Some (e.WrongKind (at 20 21))
untagged = refl

-- block { x = if true then .. else .. }: the first branch tells the kind of the others
abbrev branches : ex.Expr → ex.Expr → ex.Expr
branches a b = block (field_x 20 (ex.If (ex.True nowhere) a b nowhere) ∷ [])

first_value : refusal (main (branches (digit 30) (upper (codes "UInt8") 37))) ≡ Some (e.WrongKind (at 37 42))
first_value = refl

first_grammar : refusal (main (branches (upper (codes "UInt8") 30) (digit 41))) ≡ Some (e.WrongKind (at 41 42))
first_grammar = refl

-- a text is a grammar in a free place, and where a value is wanted a value
first_text : refusal (main (branches (text 30) (digit 39))) ≡ Some (e.WrongKind (at 39 40))
first_text = refl

second_text : refusal (main (branches (digit 30) (text 37))) ≡ None
second_text = refl

-- ^ 3 | 3 and ^ (3 + UInt8): the sides of `|` are grammars, and those of `+` values
sides : refusal (main (ex.Infix op.Either (pure (digit 13)) (digit 17) nowhere)) ≡ Some (e.WrongKind (at 17 18))
sides = refl

values : refusal (main (pure (ex.Infix op.Add (digit 13) (upper (codes "UInt8") 17) nowhere))) ≡ Some (e.WrongKind (at 17 22))
values = refl

-- `as?` is a grammar, `as` a value
fit : refusal (main (ex.Cast cast.Fit (digit 11) (ty.Bool nowhere) nowhere)) ≡ None
fit = refl

lossless : refusal (main (ex.Cast cast.Lossless (digit 11) (ty.Bool nowhere) (at 11 20))) ≡ Some (e.WrongKind (at 11 20))
lossless = refl

-- ---- arguments

-- def Main = UInt8 UInt8
count : refusal (main (call (codes "UInt8") 11 (upper (codes "UInt8") 17 ∷ []))) ≡ Some (e.WrongCount (at 11 16) 1 0)
count = refl

-- def Main = Match
none_given : refusal (main (upper (codes "Match") 11)) ≡ Some (e.WrongCount (at 11 16) 0 1)
none_given = refl

-- def F P = P UInt8: a parameter takes no arguments
parameter : refusal (alone (def_grammar (codes "F") (mo.Upper (name (codes "P") 6) ∷ []) (call (codes "P") 10 (byte ∷ [])) ∷ []))
    ≡ Some (e.WrongCount (at 10 11) 1 0)
parameter = refl

-- def f P = 3: a value has value parameters alone
value_params : refusal (alone (def_value (codes "f") (mo.Upper (name (codes "P") 6) ∷ []) (digit 10) ∷ [])) ≡ Some (e.WrongKind (at 6 7))
value_params = refl

-- Fail "a", Fail ("a"), Fail 3, Fail foo
fail : refusal (main (call (codes "Fail") 11 (text 16 ∷ []))) ≡ None
fail = refl

fail_parens : refusal (main (call (codes "Fail") 11 (parens (text 21) ∷ []))) ≡ Some (e.WrongKind (at 20 30))
fail_parens = refl

fail_number : refusal (main (call (codes "Fail") 11 (digit 16 ∷ []))) ≡ Some (e.WrongKind (at 16 17))
fail_number = refl

fail_unknown : refusal (main (call (codes "Fail") 11 (lower (codes "foo") 16 ∷ []))) ≡ Some (e.Unknown (at 16 19))
fail_unknown = refl

-- def P $c = $c, with Main = P $['a'], P ($['a']), P UInt8 and P "a"
abbrev takes_class : mo.Decl
takes_class = def_grammar (codes "P") (mo.Class (name (codes "$c") 6) ∷ []) (ex.Class (name (codes "$c") 11))

abbrev set : ex.Expr
set = ex.Set (cls.One (Quoted 97 nowhere)) nowhere

class_argument : refusal (alone (takes_class ∷ def_main (call (codes "P") 30 (set ∷ [])) ∷ [])) ≡ None
class_argument = refl

class_in_parens : refusal (alone (takes_class ∷ def_main (call (codes "P") 30 (parens set ∷ [])) ∷ [])) ≡ None
class_in_parens = refl

no_class : refusal (alone (takes_class ∷ def_main (call (codes "P") 30 (upper (codes "UInt8") 32 ∷ [])) ∷ [])) ≡ Some (e.WrongKind (at 32 37))
no_class = refl

text_no_class : refusal (alone (takes_class ∷ def_main (call (codes "P") 30 (text 32 ∷ [])) ∷ [])) ≡ Some (e.WrongKind (at 32 35))
text_no_class = refl

-- ---- types

-- def Main = ^ (3 : t), with a bitdata B, a grammar G and a grammar H with a parameter
abbrev typed : ex.Expr → List ℕ → mo.Decl
typed a t = def_main (pure (ex.Paren a (Some (ty.Named (name t 18))) nowhere))

abbrev others : List mo.Decl
others = mo.BitsDef (name (codes "B") 40) (mo.Exactly (record { value = 0; base = Decimal; digits = 1; span = nowhere })) nowhere
    ∷ def_grammar (codes "G") [] byte ∷ def_grammar (codes "H") (mo.Upper (name (codes "P") 50) ∷ []) byte ∷ []

bits_type : refusal (alone (typed (digit 14) (codes "B") ∷ others)) ≡ None
bits_type = refl

grammar_type : refusal (alone (typed (digit 14) (codes "G") ∷ others)) ≡ None
grammar_type = refl

type_with_params : refusal (alone (typed (digit 14) (codes "H") ∷ others)) ≡ Some (e.WrongCount (at 18 19) 0 1)
type_with_params = refl

built_in_type : refusal (alone (typed (digit 14) (codes "UInt8") ∷ others)) ≡ Some (e.WrongKind (at 18 23))
built_in_type = refl

-- a bitdata is no expression
bits_expression : refusal (alone (def_main (upper (codes "B") 11) ∷ others)) ≡ Some (e.WrongKind (at 11 12))
bits_expression = refl
