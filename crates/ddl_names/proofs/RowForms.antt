-- The modules of the worked rows. A name stands where its number says, and what the rows do not tell of stands nowhere.
use Rattle.std.specs.Prelude.{ℕ, ◌+◌, List, [], ◌∷◌, length, None, codes}
use Rattle.ddl_base.specs.declared.span.Span.{Span}
use Rattle.ddl_token.specs.declared.token.Base.TheVariants.{Decimal}
use Rattle.ddl_tree.specs.declared.name.Name.{Name}
use Rattle.ddl_tree.specs.declared.pattern.Names.{Names}
use Rattle.ddl_tree.specs.ExprTree as ex
use Rattle.ddl_tree.specs.ModuleTree as mo
use Rattle.ddl_uses.specs.Bindings.{Loaded}

abbrev pub in_module : ℕ → ℕ → ℕ → Span
in_module m i j = record { «module» = m; from = i; to = j }

-- the module of the rows is that after the prelude
abbrev pub at : ℕ → ℕ → Span
at i j = in_module 1 i j

abbrev pub nowhere : Span
nowhere = at 0 0

abbrev pub name : List ℕ → ℕ → Name
name x i = record { text = x; span = at i (i + length x) }

abbrev pub upper : List ℕ → ℕ → ex.Expr
upper x i = ex.Upper (name x i)

abbrev pub lower : List ℕ → ℕ → ex.Expr
lower x i = ex.Lower (name x i)

-- a number of one digit
abbrev pub digit : ℕ → ex.Expr
digit i = ex.Num (record { value = 3; base = Decimal; digits = 1; span = at i (i + 1) })

abbrev pub byte : ex.Expr
byte = upper (codes "UInt8") 0

abbrev pub exprs : List ex.Expr → ex.Exprs
exprs [] = ex.no_exprs
exprs (a ∷ xs) = ex.an_expr a (exprs xs)

abbrev pub items : List ex.Item → ex.Items
items [] = ex.no_items
items (i ∷ is) = ex.an_item i (items is)

abbrev pub block : List ex.Item → ex.Expr
block is = ex.Block (items is) nowhere

abbrev pub pure : ex.Expr → ex.Expr
pure e = ex.Pure e nowhere

abbrev pub plain : ex.Expr → ex.Item
plain e = ex.Plain e

abbrev pub let_x : ℕ → ex.Expr → ex.Item
let_x i e = ex.Let (name (codes "x") i) e nowhere

abbrev pub field_x : ℕ → ex.Expr → ex.Item
field_x i e = ex.Field (name (codes "x") i) e nowhere

abbrev pub one_name : List ℕ → ℕ → Names
one_name x i = record { first = name x i; second = None; span = nowhere }

-- def Main = e
abbrev pub def_main : ex.Expr → mo.Decl
def_main e = mo.Grammar (name (codes "Main") 4) [] None e nowhere

abbrev pub def_grammar : List ℕ → List mo.Param → ex.Expr → mo.Decl
def_grammar x ps e = mo.Grammar (name x 4) ps None e nowhere

abbrev pub def_value : List ℕ → List mo.Param → ex.Expr → mo.Decl
def_value x ps e = mo.Value (name x 4) ps None e nowhere

abbrev pub module_of : List ℕ → List mo.Decl → Loaded
module_of imports ds = record { name = codes "A"; tree = record { imports = []; decls = ds }; imports = imports }

-- an empty prelude, and a module of these declarations
abbrev pub alone : List mo.Decl → List Loaded
alone ds = module_of [] [] ∷ module_of [] ds ∷ []

-- a module that is def Main = e
abbrev pub main : ex.Expr → List Loaded
main e = alone (def_main e ∷ [])
