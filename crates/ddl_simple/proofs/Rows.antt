-- Worked examples of the definitions.
use Rattle.std.proofs.Common.{◌≡◌, ℕ, zero, suc, List, [], ◌∷◌, Option, Some, None, refl}
use Rattle.std.specs.Prelude.{codes}
use Rattle.ddl_base.specs.declared.span.Span.{Span}
use Rattle.ddl_types.specs.Types.{con}
use Rattle.ddl_types.specs.Types as ty
use Rattle.ddl_tree.specs.declared.name.Name.{Name}
use Rattle.ddl_tree.specs.TypeTree as written
use Rattle.ddl_tree.specs.ExprTree as ex
use Rattle.ddl_tree.specs.ModuleTree as mo
use Rattle.ddl_typed.specs.Tree as t
use Rattle.ddl_simple.specs.Form.{byte_type, text_type, unit_type, record_type}
use Rattle.ddl_simple.specs.Grammars.{grammar}
use Rattle.ddl_simple.specs.Modules.{Declared, specified}

abbrev at : ℕ → ℕ → Span
at i j = record { «module» = 0; from = i; to = j }

abbrev name : List ℕ → ℕ → ℕ → Name
name x i j = record { text = x; span = at i j }

-- def Main = e
abbrev main_is : ex.Expr → mo.Module
main_is e = record { imports = []; decls = mo.Grammar (name (codes "Main") 4 8) [] None e (at 0 100) ∷ [] }

-- what is specified where the form stands
abbrev main_with : t.Expr → Option Declared
main_with e = Some (record { name = codes "Main"; span = at 4 8; body = e })

abbrev match_text : List ℕ → ℕ → ℕ → ex.Expr
match_text bs i j = ex.CallGrammar (name (codes "Match") i (suc (suc (suc (suc (suc i))))))
    (ex.an_expr (ex.Text bs (at (suc (suc (suc (suc (suc (suc i)))))) j)) ex.no_exprs) (at i j)

abbrev typed_match : List ℕ → ℕ → ℕ → t.Expr
typed_match bs i j = t.expr (t.match (t.expr (t.text bs) text_type (at (suc (suc (suc (suc (suc (suc i)))))) j))) text_type (at i j)

abbrev uint8 : ℕ → ℕ → ex.Expr
uint8 i j = ex.Upper (name (codes "UInt8") i j)

abbrev typed_uint8 : ℕ → ℕ → t.Expr
typed_uint8 i j = t.expr t.uint8 byte_type (at i j)

-- def Main = Match "ab"
one_text : specified (main_is (match_text (codes "ab") 11 21)) ≡ main_with (typed_match (codes "ab") 11 21)
one_text = refl

-- def Main = block { x = UInt8; let y = Match "b"; ^ y; END }
abbrev end_at_54 : ex.Expr
end_at_54 = ex.Upper (name (codes "END") 54 57)

abbrev y_at_49 : ex.Expr
y_at_49 = ex.Pure (ex.Lower (name (codes "y") 51 52)) (at 49 52)

abbrev four_items : ex.Items
four_items =
    ex.an_item (ex.Field (name (codes "x") 19 20) (uint8 23 28) (at 19 28))
    (ex.an_item (ex.Let (name (codes "y") 34 35) (match_text (codes "b") 38 47) (at 30 47))
    (ex.an_item (ex.Plain y_at_49)
    (ex.an_item (ex.Plain end_at_54)
    ex.no_items)))

a_block : specified (main_is (ex.Block four_items (at 11 59))) ≡ main_with (t.expr (t.block
    (t.item (t.field (codes "x") 0 (typed_uint8 23 28))
    (t.item (t.let_ 1 (typed_match (codes "b") 38 47))
    (t.item (t.plain (t.expr (t.pure (t.expr (t.local 1) text_type (at 51 52))) text_type (at 49 52)))
    (t.item (t.plain (t.expr t.end unit_type (at 54 57)))
    t.no_items))))) (record_type 11) (at 11 59))
a_block = refl

-- def Main = block { ^ z }
abbrev just : ex.Item → ex.Expr
just i = ex.Block (ex.an_item i ex.no_items) (at 11 40)

abbrev pure_name : List ℕ → ex.Expr
pure_name x = ex.Pure (ex.Lower (name x 21 22)) (at 19 22)

no_such_name : specified (main_is (just (ex.Plain (pure_name (codes "z"))))) ≡ None
no_such_name = refl

-- def Main = block { x = UInt8; x = UInt8 }
abbrev field_x : ex.Item
field_x = ex.Field (name (codes "x") 19 20) (uint8 23 28) (at 19 28)

two_of_one_name : specified (main_is (ex.Block (ex.an_item field_x (ex.an_item field_x ex.no_items)) (at 11 40))) ≡ None
two_of_one_name = refl

-- def Main = block { $$ = UInt8; $$ = UInt8 }
abbrev dollar : ex.Item
dollar = ex.Result (uint8 24 29) (at 19 29)

two_results : specified (main_is (ex.Block (ex.an_item dollar (ex.an_item dollar ex.no_items)) (at 11 40))) ≡ None
two_results = refl

-- the `$$` of a block gives its type, wherever it stands
one_result : specified (main_is (ex.Block (ex.an_item dollar (ex.an_item field_x ex.no_items)) (at 11 40)))
    ≡ main_with (t.expr (t.block (t.item (t.result_ (typed_uint8 24 29)) (t.item (t.field (codes "x") 0 (typed_uint8 23 28)) t.no_items))) byte_type (at 11 40))
one_result = refl

-- a block that ends with a `let` gives `{}`; two `let`s may have one name
abbrev let_x : ex.Item
let_x = ex.Let (name (codes "x") 23 24) (uint8 27 32) (at 19 32)

last_let : specified (main_is (ex.Block (ex.an_item let_x (ex.an_item let_x ex.no_items)) (at 11 40)))
    ≡ main_with (t.expr (t.block (t.item (t.let_ 0 (typed_uint8 27 32)) (t.item (t.let_ 1 (typed_uint8 27 32)) t.no_items))) unit_type (at 11 40))
last_let = refl

-- def Main = (block { (UInt8) })
in_parentheses : specified (main_is (ex.Paren (just (ex.Plain (ex.Paren (uint8 23 28) None (at 22 29)))) None (at 10 41)))
    ≡ specified (main_is (just (ex.Plain (uint8 23 28))))
in_parentheses = refl

-- `^ (x)` is `^ x`, and `(x)` has the place of x
abbrev x_at : ex.Expr → ex.Expr
x_at x = ex.Block (ex.an_item let_x (ex.an_item (ex.Plain (ex.Pure x (at 34 40))) ex.no_items)) (at 11 42)

name_in_parentheses : specified (main_is (x_at (ex.Paren (ex.Lower (name (codes "x") 37 38)) None (at 36 39))))
    ≡ specified (main_is (x_at (ex.Lower (name (codes "x") 37 38))))
name_in_parentheses = refl

-- a written type is not of the form
written_type : specified (main_is (ex.Paren (uint8 12 17) (Some (written.Bool (at 20 26))) (at 11 27))) ≡ None
written_type = refl

-- an inner block sees the names of an outer one, and its own come after them; the latest of a name is meant
-- def Main = block { let x = UInt8; block { let x = END; ^ x }; ^ x }
abbrev let_x_end : ex.Item
let_x_end = ex.Let (name (codes "x") 44 45) (ex.Upper (name (codes "END") 48 51)) (at 40 51)

abbrev pure_x : ex.Expr
pure_x = pure_name (codes "x")

abbrev typed_x : ℕ → ty.Ty → t.Expr
typed_x n of = t.expr (t.pure (t.expr (t.local n) of (at 21 22))) of (at 19 22)

nested : specified (main_is (ex.Block
    (ex.an_item let_x
    (ex.an_item (ex.Plain (just (ex.Plain pure_x)))
    (ex.an_item (ex.Plain (ex.Block (ex.an_item let_x_end (ex.an_item (ex.Plain pure_x) ex.no_items)) (at 40 60)))
    (ex.an_item (ex.Plain pure_x)
    ex.no_items)))) (at 11 70)))
    ≡ main_with (t.expr (t.block
    (t.item (t.let_ 0 (typed_uint8 27 32))
    (t.item (t.plain (t.expr (t.block (t.item (t.plain (typed_x 0 byte_type)) t.no_items)) byte_type (at 11 40)))
    (t.item (t.plain (t.expr (t.block (t.item (t.let_ 1 (t.expr t.end unit_type (at 48 51))) (t.item (t.plain (typed_x 1 unit_type)) t.no_items))) unit_type
    (at 40 60)))
    (t.item (t.plain (typed_x 0 byte_type))
    t.no_items))))) byte_type (at 11 70))
nested = refl

-- a name is not in scope in its own item
-- def Main = block { x = block { ^ x } }
own_item : specified (main_is (just (ex.Field (name (codes "x") 19 20) (just (ex.Plain pure_x)) (at 19 30)))) ≡ None
own_item = refl

-- `^ x` is a plain item alone: not an entry, and not behind `y =`
not_alone : specified (main_is pure_x) ≡ None
not_alone = refl

not_behind : grammar (ex.Block (ex.an_item field_x (ex.an_item (ex.Field (name (codes "y") 30 31) pure_x (at 30 40)) ex.no_items)) (at 11 50)) [] ≡ None
not_behind = refl

-- 100 blocks, and 101
abbrev blocks_of : ℕ → ex.Expr
blocks_of zero = uint8 1 2
blocks_of (suc n) = ex.Block (ex.an_item (ex.Plain (blocks_of n)) ex.no_items) (at 1 2)

abbrev typed_blocks_of : ℕ → t.Expr
typed_blocks_of zero = typed_uint8 1 2
typed_blocks_of (suc n) = t.expr (t.block (t.item (t.plain (typed_blocks_of n)) t.no_items)) byte_type (at 1 2)

hundred : specified (main_is (blocks_of 100)) ≡ main_with (typed_blocks_of 100)
hundred = refl

one_more : specified (main_is (blocks_of 101)) ≡ None
one_more = refl

-- the entry is `Main`, and it is alone
other_name : specified (record { imports = []; decls = mo.Grammar (name (codes "Mine") 4 8) [] None (uint8 11 16) (at 0 16) ∷ [] }) ≡ None
other_name = refl

no_entry : specified (record { imports = []; decls = [] }) ≡ None
no_entry = refl
