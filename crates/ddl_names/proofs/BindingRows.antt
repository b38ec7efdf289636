-- Worked rows: which binding a use has, and when it has none.
use Rattle.std.proofs.Common.{◌≡◌, ℕ, List, [], ◌∷◌, None, Some, refl}
use Rattle.std.specs.Prelude.{codes}
use Rattle.ddl_tree.specs.declared.operator.Bias.TheVariants.{Biased}
use Rattle.ddl_tree.specs.ExprTree as ex
use Rattle.ddl_tree.specs.ModuleTree as mo
use Rattle.ddl_tree.specs.TypeTree as ty
use Rattle.ddl_tree.specs.declared.pattern.Pat.TheVariants as pat
use Rattle.ddl_tree.specs.declared.pattern.Binder.TheVariants.{Called}
use Rattle.ddl_kinds.specs.declared.bound.Bound.{Bound}
use Rattle.ddl_kinds.specs.declared.bound.Bound.TheVariants.{Local, Decl, BuiltIn}
use Rattle.ddl_kinds.specs.declared.builtin.BuiltIn.TheVariants as b
use Rattle.ddl_kinds.specs.declared.error.NameError.TheVariants as e
use Rattle.ddl_kinds.specs.declared.bound.Use.{Use}
use Rattle.ddl_uses.specs.Bindings.{Loaded}
use Rattle.ddl_names.specs.Modules.{refusal, uses_in, uses_of_each}
use Rattle.ddl_names.proofs.RowForms.{alone, at, block, byte, def_grammar, def_main, def_value, digit, field_x, let_x, lower, main, module_of, name, nowhere}
use Rattle.ddl_names.proofs.RowForms.{one_name, plain, pure, upper}

abbrev use_at : ℕ → ℕ → Bound → Use
use_at i j to = record { span = at i j; bound = to }

-- ---- modules

-- def Main = Foo
unknown : refusal (main (upper (codes "Foo") 11)) ≡ Some (e.Unknown (at 11 14))
unknown = refl

-- def Main = UInt8: a built-in name, where nothing else binds it
built_in : uses_in (main (upper (codes "UInt8") 11)) ≡ use_at 11 16 (BuiltIn b.UInt8) ∷ []
built_in = refl

-- def F = END
abbrev f : mo.Decl
f = def_grammar (codes "F") [] (upper (codes "END") 8)

abbrev main_is_f : mo.Decl
main_is_f = def_main (upper (codes "F") 29)

-- import B; import C; def Main = F, where B and C declare F
abbrev both : List Loaded
both = module_of [] [] ∷ module_of (2 ∷ 3 ∷ []) (main_is_f ∷ []) ∷ module_of [] (f ∷ []) ∷ module_of [] (f ∷ []) ∷ []

two_imports : refusal both ≡ Some (e.TwoImports (at 29 30) 2 3)
two_imports = refl

-- the same where A declares F too: its own declaration, number 1
abbrev own : List Loaded
own = module_of [] [] ∷ module_of (2 ∷ 3 ∷ []) (main_is_f ∷ f ∷ []) ∷ module_of [] (f ∷ []) ∷ module_of [] (f ∷ []) ∷ []

own_is_allowed : refusal own ≡ None
own_is_allowed = refl

own_before_imports : uses_in own ≡ use_at 29 30 (Decl 1) ∷ use_at 8 11 (BuiltIn b.End) ∷ use_at 8 11 (BuiltIn b.End) ∷ use_at 8 11 (BuiltIn b.End) ∷ []
own_before_imports = refl

-- each of its four declarations has one use
own_by_declaration : uses_of_each own ≡ (use_at 29 30 (Decl 1) ∷ []) ∷ (use_at 8 11 (BuiltIn b.End) ∷ []) ∷ (use_at 8 11 (BuiltIn b.End) ∷ [])
    ∷ (use_at 8 11 (BuiltIn b.End) ∷ []) ∷ []
own_by_declaration = refl

-- one module that is imported twice is one import; it stands before the prelude, whose F has number 0
abbrev again : List Loaded
again = module_of [] (f ∷ []) ∷ module_of (2 ∷ 2 ∷ []) (main_is_f ∷ []) ∷ module_of [] (f ∷ []) ∷ []

again_is_allowed : refusal again ≡ None
again_is_allowed = refl

import_before_prelude : uses_in again ≡ use_at 8 11 (BuiltIn b.End) ∷ use_at 29 30 (Decl 2) ∷ use_at 8 11 (BuiltIn b.End) ∷ []
import_before_prelude = refl

-- the prelude's declaration without an import, and what an import imports is not seen
prelude_last : uses_in (module_of [] (f ∷ []) ∷ module_of [] (main_is_f ∷ []) ∷ []) ≡ use_at 8 11 (BuiltIn b.End) ∷ use_at 29 30 (Decl 0) ∷ []
prelude_last = refl

not_through : refusal (module_of [] [] ∷ module_of (2 ∷ []) (main_is_f ∷ []) ∷ module_of (3 ∷ []) [] ∷ module_of [] (f ∷ []) ∷ []) ≡ Some (e.Unknown (at 29 30))
not_through = refl

-- the prelude as an explicit import beside another
prelude_imported : refusal (module_of [] (f ∷ []) ∷ module_of (0 ∷ 2 ∷ []) (main_is_f ∷ []) ∷ module_of [] (f ∷ []) ∷ []) ≡ Some (e.TwoImports (at 29 30) 0 2)
prelude_imported = refl

-- def UInt8 = END; def Main = UInt8: built-in names are not reserved
not_reserved : uses_in (alone (def_grammar (codes "UInt8") [] (upper (codes "END") 12) ∷ def_main (upper (codes "UInt8") 27) ∷ []))
    ≡ use_at 12 15 (BuiltIn b.End) ∷ use_at 27 32 (Decl 0) ∷ []
not_reserved = refl

-- ---- scope

abbrev x_at : ℕ → ex.Expr
x_at i = lower (codes "x") i

abbrev pure_x : ℕ → ex.Item
pure_x i = plain (pure (x_at i))

abbrev byte_use : Use
byte_use = use_at 0 5 (BuiltIn b.UInt8)

-- a field holds in what follows, and the latest of a name is meant
field_then_let : uses_in (main (block (field_x 20 byte ∷ pure_x 30 ∷ let_x 40 byte ∷ pure_x 50 ∷ [])))
    ≡ byte_use ∷ use_at 30 31 (Local (at 20 21)) ∷ byte_use ∷ use_at 50 51 (Local (at 40 41)) ∷ []
field_then_let = refl

-- not in its own item
own_item : refusal (main (block (field_x 20 (x_at 24) ∷ []))) ≡ Some (e.Unknown (at 24 25))
own_item = refl

-- not after its block, which sees the names around it
leaves_block : refusal (main (block (plain (block (let_x 20 byte ∷ pure_x 30 ∷ [])) ∷ pure_x 50 ∷ []))) ≡ Some (e.Unknown (at 50 51))
leaves_block = refl

sees_around : uses_in (main (block (let_x 20 byte ∷ plain (block (pure_x 30 ∷ [])) ∷ []))) ≡ byte_use ∷ use_at 30 31 (Local (at 20 21)) ∷ []
sees_around = refl

-- the tags of alternatives bind nothing
tags_bind_nothing : refusal (main (ex.Choice Biased (ex.WithTags
    (ex.a_binding (name (codes "x") 20) byte nowhere (ex.a_binding (name (codes "y") 30) (x_at 34) nowhere ex.no_bindings))) nowhere))
    ≡ Some (e.Unknown (at 34 35))
tags_bind_nothing = refl

-- def f x = for (s = x; x in x) x: the parameter in the start and the list, and the element in the body
for_body : uses_in (alone (def_value (codes "f") (mo.Lower (name (codes "x") 6) ∷ [])
    (ex.For (name (codes "s") 15) (x_at 19) (one_name (codes "x") 22) (x_at 27) (x_at 30) nowhere) ∷ []))
    ≡ use_at 19 20 (Local (at 6 7)) ∷ use_at 27 28 (Local (at 6 7)) ∷ use_at 30 31 (Local (at 22 23)) ∷ []
for_body = refl

-- for (x = 3; x in []) x: of equal names the later one
for_same : uses_in (alone (def_value (codes "f") [] (ex.For (name (codes "x") 15) (digit 19) (one_name (codes "x") 22) (ex.Array ex.no_exprs nowhere) (x_at 30)
    nowhere) ∷ []))
    ≡ use_at 30 31 (Local (at 22 23)) ∷ []
for_same = refl

-- map (y, x in []) x: both names hold
map_second : uses_in (alone (def_value (codes "f") [] (ex.Map (record { first = name (codes "y") 15; second = Some (name (codes "x") 18); span = nowhere })
    (ex.Array ex.no_exprs nowhere) (x_at 30) nowhere) ∷ []))
    ≡ use_at 30 31 (Local (at 18 19)) ∷ []
map_second = refl

-- def f x = case x of { just x -> x; y x -> x; nothing -> x }: the name of a pattern holds in its alternative
pattern_names : uses_in (alone (def_value (codes "f") (mo.Lower (name (codes "x") 6) ∷ []) (ex.Case (x_at 15)
    (ex.an_alt (pat.Just (Called (name (codes "x") 25)) nowhere) (x_at 30) nowhere
    (ex.an_alt (pat.Tag (name (codes "y") 35) (Some (Called (name (codes "x") 37))) nowhere) (x_at 42) nowhere
    (ex.an_alt (pat.Nothing nowhere) (x_at 58) nowhere ex.no_alts))) nowhere) ∷ []))
    ≡ use_at 15 16 (Local (at 6 7)) ∷ use_at 30 31 (Local (at 25 26)) ∷ use_at 42 43 (Local (at 37 38)) ∷ use_at 58 59 (Local (at 6 7)) ∷ []
pattern_names = refl

-- def F (x : P) P = P: all parameters hold in the types of the others, where none of them is a type
param_in_type : refusal (alone (def_grammar (codes "F") (mo.TypedLower (name (codes "x") 7) (ty.Named (name (codes "P") 11)) nowhere
    ∷ mo.Upper (name (codes "P") 14) ∷ []) (upper (codes "P") 18) ∷ []))
    ≡ Some (e.WrongKind (at 11 12))
param_in_type = refl

-- a parameter stands before a declaration
param_first : uses_in (alone (def_grammar (codes "F") (mo.Upper (name (codes "F") 6) ∷ []) (upper (codes "F") 10) ∷ [])) ≡ use_at 10 11 (Local (at 6 7)) ∷ []
param_first = refl
