-- Worked rows: names that stand twice, and the order of refusals.
use Rattle.std.proofs.Common.{◌≡◌, ℕ, [], ◌∷◌, None, Some, refl}
use Rattle.std.specs.Prelude.{codes}
use Rattle.ddl_tree.specs.declared.operator.Bias.TheVariants.{Unbiased}
use Rattle.ddl_tree.specs.declared.pattern.Pat.TheVariants as pat
use Rattle.ddl_tree.specs.TypeTree as ty
use Rattle.ddl_tree.specs.ExprTree as ex
use Rattle.ddl_tree.specs.ModuleTree as mo
use Rattle.ddl_kinds.specs.declared.error.NameError.TheVariants as e
use Rattle.ddl_names.specs.Modules.{refusal}
use Rattle.ddl_names.proofs.RowForms.{alone, at, block, byte, def_grammar, def_main, def_value, digit, field_x, let_x, lower, main, module_of, name, nowhere}
use Rattle.ddl_names.proofs.RowForms.{pure, upper}

-- def Main = ^ 3; def Main = ^ 3
declarations : refusal (alone (mo.Grammar (name (codes "Main") 4) [] None (pure (digit 13)) nowhere
    ∷ mo.Grammar (name (codes "Main") 19) [] None (pure (digit 28)) nowhere ∷ []))
    ≡ Some (e.Twice (at 19 23) (at 4 8))
declarations = refl

-- a grammar and a bitdata share their names
bitdata_too : refusal (alone (def_grammar (codes "B") [] byte ∷ mo.BitsUnion (name (codes "B") 20) [] nowhere ∷ [])) ≡ Some (e.Twice (at 20 21) (at 4 5))
bitdata_too = refl

-- declarations that stand twice come before all else, also in a module behind
declarations_first : refusal (module_of [] [] ∷ module_of [] (def_main (upper (codes "Foo") 11) ∷ [])
    ∷ module_of [] (def_grammar (codes "F") [] byte ∷ mo.Grammar (name (codes "F") 20) [] None byte nowhere ∷ []) ∷ [])
    ≡ Some (e.Twice (at 20 21) (at 4 5))
declarations_first = refl

-- def f x x = 3
parameters : refusal (alone (def_value (codes "f") (mo.Lower (name (codes "x") 6) ∷ mo.Lower (name (codes "x") 8) ∷ []) (digit 12) ∷ []))
    ≡ Some (e.Twice (at 8 9) (at 6 7))
parameters = refl

-- block { x = UInt8; x = Foo }: the name comes before what stands behind it
fields : refusal (main (block (field_x 20 byte ∷ field_x 30 (upper (codes "Foo") 34) ∷ []))) ≡ Some (e.Twice (at 30 31) (at 20 21))
fields = refl

-- block { x = Foo; x = UInt8 }: the first in the text comes first
text_order : refusal (main (block (field_x 20 (upper (codes "Foo") 24) ∷ field_x 30 byte ∷ []))) ≡ Some (e.Unknown (at 24 27))
text_order = refl

-- a `let` may stand twice, and beside a field
lets : refusal (main (block (let_x 20 byte ∷ let_x 30 byte ∷ field_x 40 byte ∷ []))) ≡ None
lets = refl

-- block { $$ = UInt8; $$ = UInt8 }: the marks
results : refusal (main (block (ex.Result byte (at 20 30) ∷ ex.Result byte (at 32 42) ∷ []))) ≡ Some (e.Twice (at 32 34) (at 20 22))
results = refl

-- fields beside `$$` too
fields_and_result : refusal (main (block (field_x 20 byte ∷ ex.Result byte (at 30 40) ∷ field_x 42 byte ∷ []))) ≡ Some (e.Twice (at 42 43) (at 20 21))
fields_and_result = refl

abbrev two_x : ex.Expr → ex.Bindings
two_x a = ex.a_binding (name (codes "x") 20) a nowhere (ex.a_binding (name (codes "x") 30) a nowhere ex.no_bindings)

-- ^ { x = 3, x = 3 } and Choose { x = UInt8; x = UInt8 }
record_fields : refusal (main (pure (ex.RecordOf (two_x (digit 24)) nowhere))) ≡ Some (e.Twice (at 30 31) (at 20 21))
record_fields = refl

tags : refusal (main (ex.Choice Unbiased (ex.WithTags (two_x byte)) nowhere)) ≡ Some (e.Twice (at 30 31) (at 20 21))
tags = refl

-- case v of { x -> 3; x -> 3 }: the first alternative that fits is taken
same_patterns : refusal (alone (def_value (codes "f") (mo.Lower (name (codes "v") 6) ∷ []) (ex.Case (lower (codes "v") 15)
    (ex.an_alt (pat.Tag (name (codes "x") 20) None nowhere) (digit 24) nowhere
    (ex.an_alt (pat.Tag (name (codes "x") 30) None nowhere) (digit 34) nowhere ex.no_alts)) nowhere) ∷ [])) ≡ None
same_patterns = refl

abbrev two_parts : mo.Bits
two_parts = mo.Parts (mo.Named (name (codes "x") 20) (ty.Bool nowhere) nowhere ∷ mo.Unnamed (ty.Bool nowhere) nowhere
    ∷ mo.Named (name (codes "x") 30) (ty.Bool nowhere) nowhere ∷ []) nowhere

-- bitdata B = { x : bool, _ : bool, x : bool }
parts : refusal (alone (mo.BitsDef (name (codes "B") 8) two_parts nowhere ∷ [])) ≡ Some (e.Twice (at 30 31) (at 20 21))
parts = refl

abbrev con : ℕ → mo.Con
con i = record { name = name (codes "c") i; bits = mo.Parts [] nowhere; span = nowhere }

-- bitdata B where { c = ..; c = .. }
constructors : refusal (alone (mo.BitsUnion (name (codes "B") 8) (con 20 ∷ con 30 ∷ []) nowhere ∷ [])) ≡ Some (e.Twice (at 30 31) (at 20 21))
constructors = refl
