-- The module that a value of the code stands for.
use Rattle.std.specs.Prelude.{map}
use Rattle.ddl_tree.specs.declared.decl.Param.{Param}
use Rattle.ddl_tree.specs.declared.decl.Param.TheVariants as param
use Rattle.ddl_tree.specs.declared.decl.Part.{Part}
use Rattle.ddl_tree.specs.declared.decl.Part.TheVariants as part
use Rattle.ddl_tree.specs.declared.decl.Bits.{Bits}
use Rattle.ddl_tree.specs.declared.decl.Bits.TheVariants as bits
use Rattle.ddl_tree.specs.declared.decl.Con.{Con}
use Rattle.ddl_tree.specs.declared.decl.Decl.{Decl}
use Rattle.ddl_tree.specs.declared.decl.Decl.TheVariants as decl
use Rattle.ddl_tree.specs.declared.module.Module.{Module}
use Rattle.ddl_tree.specs.ModuleTree as mo
use Rattle.ddl_tree.specs.View.{type_view, typed_view, class_view, view}

abbrev pub param_view : Param → mo.Param
param_view (param.Upper x) = mo.Upper x
param_view (param.Lower x) = mo.Lower x
param_view (param.Class x) = mo.Class x
param_view (param.TypedUpper x t s) = mo.TypedUpper x (type_view t) s
param_view (param.TypedLower x t s) = mo.TypedLower x (type_view t) s

abbrev pub part_view : Part → mo.Part
part_view (part.Fixed n) = mo.Fixed n
part_view (part.Named x t s) = mo.Named x (type_view t) s
part_view (part.Unnamed t s) = mo.Unnamed (type_view t) s

abbrev pub bits_view : Bits → mo.Bits
bits_view (bits.Exactly n) = mo.Exactly n
bits_view (bits.Parts ps s) = mo.Parts (map part_view ps.items) s

abbrev pub con_view : Con → mo.Con
con_view c = record { name = c.name; bits = bits_view c.bits; span = c.span }

abbrev pub decl_view : Decl → mo.Decl
decl_view (decl.Grammar x ps t e s) = mo.Grammar x (map param_view ps.items) (typed_view t) (view e) s
decl_view (decl.Value x ps t e s) = mo.Value x (map param_view ps.items) (typed_view t) (view e) s
decl_view (decl.Class x c s) = mo.ClassDef x (class_view c) s
decl_view (decl.Bits x b s) = mo.BitsDef x (bits_view b) s
decl_view (decl.BitsUnion x cs s) = mo.BitsUnion x (map con_view cs.items) s

abbrev pub module_view : Module → mo.Module
module_view a = record { imports = a.imports.items; decls = map decl_view a.decls.items }
