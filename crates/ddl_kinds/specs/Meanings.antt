-- What a name can mean, and what a declaration says of its own.
use Rattle.std.specs.Prelude.{ℕ, List, []}
use Rattle.ddl_tree.specs.declared.kind.Kind.{Kind}
use Rattle.ddl_tree.specs.declared.kind.Kind.TheVariants as k
use Rattle.ddl_tree.specs.declared.name.Name.{Name}
use Rattle.ddl_tree.specs.ModuleTree as mo
use Rattle.ddl_kinds.specs.declared.want.Want.{Want}
use Rattle.ddl_kinds.specs.declared.want.Want.TheVariants as w
use Rattle.ddl_kinds.specs.declared.bound.Bound.{Bound}

-- what a name means: nothing, two imports, or one thing with its kind and what its arguments have to be
pub data Meaning : Type 0 where
  nothing : Meaning
  two_imports : ℕ → ℕ → Meaning
  one : Bound → Kind → List Want → Meaning

abbrev pub decl_name : mo.Decl → Name
decl_name (mo.Grammar x ps t e s) = x
decl_name (mo.Value x ps t e s) = x
decl_name (mo.ClassDef x c s) = x
decl_name (mo.BitsDef x b s) = x
decl_name (mo.BitsUnion x cs s) = x

abbrev pub decl_kind : mo.Decl → Kind
decl_kind (mo.Grammar x ps t e s) = k.Grammar
decl_kind (mo.Value x ps t e s) = k.Value
decl_kind (mo.ClassDef x c s) = k.Class
decl_kind (mo.BitsDef x b s) = k.Bits
decl_kind (mo.BitsUnion x cs s) = k.Bits

abbrev pub decl_params : mo.Decl → List mo.Param
decl_params (mo.Grammar x ps t e s) = ps
decl_params (mo.Value x ps t e s) = ps
decl_params (mo.ClassDef x c s) = []
decl_params (mo.BitsDef x b s) = []
decl_params (mo.BitsUnion x cs s) = []

-- what a parameter wants of its argument
abbrev pub param_want : mo.Param → Want
param_want (mo.Upper x) = w.Grammar
param_want (mo.Lower x) = w.Value
param_want (mo.Class x) = w.Class
param_want (mo.TypedUpper x t s) = w.Grammar
param_want (mo.TypedLower x t s) = w.Value
