-- Which modules the grammar makes.
use Rattle.std.specs.Prelude.{List, [], ◌∷◌, ◌≢◌}
use Rattle.ddl_token.specs.declared.token.Base.TheVariants.{Decimal}
use Rattle.ddl_tree.specs.declared.name.Number.{Number}
use Rattle.ddl_tree.specs.ModuleTree as mo
use Rattle.ddl_tree.specs.Grammar.{IsClass, IsExpr}

-- a number of a layout is written in base 2 or 16
abbrev pub IsBitPattern : Number → Type 0
IsBitPattern n = n.base ≢ Decimal

abbrev pub IsPart : mo.Part → Type 0
IsPart (mo.Fixed n) = IsBitPattern n
IsPart (mo.Named x t s) = Unit {0}
IsPart (mo.Unnamed t s) = Unit {0}

abbrev pub AreParts : List mo.Part → Type 0
AreParts [] = Unit {0}
AreParts (p ∷ ps) = IsPart p × AreParts ps

abbrev pub IsBits : mo.Bits → Type 0
IsBits (mo.Exactly n) = IsBitPattern n
IsBits (mo.Parts ps s) = (ps ≢ []) × AreParts ps

abbrev pub AreCons : List mo.Con → Type 0
AreCons [] = Unit {0}
AreCons (c ∷ cs) = IsBits c.bits × AreCons cs

abbrev pub IsDecl : mo.Decl → Type 0
IsDecl (mo.Grammar x ps t e s) = IsExpr e
IsDecl (mo.Value x ps t e s) = IsExpr e
IsDecl (mo.ClassDef x c s) = IsClass c
IsDecl (mo.BitsDef x b s) = IsBits b
IsDecl (mo.BitsUnion x cs s) = (cs ≢ []) × AreCons cs

abbrev pub AreDecls : List mo.Decl → Type 0
AreDecls [] = Unit {0}
AreDecls (d ∷ ds) = IsDecl d × AreDecls ds

-- each part of the module comes from the nonterminal at its place
abbrev pub IsModule : mo.Module → Type 0
IsModule x = AreDecls x.decls
