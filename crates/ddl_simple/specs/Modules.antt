-- The modules of the form, and the declaration that each specifies.
use Rattle.std.specs.Prelude.{ℕ, List, [], ◌∷◌, ◌&&◌, nat_le, Option, None, option_map, if◌then◌else◌, bytes_eq, codes}
use Rattle.ddl_base.specs.declared.span.Span.{Span}
use Rattle.ddl_tree.specs.declared.module.Import.{Import}
use Rattle.ddl_tree.specs.declared.name.Name.{Name}
use Rattle.ddl_tree.specs.ExprTree.{Expr}
use Rattle.ddl_tree.specs.ModuleTree.{Module, Decl, Grammar}
use Rattle.ddl_typed.specs.Tree as t
use Rattle.ddl_typed.specs.View.{view}
use Rattle.ddl_typed.specs.declared.expr.TDecl.{TDecl}
use Rattle.ddl_simple.specs.Blocks.{blocks}
use Rattle.ddl_simple.specs.Grammars.{grammar}

-- a declaration with its typed tree: its name, where that stands, and its body
pub record Declared : Type 0 where
  pub name : List ℕ
  pub span : Span
  pub body : t.Expr

-- the declaration that a value of the program stands for
abbrev pub declared_view : TDecl → Declared
declared_view d = record { name = d.name; span = d.span; body = view d.body }

-- `Main` with a grammar that has at most 100 blocks in all
abbrev pub main_with : Name → Expr → Option Declared
main_with x e =
    if bytes_eq x.text (codes "Main") && nat_le (blocks e) 100
    then option_map (λ body. record { name = x.text; span = x.span; body = body }) (grammar e [])
    else None

-- a declaration `def Main = g`, without parameters and without a written type
abbrev pub main_of : Decl → Option Declared
main_of (Grammar x [] None e s) = main_with x e
main_of d = None

-- a module of one declaration and no imports
abbrev pub specified_by : List Import → List Decl → Option Declared
specified_by [] (d ∷ []) = main_of d
specified_by imports decls = None

-- what a module specifies, where it is of the form
abbrev pub specified : Module → Option Declared
specified m = specified_by m.imports m.decls
