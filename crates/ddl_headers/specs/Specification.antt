-- The typing of a specification, and why there is none, with the headers of its declarations.
use Rattle.std.specs.Prelude.{ℕ, List, [], Bool, true, false, Option, Some, slice_get}
use Rattle.ddl_kinds.specs.declared.bound.Use.{Use}
use Rattle.ddl_tree.specs.ModuleTree as mo
use Rattle.ddl_rules.specs.Asks.{unknown}
use Rattle.ddl_group_typing.specs.Refusals.{IsFirstRefused, Named, Refusal}
use Rattle.ddl_group_typing.specs.Tables.{Table}
use Rattle.ddl_group_typing.specs.Whole.{AreTyped}
use Rattle.ddl_headers.specs.Opened.{first_refused, opened}
use Rattle.ddl_headers.specs.Parts.{HeaderRefusal}

-- before the first group nothing is known
abbrev pub no_groups : Table
no_groups = record { known = λ d. unknown; done = []; places = []; bitdata = []; declared = []; texts = []; sites = 0 }

-- in the body of a value each `case` has to take each value of its subject
abbrev pub is_value_decl : Option mo.Decl → Bool
is_value_decl (Some (mo.Value x ps t e s)) = true
is_value_decl o = false

-- the declarations in order of their numbers, the uses of names in each, and the groups in the order of need
module _ (decls : List mo.Decl) (uses : List (List Use)) (groups : List (List ℕ)) where
  -- all groups are typed, one after another, and this is what they give
  abbrev pub IsTypedAs : Table → Type 0
  IsTypedAs z = AreTyped (opened decls uses groups) groups no_groups z

  -- or this is the first reason of the first group that has one, with what its types name
  abbrev pub IsRefusedFor : Refusal HeaderRefusal → Named → Type 0
  IsRefusedFor e names =
      IsFirstRefused (opened decls uses groups) (first_refused decls uses groups) (λ d. is_value_decl (slice_get decls d)) groups no_groups e names
