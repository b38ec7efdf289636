-- The code of a program.
use Rattle.std.specs.Prelude.{ℕ, List, [], ◌∷◌, map, length, true, false, Option, Some, None}
use Rattle.ddl_base.specs.declared.span.Span.{Span}
use Rattle.ddl_types.specs.Types.{Ty}
use Rattle.ddl_core.specs.Core.{Core}
use Rattle.ddl_core.specs.Core as c
use Rattle.ddl_core.specs.Meaning.{function_at}
use Rattle.ddl_core.specs.Places.{DeclName, PlaceShape}
use Rattle.ddl_blocks.specs.Code.{ValueType, of_type, return, Block, Function, Code}
use Rattle.ddl_blocks.specs.OperationTypes.{unit}
use Rattle.ddl_emission.specs.Pieces.{upto, Out, to_block, Place, entry_of, ending_block}
use Rattle.ddl_emission.specs.Emission.{emit}

-- the second block of a function, to which calls in its body come back: it returns the value
abbrev pub return_block : ValueType → Block
return_block ty = ending_block (ty ∷ []) (return 0)

abbrev pub body_out : Out
body_out = record { block = 1; keep = []; returns = true }

-- where a body stands: its parameters are its variables, and no loop is round it
abbrev pub body_place : c.Function → Place
body_place d = record {
  variables = upto 0 (length d.params);
  grow = map (λ ty. false) d.params;
  types = map of_type d.params;
  of = of_type d.result;
  opened = [];
  out = body_out;
  top = to_block 0 [];
}

-- a function: the block that its body begins in, the one that returns, and the body's further blocks
abbrev pub blocks_of : c.Function → List Block
blocks_of d =
    let p = emit d.body (body_place d) 2 in
    entry_of (map of_type d.params) p ∷ return_block (of_type d.result) ∷ p.more

abbrev pub function_of : c.Function → Function
function_of d = record { params = length d.params; blocks = blocks_of d; result = of_type d.result; name = d.name }

-- what a code has beside its functions: texts, modules, declarations, records, unions and bitdata, and where the name
-- of the entry stands
pub record Beside : Type 0 where
  pub texts : List (List ℕ)
  pub units : List (List ℕ)
  pub decls : List DeclName
  pub places : List PlaceShape
  pub entry_name : Span

-- the type of what is parsed: the entry's result
abbrev pub result_of : Option c.Function → Ty
result_of (Some d) = d.result
result_of None = unit

-- a function for each function, under its number
abbrev pub code_of : Beside → Core → Code
code_of b program = record {
  functions = map function_of program.functions;
  entry = program.entry;
  texts = b.texts;
  units = b.units;
  decls = b.decls;
  places = b.places;
  entry_name = b.entry_name;
  result = result_of (function_at program.functions program.entry);
}
