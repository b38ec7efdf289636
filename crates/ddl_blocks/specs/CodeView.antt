-- The code that a value of the program stands for.
use Rattle.std.specs.Prelude.{List, map}
use Rattle.ddl_types.specs.Layout.{Layout}
use Rattle.ddl_types.specs.TyView.{ty_view}
use Rattle.ddl_core.specs.OperationView.{operation_view}
use Rattle.ddl_core.specs.PlaceView.{decl_view, shape_view, layouts_in}
use Rattle.ddl_blocks.specs.declared.block.Block.{Block}
use Rattle.ddl_blocks.specs.declared.block.Function.{Function}
use Rattle.ddl_blocks.specs.declared.block.ValueType.{ValueType}
use Rattle.ddl_blocks.specs.declared.block.ValueType.TheVariants.{Of, Builder, Thread}
use Rattle.ddl_blocks.specs.declared.code.Code.{Code}
use Rattle.ddl_blocks.specs.declared.instr.End.{End}
use Rattle.ddl_blocks.specs.declared.instr.End.TheVariants as E
use Rattle.ddl_blocks.specs.declared.instr.FaultTarget.{FaultTarget}
use Rattle.ddl_blocks.specs.declared.instr.Instr.{Instr}
use Rattle.ddl_blocks.specs.declared.instr.Instr.TheVariants as I
use Rattle.ddl_blocks.specs.declared.instr.Targets.{Targets}
use Rattle.ddl_blocks.specs.Code as c

abbrev pub type_view : ValueType → c.ValueType
type_view (Of ty) = c.of_type (ty_view ty)
type_view (Builder ty) = c.builder (ty_view ty)
type_view Thread = c.thread

abbrev pub target_view : FaultTarget → c.Target
target_view t = record { fault = t.fault; block = t.block }

abbrev pub targets_view : Targets → c.Targets
targets_view t = record { fail = t.fail; faults = map target_view t.faults.items }

-- an instruction, where the layouts of the bitdata are known
abbrev pub instr_view : List Layout → Instr → c.Instr
instr_view ls (I.Do operation xs ty span opened targets) = c.do_ (record {
  operation = operation_view ls operation;
  arguments = xs.items;
  of = type_view ty;
  span = span;
  opened = opened.items;
  targets = targets_view targets;
})
instr_view ls (I.Build x) = c.build x
instr_view ls (I.Choose x ps) = c.choose x ps.items
instr_view ls (I.Content x p ty other) = c.content x p (ty_view ty) other
instr_view ls (I.Spawn block xs biased) = c.spawn block xs.items biased
instr_view ls (I.Notify x) = c.notify x
instr_view ls (I.Dup x) = c.dup x
instr_view ls (I.Free x) = c.free x
instr_view ls (I.Note why span opened) = c.note why span opened.items

abbrev pub end_view : End → c.Exit
end_view (E.Jump block xs) = c.jump block xs.items
end_view (E.Branch x truth other) = c.branch x truth other
end_view (E.Switch x blocks) = c.switch_to x blocks.items
end_view (E.Call function xs block keep opened) = c.call_to function xs.items block keep.items opened.items
end_view (E.Return x) = c.return x
end_view E.Fail = c.fail_
end_view (E.Halt fault span) = c.halt fault span

abbrev pub block_view : List Layout → Block → c.Block
block_view ls b = record { params = map type_view b.params.items; body = map (instr_view ls) b.body.items; exit = end_view b.end }

abbrev pub function_view : List Layout → Function → c.Function
function_view ls f = record { params = f.params; blocks = map (block_view ls) f.blocks.items; result = type_view f.result; name = f.name }

abbrev pub code_view : Code → c.Code
code_view k = record {
  functions = map (function_view (layouts_in k.places.items)) k.functions.items;
  entry = k.entry;
  texts = k.texts.items;
  units = k.units.items;
  decls = map decl_view k.decls.items;
  places = map shape_view k.places.items;
  entry_name = k.entry_name;
  result = ty_view k.result;
}
