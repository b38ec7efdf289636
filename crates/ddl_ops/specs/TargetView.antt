-- What the target of a cast in the program stands for, where the layouts of the bitdata are known.
use Rattle.std.specs.Prelude.{List}
use Rattle.ddl_types.specs.Layout.{Layout}
use Rattle.ddl_ops.specs.Bitdata.{layout_at}
use Rattle.ddl_ops.specs.Casts as c
use Rattle.ddl_ops.specs.declared.target.Target.{Target}
use Rattle.ddl_ops.specs.declared.target.Target.TheVariants.{Number, Bits, Same}

-- the target; that of a bitdata has its layout
abbrev pub target_view : List Layout → Target → c.Target
target_view ls (Number ty) = c.to_number ty
target_view ls (Bits n) = c.bits_target (layout_at ls n)
target_view ls Same = c.to_same
