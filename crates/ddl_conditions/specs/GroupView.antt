-- The group that a value of the program stands for.
use Rattle.std.specs.Prelude.{map}
use Rattle.ddl_types.specs.TyView.{ty_view}
use Rattle.ddl_conditions.specs.declared.group.Group.{Group}
use Rattle.ddl_conditions.specs.Growing as g
use Rattle.ddl_judging.specs.Views.{asked_view, shapes_view}

abbrev pub group_view : Group → g.Group
group_view x = record {
  shapes = shapes_view x.shapes.now;
  asked = map asked_view x.asked.now;
  roots = map ty_view x.roots.now;
  with_parameters =
      x.with_parameters;
}
