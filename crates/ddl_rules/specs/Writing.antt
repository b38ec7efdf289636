-- Written types: which type each is, and the first that is none.
use Rattle.std.specs.Prelude.{◌≡◌, ℕ, ◌&&◌, [], nat_le, if◌then◌else◌, Option, Some}
use Rattle.ddl_kinds.specs.declared.bound.Bound.{Bound}
use Rattle.ddl_kinds.specs.declared.bound.Bound.TheVariants as b
use Rattle.ddl_tree.specs.TypeTree as y
use Rattle.ddl_types.specs.Types.{Ty, Ty.con, Tys.none, Head, Head.int, Head.uint, Head.sint, on}
use Rattle.ddl_types.specs.TyView.{ty_view}
use Rattle.ddl_types.specs.declared.ty.Ty as program
use Rattle.ddl_judging.specs.Shapes.{at}
use Rattle.ddl_rules.specs.declared.elaboration.Elaboration.{Elaboration}
use Rattle.ddl_rules.specs.Asks.{Env, Known, State, unit_type, bool_type, stream_type, array, maybe, map_type, bound_next, after_use, after_variables}
use Rattle.ddl_rules.specs.Steps.{GoesOn}

-- a written type, and what is left: a name takes one use, and the variables of its scheme are new ones
pub record Written : Type 0 where
  pub of : Ty
  pub state : State

-- the type of the value of a declaration; such a one has no parameters, so none of its conditions were kept
abbrev pub of_known : Known → State → Written
of_known d z = record { of = on d.of (at d.vars z.next); state = after_variables d.vars z }

abbrev pub of_bound : (ℕ → Known) → Option Bound → State → Written
of_bound known (Some (b.Decl n)) z = of_known (known n) z
of_bound known other z = record { of = unit_type; state = z }

-- a number of so many bits; a width that is none, `float` and `double` have no type here, they are refused before
abbrev pub sized : Head → ℕ → Ty
sized h n = if nat_le 1 n && nat_le n 128 then con h none else unit_type

abbrev pub written : (ℕ → Known) → y.TypeExpr → State → Written
written known (y.Int s) z = record { of = con int none; state = z }
written known (y.Uint n s) z = record { of = sized (uint n.value) n.value; state = z }
written known (y.Sint n s) z = record { of = sized (sint n.value) n.value; state = z }
written known (y.Bool s) z = record { of = bool_type; state = z }
written known (y.Stream s) z = record { of = stream_type; state = z }
written known (y.Float s) z = record { of = unit_type; state = z }
written known (y.Double s) z = record { of = unit_type; state = z }
written known (y.Maybe t s) z = let r = written known t z in record { of = maybe r.of; state = r.state }
written known (y.ArrayOf t s) z = let r = written known t z in record { of = array r.of; state = r.state }
written known (y.MapOf t u s) z = let l = written known t z in let r = written known u l.state in record { of = map_type l.of r.of; state = r.state }
written known (y.Empty s) z = record { of = unit_type; state = z }
written known (y.Named x) z = of_bound known (bound_next z.uses) (after_use z)
written known (y.Within t s) z = written known t z

-- this is the written type, and elaboration goes on so
pub record IsWritten (t : program.Ty) (w : Written) (env : Env) (old now : Elaboration) : Type 0 where
  pub typed : ty_view t ≡ w.of
  pub goes_on : GoesOn [] w.state env old now
