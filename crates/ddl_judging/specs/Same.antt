-- Whether two types are one.
use Rattle.std.specs.Prelude.{◌==◌, ◌&&◌, Bool, true, false}
use Rattle.ddl_types.specs.Types.{Ty, Ty.var, Ty.con, Tys, Tys.none, Tys.more}
use Rattle.ddl_unify.specs.Heads.{head_eq}

abbrev mutual
  pub same : Ty → Ty → Bool
  same (var v) (var w) = v == w
  same (con h ts) (con k us) = head_eq h k && same_all ts us
  same _ _ = false

  pub same_all : Tys → Tys → Bool
  same_all none none = true
  same_all (more t ts) (more u us) = same t u && same_all ts us
  same_all _ _ = false

-- whether two types are one variable
abbrev pub same_variable : Ty → Ty → Bool
same_variable (var v) t = same t (var v)
same_variable (con h ts) t = false
