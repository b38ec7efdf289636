-- What a repetition and a loop go on with in a copy.
use Rattle.std.proofs.Common.{ℕ}
use Rattle.ddl_typed.specs.Tree.{Spec}
use Rattle.ddl_typed.specs.Repetition.{Repetition}
use Rattle.ddl_typed.specs.Loops.{Fold, Each}
use Rattle.ddl_copies.specs.Shapes.{Instance, Origin}
use Rattle.ddl_copies.specs.Copied.{copied}

module _ (spec : Spec) (number : Origin → ℕ) where
  abbrev pub copied_repetition : Repetition → Instance → Repetition
  copied_repetition r σs = record { choice = r.choice; limits = r.limits; body = copied spec number r.body σs }

  abbrev pub copied_fold : Fold → Instance → Fold
  copied_fold f σs = record { result = f.result; names = f.names; body = copied spec number f.body σs }

  abbrev pub copied_each : Each → Instance → Each
  copied_each m σs = record { names = m.names; body = copied spec number m.body σs; over_map = m.over_map }
