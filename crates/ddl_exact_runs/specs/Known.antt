-- Files of which it is told what they hold.
use Rattle.std.specs.Prelude.{◌≡◌, Some}
use Rattle.ddl_outside.specs.Files.{Contents, FilesState, IsToldAsHeld}

-- the files hold these contents, and each length that was told is that of what is held, which each call of `run` promises
pub record IsKnown (contents : Contents) (files : FilesState) : Type 0 where
  pub held : files.held ≡ Some contents
  pub lengths : IsToldAsHeld files
