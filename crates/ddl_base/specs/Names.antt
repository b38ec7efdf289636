-- Lists of distinct texts.
use Rattle.std.specs.Prelude.{◌≡◌, ℕ, List, [], ◌∷◌, ◌++◌, Some, slice_get, Contains}

-- a text stands at one place at most
abbrev pub AreDistinct : List (List ℕ) → Type 0
AreDistinct names = (i j : ℕ) (text : List ℕ) → slice_get names i ≡ Some text → slice_get names j ≡ Some text → i ≡ j

-- `after` is the list with the text put in: at place n it stands, and nothing changes where it stood before, else it is appended
pub record IsWith (names : List (List ℕ)) (text : List ℕ) (n : ℕ) (after : List (List ℕ)) : Type 0 where
  pub place : slice_get after n ≡ Some text
  pub old : Contains names text → after ≡ names
  pub added : ¬ Contains names text → after ≡ names ++ text ∷ []
