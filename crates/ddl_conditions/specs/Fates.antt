-- What becomes of each demand of a group that has grown to its end.
use Rattle.std.specs.Prelude.{◌≡◌, ℕ, List, All, Option, Some, None}
use Rattle.ddl_base.specs.declared.span.Span.{Span}
use Rattle.ddl_types.specs.Types.{Sub}
use Rattle.ddl_conditions.specs.declared.closing.Fate.{Fate}
use Rattle.ddl_conditions.specs.declared.closing.Fate.TheVariants as fate
use Rattle.ddl_judging.specs.Demands.{Asked}
use Rattle.ddl_conditions.specs.Growing.{FirstOf, Group}
use Rattle.ddl_conditions.specs.Settled.{AreKept, IsFalse, IsKept, IsLeft, IsMet, IsWrong}
use Rattle.ddl_judging.specs.Views.{wrong_view}

-- a demand holds, is false, is kept, or is left
abbrev pub IsFate : Group → Sub → Asked → Fate → Type 0
IsFate g f a fate.Met = IsMet g f a
IsFate g f a (fate.False why) = IsWrong g f (wrong_view why) a
IsFate g f a fate.Kept = IsKept g f a
IsFate g f a fate.Left = IsLeft g f a

-- those that are kept, as long as none is left; else the first that is left
abbrev pub AreSorted : Group → Sub → List Asked → List ℕ → Option Span → Type 0
AreSorted g f asked ks None = AreKept g f 0 asked ks
AreSorted g f asked ks (Some span) = (a : Asked) × FirstOf (IsLeft g f) asked a × (span ≡ a.span)

-- none of these demands is false, and they are sorted
pub record IsClosing (g : Group) (f : Sub) (asked : List Asked) (ks : List ℕ) (left : Option Span) : Type 0 where
  pub none_false : All (λ a. IsFalse g f a → ⊥) asked
  pub sorted : AreSorted g f asked ks left

-- the first place stays
abbrev pub first_left : Option Span → Span → Option Span
first_left None span = Some span
first_left (Some first) span = Some first
