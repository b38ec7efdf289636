-- What a search for groups keeps. It has a path of declarations and the places at which its groups begin; the groups lead on
-- to each other, and the members of each reach each other.
use Rattle.std.specs.Prelude.{◌≡◌, ℕ, ◌+◌, ◌<◌, ◌≤◌, ◌≢◌, ◌⊎◌, List, [], Contains, length, slice_index, slice_index_or, sum_by}
use Rattle.ddl_groups.specs.declared.marks.Mark.{Mark}
use Rattle.ddl_groups.specs.declared.marks.Mark.TheVariants.{Unseen, Open, Closed}
use Rattle.ddl_groups.specs.declared.marks.Step.{Step}
use Rattle.ddl_groups.specs.declared.marks.Search.{Search}
use Rattle.ddl_groups.specs.Reach.{Reaches, Uses}

-- the mark of a declaration
abbrev pub mark_at : List Mark → ℕ → Mark
mark_at marks v = slice_index_or marks v Unseen

-- 1 for what is unseen
abbrev pub weight : Mark → ℕ
weight Unseen = 1
weight (Open q) = 0
weight Closed = 0

-- how many declarations are unseen
abbrev pub unseen : List Mark → ℕ
unseen marks = sum_by weight marks

-- what was seen stays so, and no more is unseen
abbrev pub KeepsSeen : List Mark → List Mark → Type 0
KeepsSeen before after = (unseen after ≤ unseen before) × ((v : ℕ) → mark_at before v ≢ Unseen → mark_at after v ≢ Unseen)

-- the place q is of the group of p or of a later one: each group that begins at or before p does so at or before q
abbrev pub IsBehind : List ℕ → ℕ → ℕ → Type 0
IsBehind heads p q = (h : ℕ) → Contains heads h → h ≤ p → h ≤ q

-- from each place the path leads to those that are behind it
abbrev pub Leads : List (List ℕ) → List ℕ → List ℕ → Type 0
Leads needs path heads = (p q : ℕ) → p < length path → q < length path → IsBehind heads p q → Reaches needs (slice_index path p) (slice_index path q)

-- steps from later places stand later
abbrev pub AreSorted : List Step → Type 0
AreSorted steps = (i j : ℕ) (d : Step) → i ≤ j → j < length steps → (slice_index_or steps i d).from ≤ (slice_index_or steps j d).from

-- what holds of the path, its groups, the steps still to be taken, the marks and the labels
pub record IsPath (needs : List (List ℕ)) (path heads : List ℕ) (steps : List Step) (marks : List Mark) (labels : List ℕ) (count : ℕ) : Type 0 where
  pub marks_long : length marks ≡ length needs
  pub labels_long : length labels ≡ length needs
  pub places : (v q : ℕ) → mark_at marks v ≡ Open q → (q < length path) × (slice_index path q ≡ v)
  pub stand : (p : ℕ) → p < length path → mark_at marks (slice_index path p) ≡ Open p
  pub heads_in : (h : ℕ) → Contains heads h → h < length path
  pub rising : (i j : ℕ) → i < j → j < length heads → slice_index heads i < slice_index heads j
  pub first : 0 < length path → Contains heads 0
  pub leads : Leads needs path heads
  pub steps_in : (s : Step) → Contains steps s → (s.from < length path) × Uses needs (slice_index path s.from) s.to
  pub sorted : AreSorted steps
  pub falls : (a b : ℕ) → mark_at marks a ≡ Closed → Uses needs a b → (mark_at marks b ≡ Closed) × (slice_index labels b ≤ slice_index labels a)
  pub joins : (a b : ℕ) → mark_at marks a ≡ Closed → mark_at marks b ≡ Closed → slice_index labels a ≡ slice_index labels b → Reaches needs a b
  pub below : (a : ℕ) → mark_at marks a ≡ Closed → slice_index labels a < count
  pub some : (l : ℕ) → l < count → (a : ℕ) × (a < length needs) × (mark_at marks a ≡ Closed) × (slice_index labels a ≡ l)
  pub room : count + length heads + unseen marks ≤ length needs

-- the use by the declaration at p of b is a step still to be taken, or leads to what is closed or not before the group of p
abbrev pub IsFollowed : List ℕ → List Step → List Mark → ℕ → ℕ → Type 0
IsFollowed heads steps marks p b = ((s : Step) × Contains steps s × (s.from ≡ p) × (s.to ≡ b))
    ⊎ ((mark_at marks b ≡ Closed) ⊎ ((q : ℕ) × (mark_at marks b ≡ Open q) × IsBehind heads p q))

-- each use by what stands on the path is followed
abbrev pub AreFollowed : List (List ℕ) → List ℕ → List ℕ → List Step → List Mark → Type 0
AreFollowed needs path heads steps marks = (p b : ℕ) → p < length path → Uses needs (slice_index path p) b → IsFollowed heads steps marks p b

-- each use by what stands on the path is followed, or leads to w
abbrev pub AreFollowedBut : List (List ℕ) → List ℕ → List ℕ → List Step → List Mark → ℕ → Type 0
AreFollowedBut needs path heads steps marks w = (p b : ℕ) → p < length path → Uses needs (slice_index path p) b → (b ≡ w) ⊎ IsFollowed heads steps marks p b

-- what a search keeps
pub record Holds (needs : List (List ℕ)) (search : Search) : Type 0 where
  pub path : IsPath needs search.path.items search.heads.items search.pending.items search.marks.items search.labels.items search.count
  pub followed : AreFollowed needs search.path.items search.heads.items search.pending.items search.marks.items

-- the search comes to w, which is unseen: all that stands on the path reaches it
pub record ComesTo (needs : List (List ℕ)) (search : Search) (w : ℕ) : Type 0 where
  pub path : IsPath needs search.path.items search.heads.items search.pending.items search.marks.items search.labels.items search.count
  pub followed : AreFollowedBut needs search.path.items search.heads.items search.pending.items search.marks.items w
  pub new : mark_at search.marks.items w ≡ Unseen
  pub declared : w < length needs
  pub reached : (p : ℕ) → p < length search.path.items → Reaches needs (slice_index search.path.items p) w

-- nothing is on the path
abbrev pub IsIdle : List (List ℕ) → Search → Type 0
IsIdle needs search = Holds needs search × (search.path.items ≡ []) × (search.heads.items ≡ []) × (search.pending.items ≡ [])

-- the steps are those that there were and, behind them, one from this place to each of the used
pub record StepsMore (before : List Step) (from : ℕ) (used : List ℕ) (steps : List Step) : Type 0 where
  pub sorted : AreSorted steps
  pub later : (s : Step) → Contains steps s → s.from ≤ from
  pub kept : (s : Step) → Contains before s → Contains steps s
  pub all : (b : ℕ) → Contains used b → (s : Step) × Contains steps s × (s.from ≡ from) × (s.to ≡ b)
  pub only : (s : Step) → Contains steps s → Contains before s ⊎ ((s.from ≡ from) × Contains used s.to)

-- w was unseen, and is not; what was seen stays so
abbrev pub IsOpened : List Mark → ℕ → List Mark → Type 0
IsOpened before w after = (unseen after < unseen before) × ((v : ℕ) → mark_at before v ≢ Unseen → mark_at after v ≢ Unseen) × (mark_at after w ≢ Unseen)

-- so many declarations, of which none is seen
pub record IsStart (count : ℕ) (search : Search) : Type 0 where
  pub marks_long : length search.marks.items ≡ count
  pub labels_long : length search.labels.items ≡ count
  pub none : (v : ℕ) → mark_at search.marks.items v ≡ Unseen
  pub path : search.path.items ≡ []
  pub heads : search.heads.items ≡ []
  pub pending : search.pending.items ≡ []
  pub no_groups : search.count ≡ 0
