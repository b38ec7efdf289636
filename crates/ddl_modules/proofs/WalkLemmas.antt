-- The least walk of a length, unit by unit.
use Rattle.std.proofs.Common.{◌≡◌, ℕ, zero, suc, ◌+◌, ◌<◌, ◌≤◌, List, [], ◌∷◌, ◌++◌, length, Bool, true, refl, ap, sym, subst, ◌∙◌, ◌⊎◌, inl, inr, arith}
use Rattle.std.proofs.Common.{length-append, append_assoc}
use Rattle.std.specs.Prelude.{map}
use Rattle.std.proofs.lemmas.Bool.{cases_eq, cases_order}
use Rattle.std.proofs.lemmas.List.{append-nil, same_from_push}
use Rattle.ddl_modules.specs.Cycles.{IsNotAfter, IsWalk}
use Rattle.ddl_modules.specs.Levels.{any_up, flag, level, levels, lists_of, IsLeastUp, IsLeastWalk}
use Rattle.ddl_modules.specs.declared.levels.Level.{Level}
use Rattle.ddl_modules.specs.declared.rows.Row.{Row}
use Rattle.ddl_modules.proofs.LevelLemmas.{flag-first, flag-lifted, level_from_walk, row}
use Rattle.ddl_modules.proofs.RowLemmas.{Contains_from_has}

module _ (rows : List Row) (unit k a next : ℕ) (walk : List ℕ) (long : length walk ≡ k) (up : IsLeastUp (level rows unit k) (row rows a) next)
    (least : IsLeastWalk (lists_of rows) next walk unit) where
  not_after : (b : ℕ) (other : List ℕ) → IsWalk (lists_of rows) b other unit → length other ≡ length walk → next ≤ b → (next ≡ b) ⊎ (next ≡ b → ⊥)
      → (next < b) ⊎ ((next ≡ b) × IsNotAfter walk other)
  not_after b other w e l (inl s) =
      let P : ℕ → Type 0 = λ c. IsWalk (lists_of rows) c other unit in
      inr (s, least.1 other (subst P (sym s) w) e)
  not_after b other w e l (inr n) = inl (less (cases_order next b))
    where
      less : (next ≡ b) ⊎ ((next < b) ⊎ (b < next)) → next < b
      less (inl s) = absurd (n s)
      less (inr (inl m)) = m
      less (inr (inr m)) = absurd (omega arith)

  against : (other : List ℕ) → IsWalk (lists_of rows) a other unit → length other ≡ length (next ∷ walk) → IsNotAfter (next ∷ walk) other
  against [] w e = absurd (omega arith)
  against (b ∷ other) w e =
      let same : length other ≡ length walk = omega arith in
      let there : flag (level rows unit k) b ≡ true = ap (λ (n : ℕ). flag (level rows unit n) b) (sym (same ∙ long)) ∙ level_from_walk rows unit b other w.1 in
      not_after b other w.1 same (up.least b w.0 there) (cases_eq next b)

  -- a least walk goes on from the least import on the level below
  pub longer_walk : IsLeastWalk (lists_of rows) a (next ∷ walk) unit
  longer_walk = ((up.among, least.0), against)

-- what is known while the levels are gone down
pub record IsDescent (rows : List Row) (unit n : ℕ) (lower : List (List Bool)) (k at : ℕ) (walk : List ℕ) : Type 0 where
  pub lower_of : lower ≡ levels rows unit k
  pub up : flag (level rows unit k) at ≡ true
  pub count : length walk + k ≡ n
  pub least : (rest : List ℕ) → length rest ≡ k → IsLeastWalk (lists_of rows) at rest unit → IsLeastWalk (lists_of rows) unit (walk ++ rest) unit

pub descent_begun : (rows : List Row) (unit n : ℕ) (lower : List (List Bool)) → lower ≡ levels rows unit n → flag (level rows unit n) unit ≡ true
    → IsDescent rows unit n lower n unit []
descent_begun rows unit n lower e up = record { lower_of = e; up = up; count = omega arith; least = λ rest long h. h }

module _ (rows : List Row) (unit n : ℕ) (lower below : List (List Bool)) (flags : List Bool) (k k' at : ℕ) (walk : List ℕ)
    (d : IsDescent rows unit n lower k at walk)
    (split : lower ≡ below ++ flags ∷ []) (count : k ≡ suc k') where
  parts : (below ≡ levels rows unit k') × (flags ≡ level rows unit k')
  parts = same_from_push below (levels rows unit k') flags (level rows unit k') (sym split ∙ (d.lower_of ∙ ap (levels rows unit) count))

  pub below_of : below ≡ levels rows unit k'
  below_of = parts.0

  pub flags_of : flags ≡ level rows unit k'
  flags_of = parts.1

  -- some import is up on the level below
  pub some_up : any_up flags (row rows at) ≡ true
  some_up =
      ap (λ (f : List Bool). any_up f (row rows at)) flags_of
      ∙ (sym (flag-lifted rows (level rows unit k') at) ∙ (ap (λ (m : ℕ). flag (level rows unit m) at) (sym count) ∙ d.up))

  pub descended : (next : ℕ) → IsLeastUp flags (row rows at) next → IsDescent rows unit n below k' next (walk ++ next ∷ [])
  descended next up =
      let P : List Bool → Type 0 = λ f. IsLeastUp f (row rows at) next in
      let least_up : IsLeastUp (level rows unit k') (row rows at) next = subst P flags_of up in
      record {
        lower_of = below_of;
        up = least_up.up;
        count = let c = d.count in simp length-append (omega arith);
        least = λ rest long h.
            let longer : IsLeastWalk (lists_of rows) unit (walk ++ next ∷ rest) unit =
            d.least (next ∷ rest) (ap suc long ∙ sym count) (longer_walk rows unit k' at next rest long least_up h) in
            rw append_assoc longer;
      }

-- at the lowest level the walk is whole
pub descent_done : (rows : List Row) (unit n : ℕ) (lower : List (List Bool)) (k at : ℕ) (walk : List ℕ) → IsDescent rows unit n lower k at walk → k ≡ 0
    → IsLeastWalk (lists_of rows) unit walk unit × (length walk ≡ n)
descent_done rows unit n lower k at walk d none =
    let up : flag (level rows unit zero) at ≡ true = ap (λ (m : ℕ). flag (level rows unit m) at) (sym none) ∙ d.up in
    let last : IsLeastWalk (lists_of rows) at [] unit = (Contains_from_has (row rows at) unit (sym (flag-first rows unit at) ∙ up), λ other w e. tt) in
    let P : List ℕ → Type 0 = λ w. IsLeastWalk (lists_of rows) unit w unit in
    (subst P (append-nil walk) (d.least [] (sym none) last), omega (arith, d.count, none))

-- the flags of what was taken off the end
pub flags_split : (left new : List Level) (below : Level) → left ≡ new ++ below ∷ []
    → map (λ x. x.flags.items) left ≡ map (λ x. x.flags.items) new ++ below.flags.items ∷ []
flags_split left new below e = ap (map (λ (x : Level). x.flags.items)) e ∙ map_push new
  where
    map_push : (new : List Level) → map (λ (x : Level). x.flags.items) (new ++ below ∷ []) ≡ map (λ (x : Level). x.flags.items) new ++ below.flags.items ∷ []
    map_push [] = refl
    map_push (l ∷ new) = ap (λ (fs : List (List Bool)). l.flags.items ∷ fs) (map_push new)
