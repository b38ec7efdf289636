-- Which flags are up on a level.
use Rattle.std.proofs.Common.{◌≡◌, ◌≢◌, ℕ, zero, suc, ◌+◌, ◌<◌, ◌≤◌, List, [], ◌∷◌, ◌++◌, length, get_or, Contains, Bool, true, false, refl, ap, sym, ◌∙◌, ◌⊎◌}
use Rattle.std.proofs.Common.{inl, inr, arith, append_assoc, drop}
use Rattle.std.specs.Prelude.{◌||◌}
use Rattle.std.proofs.lemmas.Bool.{cases_lt, false≢true, or_cases, or_left, or_right}
use Rattle.std.proofs.lemmas.List.{drop_more, get_or-map, get_or_past, length-map}
use Rattle.ddl_modules.specs.Cycles.{IsWalk}
use Rattle.ddl_modules.specs.Levels.{any_up, down, flag, has, joined, level, lifted, lists_of, IsLeastUp}
use Rattle.ddl_modules.specs.declared.rows.Row.{Row}
use Rattle.ddl_modules.proofs.RowLemmas.{Contains-first, Contains-rest, Contains_from_has, first_or_rest, has_from_Contains}

-- the units that a unit imports
abbrev pub row : List Row → ℕ → List ℕ
row rows a = get_or (lists_of rows) a []

pub any_up_from : (flags : List Bool) (units : List ℕ) (b : ℕ) → Contains units b → flag flags b ≡ true → any_up flags units ≡ true
any_up_from flags [] b c up = absurd (omega (arith, c.1))
any_up_from flags (a ∷ units) b c up = by (first_or_rest a units b c) (λ d. any_up_from flags units b d up)
  where
    by : (a ≡ b) ⊎ Contains units b → (Contains units b → any_up flags units ≡ true) → any_up flags (a ∷ units) ≡ true
    by (inl e) rest = or_left (flag flags a) (any_up flags units) (ap (flag flags) e ∙ up)
    by (inr d) rest = or_right (flag flags a) (any_up flags units) (rest d)

pub which_up : (flags : List Bool) (units : List ℕ) → any_up flags units ≡ true → (b : ℕ) × Contains units b × (flag flags b ≡ true)
which_up flags [] h = absurd (false≢true h)
which_up flags (a ∷ units) h = by (or_cases (flag flags a) (any_up flags units) h) (which_up flags units)
  where
    by : (flag flags a ≡ true) ⊎ (any_up flags units ≡ true) → (any_up flags units ≡ true → (b : ℕ) × Contains units b × (flag flags b ≡ true))
        → (b : ℕ) × Contains (a ∷ units) b × (flag flags b ≡ true)
    by (inl e) rest = (a, Contains-first a units, e)
    by (inr e) rest = let w = rest e in (w.0, Contains-rest a units w.0 w.1, w.2)

-- the flag of a unit on a level, from its imports
pub flag-lifted : (rows : List Row) (flags : List Bool) (a : ℕ) → flag (lifted rows flags) a ≡ any_up flags (row rows a)
flag-lifted [] flags a = refl
flag-lifted (r ∷ rows) flags zero = refl
flag-lifted (r ∷ rows) flags (suc a) = flag-lifted rows flags a

pub flag-first : (rows : List Row) (unit a : ℕ) → flag (level rows unit zero) a ≡ has (row rows a) unit
flag-first [] unit a = refl
flag-first (r ∷ rows) unit zero = refl
flag-first (r ∷ rows) unit (suc a) = flag-first rows unit a

-- up on a level are those from which a walk of that length leads to the unit
pub walk_from_level : (rows : List Row) (unit k a : ℕ) → flag (level rows unit k) a ≡ true
    → (walk : List ℕ) × (length walk ≡ k) × IsWalk (lists_of rows) a walk unit
walk_from_level rows unit zero a up = ([], refl, Contains_from_has (row rows a) unit (sym (flag-first rows unit a) ∙ up))
walk_from_level rows unit (suc k) a up =
    let next = which_up (level rows unit k) (row rows a) (sym (flag-lifted rows (level rows unit k) a) ∙ up) in
    let rest = walk_from_level rows unit k next.0 next.2 in
    (next.0 ∷ rest.0, ap suc rest.1, (next.1, rest.2))

pub level_from_walk : (rows : List Row) (unit a : ℕ) (walk : List ℕ) → IsWalk (lists_of rows) a walk unit → flag (level rows unit (length walk)) a ≡ true
level_from_walk rows unit a [] w = flag-first rows unit a ∙ has_from_Contains (row rows a) unit w
level_from_walk rows unit a (next ∷ walk) w =
    flag-lifted rows (level rows unit (length walk)) a
    ∙ any_up_from (level rows unit (length walk)) (row rows a) next w.0 (level_from_walk rows unit next walk w.1)

-- the flags of two lists together
pub joined_cases : (flags others : List Bool) (a : ℕ) → flag (joined flags others) a ≡ true → (flag flags a ≡ true) ⊎ (flag others a ≡ true)
joined_cases [] others a h = absurd (false≢true h)
joined_cases (f ∷ flags) [] a h = absurd (false≢true h)
joined_cases (f ∷ flags) (g ∷ others) zero h = or_cases f g h
joined_cases (f ∷ flags) (g ∷ others) (suc a) h = joined_cases flags others a h

pub joined_left : (flags others : List Bool) (a : ℕ) → length flags ≡ length others → flag flags a ≡ true → flag (joined flags others) a ≡ true
joined_left [] others a e h = h
joined_left (f ∷ flags) [] a e h = absurd (omega arith)
joined_left (f ∷ flags) (g ∷ others) zero e h = or_left f g h
joined_left (f ∷ flags) (g ∷ others) (suc a) e h = joined_left flags others a (omega arith) h

pub joined_right : (flags others : List Bool) (a : ℕ) → length flags ≡ length others → flag others a ≡ true → flag (joined flags others) a ≡ true
joined_right [] [] a e h = h
joined_right [] (g ∷ others) a e h = absurd (omega arith)
joined_right (f ∷ flags) [] a e h = absurd (false≢true h)
joined_right (f ∷ flags) (g ∷ others) zero e h = or_right f g h
joined_right (f ∷ flags) (g ∷ others) (suc a) e h = joined_right flags others a (omega arith) h

pub length-joined : (flags others : List Bool) → length flags ≡ length others → length (joined flags others) ≡ length flags
length-joined [] others e = refl
length-joined (f ∷ flags) [] e = absurd (omega arith)
length-joined (f ∷ flags) (g ∷ others) e = let h = length-joined flags others (omega arith) in omega arith

-- a unit that imports one that is up in one of two lists
pub lifted-joined : (rows : List Row) (flags others : List Bool) (a : ℕ) → flag (lifted rows (joined flags others)) a ≡ true
    → (flag (lifted rows flags) a ≡ true) ⊎ (flag (lifted rows others) a ≡ true)
lifted-joined rows flags others a h = by (joined_cases flags others next.0 next.2)
  where
    next : (b : ℕ) × Contains (row rows a) b × (flag (joined flags others) b ≡ true)
    next = which_up (joined flags others) (row rows a) (sym (flag-lifted rows (joined flags others) a) ∙ h)

    by : (flag flags next.0 ≡ true) ⊎ (flag others next.0 ≡ true) → (flag (lifted rows flags) a ≡ true) ⊎ (flag (lifted rows others) a ≡ true)
    by (inl e) = inl (flag-lifted rows flags a ∙ any_up_from flags (row rows a) next.0 next.1 e)
    by (inr e) = inr (flag-lifted rows others a ∙ any_up_from others (row rows a) next.0 next.1 e)

-- where a flag goes up, fewer are down
not_more : (flags others : List Bool) → length flags ≡ length others → down (joined flags others) ≤ down flags
not_more [] others e = omega arith
not_more (f ∷ flags) [] e = absurd (omega arith)
not_more (true ∷ flags) (g ∷ others) e = not_more flags others (omega arith)
not_more (false ∷ flags) (true ∷ others) e = let h = not_more flags others (omega arith) in omega arith
not_more (false ∷ flags) (false ∷ others) e = let h = not_more flags others (omega arith) in omega arith

pub down-joined : (flags others : List Bool) → length flags ≡ length others → joined flags others ≢ flags → down (joined flags others) < down flags
down-joined [] others e n = absurd (n refl)
down-joined (f ∷ flags) [] e n = absurd (omega arith)
down-joined (true ∷ flags) (g ∷ others) e n = down-joined flags others (omega arith) (λ h. n (ap (λ (l : List Bool). true ∷ l) h))
down-joined (false ∷ flags) (true ∷ others) e n = let h = not_more flags others (omega arith) in omega arith
down-joined (false ∷ flags) (false ∷ others) e n =
    let h = down-joined flags others (omega arith) (λ h. n (ap (λ (l : List Bool). false ∷ l) h)) in omega arith

-- one more flag of two lists together
pub joined_step : (flags others both : List Bool) (i : ℕ) → length flags ≡ length others → i < length flags
    → joined flags others ≡ both ++ joined (drop i flags) (drop i others)
    → joined flags others ≡ (both ++ (get_or flags i false || get_or others i false) ∷ []) ++ joined (drop (i + 1) flags) (drop (i + 1) others)
joined_step flags others both i e l h =
    let up : Bool = get_or flags i false || get_or others i false in
    let rest : List Bool = joined (drop (i + 1) flags) (drop (i + 1) others) in
    let first : joined (drop i flags) (drop i others) ≡ joined (get_or flags i false ∷ drop (i + 1) flags) (drop i others) =
    ap (λ (f : List Bool). joined f (drop i others)) (drop_more flags i false l) in
    let second : joined (get_or flags i false ∷ drop (i + 1) flags) (drop i others) ≡ up ∷ rest =
    ap (λ (f : List Bool). joined (get_or flags i false ∷ drop (i + 1) flags) f) (drop_more others i false (omega arith)) in
    h ∙ (ap (λ (t : List Bool). both ++ t) (first ∙ second) ∙ sym (append_assoc both (up ∷ []) rest))

pub length-level : (rows : List Row) (unit k : ℕ) → length (level rows unit k) ≡ length rows
length-level rows unit zero = length-map rows (λ (r : Row). has r.units.items unit)
length-level rows unit (suc k) = length-map rows (λ (r : Row). any_up (level rows unit k) r.units.items)

-- only units have imports
pub row_within : (rows : List Row) (flags : List Bool) (a : ℕ) → any_up flags (row rows a) ≡ true → a < length rows
row_within rows flags a up = by (cases_lt a (length rows))
  where
    by : (a < length rows) ⊎ (length rows ≤ a) → a < length rows
    by (inl l) = l
    by (inr l) =
        let past : row rows a ≡ [] = get_or_past (lists_of rows) a [] (omega (arith, length-map rows (λ (r : Row). r.units.items))) in
        absurd (false≢true (ap (any_up flags) (sym past) ∙ up))

pub row_at : (rows : List Row) (i : ℕ) (r : Row) → i < length rows → row rows i ≡ (get_or rows i r).units.items
row_at rows i r l = get_or-map (λ (x : Row). x.units.items) rows i r [] l

up_within : (flags : List Bool) (b : ℕ) → flag flags b ≡ true → b < length flags
up_within flags b up = by (cases_lt b (length flags))
  where
    by : (b < length flags) ⊎ (length flags ≤ b) → b < length flags
    by (inl l) = l
    by (inr l) = absurd (false≢true (sym (get_or_past flags b false l) ∙ up))

-- the first unit that is among these and is up
module _ (flags : List Bool) (units : List ℕ) (i : ℕ) (none : (b : ℕ) → b < i → has units b ≡ true → flag flags b ≡ true → ⊥) where
  not_before : (b : ℕ) → Contains units b → flag flags b ≡ true → (b < i) ⊎ (i ≤ b) → i ≤ b
  not_before b c up (inl l) = absurd (none b l (has_from_Contains units b c) up)
  not_before b c up (inr l) = l

  pub least_found : has units i ≡ true → flag flags i ≡ true → IsLeastUp flags units i
  least_found there up = record {
    among = Contains_from_has units i there;
    up = up;
    least = λ b c u. not_before b c u (cases_lt b i);
  }

  pub some_found : length flags ≤ i → any_up flags units ≡ true → ⊥
  some_found all some =
      let w = which_up flags units some in
      let l : w.0 < length flags = up_within flags w.0 w.2 in
      none w.0 (omega arith) (has_from_Contains units w.0 w.1) w.2
