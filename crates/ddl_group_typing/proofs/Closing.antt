-- What a table has of a group is over the group's numbered variables.
use Rattle.std.proofs.Common.{◌≤◌, ◌<◌, ◌==◌, ◌+◌, ℕ, zero, suc, List, [], ◌∷◌, map, length, Bool, true, false, Option, Some, None, nat_le, sym, subst, arith}
use Rattle.std.proofs.Common.{if◌then◌else◌}
use Rattle.ddl_types.specs.Types.{Ty, Ty.var, Ty.con, Tys, Tys.none, Tys.more, Sub, on, on_all, Below, BelowAll, Head.place}
use Rattle.ddl_types.specs.Conditions.{Condition, ConditionBelow, with_types, num, word, lit, key, lossless, cut, fit, cat, field, tag, loops}
use Rattle.ddl_growing.proofs.Fresh.{fresh_lower}
use Rattle.ddl_judging.specs.Shapes.{fresh}
use Rattle.ddl_schemes.specs.Renaming.{renaming, seen, shared, shared_all}
use Rattle.ddl_typed.specs.Specification.{Place}
use Rattle.ddl_rules.specs.Asks.{Known}
use Rattle.ddl_typing.specs.Closed.{Closes, ClosesBy, EachConditionBelow, EachIsBelow}
use Rattle.ddl_group_typing.specs.Finals.{final_known, final_place, final_places, kept_of, or_final}
use Rattle.ddl_group_typing.specs.Laws.{TablesClose}
use Rattle.ddl_group_typing.specs.OwnShapes.{EachCloses, ShapeClosesBy, ShapesClose}
use Rattle.ddl_group_typing.specs.Refusals.{shapes_of}
use Rattle.ddl_group_typing.specs.Tables.{Table, asked_in, elaborated_in, shape_of}
use Rattle.ddl_group_typing.specs.Whole.{with_group}

-- ---- types

mutual
  on_below : (t : Ty) (g : Sub) (n : ℕ) → ((v : ℕ) → Below (g v) n) → Below (on t g) n
  on_below (var v) g n h = h v
  on_below (con c us) g n h = all_below us g n h

  all_below : (us : Tys) (g : Sub) (n : ℕ) → ((v : ℕ) → Below (g v) n) → BelowAll (on_all us g) n
  all_below none g n h = tt
  all_below (more u us) g n h = (on_below u g n h, all_below us g n h)

renaming_below : (vs : List ℕ) (i n v : ℕ) → i + length vs ≤ n → Below (renaming vs i v) n
renaming_below [] i n v h = tt
renaming_below (w ∷ vs) i n v h = by_test (w == v) (renaming_below vs (suc i) n v (omega (arith, h)))
  where
    by_test : (c : Bool) → Below (renaming vs (suc i) v) n → Below (if c then var i else renaming vs (suc i) v) n
    by_test true later = let q : i < n = omega (arith, h) in q
    by_test false later = later

place_below : (c : Bool) (p n : ℕ) (us ws : Tys) → BelowAll us n → BelowAll ws n → Below (if c then con (place p) us else con (place p) ws) n
place_below true p n us ws a b = a
place_below false p n us ws a b = b

mutual
  shared_below : (t : Ty) (first n : ℕ) → Below t n → Below (shared first n t) n
  shared_below (var v) first n b = b
  shared_below (con (place p) us) first n b =
      place_below (nat_le first p) p n (fresh n 0) (shared_all first n us) (fresh_lower n 0 n (omega arith)) (all_shared_below us first n b)
  shared_below (con h us) first n b = all_shared_below us first n b

  all_shared_below : (us : Tys) (first n : ℕ) → BelowAll us n → BelowAll (shared_all first n us) n
  all_shared_below none first n b = tt
  all_shared_below (more u us) first n b = (shared_below u first n b.0, all_shared_below us first n b.1)

-- whatever a type is solved to, as others see it it is over so many variables
seen_below : (first : ℕ) (vs : List ℕ) (f : Sub) (t : Ty) → Below (seen first vs f t) (length vs)
seen_below first vs f t = shared_below (on (on t f) (renaming vs 0)) first (length vs)
    (on_below (on t f) (renaming vs 0) (length vs) (λ v. renaming_below vs 0 (length vs) v (omega arith)))

-- ---- declarations, records and unions

module _ (n : ℕ) (final : Ty → Ty) (below : (t : Ty) → Below (final t) n) where
  types_below : (ts : List Ty) → EachIsBelow (map final ts) n
  types_below [] = tt
  types_below (t ∷ ts) = (below t, types_below ts)

  condition_below : (c : Condition) → ConditionBelow n (with_types final c)
  condition_below (num x) = below x
  condition_below (word x) = below x
  condition_below (lit i x) = below x
  condition_below (key x) = below x
  condition_below (lossless x y) = (below x, below y)
  condition_below (cut x y) = (below x, below y)
  condition_below (fit x y) = (below x, below y)
  condition_below (cat x y z) = (below x, below y, below z)
  condition_below (field x i y) = (below x, below y)
  condition_below (tag x i y) = (below x, below y)
  condition_below (loops x y z) = (below x, below y, below z)

  conditions_below : (cs : List Condition) → EachConditionBelow (map (with_types final) cs) n
  conditions_below [] = tt
  conditions_below (c ∷ cs) = (condition_below c, conditions_below cs)

known_closes : (n : ℕ) (final : Ty → Ty) → ((t : Ty) → Below (final t) n) → (cs : List Condition) (it : Known) → ClosesBy n (final_known n final cs it)
known_closes zero final below cs it = tt
known_closes (suc k) final below cs it =
    (types_below (suc k) final below it.params, below it.of, conditions_below (suc k) final below cs)

own_closes : (n : ℕ) (final : Ty → Ty) → ((t : Ty) → Below (final t) n) → (cs : List Condition) (own : Option Known) (it : Known) → Closes it
    → Closes (or_final n final cs own it)
own_closes n final below cs None it c = c
own_closes n final below cs (Some own) it c = known_closes n final below cs own

final_closes : (n : ℕ) (final : Ty → Ty) → ((t : Ty) → Below (final t) n) → (p : Place) → ShapeClosesBy n (shape_of (final_place n final p))
final_closes zero final below p = tt
final_closes (suc k) final below p = types_below (suc k) final below p.types

all_close : (n : ℕ) (final : Ty → Ty) → ((t : Ty) → Below (final t) n) → (ps : List Place) → EachCloses (map shape_of (map (final_place n final) ps))
all_close n final below [] = tt
all_close n final below (p ∷ ps) = (final_closes n final below p, all_close n final below ps)

places_close : (n : ℕ) (final : Ty → Ty) → ((t : Ty) → Below (final t) n) → (k : ℕ) (ps : List Place) → EachCloses (map shape_of ps)
    → EachCloses (map shape_of (final_places n final k ps))
places_close n final below zero ps c = all_close n final below ps
places_close n final below (suc k) [] c = tt
places_close n final below (suc k) (p ∷ ps) c = (c.0, places_close n final below k ps c.1)

pub tables_close : TablesClose
tables_close o z a x knowns closes =
    let n = length x.variables in
    let final = seen (length z.places) x.variables x.solution in
    let below = seen_below (length z.places) x.variables x.solution in
    let P : Table → Type 0 = λ w. ((d : ℕ) → Closes (w.known d)) × ShapesClose (shapes_of w) in
    let shapes : ShapesClose (shapes_of (with_group o z n final x.kept)) =
    record { places = places_close n final below (length z.places) (elaborated_in o z).state.places closes.places; bitdata = closes.bitdata } in
    subst P (sym x.table) ((λ d. own_closes n final below (kept_of (asked_in o z).asked x.kept) (o.own d) (z.known d) (knowns d)), shapes)
