use Rattle.std.proofs.Common.{◌≡◌, ◌<◌, ◌∙◌, ap, sym, subst, suc, arith, length, List, ℕ, Bool, true, vec_len}
use Rattle.std.specs.Prelude.{map}
use Rattle.std.proofs.lemmas.Option.{MatchOption-at_none}
use Rattle.ddl_modules.specs.Levels.{any_up, IsLeastUp}
use Rattle.ddl_modules.proofs.LevelLemmas.{length-level, row, row_at, row_within}
use Rattle.ddl_modules.proofs.WalkLemmas.{descended, descent_done, flags_of, flags_split, some_up}
use Rattle.ddl_modules.proofs.cycles.least_walk.Goals as goal

pub bounds-rows-at : goal.bounds-rows-at
bounds-rows-at c =
    let lower = map (λ x. x.flags.items) c.levels.left.items in
    let new = map (λ x. x.flags.items) c.pop.new.self.items in
    let count : vec_len c.levels.left ≡ suc (vec_len c.pop.new.self) = omega (arith, c.in-Some.ensures.cases) in
    row_within c.args.rows.now c.in-Some.below.flags.items c.levels.at
    (some_up c.args.rows.now c.args.unit (vec_len c.args.lower) lower new c.in-Some.below.flags.items (vec_len c.levels.left) (vec_len c.pop.new.self)
    c.levels.at c.levels.walk.items
    c.levels.invariant (flags_split c.levels.left.items c.pop.new.self.items c.in-Some.below c.in-Some.ensures.items) count)

pub least_up-at-requires-clause-few : goal.least_up-at-requires-clause-few
least_up-at-requires-clause-few c =
    let lower = map (λ x. x.flags.items) c.levels.left.items in
    let new = map (λ x. x.flags.items) c.pop.new.self.items in
    let count : vec_len c.levels.left ≡ suc (vec_len c.pop.new.self) = omega (arith, c.in-Some.ensures.cases) in
    let flags = flags_of c.args.rows.now c.args.unit (vec_len c.args.lower) lower new c.in-Some.below.flags.items (vec_len c.levels.left)
    (vec_len c.pop.new.self) c.levels.at c.levels.walk.items
    c.levels.invariant (flags_split c.levels.left.items c.pop.new.self.items c.in-Some.below c.in-Some.ensures.items) count in
    omega (arith, ap length (c.deref-in-Some.ensures.value ∙ flags), length-level c.args.rows.now c.args.unit (vec_len c.pop.new.self), c.requires.few)

pub least_up-at-requires-clause-some : goal.least_up-at-requires-clause-some
least_up-at-requires-clause-some c =
    let lower = map (λ x. x.flags.items) c.levels.left.items in
    let new = map (λ x. x.flags.items) c.pop.new.self.items in
    let count : vec_len c.levels.left ≡ suc (vec_len c.pop.new.self) = omega (arith, c.in-Some.ensures.cases) in
    let up : any_up c.in-Some.below.flags.items (row c.args.rows.now c.levels.at) ≡ true =
    some_up c.args.rows.now c.args.unit (vec_len c.args.lower) lower new c.in-Some.below.flags.items (vec_len c.levels.left) (vec_len c.pop.new.self)
    c.levels.at c.levels.walk.items
    c.levels.invariant (flags_split c.levels.left.items c.pop.new.self.items c.in-Some.below c.in-Some.ensures.items) count in
    let within : c.levels.at < length c.args.rows.now = row_within c.args.rows.now c.in-Some.below.flags.items c.levels.at up in
    let units : c.deref.result.now ≡ row c.args.rows.now c.levels.at =
    c.deref.ensures.value ∙ sym (row_at c.args.rows.now c.levels.at c.index-rows-at.result within) in
    ap (λ (f : List Bool). any_up f c.deref.result.now) c.deref-in-Some.ensures.value ∙ (ap (any_up c.in-Some.below.flags.items) units ∙ up)

pub levels-preserved : goal.levels-preserved
levels-preserved c =
    let lower = map (λ x. x.flags.items) c.levels.left.items in
    let new = map (λ x. x.flags.items) c.pop.new.self.items in
    let count : vec_len c.levels.left ≡ suc (vec_len c.pop.new.self) = omega (arith, c.in-Some.ensures.cases) in
    let split = flags_split c.levels.left.items c.pop.new.self.items c.in-Some.below c.in-Some.ensures.items in
    let up : any_up c.in-Some.below.flags.items (row c.args.rows.now c.levels.at) ≡ true =
    some_up c.args.rows.now c.args.unit (vec_len c.args.lower) lower new c.in-Some.below.flags.items (vec_len c.levels.left) (vec_len c.pop.new.self)
    c.levels.at c.levels.walk.items
    c.levels.invariant split count in
    let within : c.levels.at < length c.args.rows.now = row_within c.args.rows.now c.in-Some.below.flags.items c.levels.at up in
    let units : c.deref.result.now ≡ row c.args.rows.now c.levels.at =
    c.deref.ensures.value ∙ sym (row_at c.args.rows.now c.levels.at c.index-rows-at.result within) in
    let P : List ℕ → Type 0 = λ us. IsLeastUp c.deref-in-Some.result.now us c.least_up-at.result in
    let Q : List Bool → Type 0 = λ fs. IsLeastUp fs (row c.args.rows.now c.levels.at) c.least_up-at.result in
    let least : IsLeastUp c.in-Some.below.flags.items (row c.args.rows.now c.levels.at) c.least_up-at.result =
    subst Q c.deref-in-Some.ensures.value (subst P units c.least_up-at.ensures) in
    rw c.in_ok-push.ensures.items
    (descended c.args.rows.now c.args.unit (vec_len c.args.lower) lower new c.in-Some.below.flags.items (vec_len c.levels.left) (vec_len c.pop.new.self)
    c.levels.at c.levels.walk.items
    c.levels.invariant split count c.least_up-at.result least)

pub returns : goal.returns
returns c =
    let none = MatchOption-at_none _ _ c.in_default.is c.pop.ensures.cases in
    descent_done c.args.rows.now c.args.unit (vec_len c.args.lower) (map (λ x. x.flags.items) c.levels.left.items) (vec_len c.levels.left) c.levels.at
    c.levels.walk.items c.levels.invariant none.0
