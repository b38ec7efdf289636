use Rattle.std.proofs.Common.{ℕ, ◌+◌, ◌≤◌, List, length, map, subst, sym, ◌∙◌, Vec, Global}
use Rattle.ddl_base.specs.Names.{IsWith}
use Rattle.ddl_base.proofs.NamesLemmas.{AreDistinct-map, IsWith-found, IsWith-inserted, length-inserted}
use Rattle.ddl_base.proofs.names.Names.intern.Goals as goal

abbrev items : Vec ℕ Global → List ℕ
items v = v.items

pub returns-in-Some-clause-interned : goal.returns-in-Some-clause-interned
returns-in-Some-clause-interned c =
    let P : List (List ℕ) → Type 0 = λ names. IsWith names c.args.text.now c.in-Some.place names in
    subst P c.self.view_is (IsWith-found items c.self.inside.texts.keys c.args.text.now c.in-Some.place (sym c.get_index_of.ensures.index ∙ c.in-Some.is))

pub invariant_of-self-2 : goal.invariant_of-self-2
invariant_of-self-2 c = AreDistinct-map items c.insert_full.new.self.keys c.in_ok-place.ensures.unique

pub returns-clause-interned : goal.returns-clause-interned
returns-clause-interned c =
    let P : List (List ℕ) → Type 0 = λ names. IsWith names c.args.text.now c.in_ok-place.place (map items c.insert_full.new.self.keys) in
    let s = c.in_ok-place.ensures.stored in
    subst P c.self.view_is (IsWith-inserted items c.self.inside.texts.keys c.insert_full.new.self.keys c.in_ok-owned.owned s.0 c.in_ok-place.place
    c.args.text.now c.in_ok-owned.ensures c.in_ok-place.ensures.keys s.1 s.2)

pub returns-clause-distinct : goal.returns-clause-distinct
returns-clause-distinct c = AreDistinct-map items c.insert_full.new.self.keys c.in_ok-place.ensures.unique

pub returns-clause-grows : goal.returns-clause-grows
returns-clause-grows c =
    let P : List (List ℕ) → Type 0 = λ names. length (map items c.insert_full.new.self.keys) ≤ length names + 1 in
    subst P c.self.view_is (length-inserted items c.self.inside.texts.keys c.insert_full.new.self.keys c.in_ok-place.field-0-1 c.in_ok-place.ensures.len)
