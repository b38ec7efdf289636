-- One more name with its place.
use Rattle.std.proofs.Common.{◌≡◌, ℕ, List, [], ◌∷◌, ◌++◌, Bool, true, false, cond, map, Option, Some, None, refl, ap, sym, ◌∙◌}
use Rattle.std.specs.Prelude.{bytes_eq, find, option_map}
use Rattle.std.specs.Option.{option_or}
use Rattle.std.specs.HashMap.{HashMap}
use Rattle.std.proofs.lemmas.List.{map-append}
use Rattle.std.proofs.lemmas.List.Folds.{find-append}
use denote.Ref.{Bor}
use Rattle.ddl_base.specs.declared.span.Span.{Span}
use Rattle.ddl_tree.specs.declared.name.Name.{Name}
use Rattle.ddl_uses.specs.declared.seen.Place.{Place}
use Rattle.ddl_kinds.specs.declared.error.NameError.TheVariants as e
use Rattle.ddl_kinds.specs.Findings.{again, first_refusal, twice_after}
use Rattle.ddl_uses.specs.Held.{ArePlaced, at_text, first_place, place_view}

pub names_more : (ps : List Place) (p : Place) → map place_view (ps ++ p ∷ []) ≡ map place_view ps ++ place_view p ∷ []
names_more ps p = map-append place_view ps (p ∷ [])

-- the first place of one name more
first_more : (xs : List Name) (x : Name) (q : List ℕ) → first_place (xs ++ x ∷ []) q
    ≡ option_or (first_place xs q) (cond (bytes_eq x.text q) (Some x.span) None)
first_more xs x q = ap (option_map (λ y. y.span)) (find-append (λ y. bytes_eq y.text q) xs (x ∷ [])) ∙ by (find (λ y. bytes_eq y.text q) xs) (bytes_eq x.text q)
  where
    by : (o : Option Name) (b : Bool) → option_map (λ y. y.span) (option_or o (cond b (Some x) None))
        ≡ option_or (option_map (λ y. y.span) o) (cond b (Some x.span) None)
    by None true = refl
    by None false = refl
    by (Some y) b = refl

pub placed_more : {S : Type 0} (all ps : List Place) (p : Place) (old new : HashMap (Bor (List ℕ)) Span S) → ArePlaced (map place_view ps) old
    → all ≡ ps ++ p ∷ []
    → ((q : List ℕ) → at_text new q ≡ option_or (at_text old q) (cond (bytes_eq p.text.now q) (Some p.span) None)) → ArePlaced (map place_view all) new
placed_more all ps p old new h e u q =
    u q ∙ ap (λ o. option_or o (cond (bytes_eq p.text.now q) (Some p.span) None)) (h q) ∙ sym (first_more (map place_view ps) (place_view p) q)
    ∙ ap (λ xs. first_place xs q) (sym (ap (map place_view) e ∙ names_more ps p))

-- a name that stands nowhere is new
pub again_new : (xs : List Name) (x : Name) → first_place xs x.text ≡ None → again xs x ≡ []
again_new xs x h = by (find (λ y. bytes_eq y.text x.text) xs) h
  where
    by : (o : Option Name) → option_map (λ y. y.span) o ≡ None → twice_after x o ≡ []
    by None h = refl
    by (Some y) h = absurd (cc)

-- a name that stands somewhere is refused
pub again_old : (xs : List Name) (x : Name) (s : Span) → first_place xs x.text ≡ Some s → first_refusal (again xs x) ≡ Some (e.Twice x.span s)
again_old xs x s h = by (find (λ y. bytes_eq y.text x.text) xs) h
  where
    by : (o : Option Name) → option_map (λ y. y.span) o ≡ Some s → first_refusal (twice_after x o) ≡ Some (e.Twice x.span s)
    by None h = absurd (cc)
    by (Some y) h = cc

pub ruleset placed = (names_more, placed_more, again_new, again_old)
