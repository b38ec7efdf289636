-- Names in scope, as they are seen.
use Rattle.std.proofs.Common.{◌≡◌, List, [], ◌∷◌, map, find, Option, Some, None, option_map, Bool, true, false, refl, ap, sym, ◌∙◌, rules}
use denote.Ref.{Bor}
use Rattle.ddl_base.specs.declared.span.Span.{Span}
use Rattle.std.proofs.lemmas.List.{take-map, map-set}
use Rattle.ddl_rules.specs.declared.local.Local.{Local}
use Rattle.ddl_rules.specs.Asks as a
use Rattle.ddl_rules.specs.Views.{local_view}

-- what is found among values as they are seen is what is found among them, seen
pub find_seen : {X Y : Type 0} (f : X → Y) (p : Y → Bool) (xs : List X) → find p (map f xs) ≡ option_map f (find (λ x. p (f x)) xs)
find_seen f p [] = refl
find_seen f p (x ∷ xs) = by_test (find_seen f p xs) (p (f x)) refl
  where
    by_test : find p (map f xs) ≡ option_map f (find (λ y. p (f y)) xs) → (b : Bool) → p (f x) ≡ b
        → find p (map f (x ∷ xs)) ≡ option_map f (find (λ y. p (f y)) (x ∷ xs))
    by_test ih true e = search (rules, e)
    by_test ih false e = search (rules, e, ih)

-- what is seen of a name that is found behind a reference
pub seen_behind : {X Y : Type 0} (f : X → Y) (r : Option (Bor X)) → option_map f (option_map (λ l. l.now) r) ≡ option_map (λ l. f l.now) r
seen_behind f None = refl
seen_behind f (Some x) = refl

pub local_seen : (r : Option (Bor Local)) (locals : List Local) (s : Span) → option_map (λ l. l.now) r ≡ find (λ l. a.same_span l.at s) locals
    → option_map (λ l. local_view l.now) r ≡ a.local_at s (map local_view locals)
local_seen r locals s e = sym (seen_behind local_view r) ∙ ap (option_map local_view) e ∙ sym (find_seen local_view (λ l. a.same_span l.at s) locals)

pub ruleset scoping = (local_seen, take-map, map-set)
