-- What the maps, the scope and the names so far of the program hold.
use Rattle.std.specs.Prelude.{◌≡◌, ℕ, List, [], ◌∷◌, Option, Some, None, map, reverse, length, find, option_map, if◌then◌else◌, bytes_eq}
use Rattle.std.specs.HashMap.{HashMap, get_by}
use denote.Ref.{Bor}
use Rattle.ddl_base.specs.declared.span.Span.{Span}
use Rattle.ddl_tree.specs.declared.name.Name.{Name}
use Rattle.ddl_uses.specs.declared.scope.Local.{Local}
use Rattle.ddl_uses.specs.declared.scope.Scope.{Scope}
use Rattle.ddl_uses.specs.declared.seen.Place.{Place}
use Rattle.ddl_uses.specs.declared.seen.Seen.{Seen}
use Rattle.ddl_uses.specs.Scope as s

-- what a map has for a text
abbrev pub at_text : {X S : Type 0} → HashMap (Bor (List ℕ)) X S → List ℕ → Option X
at_text m text = get_by (λ k. bytes_eq text k.now) m

-- the local name that a value of the program stands for
abbrev pub local_view : Local → s.Local
local_view l = record { name = l.name.now; kind = l.kind }

-- local names as they were bound, the innermost last
abbrev pub names_view : List Local → s.Scope
names_view locals = map local_view (reverse locals)

abbrev pub scope_view : Scope → s.Scope
scope_view scope = names_view scope.locals.items

-- the number of the innermost name that is written so: names are numbered from the outermost
abbrev pub number_of : List Local → List ℕ → Option ℕ
number_of [] text = None
number_of (l ∷ ls) text = if bytes_eq l.name.now.text text then Some (length ls) else number_of ls text

-- each name keeps the number of the one that it hides
abbrev pub AreLinked : List Local → Type 0
AreLinked [] = Unit {0}
AreLinked (l ∷ ls) = (l.hides ≡ number_of ls l.name.now.text) × AreLinked ls

-- the map has the number of the innermost name that is written so
abbrev pub IsLatest : {S : Type 0} → List Local → HashMap (Bor (List ℕ)) ℕ S → Type 0
IsLatest locals latest = AreLinked (reverse locals) × ((text : List ℕ) → at_text latest text ≡ number_of (reverse locals) text)

abbrev pub IsScope : Scope → Type 0
IsScope scope = IsLatest scope.locals.items scope.latest

-- ---- names so far

abbrev pub place_view : Place → Name
place_view p = record { text = p.text.now; span = p.span }

-- the names so far, in their order
abbrev pub seen_view : Seen → List Name
seen_view seen = map place_view seen.names.items

-- where the first of these names stands that is written so
abbrev pub first_place : List Name → List ℕ → Option Span
first_place names text = option_map (λ x. x.span) (find (λ x. bytes_eq x.text text) names)

-- the map leads to the first of the names
abbrev pub ArePlaced : {S : Type 0} → List Name → HashMap (Bor (List ℕ)) Span S → Type 0
ArePlaced names places = (text : List ℕ) → at_text places text ≡ first_place names text

abbrev pub IsSeen : Seen → Type 0
IsSeen seen = ArePlaced (seen_view seen) seen.places
