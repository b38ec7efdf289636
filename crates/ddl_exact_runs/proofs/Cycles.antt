-- The cycle that is told is one.
use Rattle.std.proofs.Common.{◌≡◌, ◌≤◌, ◌<◌, ◌⊎◌, inl, inr, ℕ, List, [], ◌∷◌, map, length, slice_get, slice_index_or, option_map, Option, Some, None, refl, sym}
use Rattle.std.proofs.Common.{ap, ◌∙◌, subst, arith}
use Rattle.std.proofs.lemmas.Option.{slice_get-map}
use Rattle.ddl_base.specs.declared.span.Span.{Span}
use Rattle.ddl_tree.specs.declared.module.SourceUnit.{SourceUnit}
use Rattle.ddl_uses.specs.Bindings.{Loaded}
use Rattle.ddl_uses.specs.Walks.{loaded, unit_view}
use Rattle.ddl_modules.specs.Cycles.{IsFirstCycle, IsFirstImport, IsNotAfter, IsToldCycle, import_span, imports_of, second_of, unit_name}

-- of each module the places of its imports
abbrev pub lists_of : List Loaded → List (List ℕ)
lists_of ls = map (λ l. l.imports) ls

pub lists_are : (us : List SourceUnit) → imports_of us ≡ lists_of (loaded us)
lists_are [] = refl
lists_are (u ∷ us) = ap (λ ls. u.imports.items ∷ ls) (lists_are us)

-- ---- the cycle that is told, of modules as definitions see them

abbrev name_in : List Loaded → ℕ → List ℕ
name_in ls a = slice_index_or (map (λ l. l.name) ls) a []

pub record IsTold (ls : List Loaded) (span : Span) (names : List (List ℕ)) : Type 0 where
  pub start : ℕ
  pub rest : List ℕ
  pub first : IsFirstCycle (lists_of ls) start rest
  pub unit : Loaded
  pub there : slice_get ls start ≡ Some unit
  pub place : import_span unit.imports unit.tree.imports (second_of start rest) ≡ Some span
  pub called : names ≡ map (name_in ls) (start ∷ rest)

names_are : (us : List SourceUnit) → map (λ u. u.name) us ≡ map (λ l. l.name) (loaded us)
names_are [] = refl
names_are (u ∷ us) = ap (λ names. u.name ∷ names) (names_are us)

called_so : (us : List SourceUnit) (ns : List ℕ) → map (unit_name us) ns ≡ map (name_in (loaded us)) ns
called_so us [] = refl
called_so us (n ∷ ns) = ap (λ names. slice_index_or names n [] ∷ map (unit_name us) ns) (names_are us)
    ∙ ap (λ names. name_in (loaded us) n ∷ names) (called_so us ns)

pub is_told : (us : List SourceUnit) (span : Span) (names : List (List ℕ)) → IsToldCycle us span names → IsTold (loaded us) span names
is_told us span names h = record {
  start = h.0;
  rest = h.1;
  first = subst (λ lists. IsFirstCycle lists h.0 h.1) (lists_are us) h.2;
  unit = unit_view h.3.0;
  there = slice_get-map unit_view us h.0 ∙ ap (λ o. option_map unit_view o) h.3.1;
  place = h.3.2;
  called = h.4 ∙ called_so us (h.0 ∷ h.1);
}

-- ---- it is one

both_ways : (x y : ℕ) (xs ys : List ℕ) → ((x < y) ⊎ ((x ≡ y) × IsNotAfter xs ys)) → ((y < x) ⊎ ((y ≡ x) × IsNotAfter ys xs))
    → (IsNotAfter xs ys → IsNotAfter ys xs → xs ≡ ys) → x ∷ xs ≡ y ∷ ys
both_ways x y xs ys (inl h) (inl k) go = absurd (omega arith)
both_ways x y xs ys (inl h) (inr k) go = let same : y ≡ x = k.0 in absurd (omega arith)
both_ways x y xs ys (inr h) (inl k) go = let same : x ≡ y = h.0 in absurd (omega arith)
both_ways x y xs ys (inr h) (inr k) go = ap (λ z. z ∷ xs) h.0 ∙ ap (λ zs. y ∷ zs) (go h.1 k.1)

one_least : (xs ys : List ℕ) → IsNotAfter xs ys → IsNotAfter ys xs → xs ≡ ys
one_least [] [] h k = refl
one_least [] (y ∷ ys) h k = absurd k
one_least (x ∷ xs) [] h k = absurd h
one_least (x ∷ xs) (y ∷ ys) h k = both_ways x y xs ys h k (one_least xs ys)

one_beginning : (lists : List (List ℕ)) (a b : ℕ) (xs ys : List ℕ) → IsFirstCycle lists a xs → IsFirstCycle lists b ys → a ≡ b
one_beginning lists a b xs ys h k =
    let up : a ≤ b = h.first b ys k.cycle in
    let down : b ≤ a = k.first a xs h.cycle in
    omega arith

one_rest : (lists : List (List ℕ)) (a : ℕ) (xs ys : List ℕ) → IsFirstCycle lists a xs → IsFirstCycle lists a ys → xs ≡ ys
one_rest lists a xs ys h k =
    let up : length xs ≤ length ys = h.shortest ys k.cycle in
    let down : length ys ≤ length xs = k.shortest xs h.cycle in
    one_least xs ys (h.least ys k.cycle (omega arith)) (k.least xs h.cycle (omega arith))

some_span : (a b : Span) (o : Option Span) → o ≡ Some a → o ≡ Some b → a ≡ b
some_span a b o h k = cc

some_unit : (a b : Loaded) (o : Option Loaded) → o ≡ Some a → o ≡ Some b → a ≡ b
some_unit a b o h k = cc

pub one_cycle : (ls : List Loaded) (s t : Span) (ms ns : List (List ℕ)) → IsTold ls s ms → IsTold ls t ns → (s ≡ t) × (ms ≡ ns)
one_cycle ls s t ms ns h k =
    let begins : k.start ≡ h.start = one_beginning (lists_of ls) k.start h.start k.rest h.rest k.first h.first in
    let other : IsFirstCycle (lists_of ls) h.start k.rest = subst (λ a. IsFirstCycle (lists_of ls) a k.rest) begins k.first in
    let goes : k.rest ≡ h.rest = one_rest (lists_of ls) h.start k.rest h.rest other h.first in
    let unit : k.unit ≡ h.unit = some_unit k.unit h.unit (slice_get ls h.start) (ap (slice_get ls) (sym begins) ∙ k.there) h.there in
    let place : import_span h.unit.imports h.unit.tree.imports (second_of h.start h.rest) ≡ Some t =
    ap (λ u. import_span u.imports u.tree.imports (second_of h.start h.rest)) (sym unit)
    ∙ ap (λ a. import_span k.unit.imports k.unit.tree.imports (second_of a h.rest)) (sym begins)
    ∙ ap (λ xs. import_span k.unit.imports k.unit.tree.imports (second_of k.start xs)) (sym goes)
    ∙ k.place in (
      some_span s t (import_span h.unit.imports h.unit.tree.imports (second_of h.start h.rest)) h.place place,
      h.called ∙ ap (λ a. map (name_in ls) (a ∷ h.rest)) (sym begins) ∙ ap (λ xs. map (name_in ls) (k.start ∷ xs)) (sym goes) ∙ sym k.called,
    )
