-- Lists of types, asks, places and names in scope with each type replaced.
use Rattle.std.proofs.Common.{◌≡◌, ℕ, zero, suc, List, [], ◌∷◌, ◌++◌, map, length, Option, Some, None, Bool, true, false, refl, ap, sym, ◌∙◌, if◌then◌else◌}
use Rattle.ddl_base.specs.declared.span.Span.{Span}
use Rattle.ddl_tree.specs.declared.kind.Kind.TheVariants as k
use Rattle.ddl_types.specs.Types.{Ty, Ty.con, Tys.none, Head.place, Sub, on}
use Rattle.ddl_typed.specs.Specification.{Place}
use Rattle.ddl_typed.specs.Tree as t
use Rattle.ddl_rules.specs.Asks.{Ask, Env, Local, State, local_at, same_span, with_place, place_type, with_value}
use Rattle.ddl_typing.specs.Replaced.{types_on, asks_on, ask_on, places_on, place_on, state_on, local_on, locals_on, all_known_on, env_on, typed_on}
use Rattle.ddl_typing.specs.Typed.{Typed, typed, first_type, rest_types}

pub asks_append : (as_ bs : List Ask) (f : Sub) → asks_on (as_ ++ bs) f ≡ asks_on as_ f ++ asks_on bs f
asks_append [] bs f = refl
asks_append (a ∷ as_) bs f = ap (λ xs. ask_on a f ∷ xs) (asks_append as_ bs f)

pub asks_append3 : (as_ bs cs : List Ask) (f : Sub) → asks_on (as_ ++ bs ++ cs) f ≡ asks_on as_ f ++ asks_on bs f ++ asks_on cs f
asks_append3 as_ bs cs f = asks_append (as_ ++ bs) cs f ∙ ap (λ xs. xs ++ asks_on cs f) (asks_append as_ bs f)

pub places_append : (ps qs : List Place) (f : Sub) → places_on (ps ++ qs) f ≡ places_on ps f ++ places_on qs f
places_append [] qs f = refl
places_append (p ∷ ps) qs f = ap (λ xs. place_on p f ∷ xs) (places_append ps qs f)

pub places_length : (ps : List Place) (f : Sub) → length (places_on ps f) ≡ length ps
places_length [] f = refl
places_length (p ∷ ps) f = ap suc (places_length ps f)

pub locals_append : (ls ks : List Local) (f : Sub) → locals_on (ls ++ ks) f ≡ locals_on ls f ++ locals_on ks f
locals_append [] ks f = refl
locals_append (l ∷ ls) ks f = ap (λ xs. local_on l f ∷ xs) (locals_append ls ks f)

pub locals_length : (ls : List Local) (f : Sub) → length (locals_on ls f) ≡ length ls
locals_length [] f = refl
locals_length (l ∷ ls) f = ap suc (locals_length ls f)

pub types_length : (us : List Ty) (f : Sub) → length (types_on us f) ≡ length us
types_length [] f = refl
types_length (u ∷ us) f = ap suc (types_length us f)

pub first_type_on : (us : List Ty) (f : Sub) → on (first_type us) f ≡ first_type (types_on us f)
first_type_on [] f = refl
first_type_on (u ∷ us) f = refl

pub rest_types_on : (us : List Ty) (f : Sub) → types_on (rest_types us) f ≡ rest_types (types_on us f)
rest_types_on [] f = refl
rest_types_on (u ∷ us) f = refl

-- ---- a typed form whose fields are equal to others

pub same_typed : (s : Span) {g g2 : t.Form} {u u2 : Ty} {as_ bs : List Ask} {z z2 : State} → g ≡ g2 → u ≡ u2 → as_ ≡ bs → z ≡ z2
    → typed g u s as_ z ≡ typed g2 u2 s bs z2
same_typed s {g} {g2} {u} {u2} {as_} {bs} {z} {z2} p q r e = ap (λ x. typed x u s as_ z) p ∙ ap (λ x. typed g2 x s as_ z) q ∙ ap (λ x. typed g2 u2 s x z) r
    ∙ ap (λ x. typed g2 u2 s bs x) e

pub same_asks : (m : Typed) {bs : List Ask} → m.asks ≡ bs → m ≡ typed m.form m.of m.at bs m.state
same_asks m e = ap (λ x. typed m.form m.of m.at x m.state) e

-- ---- records and unions

pub with_place_on : (s : Span) (tagged : Bool) (names : List (List ℕ)) (us : List Ty) (z : State) (f : Sub)
    → state_on (with_place s tagged names us z) f ≡ with_place s tagged names (types_on us f) (state_on z f)
with_place_on s tagged names us z f = ap (λ ps. let y : State =
    record z { places = ps } in y) (places_append z.places (record { span = s; vars = 0; tagged = tagged; names = names; types = us } ∷ []) f)

pub place_type_on : (z : State) (f : Sub) → on (place_type z) f ≡ place_type (state_on z f)
place_type_on z f = ap (λ n. con (place n) none) (sym (places_length z.places f))

-- ---- names in scope

pub with_value_on : (s : Span) (u : Ty) (env : Env) (f : Sub) → env_on (with_value s u env) f ≡ with_value s (on u f) (env_on env f)
with_value_on s u env f =
    ap (λ ls. let y : Env = record { locals = ls; known = all_known_on env.known f }
    in y) (locals_append env.locals (record { at = s; kind = k.Value; number = length env.locals; of = u } ∷ []) f)
    ∙ ap (λ n. let y : Env = record {
      locals = locals_on env.locals f ++ record { at = s; kind = k.Value; number = n; of = on u f } ∷ [];
      known =
          all_known_on env.known f;
    } in y) (sym (locals_length env.locals f))

abbrev pub option_local : Option Local → Sub → Option Local
option_local None f = None
option_local (Some l) f = Some (local_on l f)

pub local_found : (ls : List Local) (s : Span) (f : Sub) → local_at s (locals_on ls f) ≡ option_local (local_at s ls) f
local_found [] s f = refl
local_found (l ∷ ls) s f = by_test (same_span l.at s) (local_found ls s f)
  where
    by_test : (c : Bool) → local_at s (locals_on ls f) ≡ option_local (local_at s ls) f
        → (if c then Some (local_on l f) else local_at s (locals_on ls f)) ≡ option_local (if c then Some l else local_at s ls) f
    by_test true ih = refl
    by_test false ih = ih
