-- A `case` of values whose patterns leave none out has one for each value.
use Rattle.std.proofs.Common.{◌≡◌, ℕ, Bool, true, false, if◌then◌else◌, ◌||◌, List, [], ◌∷◌, Option, Some, refl, sym, subst, ◌∙◌, ap, rules}
use Rattle.std.specs.Prelude.{bytes_eq}
use Rattle.ddl_types.specs.Layout.{Layout, Parts, no_cons, one_of, named_con, fits, con_fits, con_of}
use Rattle.ddl_types.specs.Types.{Ty, Tys, con, bool, maybe_of, place}
use Rattle.ddl_types.specs.Types as t
use Rattle.ddl_types.specs.Value.{Value, Fields, number, boolean, nothing, just, fields, tagged, bitdata}
use Rattle.ddl_ops.specs.declared.pattern.Pattern.{Pattern}
use Rattle.ddl_ops.specs.declared.pattern.Pattern.TheVariants.{Any, Truth, Nothing, Just, Tag}
use Rattle.ddl_typed.specs.Tree.{Cases, no_cases, when}
use Rattle.ddl_ops.specs.Patterns.{Matched, has_it, has_another, has_none, matched}
use Rattle.ddl_typed.specs.Specification.{Place}
use Rattle.ddl_sound.specs.HasType.{HasType, tag_type}
use Rattle.ddl_sound.specs.Exhaustive.{Exhaustive, by_any, by_truths, by_maybe, by_tags, by_constructors, has_pattern, is_any, is_truth, is_nothing, is_just}
use Rattle.ddl_sound.specs.Exhaustive.{is_tag, HasTags, constructors_of}
use Rattle.ddl_sound.proofs.Reading.{on_bits, on_place, none_some, some_is, false_true}
use Rattle.ddl_sound.proofs.Members.{bytes_are_same}

abbrev pub is_hit : Matched → Bool
is_hit (has_it w) = true
is_hit has_another = false
is_hit has_none = false

abbrev pub hits : Cases → Value → Bool
hits no_cases w = false
hits (when p e cs) w = if is_hit (matched p w) then true else hits cs w

step : (b c : Bool) (o p : Bool) → (b ≡ true → c ≡ true) → (o ≡ true → p ≡ true) → (if b then true else o) ≡ true → (if c then true else p) ≡ true
step true c o p h k e = rw (h refl) refl
step false true o p h k e = refl
step false false o p h k e = k e

hits_by : (test : Pattern → Bool) (cs : Cases) (w : Value) → ((p : Pattern) → test p ≡ true → is_hit (matched p w) ≡ true) → has_pattern test cs ≡ true →
    hits cs w ≡ true
hits_by test no_cases w h e = e
hits_by test (when p x cs) w h e = step (test p) (is_hit (matched p w)) (has_pattern test cs) (hits cs w) (h p) (hits_by test cs w h) e

any_hits : (w : Value) (p : Pattern) → is_any p ≡ true → is_hit (matched p w) ≡ true
any_hits w Any e = refl
any_hits w _ e = absurd (false_true e)

truth_hits : (b : Bool) (p : Pattern) → is_truth b p ≡ true → is_hit (matched p (boolean b)) ≡ true
truth_hits true (Truth true) e = refl
truth_hits false (Truth false) e = refl
truth_hits true (Truth false) e = absurd (false_true e)
truth_hits false (Truth true) e = absurd (false_true e)
truth_hits b _ e = absurd (search (rules, e))

nothing_hits : (p : Pattern) → is_nothing p ≡ true → is_hit (matched p nothing) ≡ true
nothing_hits Nothing e = refl
nothing_hits _ e = absurd (false_true e)

just_hits : (w : Value) (p : Pattern) → is_just p ≡ true → is_hit (matched p (just w)) ≡ true
just_hits w (Just x) e = refl
just_hits w _ e = absurd (false_true e)

tag_hits : (label : List ℕ) (w : Value) (p : Pattern) → is_tag label p ≡ true → is_hit (matched p (tagged label w)) ≡ true
tag_hits label w (Tag other x) e = rw e refl
tag_hits label w _ e = absurd (false_true e)

con_hits : (label : List ℕ) (ps : Parts) (l : Layout) (n : ℕ) → con_of l n ≡ Some (named_con label ps) → (p : Pattern) → is_tag label p ≡ true →
    is_hit (matched p (bitdata l n)) ≡ true
con_hits label ps l n c (Tag other x) e = rw (c, e) refl
con_hits label ps l n c Any e = absurd (false_true e)
con_hits label ps l n c _ e = absurd (false_true e)

-- each tag of a list is named
tag_step : (b : Bool) (label other : List ℕ) (ty u : Ty) (p : Option Ty) (A : Type 0) → bytes_eq label other ≡ b → (label ≡ other → A) → (p ≡ Some u → A) →
    (if b then Some ty else p) ≡ Some u → A
tag_step true label other ty u p A e h k f = h (bytes_are_same label other e)
tag_step false label other ty u p A e h k f = k f

names_hit : (cs : Cases) (label : List ℕ) (names : List (List ℕ)) (tys : List Ty) (u : Ty) → tag_type label names tys ≡ Some u → HasTags names cs →
    has_pattern (is_tag label) cs ≡ true
names_hit cs label (other ∷ names) (ty ∷ tys) u e (h, k) =
    tag_step (bytes_eq label other) label other ty u (tag_type label names tys) (has_pattern (is_tag label) cs ≡ true) refl
    (λ same. subst (λ l. has_pattern (is_tag l) cs ≡ true) (sym same) h) (λ f. names_hit cs label names tys u f k) e
names_hit cs label [] tys u e h = absurd (none_some e)
names_hit cs label (x ∷ xs) [] u e h = absurd (none_some e)

record Named (cs : Cases) (l : Layout) (n : ℕ) : Type 0 where
  label : List ℕ
  parts : Parts
  is : con_of l n ≡ Some (named_con label parts)
  has : has_pattern (is_tag label) cs ≡ true

named_by : (b : Bool) (cs : Cases) (label : List ℕ) (ps : Parts) (l : Layout) (n : ℕ) → has_pattern (is_tag label) cs ≡ true →
    con_fits (named_con label ps) n ≡ b → (b || fits l n) ≡ true → (fits l n ≡ true → Named cs l n) → Named cs (one_of (named_con label ps) l) n
named_by true cs label ps l n h f g rest = record { label = label; parts = ps; is = rw f refl; has = h }
named_by false cs label ps l n h f g rest = let r = rest g in record { label = r.label; parts = r.parts; is = rw f r.is; has = r.has }

con_named : (cs : Cases) (l : Layout) (n : ℕ) → fits l n ≡ true → HasTags (constructors_of l) cs → Named cs l n
con_named cs no_cons n e h = absurd (false_true e)
con_named cs (one_of (named_con label ps) l) n e (h, k) = named_by (con_fits (named_con label ps) n) cs label ps l n h refl e (λ g. con_named cs l n g k)

module _ (places : List Place) (layouts : List Layout) where
  abbrev Has : Value → Ty → Type 0
  Has w ty = HasType places layouts w ty

  pub covered : (cs : Cases) (ty : Ty) (w : Value) → Exhaustive places layouts cs ty → Has w ty → hits cs w ≡ true
  covered cs ty w (by_any e) h = hits_by is_any cs w (any_hits w) e
  covered cs ty w (by_truths {ts = ts} e f) h = truths w h
    where
      truths : (w : Value) → Has w (con bool ts) → hits cs w ≡ true
      truths (number r z) h = absurd (none_some h.0)
      truths (boolean true) h = hits_by (is_truth true) cs (boolean true) (truth_hits true) e
      truths (boolean false) h = hits_by (is_truth false) cs (boolean false) (truth_hits false) f
      truths _ h = absurd h
  covered cs ty w (by_maybe {ts = ts} e f) h = maybes ts w h
    where
      maybes : (ts : Tys) (w : Value) → Has w (con maybe_of ts) → hits cs w ≡ true
      maybes ts (number r z) h = absurd (none_some h.0)
      maybes ts nothing h = hits_by is_nothing cs nothing nothing_hits e
      maybes (t.more u ts) (just x) h = hits_by is_just cs (just x) (just_hits x) f
      maybes t.none (just x) h = absurd h
      maybes ts _ h = absurd h
  covered cs ty w (by_tags {m = m} {ts = ts} {p = p} ep et tags) h =
      on_place places layouts (λ x. hits cs x ≡ true) m ts of_fields of_tagged w h
    where
      of_fields : (fs : Fields) → Has (fields fs) (con (place m) ts) → hits cs (fields fs) ≡ true
      of_fields fs (q, eq, eqt, k) = let same : q ≡ p = some_is (sym eq ∙ ep) in absurd (false_true (sym eqt ∙ ap (λ r. r.tagged) same ∙ et))

      of_tagged : (label : List ℕ) (x : Value) → Has (tagged label x) (con (place m) ts) → hits cs (tagged label x) ≡ true
      of_tagged label x (q, eq, eqt, (u, eu, k)) =
          let same : q ≡ p = some_is (sym eq ∙ ep) in
          hits_by (is_tag label) cs (tagged label x) (tag_hits label x) (names_hit cs label p.names p.types u
          (subst (λ r. tag_type label r.names r.types ≡ Some u) same eu) tags)
  covered cs ty w (by_constructors {m = m} {ts = ts} {l = l} el tags) h =
      on_bits places layouts (λ x. hits cs x ≡ true) m ts
      (λ l2 n e2 f. let same : l ≡ l2 = some_is (sym el ∙ e2) in
      let r = con_named cs l2 n f (subst (λ q. HasTags (constructors_of q) cs) same tags) in
      hits_by (is_tag r.label) cs (bitdata l2 n) (con_hits r.label r.parts l2 n r.is) r.has) w h
