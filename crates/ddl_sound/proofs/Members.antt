-- Records, unions, bitdata and patterns at values of their types.
use Rattle.std.proofs.Common.{◌≡◌, ℕ, ◌==◌, ◌&&◌, ◌||◌, ◌^◌, List, [], ◌∷◌, map, Bool, true, false, if◌then◌else◌, pos, Option, Some, None, refl, sym, subst}
use Rattle.std.proofs.Common.{◌∙◌, ap, arith, rules}
use Rattle.std.specs.Prelude.{bytes_eq, nat_lt}
use Rattle.std.specs.Ordering.{int_eq}
use Rattle.std.proofs.lemmas.Bool.{ltb-true}
use Rattle.ddl_types.specs.declared.num.NumType.TheVariants as num
use Rattle.ddl_types.specs.Layout.{Layout, Parts, Con, no_cons, one_of, named_con, no_parts, part, fixed, free, inner, upper, lower, fits, con_fits, parts_fit}
use Rattle.ddl_types.specs.Layout.{part_fits, con_of, only_con}
use Rattle.ddl_types.specs.Types.{Ty, Tys, con, none, uint, maybe_of, bits, place, on, arguments}
use Rattle.ddl_types.specs.Types as t
use Rattle.ddl_types.specs.Value.{Value, Fields, number, bitdata, fields, tagged, no_fields, field}
use Rattle.ddl_types.specs.Value as v
use Rattle.ddl_ops.specs.declared.pattern.Pattern.{Pattern}
use Rattle.ddl_ops.specs.declared.pattern.Pattern.TheVariants.{Any, Number, Truth, Nothing, Just, Tag}
use Rattle.ddl_ops.specs.Bitdata.{layout_at, part_fields, fields_of_only}
use Rattle.ddl_ops.specs.Records.{field_in, selected, record_of}
use Rattle.ddl_ops.specs.Patterns.{Matched, has_it, has_another, has_none, by_test, same_truth, by_con, matched}
use Rattle.ddl_typed.specs.Specification.{Place}
use Rattle.ddl_sound.specs.HasType.{HasType, FieldsHave, list_of, tag_type}
use Rattle.ddl_sound.specs.Members.{IfSame, PartType, OnlyPart, IsRecord, HasTag, HasField, PartsAre, ConsAre, PatternRule}
use Rattle.ddl_sound.specs.BasicTypes.{field_type, unit_type}
use Rattle.ddl_sound.specs.Sound.{Gives, There}
use Rattle.ddl_sound.proofs.Joins.{gives_given}
use Rattle.ddl_sound.proofs.Reading.{on_number, on_bool, on_maybe, on_bits, on_place, none_some, some_is, false_true}
use Rattle.ddl_sound.proofs.Arithmetic.{uint_in}

and_both : (a b : Bool) → (a && b) ≡ true → (a ≡ true) × (b ≡ true)
and_both true b e = (refl, e)
and_both false b e = absurd (false_true e)

or_false : (a : Bool) → (a || false) ≡ true → a ≡ true
or_false true e = refl
or_false false e = e

equal_is : (x y : ℕ) → (x == y) ≡ true → x ≡ y
equal_is x y e = grind arith

-- names of equal bytes are equal
pub bytes_are_same : (xs ys : List ℕ) → bytes_eq xs ys ≡ true → xs ≡ ys
bytes_are_same [] [] e = refl
bytes_are_same [] (y ∷ ys) e = absurd (false_true e)
bytes_are_same (x ∷ xs) [] e = absurd (false_true e)
bytes_are_same (x ∷ xs) (y ∷ ys) e =
    let both = and_both (x == y) (bytes_eq xs ys) e in
    ap (λ z. z ∷ xs) (equal_is x y both.0) ∙ ap (λ zs. y ∷ zs) (bytes_are_same xs ys both.1)

module _ (places : List Place) (layouts : List Layout) where
  abbrev Has : Value → Ty → Type 0
  Has w ty = HasType places layouts w ty

  abbrev There_ : Ty → Option Value → Type 0
  There_ ty o = There (λ w. Has w ty) o

  -- ---- fields of records

  field_test : (b : Bool) (w : Value) (ty u : Ty) (ts : List Ty) (o : Option Value) (p : Option Ty) → Has w (on ty (arguments ts)) →
      (p ≡ Some u → There_ (on u (arguments ts)) o) → (if b then Some ty else p) ≡ Some u → There_ (on u (arguments ts)) (if b then Some w else o)
  field_test true w ty u ts o p h k e = let same : ty ≡ u = some_is e in subst (λ q. Has w (on q (arguments ts))) same h
  field_test false w ty u ts o p h k e = k e

  field_there : (fs : Fields) (names : List (List ℕ)) (tys : List Ty) (ts : Tys) (label : List ℕ) (u : Ty) → FieldsHave places layouts fs names tys ts →
      field_type label names tys ≡ Some u → There_ (on u (arguments (list_of ts))) (field_in fs label)
  field_there no_fields [] [] ts label u h e = absurd (none_some e)
  field_there (field name w fs) (other ∷ names) (ty ∷ tys) ts label u (same, h, k) e =
      subst (λ n. There_ (on u (arguments (list_of ts))) (if bytes_eq n label then Some w else field_in fs label)) (sym same)
      (field_test (bytes_eq other label) w ty u (list_of ts) (field_in fs label) (field_type label names tys) h (field_there fs names tys ts label u k) e)
  field_there _ names tys ts label u h e = absurd (search (rules, h))

  -- ---- fields of bitdata

  part_test : (b : Bool) (w : Value) (u : Ty) (A B : Type 0) (o : Option Value) → (A → Has w u) → (B → There_ u o) → IfSame b A B →
      There_ u (if b then Some w else o)
  part_test true w u A B o h k e = h e
  part_test false w u A B o h k e = k e

  free_is : (w n : ℕ) (ps : Parts) (u : Ty) → nat_lt (upper ps n) (2 ^ w) ≡ true → u ≡ con (uint w) none → Has (number (num.Uint w) (pos (upper ps n))) u
  free_is w n ps u h e = subst (λ q. Has (number (num.Uint w) (pos (upper ps n))) q) (sym e) (refl, uint_in w (upper ps n) (ltb-true (upper ps n) (2 ^ w) h))

  inner_is : (l : Layout) (n : ℕ) (ps : Parts) (u : Ty) → fits l (upper ps n) ≡ true → (m : ℕ) × (layout_at layouts m ≡ Some l) × (u ≡ con (bits m) none) →
      Has (bitdata l (upper ps n)) u
  inner_is l n ps u h (m, el, e) = subst (λ q. Has (bitdata l (upper ps n)) q) (sym e) (el, h)

  part_there : (ps : Parts) (n : ℕ) (label : List ℕ) (u : Ty) → parts_fit ps n ≡ true → PartType layouts ps label u →
      There_ u (field_in (part_fields ps n) label)
  part_there no_parts n label u f h = absurd h
  part_there (part (fixed c w) ps) n label u f h =
      part_there ps (lower ps n) label u (and_both (part_fits (fixed c w) (upper ps n)) (parts_fit ps (lower ps n)) f).1 h
  part_there (part (free None w) ps) n label u f h =
      part_there ps (lower ps n) label u (and_both (part_fits (free None w) (upper ps n)) (parts_fit ps (lower ps n)) f).1 h
  part_there (part (inner None l) ps) n label u f h =
      part_there ps (lower ps n) label u (and_both (part_fits (inner None l) (upper ps n)) (parts_fit ps (lower ps n)) f).1 h
  part_there (part (free (Some other) w) ps) n label u f h =
      let both = and_both (part_fits (free (Some other) w) (upper ps n)) (parts_fit ps (lower ps n)) f in
      part_test (bytes_eq other label) (number (num.Uint w) (pos (upper ps n))) u _ _ (field_in (part_fields ps (lower ps n)) label)
      (free_is w n ps u both.0) (part_there ps (lower ps n) label u both.1) h
  part_there (part (inner (Some other) l) ps) n label u f h =
      let both = and_both (part_fits (inner (Some other) l) (upper ps n)) (parts_fit ps (lower ps n)) f in
      part_test (bytes_eq other label) (bitdata l (upper ps n)) u _ _ (field_in (part_fields ps (lower ps n)) label) (inner_is l n ps u both.0)
      (part_there ps (lower ps n) label u both.1) h

  only_there : (l : Layout) (n : ℕ) (label : List ℕ) (u : Ty) → fits l n ≡ true → OnlyPart layouts (only_con l) label u →
      There_ u (field_in (fields_of_only (only_con l) n) label)
  only_there (one_of (named_con [] ps) no_cons) n label u f h = part_there ps n label u (or_false (parts_fit ps n) f) h
  only_there (one_of (named_con [] ps) (one_of c cs)) n label u f h = absurd h
  only_there (one_of (named_con (x ∷ xs) ps) cs) n label u f h = absurd h
  only_there no_cons n label u f h = absurd h

  -- ---- select

  pub selected_is : (label : List ℕ) (u subject : Ty) (w : Value) → HasField places layouts label u subject → Has w subject →
      Gives (λ x. Has x u) (selected label w)
  selected_is label u (con (place m) ts) w (p, ep, et, (ty, eu, e)) h =
      on_place places layouts (λ x. Gives (λ x. Has x u) (selected label x)) m ts of_fields of_tagged w h
    where
      of_fields : (fs : Fields) → Has (fields fs) (con (place m) ts) → Gives (λ x. Has x u) (selected label (fields fs))
      of_fields fs (q, eq, eqt, k) =
          let same : q ≡ p = some_is (sym eq ∙ ep) in
          gives_given (λ x. Has x u) (field_in fs label) (subst (λ y. There_ y (field_in fs label)) e
          (field_there fs p.names p.types ts label ty (subst (λ r. FieldsHave places layouts fs r.names r.types ts) same k) eu))

      of_tagged : (name : List ℕ) (x : Value) → Has (tagged name x) (con (place m) ts) → Gives (λ x. Has x u) (selected label (tagged name x))
      of_tagged name x (q, eq, eqt, k) =
          let same : q ≡ p = some_is (sym eq ∙ ep) in
          absurd (false_true (sym et ∙ ap (λ r. r.tagged) (sym same) ∙ eqt))
  selected_is label u (con (bits m) ts) w (l, el, k) h =
      on_bits places layouts (λ x. Gives (λ x. Has x u) (selected label x)) m ts
      (λ l2 n e2 f. let same : l ≡ l2 = some_is (sym el ∙ e2) in
      gives_given (λ x. Has x u) (field_in (fields_of_only (only_con l2) n) label)
      (only_there l2 n label u f (subst (λ q. OnlyPart layouts (only_con q) label u) same k))) w h
  selected_is label u _ w ok h = absurd (search (rules, ok))

  -- ---- records

  -- fields with their names and types
  abbrev pub FieldsAre : Fields → List (List ℕ) → List Ty → Type 0
  FieldsAre no_fields [] [] = Unit {0}
  FieldsAre (field name w fs) (x ∷ xs) (ty ∷ tys) = (name ≡ x) × Has w ty × FieldsAre fs xs tys
  FieldsAre fs xs tys = ⊥

  closing : (fs : Fields) (names : List (List ℕ)) (raw : List Ty) (ts : Tys) → FieldsAre fs names (map (λ ty. on ty (arguments (list_of ts))) raw) →
      FieldsHave places layouts fs names raw ts
  closing no_fields [] [] ts h = tt
  closing (field name w fs) (x ∷ xs) (ty ∷ tys) ts (e, h, k) = (e, h, closing fs xs tys ts k)
  closing _ names raw ts h = absurd (search (rules, h))

  pub fields_record : (x : List ℕ) (xs : List (List ℕ)) (tys : List Ty) (ty : Ty) (fs : Fields) → IsRecord places (x ∷ xs) tys ty →
      FieldsAre fs (x ∷ xs) tys → Has (fields fs) ty
  fields_record x xs tys (con (place m) ts) fs (p, ep, et, en, e) h = (
    p,
    ep,
    et,
    closing fs p.names p.types ts (subst (λ ns. FieldsAre fs ns (map (λ ty. on ty (arguments (list_of ts))) p.types)) (sym en)
        (subst (λ us. FieldsAre fs (x ∷ xs) us) (sym e) h)),
  )
  fields_record x xs tys _ fs ok h = absurd (search (rules, ok))

  pub record_is : (xs : List (List ℕ)) (tys : List Ty) (ty : Ty) (fs : Fields) → IsRecord places xs tys ty → FieldsAre fs xs tys → Has (record_of fs) ty
  record_is [] [] ty no_fields e h = subst (λ u. Has v.unit u) (sym e) tt
  record_is (x ∷ xs) (u ∷ us) ty (field name w fs) r h = fields_record x xs (u ∷ us) ty (field name w fs) r h
  record_is [] [] ty (field name w fs) r h = absurd h
  record_is [] (u ∷ us) ty fs r h = absurd r
  record_is (x ∷ xs) [] ty no_fields r h = absurd h
  record_is (x ∷ xs) [] ty (field name w fs) r h = absurd h
  record_is (x ∷ xs) (u ∷ us) ty no_fields r h = absurd h

  pub tagged_is : (label : List ℕ) (u ty : Ty) (w : Value) → HasTag places label u ty → Has w u → Has (tagged label w) ty
  tagged_is label u (con (place m) ts) w (p, ep, et, (raw, er, e)) h = (p, ep, et, (raw, er, subst (λ y. Has w y) (sym e) h))
  tagged_is label u _ w ok h = absurd (search (rules, ok))

  -- ---- patterns

  abbrev pub MatchHas : Ty → Matched → Type 0
  MatchHas ty (has_it w) = Has w ty
  MatchHas ty has_another = Unit {0}
  MatchHas ty has_none = ⊥

  test_is : (b : Bool) (w : Value) (ty : Ty) → (b ≡ true → Has w ty) → MatchHas ty (by_test b w)
  test_is true w ty h = h refl
  test_is false w ty h = tt

  unit_is : (ty : Ty) → ty ≡ unit_type → Has v.unit ty
  unit_is ty e = subst (λ u. Has v.unit u) (sym e) tt

  parts_are : (ps : Parts) (n : ℕ) (xs : List (List ℕ)) (tys : List Ty) → parts_fit ps n ≡ true → PartsAre layouts ps xs tys →
      FieldsAre (part_fields ps n) xs tys
  parts_are no_parts n [] [] f h = tt
  parts_are (part (fixed c w) ps) n xs tys f h =
      parts_are ps (lower ps n) xs tys (and_both (part_fits (fixed c w) (upper ps n)) (parts_fit ps (lower ps n)) f).1 h
  parts_are (part (free None w) ps) n xs tys f h =
      parts_are ps (lower ps n) xs tys (and_both (part_fits (free None w) (upper ps n)) (parts_fit ps (lower ps n)) f).1 h
  parts_are (part (inner None l) ps) n xs tys f h =
      parts_are ps (lower ps n) xs tys (and_both (part_fits (inner None l) (upper ps n)) (parts_fit ps (lower ps n)) f).1 h
  parts_are (part (free (Some other) w) ps) n (x ∷ xs) (ty ∷ tys) f (e, eu, h) =
      let both = and_both (part_fits (free (Some other) w) (upper ps n)) (parts_fit ps (lower ps n)) f in
      (e, free_is w n ps ty both.0 eu, parts_are ps (lower ps n) xs tys both.1 h)
  parts_are (part (inner (Some other) l) ps) n (x ∷ xs) (ty ∷ tys) f (e, eu, h) =
      let both = and_both (part_fits (inner (Some other) l) (upper ps n)) (parts_fit ps (lower ps n)) f in
      (e, inner_is l n ps ty both.0 eu, parts_are ps (lower ps n) xs tys both.1 h)
  parts_are _ n xs tys f h = absurd (search (rules, h))

  con_record : (ps : Parts) (n : ℕ) (ty : Ty) → parts_fit ps n ≡ true →
      (xs : List (List ℕ)) × ((tys : List Ty) × PartsAre layouts ps xs tys × IsRecord places xs tys ty) → Has (record_of (part_fields ps n)) ty
  con_record ps n ty f (xs, (tys, a, r)) = record_is xs tys ty (part_fields ps n) r (parts_are ps n xs tys f a)

  con_test : (b : Bool) (c : Con) (cs : Layout) (n : ℕ) (label : List ℕ) (ty : Ty) → con_fits c n ≡ b → (b || fits cs n) ≡ true →
      ConsAre places layouts (one_of c cs) label ty → (fits cs n ≡ true → ConsAre places layouts cs label ty → MatchHas ty (by_con label (con_of cs n) n)) →
      MatchHas ty (by_con label (if b then Some c else con_of cs n) n)
  con_test true (named_con other ps) cs n label ty e f (h, k) rest =
      test_is (bytes_eq label other) (record_of (part_fields ps n)) ty (λ same. con_record ps n ty e (h same))
  con_test false (named_con other ps) cs n label ty e f (h, k) rest = rest f k

  con_is : (l : Layout) (n : ℕ) (label : List ℕ) (ty : Ty) → fits l n ≡ true → ConsAre places layouts l label ty → MatchHas ty (by_con label (con_of l n) n)
  con_is no_cons n label ty f h = absurd (false_true f)
  con_is (one_of c cs) n label ty f h = con_test (con_fits c n) c cs n label ty refl f h (λ f2 k. con_is cs n label ty f2 k)

  pub matched_is : (p : Pattern) (subject inside : Ty) (w : Value) → PatternRule places layouts p subject inside → Has w subject →
      MatchHas inside (matched p w)
  matched_is Any subject inside w e h = unit_is inside e
  matched_is (Number n) subject inside w ((s, es), e) h =
      on_number places layouts (λ x. MatchHas inside (matched (Number n) x)) subject s es
      (λ z hz. test_is (int_eq z (pos n)) v.unit inside (λ f. unit_is inside e)) w h
  matched_is (Truth b) subject inside w (ok, e) h =
      on_bool places layouts (λ x. MatchHas inside (matched (Truth b) x)) subject ok (λ c. test_is (same_truth b c) v.unit inside (λ f. unit_is inside e)) w h
  matched_is Nothing (con maybe_of (t.more ty ts)) inside w e h =
      on_maybe places layouts (λ x. MatchHas inside (matched Nothing x)) ty ts (unit_is inside e) (λ x k. tt) w h
  matched_is (Just y) (con maybe_of (t.more ty ts)) inside w e h =
      on_maybe places layouts (λ x. MatchHas inside (matched (Just y) x)) ty ts tt (λ x k. subst (λ u. Has x u) (sym e) k) w h
  matched_is (Tag label y) (con (place m) ts) inside w (p, ep, et, (raw, er, e)) h =
      on_place places layouts (λ x. MatchHas inside (matched (Tag label y) x)) m ts of_fields of_tagged w h
    where
      of_fields : (fs : Fields) → Has (fields fs) (con (place m) ts) → MatchHas inside (matched (Tag label y) (fields fs))
      of_fields fs (q, eq, eqt, k) =
          let same : q ≡ p = some_is (sym eq ∙ ep) in
          absurd (false_true (sym eqt ∙ ap (λ r. r.tagged) same ∙ et))

      of_tagged : (name : List ℕ) (x : Value) → Has (tagged name x) (con (place m) ts) → MatchHas inside (matched (Tag label y) (tagged name x))
      of_tagged name x (q, eq, eqt, (ty, ety, k)) =
          let same : q ≡ p = some_is (sym eq ∙ ep) in
          test_is (bytes_eq label name) x inside (λ b.
          let labels = bytes_are_same label name b in
          let found : tag_type label p.names p.types ≡ Some ty = subst (λ l. tag_type l p.names p.types ≡ Some ty) (sym labels)
          (subst (λ r. tag_type name r.names r.types ≡ Some ty) same ety) in
          let types : ty ≡ raw = some_is (sym found ∙ er) in
          subst (λ u. Has x u) e (subst (λ u. Has x (on u (arguments (list_of ts)))) types k))
  matched_is (Tag label y) (con (bits m) ts) inside w (l, el, k) h =
      on_bits places layouts (λ x. MatchHas inside (matched (Tag label y) x)) m ts
      (λ l2 n e2 f. let same : l ≡ l2 = some_is (sym el ∙ e2) in con_is l2 n label inside f (subst (λ q. ConsAre places layouts q label inside) same k)) w h
  matched_is _ subject inside w ok h = absurd (search (rules, ok))
