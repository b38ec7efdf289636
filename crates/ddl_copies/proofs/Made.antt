-- What specialisation makes is a specialised specification.
use Rattle.std.proofs.Common.{◌≡◌, ◌⊎◌, inl, inr, ℕ, zero, suc, Bool, true, false, List, [], ◌∷◌, ◌++◌, map, Option, Some, None, length, refl, ap, subst, sym}
use Rattle.std.proofs.Common.{◌∙◌, arith, rules}
use Rattle.ddl_tree.specs.declared.kind.Kind.{Kind}
use Rattle.ddl_tree.specs.declared.kind.Kind.TheVariants.{Grammar, Value, Class, Bits}
use Rattle.ddl_types.specs.Types.{Ty}
use Rattle.ddl_typed.specs.Tree.{own, under, Expr, Spec}
use Rattle.ddl_typed.specs.Specification.{Specification, Declaration, Parameter, spec_of}
use Rattle.ddl_typed.specs.Meaning.{form_at}
use Rattle.ddl_mono.specs.Copies as mono
use Rattle.ddl_mono.specs.Copies.{Copy, Mono, copy_at, params_of, is_value_kind, is_value_copy, is_value}
use Rattle.ddl_mono.specs.IsMono.{IsClosed, Calls, IsValue, IsGrammar, AllClosed, IsMono}
use Rattle.ddl_copies.specs.Shapes.{Shape, Instance, Origin, at_name, at_place, no_parameters, grammar_at, class_at, type_at, member, argument, shape_of}
use Rattle.ddl_copies.specs.Shapes.{shape_or, closed_in, captured, all_captured, unit_types}
use Rattle.ddl_copies.specs.LocalTypes.{used, type_or, captured_types, all_captured_types}
use Rattle.ddl_copies.specs.Queue.{Within, at_front, behind, Reached, at_entry, by_use, item, Met, at_first, and_then}
use Rattle.ddl_copies.specs.Needed.{members_of, arguments_of, body_uses, uses, copy_uses, member_uses, all_arguments, Needs}
use Rattle.ddl_copies.specs.Scoped.{IsSome, Scoped}
use Rattle.ddl_copies.specs.Keeping.{Sound}
use Rattle.ddl_copies.specs.Kinds.{is_value_in, kinds_at, ValueForm, GrammarForm, IsKinded}
use Rattle.ddl_copies.specs.Specialised.{names_for, parameter_names, types_for, parameter_types, type_of, IsCopy, AreCopies, Specialised}
use Rattle.ddl_copies.proofs.Lists.{some_is, joins_back}
use Rattle.ddl_copies.proofs.AllMet.{Stands, copy_of, declared_form, first_number}
use Rattle.ddl_copies.proofs.Closing.{good}
use Rattle.ddl_copies.proofs.Fine.{V, K, FineShape, Fine, fine_closed, fine_found, fine_units}
use Rattle.ddl_copies.proofs.UsesFine.{FineOrigin, AllFine, fine_at, value_fine, grammar_fine}
use Rattle.ddl_copies.proofs.MonoForms.{calls_member, value_mono, grammar_mono}

-- ---- each copy in order is needed

members_back : {u : Origin} (os : List Origin) → Within u (members_of os) → Within u os
members_back [] i = i
members_back (member f τs ∷ os) at_front = at_front
members_back (member f τs ∷ os) (behind i) = behind (members_back os i)
members_back (argument site e τs ∷ os) i = behind (members_back os i)

arguments_back : {u : Origin} (os : List Origin) → Within u (arguments_of os) → Within u os
arguments_back [] i = i
arguments_back (member f τs ∷ os) i = behind (arguments_back os i)
arguments_back (argument site e τs ∷ os) at_front = at_front
arguments_back (argument site e τs ∷ os) (behind i) = behind (arguments_back os i)

within_back : {A : Type 0} {x : A} (xs ys : List A) → Within x (xs ++ ys) → Within x xs ⊎ Within x ys
within_back [] ys i = inr i
within_back (y ∷ xs) ys at_front = inl at_front
within_back (y ∷ xs) ys (behind i) = elim (within_back xs ys i) [ inl h ↦ inl (behind h) | inr h ↦ inr h ]

item_within : {A : Type 0} {x : A} (xs : List A) (d : ℕ) → item xs d ≡ Some x → Within x xs
item_within [] d e = absurd (search rules)
item_within (y ∷ xs) zero e = subst (λ z. Within z (y ∷ xs)) (some_is e) at_front
item_within (y ∷ xs) (suc d) e = behind (item_within xs d e)

module _ (spec : Spec) (start : Origin) where
  abbrev R : Origin → Type 0
  R = Reached (copy_uses spec) start

  members_needed : {d : ℕ} {xs : List Origin} → Met (member_uses spec) start d xs → (u : Origin) → Within u xs → R u
  members_needed at_first u at_front = at_entry
  members_needed at_first u (behind i) = elim i [ ]
  members_needed (and_then {d = d} {x = x} {xs = xs} m at j) u i = from (joins_back j i) (members_needed m)
    where
      from : Within u xs ⊎ Within u (member_uses spec x) → ((o : Origin) → Within o xs → R o) → R u
      from (inl h) r = r u h
      from (inr h) r = by_use (r x (item_within xs d at)) (members_back (copy_uses spec x) h)

  arguments_needed : (os : List Origin) → ((o : Origin) → Within o os → R o) → (u : Origin) → Within u (all_arguments spec os) → R u
  arguments_needed [] r u i = elim i [ ]
  arguments_needed (o ∷ os) r u i = from (within_back (arguments_of (copy_uses spec o)) (all_arguments spec os) i) (arguments_needed os (λ v h. r v (behind h)))
    where
      from : Within u (arguments_of (copy_uses spec o)) ⊎ Within u (all_arguments spec os) → ((v : Origin) → Within v (all_arguments spec os) → R v) → R u
      from (inl h) k = by_use (r o at_front) (arguments_back (copy_uses spec o) h)
      from (inr h) k = k u h

-- ---- lengths

map_lengths : {A B C : Type 0} (f : A → B) (g : A → C) (xs : List A) → length (map f xs) ≡ length (map g xs)
map_lengths f g [] = refl
map_lengths f g (x ∷ xs) = ap suc (map_lengths f g xs)

map_length : {A B : Type 0} (f : A → B) (xs : List A) → length (map f xs) ≡ length xs
map_length f [] = refl
map_length f (x ∷ xs) = ap suc (map_length f xs)

both_lengths : {A B : Type 0} (xs xs' : List A) (ys ys' : List B) → length xs ≡ length ys → length xs' ≡ length ys' → length (xs ++ xs') ≡ length (ys ++ ys')
both_lengths [] xs' [] ys' e f = f
both_lengths [] xs' (y ∷ ys) ys' e f = absurd (search (rules, e))
both_lengths (x ∷ xs) xs' [] ys' e f = absurd (search (rules, e))
both_lengths (x ∷ xs) xs' (y ∷ ys) ys' e f = ap suc (both_lengths xs xs' ys ys' (omega (arith, e)) f)

mutual
  captured_lengths : (σ : Shape) → length (captured σ) ≡ length (captured_types σ)
  captured_lengths (at_name f τs) = refl
  captured_lengths (at_place site e τs) =
      both_lengths (map own site.values) (all_captured τs) (map (λ x. closed_in τs (type_or (used x e))) site.values) (all_captured_types τs)
      (map_lengths own (λ x. closed_in τs (type_or (used x e))) site.values) (all_lengths τs)

  all_lengths : (τs : Instance) → length (all_captured τs) ≡ length (all_captured_types τs)
  all_lengths no_parameters = refl
  all_lengths (grammar_at g σ τs) =
      both_lengths (map (under g) (captured σ)) (all_captured τs) (captured_types σ) (all_captured_types τs) (map_length (under g) (captured σ)
      ∙ captured_lengths σ) (all_lengths τs)
  all_lengths (class_at x set τs) = all_lengths τs
  all_lengths (type_at j t τs) = all_lengths τs

for_lengths : (i : ℕ) (k : Kind) (of : Ty) (τs : Instance) → length (names_for i k τs) ≡ length (types_for i k of τs)
for_lengths i Value of τs = refl
for_lengths i Grammar of τs = map_length (under i) (captured (shape_or (shape_of τs i))) ∙ captured_lengths (shape_or (shape_of τs i))
for_lengths i Class of τs = refl
for_lengths i Bits of τs = refl

parameter_lengths : (i : ℕ) (ps : List Parameter) (τs : Instance) → length (parameter_names i (map (λ p. p.kind) ps) τs) ≡ length (parameter_types i ps τs)
parameter_lengths i [] τs = refl
parameter_lengths i (p ∷ ps) τs =
    both_lengths (names_for i p.kind τs) (parameter_names (suc i) (map (λ q. q.kind) ps) τs) (types_for i p.kind p.of τs) (parameter_types (suc i) ps τs)
    (for_lengths i p.kind p.of τs) (parameter_lengths (suc i) ps τs)

-- ---- types without variables

both_closed : (ts us : List Ty) → AllClosed ts → AllClosed us → AllClosed (ts ++ us)
both_closed [] us a b = b
both_closed (t ∷ ts) us (k, a) b = (k, both_closed ts us a b)

mapped_closed : {A : Type 0} (f : A → Ty) → ((x : A) → IsClosed (f x)) → (xs : List A) → AllClosed (map f xs)
mapped_closed f k [] = tt
mapped_closed f k (x ∷ xs) = (k x, mapped_closed f k xs)

module _ (s : Specification) (entry : ℕ) (m : Mono) (params : ℕ
    → List ℕ) (made : Specialised s entry m) (sound : Sound (spec_of s) params entry made.order.declared.typing.vars) (kinded : IsKinded s) where
  abbrev N : Origin → Type 0
  N = Needs (spec_of s) entry made.order.declared.typing.vars

  abbrev number : Origin → ℕ
  number = made.number

  copies : (o : Origin) → N o → Stands s number o (copy_at m.copies (number o))
  copies o needed = copy_of s entry m made o needed

  -- a needed member is in scope, with what it uses
  scoped : (f : ℕ) (τs : Instance) (text : Expr) → N (member f τs) → form_at (spec_of s).decls f ≡ Some text → Scoped (spec_of s) params N text τs (params f)
  scoped f τs text needed is =
      good (spec_of s) params N text τs (params f) (sound f τs text needed is) (λ u i.
      by_use needed (subst (λ o. Within u (body_uses (spec_of s) o τs)) (sym is) i))

  text_fine : (f : ℕ) (τs : Instance) (d : Declaration) (text : Expr) → N (member f τs) → form_at (spec_of s).decls f ≡ Some text →
      (is_value_kind d.kind ≡ true → ValueForm (V s) (K s) text) → (is_value_kind d.kind ≡ false → GrammarForm (V s) (K s) text) → Fine s N τs
      → AllFine s params N (uses (spec_of s) text τs)
  text_fine f τs d text needed is values grammars fine = by_kind (is_value_kind d.kind) refl
    where
      by_kind : (b : Bool) → is_value_kind d.kind ≡ b → AllFine s params N (uses (spec_of s) text τs)
      by_kind true e = value_fine s params N text τs (params f) (scoped f τs text needed is) (values e) fine
      by_kind false e = grammar_fine s params N text τs (params f) (scoped f τs text needed is) (grammars e) fine

  fine : {o : Origin} → Reached (copy_uses (spec_of s)) (member entry (unit_types made.order.declared.typing.vars)) o → FineOrigin s params N o
  fine at_entry = fine_units s N made.order.declared.typing.vars
  fine (by_use {x = argument site e τs} r i) = elim i [ ]
  fine (by_use {x = member f τs} {u = u} r i) =
      let h = copies (member f τs) r in
      let is : form_at (spec_of s).decls f ≡ Some h.of.text = declared_form s.declarations f h.of.is h.of.stands in
      fine_at s params N (uses (spec_of s) h.of.text τs)
      (text_fine f τs h.of.declared h.of.text r is (kinded.values f h.of.declared h.of.text h.of.is h.of.stands)
      (kinded.grammars f h.of.declared h.of.text h.of.is h.of.stands) (fine r))
      (subst (λ o. Within u (body_uses (spec_of s) o τs)) is i)

  -- ---- the types of parameters

  mutual
    captured_closed : (σ : Shape) → FineShape s N σ → AllClosed (captured_types σ)
    captured_closed (at_name f τs) k = tt
    captured_closed (at_place site e τs) k =
        let f = fine k in
        both_closed (map (λ x. closed_in τs (type_or (used x e))) site.values) (all_captured_types τs)
        (mapped_closed (λ x. closed_in τs (type_or (used x e))) (λ x. fine_closed s N (type_or (used x e)) τs f.0) site.values) (all_captured_closed τs f.0)

    all_captured_closed : (τs : Instance) → Fine s N τs → AllClosed (all_captured_types τs)
    all_captured_closed no_parameters f = tt
    all_captured_closed (grammar_at g σ τs) (k, f) = both_closed (captured_types σ) (all_captured_types τs) (captured_closed σ k) (all_captured_closed τs f)
    all_captured_closed (class_at x set τs) f = all_captured_closed τs f
    all_captured_closed (type_at j t τs) (k, f) = all_captured_closed τs f

  found_closed : (o : Option Shape) → (IsSome o → FineShape s N (shape_or o)) → AllClosed (captured_types (shape_or o))
  found_closed None k = tt
  found_closed (Some σ) k = captured_closed σ (k tt)

  for_closed : (i : ℕ) (k : Kind) (of : Ty) (τs : Instance) → Fine s N τs → AllClosed (types_for i k of τs)
  for_closed i Value of τs f = (fine_closed s N of τs f, tt)
  for_closed i Grammar of τs f = found_closed (shape_of τs i) (fine_found s N τs i f)
  for_closed i Class of τs f = tt
  for_closed i Bits of τs f = tt

  parameters_closed : (i : ℕ) (ps : List Parameter) (τs : Instance) → Fine s N τs → AllClosed (parameter_types i ps τs)
  parameters_closed i [] τs f = tt
  parameters_closed i (p ∷ ps) τs f = both_closed (types_for i p.kind p.of τs) (parameter_types (suc i) ps τs) (for_closed i p.kind p.of τs f)
      (parameters_closed (suc i) ps τs f)

  copy_types : (o : Origin) (c : Copy) → N o → IsCopy s number o c → AllClosed c.params × IsClosed c.result × (length c.names ≡ length c.params)
  copy_types (member f τs) c needed h = (
    subst AllClosed (sym h.params) (parameters_closed 0 h.declared.parameters τs (fine needed)),
    subst IsClosed (sym h.result) (fine_closed s N h.declared.typing.of τs (fine needed)),
    ap length h.names ∙ parameter_lengths 0 h.declared.parameters τs ∙ ap length (sym h.params),
  )
  copy_types (argument site e τs) c needed h = (
    subst AllClosed (sym h.params) (captured_closed (at_place site e τs) needed),
    subst IsClosed (sym h.result) (fine_closed s N (type_of e) τs (fine needed).0),
    ap length h.names ∙ captured_lengths (at_place site e τs) ∙ ap length (sym h.params),
  )

  -- ---- forms

  copy_value : (o : Origin) (c : Copy) → N o → IsCopy s number o c → is_value_kind c.kind ≡ true → IsValue (mono.spec_of m) (params_of m) (is_value m) c.body
  copy_value (member f τs) c needed h v =
      let is : form_at (spec_of s).decls f ≡ Some h.text = declared_form s.declarations f h.is h.stands in
      subst (λ e. IsValue (mono.spec_of m) (params_of m) (is_value m) e) (sym h.body)
      (value_mono s params N number m copies h.text τs (params f) (scoped f τs h.text needed is)
      (kinded.values f h.declared h.text h.is h.stands (sym (ap is_value_kind h.kind) ∙ v)) (fine needed))
  copy_value (argument site e τs) c needed h v = let no : false ≡ true = sym (ap is_value_kind h.kind) ∙ v in absurd (search (rules, no))

  copy_grammar : (o : Origin) (c : Copy) → N o → IsCopy s number o c → is_value_kind c.kind ≡ false
      → IsGrammar (mono.spec_of m) (params_of m) (is_value m) c.body
  copy_grammar (member f τs) c needed h v =
      let is : form_at (spec_of s).decls f ≡ Some h.text = declared_form s.declarations f h.is h.stands in
      subst (λ e. IsGrammar (mono.spec_of m) (params_of m) (is_value m) e) (sym h.body)
      (grammar_mono s params N number m copies h.text τs (params f) (scoped f τs h.text needed is)
      (kinded.grammars f h.declared h.text h.is h.stands (sym (ap is_value_kind h.kind) ∙ v)) (fine needed))
  copy_grammar (argument site e τs) c needed h v =
      let f = fine needed in
      subst (λ e. IsGrammar (mono.spec_of m) (params_of m) (is_value m) e) (sym h.body) (grammar_mono s params N number m copies e τs site.values f.2 f.1 f.0)

  -- ---- the copy of each number

  record Is (c : Copy) : Type 0 where
    origin : Origin
    needed : N origin
    of : IsCopy s number origin c

  copy_is : (os : List Origin) (cs : List Copy) → ((o : Origin) → Within o os → N o) → AreCopies s number os cs → (f : ℕ) (c : Copy) → copy_at cs f ≡ Some c
      → Is c
  copy_is [] [] r h f c e = absurd (search rules)
  copy_is [] (k ∷ cs) r h f c e = absurd h
  copy_is (o ∷ os) [] r h f c e = absurd h
  copy_is (o ∷ os) (k ∷ cs) r (h, g) zero c e = record { origin = o; needed = r o at_front; of = subst (λ z. IsCopy s number o z) (some_is e) h }
  copy_is (o ∷ os) (k ∷ cs) r (h, g) (suc f) c e = copy_is os cs (λ u i. r u (behind i)) g f c e

  in_order : (o : Origin) → Within o (made.members ++ made.arguments) → N o
  in_order o i = from (within_back made.members made.arguments i)
    where
      start : Origin
      start = member entry (unit_types made.order.declared.typing.vars)

      from : Within o made.members ⊎ Within o made.arguments → N o
      from (inl h) = members_needed (spec_of s) start made.order.queue o h
      from (inr h) = elim (joins_back made.order.behind h)
          [ inl k ↦ elim k [ ] | inr k ↦ arguments_needed (spec_of s) start made.members (members_needed (spec_of s) start made.order.queue) o k ]

  numbered : (f : ℕ) (c : Copy) → copy_at m.copies f ≡ Some c → Is c
  numbered f c e = copy_is (made.members ++ made.arguments) m.copies in_order made.copies f c e

  record Formed (f : ℕ) (e : Expr) : Type 0 where
    copy : Copy
    is : copy_at m.copies f ≡ Some copy
    form : copy.body ≡ e

  formed : (cs : List Copy) (f : ℕ) (e : Expr) → form_at (map mono.decl_of cs) f ≡ Some e → (c : Copy) × (copy_at cs f ≡ Some c) × (c.body ≡ e)
  formed [] f e is = absurd (search rules)
  formed (c ∷ cs) zero e is = (c, refl, some_is is)
  formed (c ∷ cs) (suc f) e is = formed cs f e is

  pub is_mono : IsMono m
  is_mono = record {
    values = λ f e is v.
        let k = formed m.copies f e is in
        let h = numbered f k.0 k.1 in
        subst (λ b. IsValue (mono.spec_of m) (params_of m) (is_value m) b) k.2 (copy_value h.origin k.0 h.needed h.of (sym (ap is_value_copy k.1) ∙ v));
    grammars = λ f e is v.
        let k = formed m.copies f e is in
        let h = numbered f k.0 k.1 in
        subst (λ b. IsGrammar (mono.spec_of m) (params_of m) (is_value m) b) k.2 (copy_grammar h.origin k.0 h.needed h.of (sym (ap is_value_copy k.1) ∙ v));
    types = λ f c e. let h = numbered f c e in copy_types h.origin c h.needed h.of;
    entry =
        let o = made.order in
        subst (λ n. Calls (mono.spec_of m) (params_of m) (is_value m) n false []) (sym (first_number s entry m made))
        (subst (λ b. Calls (mono.spec_of m) (params_of m) (is_value m) (number (member entry (unit_types o.declared.typing.vars))) b [])
        (ap is_value_in o.is ∙ ap is_value_kind o.grammar)
        (calls_member s params N number m copies entry (unit_types o.declared.typing.vars) [] at_entry
        (ap (λ ks. mono.names_before (parameter_names 0 ks (unit_types o.declared.typing.vars)) []) (ap kinds_at o.is ∙ ap (map (λ p. p.kind)) o.without))));
  }
