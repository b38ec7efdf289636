-- Each step of a walk leaves less to be walked.
use Rattle.std.proofs.Common.{◌≡◌, ℕ, zero, suc, ◌+◌, ◌<◌, ◌≤◌, ◌==◌, ◌||◌, ◌++◌, List, [], ◌∷◌, Bool, true, false, map, if◌then◌else◌, refl, sym, ap, ◌∙◌}
use Rattle.std.proofs.Common.{arith, nat_eq, ne_eqb, ◌≢◌, inl, inr}
use Rattle.std.proofs.lemmas.Bool.{eq-eqb as eq_eqb}
use Rattle.std.proofs.lemmas.Bool.Decides.{eqb_tells}
use Rattle.ddl_types.specs.Types.{Ty, Ty.var, Ty.con, Tys, Tys.none, Tys.more, Sub, on, Head}
use Rattle.ddl_types.specs.Types as t
use Rattle.ddl_unify.specs.Occurs.{size_all}
use Rattle.ddl_judging.specs.Shapes.{Shape, Shapes, place_at}
use Rattle.ddl_schemes.specs.Order.{Seen, among, is_new, members, parts, with_head, with_variable}
use Rattle.ddl_schemes.specs.Owed.{closed, owed, sizes}
use Rattle.ddl_schemes.specs.Steps.{behind, seen_after}

sizes_append : (xs ys : List Ty) → sizes (xs ++ ys) ≡ sizes xs + sizes ys
sizes_append [] ys = omega arith
sizes_append (x ∷ xs) ys = omega (arith, sizes_append xs ys)

sizes_parts : (us : Tys) → sizes (parts us) ≡ size_all us
sizes_parts none = refl
sizes_parts (more t ts) = omega (arith, sizes_parts ts)

suc_eq : (p q : ℕ) → nat_eq (suc p) (suc q) ≡ nat_eq p q
suc_eq p q =
    elim (eqb_tells p q) [
      | inl h ↦ (let e : suc p ≡ suc q = ap suc h.1 in eq_eqb (suc p) (suc q) e ∙ sym h.0)
      | inr h ↦ (let n : suc p ≢ suc q = λ e. h.1 (omega arith) in ne_eqb (suc p) (suc q) n ∙ sym h.0)
    ]

zero_eq : (q : ℕ) → nat_eq zero (suc q) ≡ false
zero_eq q = ne_eqb zero (suc q) (λ e. omega arith)

owed_same : (ss : List Shape) (f : Sub) (a b : ℕ → Bool) → ((q : ℕ) → a q ≡ b q) → owed ss f a ≡ owed ss f b
owed_same [] f a b e = refl
owed_same (s ∷ ss) f a b e =
    let now : closed f s (a zero) ≡ closed f s (b zero) = ap (closed f s) (e zero) in
    let later : owed ss f (λ q. a (suc q)) ≡ owed ss f (λ q. b (suc q)) = owed_same ss f (λ q. a (suc q)) (λ q. b (suc q)) (λ q. e (suc q)) in
    omega (arith, now, later)

-- a place without variables of its own that was not seen pays for its members
opened : (ss : List Shape) (f : Sub) (seen : ℕ → Bool) (p : ℕ) → (place_at ss p).vars == 0 ≡ true → seen p ≡ false
    → owed ss f (λ q. p == q || seen q) + sizes (map (λ t. on t f) (place_at ss p).types) ≤ owed ss f seen
opened [] f seen p h e = omega arith
opened (s ∷ ss) f seen zero h e =
    let now : closed f s true ≡ 0 = rw h refl in
    let before : closed f s (seen zero) ≡ sizes (map (λ t. on t f) s.types) = rw h (rw e refl) in
    let later : owed ss f (λ q. zero == suc q || seen (suc q)) ≡ owed ss f (λ q. seen (suc q)) =
    owed_same ss f (λ q. zero == suc q || seen (suc q)) (λ q. seen (suc q)) (λ q. ap (λ b. b || seen (suc q)) (zero_eq q)) in
    omega (arith, now, before, later)
opened (s ∷ ss) f seen (suc p) h e =
    let now : closed f s (suc p == zero || seen zero) ≡ closed f s (seen zero) = ap (λ b. closed f s (b || seen zero)) (ne_eqb (suc p) zero (λ e. omega arith))
    in
    let later : owed ss f (λ q. suc p == suc q || seen (suc q)) ≡ owed ss f (λ q. p == q || seen (suc q)) =
    owed_same ss f (λ q. suc p == suc q || seen (suc q)) (λ q. p == q || seen (suc q)) (λ q. ap (λ b. b || seen (suc q)) (suc_eq p q)) in
    omega (arith, now, later, opened ss f (λ q. seen (suc q)) p h e)

both : (a b : Bool) → (if a then (if b then false else true) else false) ≡ true → (a ≡ true) × (b ≡ false)
both true true e = cc
both true false e = (refl, refl)
both false b e = cc

by_new : (ss : Shapes) (f : Sub) (s : Seen) (p : ℕ) (b : Bool) → is_new ss s (t.place p) ≡ b
    → owed ss.places f (among (if b then record { places = p ∷ s.places; variables = s.variables } else s).places)
    + sizes (if b then map (λ t. on t f) (place_at ss.places p).types else []) ≤ owed ss.places f (among s.places)
by_new ss f s p true e =
    let h = both ((place_at ss.places p).vars == 0) (among s.places p) e in
    opened ss.places f (among s.places) p h.0 h.1
by_new ss f s p false e = omega arith

headed : (ss : Shapes) (f : Sub) (s : Seen) (h : Head) → owed ss.places f (among (with_head ss h s).places) + sizes (members ss f s h)
    ≤ owed ss.places f (among s.places)
headed ss f s t.int = omega arith
headed ss f s (t.uint w) = omega arith
headed ss f s (t.sint w) = omega arith
headed ss f s t.bool = omega arith
headed ss f s t.unit = omega arith
headed ss f s t.stream = omega arith
headed ss f s t.maybe_of = omega arith
headed ss f s t.array_of = omega arith
headed ss f s t.map_of = omega arith
headed ss f s (t.bits n) = omega arith
headed ss f s (t.place p) = by_new ss f s p (is_new ss s (t.place p)) refl

same_places : (b : Bool) (s : Seen) (v : ℕ) → (if b then s else record { places = s.places; variables = s.variables ++ v ∷ [] }).places ≡ s.places
same_places true s v = refl
same_places false s v = refl

pub owed_less : (ss : Shapes) (f : Sub) (s : Seen) (t : Ty) (ts : List Ty)
    → owed ss.places f (among (seen_after ss t s).places) + sizes (behind ss f s t ++ ts) < owed ss.places f (among s.places) + sizes (t ∷ ts)
owed_less ss f s (var v) ts =
    let e : owed ss.places f (among (with_variable v s).places) ≡ owed ss.places f (among s.places) =
    ap (λ ps. owed ss.places f (among ps)) (same_places (among s.variables v) s v) in
    omega (arith, e)
owed_less ss f s (con h us) ts =
    let a : sizes ((parts us ++ members ss f s h) ++ ts) ≡ sizes (parts us ++ members ss f s h) + sizes ts = sizes_append (parts us ++ members ss f s h) ts in
    let b : sizes (parts us ++ members ss f s h) ≡ sizes (parts us) + sizes (members ss f s h) = sizes_append (parts us) (members ss f s h) in
    omega (arith, a, b, sizes_parts us, headed ss f s h)

-- the same of a stack and of what has appeared, before the step and after
pub owed_walked : (ss : Shapes) (f : Sub) (s s2 : Seen) (t : Ty) (all ts after : List Ty) → all ≡ t ∷ ts → s2 ≡ seen_after ss t s
    → after ≡ behind ss f s t ++ ts → owed ss.places f (among s2.places) + sizes after < owed ss.places f (among s.places) + sizes all
owed_walked ss f s s2 t all ts after e g h =
    let a : sizes all ≡ sizes (t ∷ ts) = ap sizes e in
    let b : sizes after ≡ sizes (behind ss f s t ++ ts) = ap sizes h in
    let d : owed ss.places f (among s2.places) ≡ owed ss.places f (among (seen_after ss t s).places) = ap (λ (q : Seen). owed ss.places f (among q.places)) g in
    omega (arith, a, b, d, owed_less ss f s t ts)
