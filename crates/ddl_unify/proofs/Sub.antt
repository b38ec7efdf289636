-- Substitutions.
use Rattle.std.proofs.Common.{◌≡◌, ℕ, ◌+◌, ◌≢◌, refl, sym, ap, ◌∙◌, arith, inl, inr}
use Rattle.std.proofs.lemmas.Bool.Decides.{eqb_tells}
use Rattle.ddl_types.specs.Types.{Ty, Tys, Ty.var, Ty.con, Tys.none, Tys.more, Sub, on, on_all}
use Rattle.ddl_unify.specs.Occurs.{one, count, count_all}

-- maps that give the same for each variable give the same for each type
mutual
  pub on_same : (t : Ty) (f g : Sub) → ((n : ℕ) → f n ≡ g n) → on t f ≡ on t g
  on_same (var n) f g e = e n
  on_same (con h ts) f g e = ap (con h) (on_all_same ts f g e)

  pub on_all_same : (ts : Tys) (f g : Sub) → ((n : ℕ) → f n ≡ g n) → on_all ts f ≡ on_all ts g
  on_all_same none f g e = refl
  on_all_same (more t ts) f g e = let a = on_same t f g e in let b = on_all_same ts f g e in cc

-- one map after another is one map
mutual
  pub on_on : (t : Ty) (f g : Sub) → on (on t f) g ≡ on t (λ n. on (f n) g)
  on_on (var n) f g = refl
  on_on (con h ts) f g = ap (con h) (on_all_on ts f g)

  pub on_all_on : (ts : Tys) (f g : Sub) → on_all (on_all ts f) g ≡ on_all ts (λ n. on (f n) g)
  on_all_on none f g = refl
  on_all_on (more t ts) f g = let a = on_on t f g in let b = on_all_on ts f g in cc

-- a solution of v = s does not see that v is replaced by s
pub one_kept : (v : ℕ) (s : Ty) (f : Sub) → f v ≡ on s f → (n : ℕ) → on (one v s n) f ≡ f n
one_kept v s f e n = elim (eqb_tells n v) [ inl q ↦ rw q.0 (sym e ∙ ap f (sym q.1)) | inr q ↦ rw q.0 refl ]

nat_zero : (a b : ℕ) → a + b ≡ 0 → (a ≡ 0) × (b ≡ 0)
nat_zero a b h = (omega arith, omega arith)

pub one_at : (v : ℕ) (s : Ty) → one v s v ≡ s
one_at v s = elim (eqb_tells v v) [ inl q ↦ rw q.0 refl | inr q ↦ absurd (q.1 refl) ]

pub one_off : (v : ℕ) (s : Ty) (n : ℕ) → n ≢ v → one v s n ≡ var n
one_off v s n h = elim (eqb_tells n v) [ inl q ↦ absurd (h q.1) | inr q ↦ rw q.0 refl ]

pub count_self : (v : ℕ) → count (var v) v ≡ 1
count_self v = elim (eqb_tells v v) [ inl q ↦ rw q.0 refl | inr q ↦ absurd (q.1 refl) ]

pub count_differs : (n v : ℕ) → count (var n) v ≡ 0 → n ≢ v
count_differs n v h = elim (eqb_tells n v) [ inl q ↦ absurd (let e : 1 ≡ 0 = (rw q.0 at h) in omega arith) | inr q ↦ q.1 ]

-- where a variable does not stand, it may be replaced
mutual
  pub on_absent : (t : Ty) (v : ℕ) (s : Ty) → count t v ≡ 0 → on t (one v s) ≡ t
  on_absent (var n) v s h = one_off v s n (count_differs n v h)
  on_absent (con k ts) v s h = ap (con k) (on_all_absent ts v s h)

  pub on_all_absent : (ts : Tys) (v : ℕ) (s : Ty) → count_all ts v ≡ 0 → on_all ts (one v s) ≡ ts
  on_all_absent none v s h = refl
  on_all_absent (more t ts) v s h =
      let z = nat_zero (count t v) (count_all ts v) h in
      let a = on_absent t v s z.0 in let b = on_all_absent ts v s z.1 in cc
