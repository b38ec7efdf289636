-- The subjects of a demand that holds, and may add equations, have heads.
use Rattle.std.proofs.Common.{◌≡◌, ℕ, List, [], ◌∷◌, true, false, Some, refl, ap, ◌∙◌}
use Rattle.ddl_types.specs.Types.{Ty, Ty.var, Ty.con, Sub, on, Head, Head.uint}
use Rattle.ddl_types.specs.Conditions.{key, cat, field, tag, loops}
use Rattle.ddl_judging.specs.Demands.{Demand, condition, make, gather, adds, subjects, on_demand}
use Rattle.ddl_judging.specs.Judging.{Judged, Verdict, holds, undecided, comparable, has_field, has_tag, joined, looped, makes}
use Rattle.ddl_judging.specs.Shapes.{Shapes}
use Rattle.ddl_growing.specs.Heads.{add_head, head, heads_of}
use Rattle.ddl_conditions.specs.Laws.{MetAreReady}

-- a type's head is known
abbrev HasHead : Ty → Type 0
HasHead t = (h : Head) × (head t ≡ Some h)

-- the heads of types are known under a solution
abbrev HaveHeads : List Ty → Sub → Type 0
HaveHeads ts f = (hs : List Head) × (heads_of ts f ≡ Some hs)

-- what is undecided of a variable holds of a type with a head alone
known_where : (p : Ty → Verdict) → ((v : ℕ) → p (var v) ≡ undecided) → (t : Ty) → holds ≡ p t → HasHead t
known_where p u (var v) e = let q : holds ≡ undecided = e ∙ u v in absurd (cc)
known_where p u (con h ts) e = (h, refl)

joined_heads : (s t : Ty) → holds ≡ joined s t → HasHead s × HasHead t
joined_heads (con h ss) (con k ts) e = ((h, refl), (k, refl))
joined_heads (con (uint m) ss) (var v) e = let q : holds ≡ undecided = e in absurd (cc)
joined_heads (con h ss) (var v) e = let q : holds ≡ undecided = e in absurd (cc)
joined_heads (var v) t e = let q : holds ≡ undecided = e in absurd (cc)

one_head : (t : Ty) (f : Sub) → HasHead (on t f) → HaveHeads (t ∷ []) f
one_head t f k = (k.0 ∷ [], ap (λ x. add_head x (Some [])) k.1)

two_heads : (s t : Ty) (f : Sub) → HasHead (on s f) → HasHead (on t f) → HaveHeads (s ∷ t ∷ []) f
two_heads s t f k l =
    let first = ap (λ x. add_head x (add_head (head (on t f)) (Some []))) k.1 in
    let second = ap (λ y. add_head (Some k.0) (add_head y (Some []))) l.1 in
    (k.0 ∷ l.0 ∷ [], first ∙ second)

subject_heads : (ss : Shapes) (f : Sub) (d : Demand) → adds d ≡ true → Judged ss (on_demand f d) holds → HaveHeads (subjects d) f
subject_heads ss f (condition (key t)) e m = one_head t f (known_where comparable (λ v. refl) (on t f) m)
subject_heads ss f (condition (cat a b r)) e m = let k = joined_heads (on a f) (on b f) m in two_heads a b f k.0 k.1
subject_heads ss f (condition (field t x r)) e m = one_head t f (known_where (has_field ss x) (λ v. refl) (on t f) m)
subject_heads ss f (condition (tag t x r)) e m = one_head t f (known_where (has_tag ss x) (λ v. refl) (on t f) m)
subject_heads ss f (condition (loops t k v)) e m = one_head t f (known_where looped (λ w. refl) (on t f) m)
subject_heads ss f (make t x r) e m = one_head t f (known_where (makes ss x) (λ v. refl) (on t f) m)
subject_heads ss f (gather t k v b r) e m = one_head t f (known_where looped (λ w. refl) (on t f) m)
subject_heads ss f d e m = let q : false ≡ true = e in absurd (cc)

pub met_ready : MetAreReady
met_ready g f a e m = let k = subject_heads g.shapes f a.what e m in record { heads = k.0; known = k.1 }
