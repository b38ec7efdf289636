-- The variables of a type as it is written, and which of them stand in types that others were bound to.
use Rattle.std.proofs.Common.{◌≡◌, ◌≢◌, ℕ, ◌+◌, ◌<◌, ◌≤◌, List, [], ◌∷◌, ◌++◌, refl, sym, ap, ◌∙◌, arith, inl, inr, zero, suc, map, take, length, length-append}
use Rattle.std.proofs.Common.{get_or, set, true, false, ◌||◌, Bool, add-one, ne_eqb, subst}
use Rattle.std.specs.Bool.{OnFalse}
use Rattle.std.proofs.lemmas.Bool.Decides.{eqb_tells}
use Rattle.std.proofs.lemmas.List.{get_or-set_same, get_or-set_other, length-set}
use Rattle.ddl_types.specs.declared.ty.Ty as program
use Rattle.ddl_types.specs.Types.{Head, Ty, Tys, Ty.var, Ty.con, Tys.none, Tys.more, Sub, on, on_all, tys_of, BelowAll, Below}
use Rattle.ddl_types.specs.TyView.{ty_view}
use Rattle.ddl_unify.specs.declared.store.Bound.{Bound}
use Rattle.ddl_unify.specs.View.{bounds, onto, bound_view}
use Rattle.ddl_unify.specs.Occurs.{has, has_all, size, size_all, one}
use Rattle.ddl_unify.specs.Bindings.{Binding, solution, Unbound}
use Rattle.ddl_unify.specs.Named.{Absent, Named, Marked}
use Rattle.ddl_unify.specs.Trails.{Extends}
use Rattle.ddl_unify.proofs.Stored.{bounds_more, onto_append}

-- a map that gives each variable a type where v stands as it does in the variable alone
mutual
  has_on : (t : Ty) (f : Sub) (v : ℕ) → ((n : ℕ) → has (f n) v ≡ has (var n) v) → has (on t f) v ≡ has t v
  has_on (var n) f v h = h n
  has_on (con c ts) f v h = has_all_on ts f v h

  has_all_on : (ts : Tys) (f : Sub) (v : ℕ) → ((n : ℕ) → has (f n) v ≡ has (var n) v) → has_all (on_all ts f) v ≡ has_all ts v
  has_all_on none f v h = refl
  has_all_on (more t ts) f v h = let a = has_on t f v h in let b = has_all_on ts f v h in cc

has_one_off : (w v : ℕ) (s : Ty) → w ≢ v → has s v ≡ false → (n : ℕ) → has (one w s n) v ≡ has (var n) v
has_one_off w v s d h n = elim (eqb_tells n w) [ inl q ↦ rw q.0 (h ∙ sym (ne_eqb n v (λ e. d (sym q.1 ∙ e)))) | inr q ↦ rw q.0 refl ]

variable_absent : (bs : List Binding) (v : ℕ) → Unbound v bs → Absent v bs → (n : ℕ) → has (solution bs n) v ≡ has (var n) v
variable_absent [] v u a n = refl
variable_absent (b ∷ bs) v u a n =
    let s : Ty = on b.to (solution bs) in
    let z : has s v ≡ false = has_on b.to (solution bs) v (variable_absent bs v u.1 a.1) ∙ a.0 in
    has_on (solution bs n) (one b.from s) v (has_one_off b.from v s u.0 z) ∙ variable_absent bs v u.1 a.1 n

-- a variable that is not bound, and stands in no type that others are bound to, stands in a type as it is read
-- where it stands in it as it is written
pub read_absent : (bs : List Binding) (v : ℕ) (t : Ty) → Unbound v bs → Absent v bs → has (on t (solution bs)) v ≡ has t v
read_absent bs v t u a = has_on t (solution bs) v (variable_absent bs v u a)

or_false : (a : Bool) → (a || false) ≡ a
or_false true = refl
or_false false = refl

or_true : (a : Bool) → (a || true) ≡ true
or_true true = refl
or_true false = refl

or_left : (a b : Bool) → (a || b) ≡ false → a ≡ false
or_left true b e = e
or_left false b e = refl

or_right : (a b : Bool) → (a || b) ≡ false → b ≡ false
or_right true b e = cc
or_right false b e = e

or_turn : (a b c : Bool) → (b || (a || c)) ≡ ((a || b) || c)
or_turn true true c = refl
or_turn true false c = refl
or_turn false b c = refl

or_same : (a b c : Bool) → (a || (b || c)) ≡ ((a || b) || c)
or_same true b c = refl
or_same false b c = refl

pub written_one : (h : Head) (x : Ty) (v : ℕ) → has (con h (more x none)) v ≡ has x v
written_one h x v = or_false (has x v)

pub written_two : (h : Head) (x y : Ty) (v : ℕ) → has (con h (more x (more y none))) v ≡ (has x v || has y v)
written_two h x y v = ap (λ b. has x v || b) (or_false (has y v))

-- a variable of one part of a list stands in the list
pub written_in : (xs : List program.Ty) (i : ℕ) (x : program.Ty) (v : ℕ) → i < length xs → x ≡ get_or xs i x → has (ty_view x) v ≡ true
    → has_all (tys_of (map ty_view xs)) v ≡ true
written_in [] i x v h e z = absurd (omega arith)
written_in (y ∷ xs) zero x v h e z = ap (λ b. b || has_all (tys_of (map ty_view xs)) v) (sym (ap (λ (q : program.Ty). has (ty_view q) v) e) ∙ z)
written_in (y ∷ xs) (suc i) x v h e z = ap (λ b. has (ty_view y) v || b) (written_in xs i x v (omega arith) e z) ∙ or_true (has (ty_view y) v)

-- the variables of one part more
pub written_next : (xs : List program.Ty) (i : ℕ) (x : program.Ty) (v : ℕ) → i < length xs → x ≡ get_or xs i x
    → has_all (tys_of (map ty_view (take (i + 1) xs))) v ≡ (has_all (tys_of (map ty_view (take i xs))) v || has (ty_view x) v)
written_next xs i x v h e = rw (add-one i) (by_suc xs i h e)
  where
    by_suc : (xs : List program.Ty) (i : ℕ) → i < length xs → x ≡ get_or xs i x
        → has_all (tys_of (map ty_view (take (suc i) xs))) v ≡ (has_all (tys_of (map ty_view (take i xs))) v || has (ty_view x) v)
    by_suc [] i h e = absurd (omega arith)
    by_suc (y ∷ xs) zero h e = or_false (has (ty_view y) v) ∙ sym (ap (λ (q : program.Ty). has (ty_view q) v) e)
    by_suc (y ∷ xs) (suc i) h e = ap (λ b. has (ty_view y) v || b) (by_suc xs i (omega arith) e)
        ∙ or_same (has (ty_view y) v) (has_all (tys_of (map ty_view (take i xs))) v) (has (ty_view x) v)

-- each part of a list is below what the list is below
pub below_in : (xs : List program.Ty) (i n : ℕ) (x : program.Ty) → i < length xs → x ≡ get_or xs i x → BelowAll (tys_of (map ty_view xs)) n
    → Below (ty_view x) n
below_in [] i n x h e b = absurd (omega arith)
below_in (y ∷ xs) zero n x h e b = let P : program.Ty → Type 0 = λ q. Below (ty_view q) n in subst P (sym e) b.0
below_in (y ∷ xs) (suc i) n x h e b = below_in xs i n x (omega arith) e b.1

-- and no larger
pub size_in : (xs : List program.Ty) (i : ℕ) (x : program.Ty) → i < length xs → x ≡ get_or xs i x → size (ty_view x) ≤ size_all (tys_of (map ty_view xs))
size_in [] i x h e = absurd (omega arith)
size_in (y ∷ xs) zero x h e = omega (arith, ap (λ (q : program.Ty). size (ty_view q)) e)
size_in (y ∷ xs) (suc i) x h e = omega (arith, size_in xs i x (omega arith) e)

pub below_one : (h : Head) (t x : Ty) (n : ℕ) → t ≡ con h (more x none) → Below t n → Below x n
below_one h t x n e b = (subst (λ (z : Ty). Below z n) e b).0

pub below_two : (h : Head) (t x y : Ty) (n : ℕ) → t ≡ con h (more x (more y none)) → Below t n → Below x n × Below y n
below_two h t x y n e b = let q = subst (λ (z : Ty). Below z n) e b in (q.0, q.1.0)

pub below_parts : (h : Head) (t : Ty) (ts : Tys) (n : ℕ) → t ≡ con h ts → Below t n → BelowAll ts n
below_parts h t ts n e b = subst (λ (z : Ty). Below z n) e b

-- no variable, one, and those of the parts
pub marked_none : (t : Ty) (named : List Bool) → ((v : ℕ) → has t v ≡ false) → Marked (has t) named named
marked_none t named h = record { long = refl; marks = λ v. sym (ap (λ b. b || get_or named v false) (h v)) }

pub marked_var : (t : Ty) (v : ℕ) (named : List Bool) → t ≡ var v → v < length named → Marked (has t) named (set named v true)
marked_var t v named e h = record {
  long = length-set named v true;
  marks = λ w. elim (eqb_tells v w) [
    | inl q ↦ ap (λ i. get_or (set named v true) i false) (sym q.1) ∙ get_or-set_same named v true false h
        ∙ sym (ap (λ b. b || get_or named w false) (ap (λ x. has x w) e ∙ q.0))
    | inr q ↦ get_or-set_other named v w true false (λ z. q.1 (sym z)) ∙ sym (ap (λ b. b || get_or named w false) (ap (λ x. has x w) e ∙ q.0))
  ];
}

pub marked_one : (h : Head) (t x : Ty) (named named2 : List Bool) → t ≡ con h (more x none) → Marked (has x) named named2 → Marked (has t) named named2
marked_one h t x named named2 e m = record {
  long = m.long;
  marks = λ v. m.marks v ∙ sym (ap (λ b. b || get_or named v false) (ap (λ y. has y v) e ∙ written_one h x v));
}

pub marked_two : (h : Head) (t x y : Ty) (named named2 named3 : List Bool) → t ≡ con h (more x (more y none)) → Marked (has x) named named2
    → Marked (has y) named2 named3 → Marked (has t) named named3
marked_two h t x y named named2 named3 e m k = record {
  long = k.long ∙ m.long;
  marks = λ v. k.marks v ∙ ap (λ b. has y v || b) (m.marks v) ∙ or_turn (has x v) (has y v) (get_or named v false)
      ∙ sym (ap (λ b. b || get_or named v false) (ap (λ z. has z v) e ∙ written_two h x y v));
}

pub marked_list : (h : Head) (t : Ty) (ts : Tys) (named named2 : List Bool) → t ≡ con h ts → Marked (has_all ts) named named2 → Marked (has t) named named2
marked_list h t ts named named2 e m = record { long = m.long; marks = λ v. m.marks v ∙ sym (ap (λ b. b || get_or named v false) (ap (λ y. has y v) e)) }

pub marked_next : (xs : List program.Ty) (i : ℕ) (x : program.Ty) (named named2 named3 : List Bool) → i < length xs → x ≡ get_or xs i x
    → Marked (has_all (tys_of (map ty_view (take i xs)))) named named2 → Marked (has (ty_view x)) named2 named3
    → Marked (has_all (tys_of (map ty_view (take (i + 1) xs)))) named named3
marked_next xs i x named named2 named3 h e m k = record {
  long = k.long ∙ m.long;
  marks = λ v.
      let before : Bool = has_all (tys_of (map ty_view (take i xs))) v in
      k.marks v ∙ ap (λ b. has (ty_view x) v || b) (m.marks v) ∙ or_turn before (has (ty_view x) v) (get_or named v false)
      ∙ sym (ap (λ b. b || get_or named v false) (written_next xs i x v h e));
}

-- more marks keep what they say
pub named_marked : (named named2 : List Bool) (is_in : ℕ → Bool) (place : List ℕ) (xs : List Bound) → Named named place xs → Marked is_in named named2
    → Named named2 place xs
named_marked named named2 is_in place xs n m = record {
  long = omega (arith, n.long, m.long);
  absent = λ v e. n.absent v (or_right (is_in v) (get_or named v false) (sym (m.marks v) ∙ e));
}

-- a variable may be bound to a type whose variables are marked
pub named_more : (named named2 : List Bool) (place : List ℕ) (xs xs2 : List Bound) (x : Bound) (m : ℕ) → xs2 ≡ xs ++ x ∷ [] → Named named place xs
    → Marked (has (ty_view x.to)) named named2 → Named named2 (set place x.from m) xs2
named_more named named2 place xs xs2 x m e n k = record {
  long = omega (arith, n.long, k.long, length-set place x.from m);
  absent = λ v z.
      let both : (has (ty_view x.to) v || get_or named v false) ≡ false = sym (k.marks v) ∙ z in
      subst (Absent v) (sym (bounds_more xs xs2 x e)) (
        or_left (has (ty_view x.to) v) (get_or named v false) both,
        n.absent v (or_right (has (ty_view x.to) v) (get_or named v false) both),
      );
}

absent_under : (bs : List Binding) (xs : List Bound) (v : ℕ) → Absent v (onto bs xs) → Absent v bs
absent_under bs [] v a = a
absent_under bs (x ∷ xs) v a = (absent_under (bound_view x ∷ bs) xs v a).1

-- bindings that are taken back leave what the marks say
pub named_front : (named : List Bool) (place place2 : List ℕ) (xs ys : List Bound) → Extends ys xs → length place2 ≡ length place → Named named place xs
    → Named named place2 ys
named_front named place place2 xs ys e l n = record {
  long = omega (arith, n.long, l);
  absent = λ v z. absent_under (bounds ys) e.more v (subst (Absent v) (ap bounds e.is ∙ onto_append [] ys e.more) (n.absent v z));
}

get_more : (xs : List Bool) (v : ℕ) → get_or (xs ++ false ∷ []) v false ≡ get_or xs v false
get_more [] zero = refl
get_more [] (suc v) = refl
get_more (x ∷ xs) zero = refl
get_more (x ∷ xs) (suc v) = get_more xs v

-- one more mark that is not set says nothing
pub named_room : (named : List Bool) (place : List ℕ) (xs : List Bound) → Named named place xs → Named (named ++ false ∷ []) place xs
named_room named place xs n = record {
  long = omega (arith, n.long, length-append named (false ∷ []));
  absent = λ v e. n.absent v (sym (get_more named v) ∙ e);
}

-- and one more variable
pub named_fresh : (named : List Bool) (place : List ℕ) (xs : List Bound) → Named named place xs → Named (named ++ false ∷ []) (place ++ 0 ∷ []) xs
named_fresh named place xs n = record {
  long = omega (arith, n.long, length-append named (false ∷ []), length-append place (0 ∷ []));
  absent = λ v e. n.absent v (sym (get_more named v) ∙ e);
}

pub named_none : Named [] [] []
named_none = record { long = omega arith; absent = λ v e. tt }

pub ruleset writings = (written_one, written_two, written_in, written_next)

pub on_false : (b : Bool) (P : Type 0) → OnFalse b P → b ≡ false → P
on_false false P h e = h
on_false true P h e = absurd (let q : true ≡ false = e in cc)
