-- Values by their numbers.
use Rattle.std.proofs.Common.{◌≡◌, ℕ, zero, suc, ◌+◌, ◌<◌, List, [], ◌∷◌, ◌++◌, length, Option, Some, None, Bool, true, refl, sym, ap, ◌∙◌, arith, append_assoc}
use Rattle.std.proofs.Common.{length-append}
use Rattle.std.specs.Prelude.{slice_get, slice_index}
use Rattle.ddl_types.specs.Value.{Value}
use Rattle.ddl_ops.specs.Valued.{gives, given, then_value}
use Rattle.ddl_core.specs.Meaning as core
use Rattle.ddl_blocks.specs.Code.{ValueType}
use Rattle.ddl_blocks.specs.Machine.{with_first, picks}
use Rattle.ddl_emission.specs.Growing.{flag_at, flags_at}
use Rattle.ddl_emission.specs.Pieces.{upto, renumber, second, with_second}
use Rattle.ddl_emission.specs.Scope.{Below}
use Rattle.ddl_emission.proofs.Arrays.{IsArray, AreArrays}

-- the numbers m name the values env, also where more values follow
pub record Holds (m : List ℕ) (vals env : List Value) : Type 0 where
  pub by : (xs : List Value) → picks m (vals ++ xs) ≡ Some env

pub append-none : {A : Type 0} (xs : List A) → xs ++ [] ≡ xs
append-none [] = refl
append-none (x ∷ xs) = ap (λ l. x ∷ l) (append-none xs)

pub holds_now : (m : List ℕ) (vals env : List Value) → Holds m vals env → picks m vals ≡ Some env
holds_now m vals env h = ap (picks m) (sym (append-none vals)) ∙ h.by []

pub holds_more : (m : List ℕ) (vals env ys : List Value) → Holds m vals env → Holds m (vals ++ ys) env
holds_more m vals env ys h = record { by = λ xs. ap (picks m) (append_assoc vals ys xs) ∙ h.by (ys ++ xs) }

pub at_seam : (a : List Value) (x : Value) (c : List Value) → slice_get (a ++ x ∷ c) (length a) ≡ Some x
at_seam [] x c = refl
at_seam (y ∷ a) x c = at_seam a x c

pub first_of : {A : Type 0} (o : Option A) (p : Option (List A)) (v : A) (vs : List A) → with_first o p ≡ Some (v ∷ vs) → (o ≡ Some v) × (p ≡ Some vs)
first_of None p v vs e = absurd (cc)
first_of (Some w) None v vs e = absurd (cc)
first_of (Some w) (Some ws) v vs e = let a : w ∷ ws ≡ v ∷ vs = cc in let b : w ≡ v = cc in let c : ws ≡ vs = cc in (ap Some b, ap Some c)

pub not_empty : {A : Type 0} (o : Option A) (p : Option (List A)) → with_first o p ≡ Some [] → ⊥
not_empty None p e = cc
not_empty (Some w) None e = cc
not_empty (Some w) (Some ws) e = cc

pub picks-append : (is js : List ℕ) (vals a b : List Value) → picks is vals ≡ Some a → picks js vals ≡ Some b → picks (is ++ js) vals ≡ Some (a ++ b)
picks-append [] js vals [] b p q = q
picks-append [] js vals (x ∷ a) b p q = absurd (cc)
picks-append (i ∷ is) js vals [] b p q = absurd (not_empty (slice_get vals i) (picks is vals) p)
picks-append (i ∷ is) js vals (x ∷ a) b p q =
    let e = first_of (slice_get vals i) (picks is vals) x a p in
    ap (λ o. with_first o (picks (is ++ js) vals)) e.0 ∙ ap (λ o. with_first (Some x) o) (picks-append is js vals a b e.1 q)

pub length-picks : (is : List ℕ) (vals a : List Value) → picks is vals ≡ Some a → length a ≡ length is
length-picks [] vals [] p = refl
length-picks [] vals (x ∷ a) p = absurd (cc)
length-picks (i ∷ is) vals [] p = absurd (not_empty (slice_get vals i) (picks is vals) p)
length-picks (i ∷ is) vals (x ∷ a) p = let e = first_of (slice_get vals i) (picks is vals) x a p in ap suc (length-picks is vals a e.1)

pub picks-upto : (a b c : List Value) → picks (upto (length a) (length b)) (a ++ (b ++ c)) ≡ Some b
picks-upto a [] c = refl
picks-upto a (x ∷ b) c =
    let n : length (a ++ x ∷ []) ≡ length a + 1 = omega (arith, length-append a (x ∷ [])) in
    let rest : picks (upto (length a + 1) (length b)) (a ++ (x ∷ (b ++ c))) ≡ Some b =
    ap (λ k. picks (upto k (length b)) (a ++ (x ∷ (b ++ c)))) (sym n)
    ∙ ap (picks (upto (length (a ++ x ∷ [])) (length b))) (sym (append_assoc a (x ∷ []) (b ++ c)))
    ∙ picks-upto (a ++ x ∷ []) b c in
    ap (λ v. with_first v (picks (upto (length a + 1) (length b)) (a ++ (x ∷ (b ++ c))))) (at_seam a x (b ++ c)) ∙ ap (λ o. with_first (Some x) o) rest

-- values at the end have the numbers from there on
pub holds_new : (vals xs : List Value) (w k : ℕ) → length vals ≡ w → length xs ≡ k → Holds (upto w k) (vals ++ xs) xs
holds_new vals xs w k e ek = record {
  by = λ ys. ap (λ n. picks (upto n k) ((vals ++ xs) ++ ys)) (sym e) ∙ ap (λ n. picks (upto (length vals) n) ((vals ++ xs) ++ ys)) (sym ek)
      ∙ ap (picks (upto (length vals) (length xs))) (append_assoc vals xs ys) ∙ picks-upto vals xs ys;
}

-- all values
pub holds_all : (vals : List Value) (w : ℕ) → length vals ≡ w → Holds (upto 0 w) vals vals
holds_all vals w e = record { by = λ xs. ap (λ k. picks (upto 0 k) (vals ++ xs)) (sym e) ∙ picks-upto [] vals xs }

pub holds_both : (m k : List ℕ) (vals a b : List Value) → Holds m vals a → Holds k vals b → Holds (m ++ k) vals (a ++ b)
holds_both m k vals a b p q = record { by = λ xs. picks-append m k (vals ++ xs) a b (p.by xs) (q.by xs) }

pub holds_none : (vals : List Value) → Holds [] vals []
holds_none vals = record { by = λ xs. refl }

-- the value after the others
pub holds_one : (vals : List Value) (w : ℕ) (v : Value) → length vals ≡ w → Holds (w ∷ []) (vals ++ v ∷ []) (v ∷ [])
holds_one vals w v e = holds_new vals (v ∷ []) w 1 e refl

-- one variable more
pub holds_cons : (m : List ℕ) (vals env : List Value) (w : ℕ) (v : Value) → length vals ≡ w → Holds m vals env → Holds (w ∷ m) (vals ++ v ∷ []) (v ∷ env)
holds_cons m vals env w v e h = holds_both (w ∷ []) m (vals ++ v ∷ []) (v ∷ []) env (holds_one vals w v e) (holds_more m vals env (v ∷ []) h)

-- one value kept more
pub holds_last : (m : List ℕ) (vals env : List Value) (w : ℕ) (v : Value) → length vals ≡ w → Holds m vals env
    → Holds (m ++ w ∷ []) (vals ++ v ∷ []) (env ++ v ∷ [])
holds_last m vals env w v e h = holds_both m (w ∷ []) (vals ++ v ∷ []) env (v ∷ []) (holds_more m vals env (v ∷ []) h) (holds_one vals w v e)

-- the state of a loop before its variables
pub holds_states : (m : List ℕ) (vals env xs : List Value) (w k : ℕ) → length vals ≡ w → length xs ≡ k → Holds m vals env
    → Holds (upto w k ++ m) (vals ++ xs) (xs ++ env)
holds_states m vals env xs w k e ek h = holds_both (upto w k) m (vals ++ xs) xs env (holds_new vals xs w k e ek) (holds_more m vals env xs h)

-- one value, by its number
pub value_at : (vals : List Value) (w : ℕ) (v : Value) → Holds (w ∷ []) vals (v ∷ []) → slice_get vals w ≡ Some v
value_at vals w v h = (first_of (slice_get vals w) (Some []) v [] (holds_now (w ∷ []) vals (v ∷ []) h)).0

-- a variable's value
pub var_at : (m : List ℕ) (vals env : List Value) (i : ℕ) → picks m vals ≡ Some env → i < length env → slice_get vals (slice_index m i) ≡ core.at env i
var_at [] vals [] i h le = absurd (omega (arith, le))
var_at [] vals (x ∷ env) i h le = absurd (cc)
var_at (n ∷ m) vals [] i h le = absurd (omega (arith, le))
var_at (n ∷ m) vals (x ∷ env) zero h le = (first_of (slice_get vals n) (picks m vals) x env h).0
var_at (n ∷ m) vals (x ∷ env) (suc i) h le = var_at m vals env i (first_of (slice_get vals n) (picks m vals) x env h).1 (omega (arith, le))

pub holds_var : (m : List ℕ) (vals env : List Value) (i : ℕ) → Holds m vals env → i < length env → slice_get vals (slice_index m i) ≡ core.at env i
holds_var m vals env i h le = var_at m vals env i (holds_now m vals env h) le

pub there : (env : List Value) (i : ℕ) → i < length env → (v : Value) × (core.at env i ≡ Some v)
there [] i le = absurd (omega (arith, le))
there (x ∷ env) zero le = (x, refl)
there (x ∷ env) (suc i) le = there env i (omega (arith, le))

-- variables that are bound have values
pub record AllThere (env : List Value) (args : List ℕ) : Type 0 where
  pub values : List Value
  pub are : core.all_at env args ≡ gives values
  pub long : length values ≡ length args
  pub picked : (m : List ℕ) (vals : List Value) → Holds m vals env → picks (renumber args m) vals ≡ Some values

pub all_there : (env : List Value) (args : List ℕ) → Below (length env) args → AllThere env args
all_there env [] b = record { values = []; are = refl; long = refl; picked = λ m vals h. refl }
all_there env (i ∷ args) b =
    let v = there env i b.0 in
    let vs = all_there env args b.1 in
    record {
      values = v.0 ∷ vs.values;
      are = ap (λ o. then_value (given o) (λ x. then_value (core.all_at env args) (λ xs. gives (x ∷ xs)))) v.1
          ∙ ap (λ o. then_value o (λ xs. gives (v.0 ∷ xs))) vs.are;
      long = ap suc vs.long;
      picked = λ m vals h. ap (λ o. with_first o (picks (renumber args m) vals)) (holds_var m vals env i h b.0 ∙ v.1)
          ∙ ap (λ o. with_first (Some v.0) o) (vs.picked m vals h);
    }

-- one value more, and its type
pub longer : (vals : List Value) (types : List ValueType) (v : Value) (ty : ValueType) → length vals ≡ length types
    → length (vals ++ v ∷ []) ≡ length (types ++ ty ∷ [])
longer vals types v ty e = omega (arith, length-append vals (v ∷ []), length-append types (ty ∷ []), e)

-- the second value by another number
pub second_picked : (xs m : List ℕ) (vals values : List Value) (i : ℕ) → slice_get vals i ≡ slice_get vals (slice_index m (second xs))
    → picks (renumber xs m) vals ≡ Some values
    → picks (with_second i (renumber xs m)) vals ≡ Some values
second_picked [] m vals values i e p = p
second_picked (x ∷ []) m vals values i e p = p
second_picked (x ∷ y ∷ xs) m vals values i e p = ap (λ o. with_first (slice_get vals (slice_index m x)) (with_first o (picks (renumber xs m) vals))) e ∙ p

-- values of variables that grow are arrays
pub there_array : (bs : List Bool) (env : List Value) → AreArrays bs env → (x : ℕ) (le : x < length env) → flag_at bs x ≡ true → IsArray (there env x le).0
unfolding there
there_array [] [] h x le e = absurd (omega (arith, le))
there_array [] (v ∷ env) h x le e = absurd h
there_array (b ∷ bs) [] h x le e = absurd h
there_array (b ∷ bs) (v ∷ env) h zero le e = h.0 e
there_array (b ∷ bs) (v ∷ env) h (suc x) le e = there_array bs env h.1 x (omega (arith, le)) e

pub all_arrays : (bs : List Bool) (env : List Value) → AreArrays bs env → (xs : List ℕ) (b : Below (length env) xs)
    → AreArrays (flags_at bs xs) (all_there env xs b).values
unfolding all_there
all_arrays bs env h [] b = tt
all_arrays bs env h (x ∷ xs) b = (there_array bs env h x b.0, all_arrays bs env h xs b.1)
