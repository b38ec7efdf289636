-- New variables, one after another.
use Rattle.std.proofs.Common.{◌≡◌, ℕ, ◌+◌, ◌<◌, List, [], ◌∷◌, ◌++◌, refl, sym, ap, ◌∙◌, arith, zero, suc, length, map, length-append}
use Rattle.ddl_types.specs.declared.ty.Ty as program
use Rattle.ddl_types.specs.Types.{Ty, Ty.var, Tys, Tys.none, Tys.more, tys_of}
use Rattle.ddl_types.specs.TyView.{ty_view}
use Rattle.std.proofs.lemmas.List.{map-append}
use Rattle.ddl_growing.specs.Carrying.{listed}
use Rattle.ddl_judging.specs.Shapes.{fresh}
use Rattle.ddl_growing.specs.Turns.{HasAdded, Solved}
use Rattle.ddl_growing.proofs.Added.{added_then}

listed_more : (k n m : ℕ) → m ≡ n + k → listed k n ++ var m ∷ [] ≡ listed (suc k) n
listed_more zero n m e = ap (λ v. var v ∷ []) (let q : m ≡ n = omega (arith, e) in q)
listed_more (suc k) n m e = ap (λ z. var n ∷ z) (listed_more k (suc n) m (omega (arith, e)))

-- one more is listed
pub listed_next : (xs : List program.Ty) (x : program.Ty) (n m : ℕ) → map ty_view xs ≡ listed (length xs) n → ty_view x ≡ var m → m ≡ n + length xs
    → map ty_view (xs ++ x ∷ []) ≡ listed (suc (length xs)) n
listed_next xs x n m e q h = map-append ty_view xs (x ∷ []) ∙ ap (λ z. map ty_view xs ++ z ∷ []) q ∙ ap (λ z. z ++ var m ∷ []) e ∙ listed_more (length xs) n m h

pub listed_fresh : (k n : ℕ) → tys_of (listed k n) ≡ fresh k n
listed_fresh zero n = refl
listed_fresh (suc k) n = ap (more (var n)) (listed_fresh k (suc n))

-- one more variable is taken
pub record Taken (a c : Solved) (n : ℕ) (before after : List program.Ty) : Type 0 where
  pub types : map ty_view after ≡ listed (length after) n
  pub long : length after ≡ suc (length before)
  pub added : HasAdded [] (length after) a c

pub one_more : (xs ys : List program.Ty) (x : program.Ty) (n v : ℕ) (a b c : Solved) → ys ≡ xs ++ x ∷ [] → ty_view x ≡ var v → v ≡ b.variables → n ≡ a.variables
    → map ty_view xs ≡ listed (length xs) n → HasAdded [] (length xs) a b → HasAdded [] 1 b c → Taken a c n xs ys
one_more xs ys x n v a b c e q w z h k l =
    let long : length ys ≡ suc (length xs) = ap length e ∙ length-append xs (x ∷ []) ∙ (let o : length xs + 1 ≡ suc (length xs) = omega arith in o) in
    let m : v ≡ n + length xs = omega (arith, w, z, k.variables) in
    record {
      types = ap (map ty_view) e ∙ listed_next xs x n v h q m ∙ ap (λ i. listed i n) (sym long);
      long = long;
      added = record {
        accepted = (added_then [] [] (length xs) 1 a b c k l).accepted;
        variables = omega (arith, long, k.variables, l.variables);
      };
    }

pub ruleset lists = (listed_next)
