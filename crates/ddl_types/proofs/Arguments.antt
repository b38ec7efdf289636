-- Types with arguments for their variables.
use Rattle.std.proofs.Common.{◌≡◌, ℕ, All, ◌<◌, List, [], ◌∷◌, map, get_or, length, refl, ap, sym, subst, zero, suc, arith}
use Rattle.ddl_types.specs.declared.ty.Ty.{Ty}
use Rattle.ddl_types.specs.Types as t
use Rattle.ddl_types.specs.Types.{Below, BelowAll, Each, EachOf, arguments}
use Rattle.ddl_types.specs.TyView.{ty_view}
use Rattle.ddl_types.specs.declared.cond.Cond.{Cond}
use Rattle.ddl_types.specs.Conditions.{ConditionBelow}
use Rattle.ddl_types.specs.CondView.{cond_view}

-- what is seen at a place of a list is what stands there, seen
get_at : {X Y : Type 0} (g : X → Y) (xs : List X) (i : ℕ) (x : X) (d : Y) → i < length xs → x ≡ get_or xs i x → get_or (map g xs) i d ≡ g x
get_at g [] i x d h e = absurd (omega arith)
get_at g (y ∷ xs) zero x d h e = ap g (sym e)
get_at g (y ∷ xs) (suc i) x d h e = get_at g xs i x d (omega arith) e

-- the argument of a number is the type that stands there
pub argument_at : (ts : List Ty) (i : ℕ) (x : Ty) → i < length ts → x ≡ get_or ts i x → arguments (map ty_view ts) i ≡ ty_view x
argument_at ts i x h e = get_at ty_view ts i x (t.var i) h e

-- a type whose variables are below a number fits where that is asked
mutual
  pub each_below : (t : t.Ty) (n : ℕ) → Below t n → Each (λ v. v < n) t
  each_below (t.var v) n b = b
  each_below (t.con h ts) n b = each_of_below ts n b

  each_of_below : (ts : t.Tys) (n : ℕ) → BelowAll ts n → EachOf (λ v. v < n) ts
  each_of_below t.none n b = b
  each_of_below (t.more x ts) n b = (each_below x n b.0, each_of_below ts n b.1)

map_length : (cs : List Cond) → length (map cond_view cs) ≡ length cs
map_length [] = refl
map_length (c ∷ cs) = omega (arith, map_length cs)

-- what holds of each condition of a list holds of the one that stands there
pub condition_at : (cs : List Cond) (i : ℕ) (x : Cond) (n : ℕ) → i < length cs → x ≡ get_or cs i x → All (ConditionBelow n) (map cond_view cs)
    → ConditionBelow n (cond_view x)
condition_at cs i x n h e b =
    let here : get_or (map cond_view cs) i (cond_view x) ≡ cond_view x = get_at cond_view cs i x (cond_view x) h e in
    subst (ConditionBelow n) here (b i (cond_view x) (omega (arith, h, map_length cs)))
