-- Types with something put in place of each variable.
use Rattle.std.proofs.Common.{◌≡◌, ℕ, ◌<◌, List, [], ◌∷◌, map, get_or, length, refl, ap, sym, subst, zero, suc, arith}
use Rattle.ddl_types.specs.declared.ty.Ty.{Ty}
use Rattle.ddl_types.specs.Types as t
use Rattle.ddl_types.specs.Types.{Sub, Each, EachOf, on, on_all, tys_of}
use Rattle.ddl_types.specs.TyView.{ty_view}
use Rattle.ddl_types.specs.Conditions.{Condition, num, word, lit, key, lossless, cut, fit, cat, field, tag, loops, EachType}

-- substitution goes into each type of a list
pub on_list : (ts : List t.Ty) (f : Sub) → on_all (tys_of ts) f ≡ tys_of (map (λ x. on x f) ts)
on_list [] f = refl
on_list (x ∷ xs) f = ap (t.more (on x f)) (on_list xs f)

pub on_place : (h : t.Head) (ts : List t.Ty) (f : Sub) → on (t.con h (tys_of ts)) f ≡ t.con h (tys_of (map (λ x. on x f) ts))
on_place h ts f = ap (t.con h) (on_list ts f)

-- the variables of a list's type fit as those of the list do
pub each_at : (P : ℕ → Type 0) (ts : List Ty) (i : ℕ) (x : Ty) → i < length ts → x ≡ get_or ts i x → EachOf P (tys_of (map ty_view ts)) → Each P (ty_view x)
each_at P [] i x h e b = absurd (omega arith)
each_at P (y ∷ ts) zero x h e b = subst (Each P) (ap ty_view (sym e)) b.0
each_at P (y ∷ ts) (suc i) x h e b = each_at P ts i x (omega arith) e b.1

-- a type in which each variable stands for itself is that type
mutual
  pub on_same : (x : t.Ty) → on x t.var ≡ x
  on_same (t.var v) = refl
  on_same (t.con h ts) = ap (t.con h) (on_all_same ts)

  on_all_same : (ts : t.Tys) → on_all ts t.var ≡ ts
  on_all_same t.none = refl
  on_all_same (t.more x ts) = let e = on_same x in let es = on_all_same ts in cc

-- no variable is barred
mutual
  pub each_free : (t : t.Ty) → Each (λ v. Unit {0}) t
  each_free (t.var v) = tt
  each_free (t.con h ts) = each_of_free ts

  pub each_of_free : (ts : t.Tys) → EachOf (λ v. Unit {0}) ts
  each_of_free t.none = tt
  each_of_free (t.more x ts) = (each_free x, each_of_free ts)

-- nor is a type of a condition
pub types_free : (c : Condition) → EachType (λ t. Unit {0}) c
types_free (num t) = tt
types_free (word t) = tt
types_free (lit n t) = tt
types_free (key t) = tt
types_free (lossless s t) = (tt, tt)
types_free (cut s t) = (tt, tt)
types_free (fit s t) = (tt, tt)
types_free (cat a b r) = (tt, tt, tt)
types_free (field t x r) = (tt, tt)
types_free (tag t x r) = (tt, tt)
types_free (loops t k v) = (tt, tt, tt)

pub ruleset mapped_on = (on_place, each_at)

pub ruleset copied = (on_same, each_free)
