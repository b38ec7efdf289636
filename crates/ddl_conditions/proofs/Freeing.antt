-- Whether the variable of a number may become `int`.
use Rattle.std.proofs.Common.{◌≡◌, ℕ, refl, sym, ap, ◌∙◌, true, false, Bool, not, subst, Option, Some, None}
use Rattle.ddl_types.specs.Types.{Ty, Ty.var, Ty.con, Sub, on}
use Rattle.ddl_unify.specs.Occurs.{is_var}
use Rattle.ddl_unify.specs.State.{IsFree}
use Rattle.ddl_unify.proofs.Opening.{var_is}
use Rattle.ddl_conditions.specs.Closing.{Says}
use Rattle.ddl_judging.specs.Demands.{Asked, numbered}
use Rattle.ddl_conditions.specs.Growing as growing
use Rattle.ddl_conditions.specs.Growing.{Group}
use Rattle.ddl_conditions.specs.Standing.{Stands}
use Rattle.ddl_conditions.specs.Walking.{IsFreeAt, MayBecomeInt}

same_variable : (v w : ℕ) → var v ≡ var w → v ≡ w
same_variable v w e = cc

pub may_become : (g : Group) (f : Sub) (of x : Ty) (v : ℕ) (kept : Bool) → is_var x ≡ Some v → on x f ≡ on of f → IsFree x f
    → Says kept ((g.with_parameters ≡ true) × Stands g.shapes g.roots f v) → Says (not kept) (MayBecomeInt g f of)
may_become g f of x v kept e same free says = by_kept kept says
  where
    at_variable : on of f ≡ var v
    at_variable =
        let P : Ty → Type 0 = λ y. IsFree y f in
        let q = var_is x v e in
        sym same ∙ ap (λ y. on y f) q ∙ subst P q free

    by_kept : (b : Bool) → Says b ((g.with_parameters ≡ true) × Stands g.shapes g.roots f v) → Says (not b) (MayBecomeInt g f of)
    by_kept true k = λ may. (let P : ℕ → Type 0 = λ w. g.with_parameters ≡ true → Stands g.shapes g.roots f w
        → ⊥ in subst P (same_variable may.variable v (sym may.free ∙ at_variable)) may.unkept k.0 k.1)
    by_kept false k = record { variable = v; free = at_variable; unkept = λ p s. k (p, s) }

pub never_int : (g : Group) (f : Sub) (of x : Ty) → is_var x ≡ None → on x f ≡ on of f → MayBecomeInt g f of → ⊥
never_int g f of (var v) n same may = let q : Some v ≡ None = n in cc
never_int g f of (con h ts) n same may = let k : on (con h ts) f ≡ var may.variable = same ∙ may.free in cc

abbrev pub free_of : (g : Group) (f : Sub) (a : Asked) (t : Ty) → IsFreeAt g f a t → growing.IsFree g f a
free_of g f a t h = record { of = t; number = h.number; variable = h.free.variable; free = h.free.free; unkept = h.free.unkept }

some_is : (s t : Ty) → Some s ≡ Some t → s ≡ t
some_is s t e = cc

pub free_at : (g : Group) (f : Sub) (a : Asked) (t : Ty) → numbered a.what ≡ Some t → growing.IsFree g f a → MayBecomeInt g f t
free_at g f a t e h =
    let P : Ty → Type 0 = λ y. on y f ≡ var h.variable in
    record { variable = h.variable; free = subst P (some_is h.of t (sym h.number ∙ e)) h.free; unkept = h.unkept }
