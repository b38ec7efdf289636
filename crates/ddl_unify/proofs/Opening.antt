-- A variable followed to what is no variable.
use Rattle.std.proofs.Common.{◌≡◌, ℕ, refl, sym, ap, ◌∙◌, Some, None}
use Rattle.ddl_types.specs.Types.{Ty, Ty.var, Ty.con, on, Below}
use Rattle.ddl_unify.specs.declared.trail.Trail.{Trail}
use Rattle.ddl_unify.specs.Occurs.{is_var, NoVar}
use Rattle.ddl_unify.specs.Bindings.{Unbound}
use Rattle.ddl_unify.specs.Heads.{IsCon}
use Rattle.ddl_unify.specs.Trails.{bindings, solution, variables, LeadsTo}
use Rattle.ddl_unify.specs.Solving.{Opened}
use Rattle.ddl_unify.proofs.ReadingLemmas.{leads_read, leads_less, unbound_read}

pub var_is : (x : Ty) (v : ℕ) → is_var x ≡ Some v → x ≡ var v
var_is (var w) v e = cc
var_is (con h ts) v e = cc

con_is : (x : Ty) → NoVar x → IsCon x
con_is (var w) e = cc
con_is (con h ts) e = tt

-- what is bound to is read as no variable where the variable is
pub leads_con : (t : Trail) (v : ℕ) (u : Ty) → LeadsTo t v u → NoVar (on (var v) (solution t)) → NoVar (on u (solution t))
leads_con t v u h c = sym (ap is_var h.same) ∙ c

pub leads_below : (t : Trail) (v : ℕ) (u : Ty) → LeadsTo t v u → Below u (variables t)
leads_below t v u h = h.below

-- a variable that is not bound is read as a variable
pub unbound_con : (t : Trail) (v : ℕ) → Unbound v (bindings t) → NoVar (on (var v) (solution t)) → ⊥
unbound_con t v u e = let q : Some v ≡ None = ap is_var (sym (unbound_read (bindings t) v u)) ∙ e in cc

pub opened_same : (t : Trail) (h : Ty) → NoVar h → Below h (variables t) → Opened t h h
opened_same t h e b = record { head = con_is h e; same = refl; below = b }

pub opened_bound : (t : Trail) (v : ℕ) (u r : Ty) → LeadsTo t v u → Opened t u r → Opened t (var v) r
opened_bound t v u r h o = record { head = o.head; same = o.same ∙ sym h.same; below = o.below }

pub ruleset openings = (leads_con, leads_below, leads_less, unbound_con, opened_same, opened_bound)
