-- When a cast is lossless.
use Rattle.std.proofs.Common.{◌≡◌, true, false, ◌==◌, refl, sym, ap, eqb-true, eq-eqb, Result, Ok, Err, IfOk}
use Rattle.ddl_types.specs.Types.{Ty, Ty.var, Ty.con}
use Rattle.ddl_judging.specs.declared.judging.Verdict as program
use Rattle.ddl_judging.specs.Casts.{casting_at}
use Rattle.ddl_judging.specs.Judging.{Verdict, holds, undecided, IsLossless, IsCast, itself, unknown}
use Rattle.ddl_judging.specs.Known.{is_known}
use Rattle.ddl_judging.specs.Same.{same_variable}
use Rattle.ddl_judging.specs.Shapes.{Shapes}
use Rattle.ddl_judging.specs.VerdictView.{verdict_view}

known_lossless : (ss : Shapes) (s t : Ty) (v : Verdict) → is_known s ≡ true → is_known t ≡ true → IsCast (casting_at ss s t) s t v → IsLossless ss s t v
known_lossless ss (var u) t v a b h = cc
known_lossless ss (con h us) (var w) v a b k = cc
known_lossless ss (con h us) (con g ts) v a b k = k

-- two known types
pub lossless_known : {E : Type 0} (o : Result program.Verdict E) (ss : Shapes) (s t : Ty) → is_known s ≡ true → is_known t ≡ true
    → IfOk o (λ v. IsCast (casting_at ss s t) s t (verdict_view v)) → IfOk o (λ v. IsLossless ss s t (verdict_view v))
lossless_known (Ok v) ss s t a b h = known_lossless ss s t (verdict_view v) a b h
lossless_known (Err e) ss s t a b h = tt

-- one variable
pub lossless_same : (ss : Shapes) (s t : Ty) → same_variable s t ≡ true → IsLossless ss s t holds
lossless_same ss (var u) (var w) e = itself (ap var (sym (eqb-true w u e)))
lossless_same ss (var u) (con h ts) e = cc
lossless_same ss (con h us) t e = cc

-- types of which one is not known
pub lossless_from : (ss : Shapes) (s t : Ty) → is_known s ≡ false → same_variable s t ≡ false → IsLossless ss s t undecided
lossless_from ss (var u) t k e = unknown (λ q. by_type t q e)
  where
    by_type : (t : Ty) → var u ≡ t → same_variable (var u) t ≡ false → ⊥
    by_type (var w) q e = let a : w ≡ u = cc in let b : (w == u) ≡ true = eq-eqb w u a in cc
    by_type (con h ts) q e = cc
lossless_from ss (con h us) t k e = cc

pub lossless_into : (ss : Shapes) (s t : Ty) → is_known t ≡ false → same_variable s t ≡ false → IsLossless ss s t undecided
lossless_into ss (var u) t k e = lossless_from ss (var u) t refl e
lossless_into ss (con h us) (var w) k e = unknown (λ q. cc)
lossless_into ss (con h us) (con g ts) k e = cc

pub ruleset lossless_cases = (lossless_known, lossless_same, lossless_from, lossless_into)
