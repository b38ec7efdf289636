-- What the next argument has to be.
use Rattle.std.proofs.Common.{◌≡◌, ℕ, zero, suc, ◌<◌, ◌≤◌, List, [], ◌∷◌, length, map, drop, get_or, refl, ap, sym, arith}
use Rattle.ddl_tree.specs.declared.decl.Param.{Param}
use Rattle.ddl_tree.specs.ViewModule.{param_view}
use Rattle.ddl_kinds.specs.declared.want.Want.{Want}
use Rattle.ddl_kinds.specs.declared.want.Want.TheVariants.{Free}
use Rattle.ddl_kinds.specs.Meanings.{param_want}
use Rattle.ddl_kinds.specs.Kinds.{next_want}

pub next_at : (ws : List Want) (n : ℕ) (w : Want) → n < length ws → w ≡ get_or ws n w → next_want (drop n ws) ≡ w
next_at [] n w h e = absurd (omega arith)
next_at (v ∷ ws) zero w h e = sym e
next_at (v ∷ ws) (suc n) w h e = next_at ws n w (omega arith) e

pub next_past : (ws : List Want) (n : ℕ) → length ws ≤ n → next_want (drop n ws) ≡ Free
next_past [] zero h = refl
next_past [] (suc n) h = refl
next_past (v ∷ ws) zero h = absurd (omega arith)
next_past (v ∷ ws) (suc n) h = next_past ws n (omega arith)

abbrev wanted : Param → Want
wanted p = param_want (param_view p)

pub next_param : (ps : List Param) (n : ℕ) (p : Param) → n < length ps → p ≡ get_or ps n p → next_want (drop n (map wanted ps)) ≡ wanted p
next_param [] n p h e = absurd (omega arith)
next_param (q ∷ ps) zero p h e = ap wanted (sym e)
next_param (q ∷ ps) (suc n) p h e = next_param ps n p (omega arith) e

pub past_params : (ps : List Param) (n : ℕ) → length ps ≤ n → next_want (drop n (map wanted ps)) ≡ Free
past_params [] zero h = refl
past_params [] (suc n) h = refl
past_params (q ∷ ps) zero h = absurd (omega arith)
past_params (q ∷ ps) (suc n) h = past_params ps n (omega arith)

pub ruleset arguing = (next_at, next_past, next_param, past_params)
