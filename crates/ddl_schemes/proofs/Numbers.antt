-- The number of a variable among others.
use Rattle.std.proofs.Common.{◌≡◌, ℕ, zero, suc, ◌+◌, ◌<◌, List, [], ◌∷◌, ◌||◌, Bool, true, false, Some, length, get_or, position, nat_eq, if◌then◌else◌, refl}
use Rattle.std.proofs.Common.{sym, ap, ◌∙◌, arith}
use Rattle.std.specs.List.{list_any}
use Rattle.std.proofs.lemmas.List.Quantifiers.{position-Some}
use Rattle.ddl_types.specs.Types.{Ty.var, Ty.con, Tys.none, Head.unit}
use Rattle.ddl_schemes.specs.Renaming.{renaming}
use Rattle.ddl_schemes.proofs.Appearing.{eq_turned}

renaming_at : (ws : List ℕ) (n v i : ℕ) → i < length ws → nat_eq v (get_or ws i 0) ≡ true → ((k : ℕ) → k < i → nat_eq v (get_or ws k 0) ≡ false)
    → renaming ws n v ≡ var (n + i)
renaming_at [] n v i h e b = absurd (omega arith)
renaming_at (w ∷ ws) n v zero h e b = ap (λ c. if c then var n else renaming ws (suc n) v) (eq_turned w v ∙ e) ∙ ap var (omega arith)
renaming_at (w ∷ ws) n v (suc i) h e b =
    ap (λ c. if c then var n else renaming ws (suc n) v) (eq_turned w v ∙ b 0 (omega arith))
    ∙ renaming_at ws (suc n) v i (omega arith) e (λ k l. b (suc k) (omega (arith, l))) ∙ ap var (omega arith)

-- a variable that stands there has its place as its number
pub number_found : (ws : List ℕ) (v i : ℕ) → Some i ≡ position (nat_eq v) ws → renaming ws 0 v ≡ var i
number_found ws v i e =
    let p = position-Some (nat_eq v) ws i 0 (sym e) in
    renaming_at ws 0 v i p.0 p.1 p.2 ∙ ap var (omega arith)

or_none : (a b : Bool) → (a || b) ≡ false → (a ≡ false) × (b ≡ false)
or_none true b e = cc
or_none false b e = (refl, e)

missing_from : (ws : List ℕ) (n v : ℕ) → list_any (nat_eq v) ws ≡ false → renaming ws n v ≡ con unit none
missing_from [] n v e = refl
missing_from (w ∷ ws) n v e =
    let o = or_none (nat_eq v w) (list_any (nat_eq v) ws) e in
    ap (λ c. if c then var n else renaming ws (suc n) v) (eq_turned w v ∙ o.0) ∙ missing_from ws (suc n) v o.1

-- one that does not is the type of `{}`
pub number_missing : (ws : List ℕ) (v : ℕ) → false ≡ list_any (nat_eq v) ws → renaming ws 0 v ≡ con unit none
number_missing ws v e = missing_from ws 0 v (sym e)

pub ruleset numbers = (number_found, number_missing)
