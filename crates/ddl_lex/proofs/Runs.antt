-- Runs of bytes that pass a test.
use Rattle.std.proofs.Common.{◌≡◌, ◌≤◌, ℕ, zero, suc, Bool, true, false, List, [], ◌∷◌, length, take, refl, if◌then◌else◌, arith}
use Rattle.ddl_lex.specs.Letters.{run}
use Rattle.ddl_lex.specs.Forms.{AllPass}

-- no more bytes pass than the run has
pub run_most : (p : ℕ → Bool) (text : List ℕ) (k : ℕ) → k ≤ length text → AllPass p (take k text) → k ≤ run p text
run_most p [] k h a = omega arith
run_most p (b ∷ bs) zero h a = omega arith
run_most p (b ∷ bs) (suc k) h a = rw a.0 (let i = run_most p bs k (omega arith) a.1 in omega arith)

passes_at : (p : ℕ → Bool) (b : ℕ) (bs : List ℕ) (v : Bool) → p b ≡ v → AllPass p (take (run p bs) bs)
    → AllPass p (take (if v then suc (run p bs) else 0) (b ∷ bs))
passes_at p b bs true e a = (e, a)
passes_at p b bs false e a = tt

within_at : (v : Bool) (n m : ℕ) → n ≤ m → (if v then suc n else 0) ≤ suc m
within_at true n m h = omega arith
within_at false n m h = omega arith

-- the bytes of the run pass
pub run_passes : (p : ℕ → Bool) (text : List ℕ) → AllPass p (take (run p text) text)
run_passes p [] = tt
run_passes p (b ∷ bs) = passes_at p b bs (p b) refl (run_passes p bs)

-- a run is within the text
pub run_within : (p : ℕ → Bool) (text : List ℕ) → run p text ≤ length text
run_within p [] = omega arith
run_within p (b ∷ bs) = within_at (p b) (run p bs) (length bs) (run_within p bs)
