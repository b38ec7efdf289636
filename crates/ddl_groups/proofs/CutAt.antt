-- A list that is cut at places.
use Rattle.std.proofs.Common.{◌≡◌, ℕ, zero, suc, ◌+◌, ◌-◌, ◌<◌, List, [], ◌∷◌, length, drop, take, get_or, min, ap, sym, ◌∙◌, refl, arith}
use Rattle.std.proofs.lemmas.List.{drop_min, length-drop, take_min}
use Rattle.std.proofs.Math.Seq.{take-length}
use Rattle.ddl_names.specs.Cutting.{cut_at}

-- a part that another follows
pub cut_inner : {A : Type 0} (xs : List A) (fs : List ℕ) (k : ℕ) → suc k < length fs
    → get_or (cut_at xs fs) k [] ≡ take (get_or fs (suc k) 0 - get_or fs k 0) (drop (get_or fs k 0) xs)
cut_inner xs [] k l = absurd (omega arith)
cut_inner xs (f ∷ []) k l = absurd (omega arith)
cut_inner xs (f ∷ g ∷ fs) zero l = refl
cut_inner xs (f ∷ g ∷ fs) (suc k) l = cut_inner xs (g ∷ fs) k (omega arith)

-- the last part
pub cut_last : {A : Type 0} (xs : List A) (fs : List ℕ) (k : ℕ) → k + 1 ≡ length fs → get_or (cut_at xs fs) k [] ≡ drop (get_or fs k 0) xs
cut_last xs [] k e = absurd (omega arith)
cut_last xs (f ∷ []) zero e = refl
cut_last xs (f ∷ []) (suc k) e = absurd (omega arith)
cut_last xs (f ∷ g ∷ fs) zero e = absurd (omega arith)
cut_last xs (f ∷ g ∷ fs) (suc k) e = cut_last xs (g ∷ fs) k (omega arith)

-- what is left from a place on that may lie behind the end
pub rest_is : {A : Type 0} (xs : List A) (f : ℕ) → take (length xs - min f (length xs)) (drop (min f (length xs)) xs) ≡ drop f xs
rest_is xs f = ap (λ n. take n (drop (min f (length xs)) xs)) (sym (length-drop (min f (length xs)) xs)) ∙ take-length (drop (min f (length xs)) xs)
    ∙ drop_min f xs

-- so many from a place on, where both may lie behind the end
pub sliced : {A : Type 0} (xs : List A) (f c m n : ℕ) → m ≡ min f (length xs) → n ≡ min c (length (take (length xs - m) (drop m xs)))
    → take n (take (length xs - m) (drop m xs)) ≡ take c (drop f xs)
sliced xs f c m n em en =
    let e : take (length xs - m) (drop m xs) ≡ drop f xs = rw em (rest_is xs f) in
    rw en (take_min c (take (length xs - m) (drop m xs)) ∙ ap (take c) e)
