-- Heads at which demands give nothing.
use Rattle.std.proofs.Common.{◌≡◌, ℕ, List, [], ◌∷◌, Bool, true, false, Option, refl}
use Rattle.ddl_types.specs.Types.{Ty, Head, Head.uint, Head.array_of, Head.map_of, Head.bits, Head.place}
use Rattle.ddl_types.specs.Conditions.{key, loops}
use Rattle.ddl_growing.specs.declared.heads.Known.TheVariants as known
use Rattle.ddl_growing.specs.declared.heads.Known.{Known}
use Rattle.ddl_growing.specs.Carrying.{IsKnown, for_member}
use Rattle.ddl_judging.specs.Demands.{condition, make, gather}
use Rattle.ddl_growing.specs.Giving.{gives, nothing}
use Rattle.ddl_judging.specs.Shapes.{Shapes}
use Rattle.ddl_growing.proofs.Knowing.{AtHead, known_at}

pub quiet_key : (ss : Shapes) (t : Ty) (n : ℕ) (k : Known) (o : Option Head) → IsKnown k o → (k ≡ known.Unknown → ⊥) → (k ≡ known.Array → ⊥)
    → AtHead o (λ h. gives ss (condition (key t)) (h ∷ []) n ≡ nothing)
quiet_key ss t n k o i u a = known_at (λ h. gives ss (condition (key t)) (h ∷ []) n ≡ nothing) k o i u (λ e. absurd (a e)) (λ e. refl) (λ w e. refl) (λ b e.
    refl) (λ p e. refl) refl (λ w. refl) refl refl refl refl

pub quiet_loop : (ss : Shapes) (t x y : Ty) (n : ℕ) (k : Known) (o : Option Head) → IsKnown k o → (k ≡ known.Unknown → ⊥) → (k ≡ known.Array → ⊥)
    → (k ≡ known.Map → ⊥) → AtHead o (λ h. gives ss (condition (loops t x y)) (h ∷ []) n ≡ nothing)
quiet_loop ss t x y n k o i u a m = known_at (λ h. gives ss (condition (loops t x y)) (h ∷ []) n ≡ nothing) k o i u (λ e. absurd (a e)) (λ e.
    absurd (m e)) (λ w e. refl) (λ b e. refl) (λ p e. refl) refl (λ w. refl) refl refl refl refl

pub quiet_gather : (ss : Shapes) (t x y b r : Ty) (n : ℕ) (k : Known) (o : Option Head) → IsKnown k o → (k ≡ known.Unknown → ⊥) → (k ≡ known.Array → ⊥)
    → (k ≡ known.Map → ⊥) → AtHead o (λ h. gives ss (gather t x y b r) (h ∷ []) n ≡ nothing)
quiet_gather ss t x y b r n k o i u a m = known_at (λ h. gives ss (gather t x y b r) (h ∷ []) n ≡ nothing) k o i u (λ e. absurd (a e)) (λ e.
    absurd (m e)) (λ w e. refl) (λ c e. refl) (λ p e. refl) refl (λ w. refl) refl refl refl refl

pub quiet_make : (ss : Shapes) (t : Ty) (x : List ℕ) (r : Ty) (n : ℕ) (k : Known) (o : Option Head) → IsKnown k o → (k ≡ known.Unknown → ⊥)
    → ((p : ℕ) → k ≡ known.Place p → ⊥) → AtHead o (λ h. gives ss (make t x r) (h ∷ []) n ≡ nothing)
quiet_make ss t x r n k o i u q = known_at (λ h. gives ss (make t x r) (h ∷ []) n ≡ nothing) k o i u (λ e. refl) (λ e. refl) (λ w e. refl) (λ b e. refl) (λ p e.
    absurd (q p e)) refl (λ w. refl) refl refl refl refl

pub quiet_member : (ss : Shapes) (tagged : Bool) (t : Ty) (x : List ℕ) (r : Ty) (n : ℕ) (k : Known) (o : Option Head) → IsKnown k o → (k ≡ known.Unknown → ⊥)
    → ((b : ℕ) → k ≡ known.Bits b → ⊥) → ((p : ℕ) → k ≡ known.Place p → ⊥) → AtHead o (λ h. gives ss (for_member tagged t x r) (h ∷ []) n ≡ nothing)
quiet_member ss false t x r n k o i u q z = known_at (λ h. gives ss (for_member false t x r) (h ∷ []) n ≡ nothing) k o i u (λ e. refl) (λ e. refl) (λ w e.
    refl) (λ b e. absurd (q b e)) (λ p e. absurd (z p e)) refl (λ w. refl) refl refl refl refl
quiet_member ss true t x r n k o i u q z = known_at (λ h. gives ss (for_member true t x r) (h ∷ []) n ≡ nothing) k o i u (λ e. refl) (λ e. refl) (λ w e.
    refl) (λ b e. absurd (q b e)) (λ p e. absurd (z p e)) refl (λ w. refl) refl refl refl refl
