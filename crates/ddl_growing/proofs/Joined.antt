-- Words that are joined.
use Rattle.std.proofs.Common.{◌≡◌, ℕ, ◌+◌, ◌<◌, ◌≤◌, List, [], ◌∷◌, Option, Some, None, Result, refl, sym, ap, ◌∙◌, arith, subst, inl, inr}
use Rattle.std.proofs.lemmas.Bool.Decides.{leb_tells}
use Rattle.ddl_base.specs.declared.span.Span.{Span}
use Rattle.ddl_types.specs.Conditions.{cat}
use Rattle.ddl_types.specs.Types.{Ty, Ty.con, Tys.none, on, Head, Head.uint}
use Rattle.ddl_unify.specs.Equations.{equal}
use Rattle.ddl_growing.specs.declared.heads.Known.TheVariants as known
use Rattle.ddl_growing.specs.declared.heads.Known.{Known}
use Rattle.ddl_growing.specs.declared.refusal.SettleError.{SettleError}
use Rattle.ddl_growing.specs.declared.turn.Turn.{Turn}
use Rattle.ddl_growing.specs.declared.turn.Turn.TheVariants as turn
use Rattle.ddl_growing.specs.Carrying.{Carries, IsHeard, IsKnown, asking, given}
use Rattle.ddl_judging.specs.Demands.{condition}
use Rattle.ddl_growing.specs.Giving.{Given, gives, joined, nothing}
use Rattle.ddl_growing.specs.Heads.{add_head, head, heads_of}
use Rattle.ddl_judging.specs.Shapes.{Shapes}
use Rattle.ddl_growing.specs.Turns.{IsTurn, Solved}
use Rattle.ddl_growing.proofs.Knowing.{AtHead, heads_one, heads_two, heard_second, known_at}
use Rattle.ddl_growing.proofs.Taken.{at_heads}

-- what is no word is not joined
pub apart : (ss : Shapes) (a b r : Ty) (s : Span) (z : Solved) (k : Known) (u : Turn) → IsKnown k (head (on a z.solution)) → (k ≡ known.Unknown → ⊥)
    → ((w : ℕ) → k ≡ known.Uint w → ⊥) → IsHeard u (b ∷ []) z.solution → IsTurn ss (asking (condition (cat a b r)) s) z z u
apart ss a b r s z k turn.Waits i n q h =
    let x = known_at (λ g. Unit {0}) k (head (on a z.solution)) i n (λ e. tt) (λ e. tt) (λ w e. tt) (λ v e. tt) (λ p e. tt) tt (λ w. tt) tt tt tt tt in
    (heard_second x.0 a b z.solution turn.Waits x.1 h, refl)
apart ss a b r s z k turn.Silent i n q h =
    let P : Head → Type 0 = λ g. (hs : List Head) → gives ss (condition (cat a b r)) (g ∷ hs) z.variables ≡ nothing in
    let x = known_at P k (head (on a z.solution)) i n (λ e hs. refl) (λ e hs. refl) (λ w e. absurd (q w e)) (λ v e hs. refl) (λ p e hs. refl) (λ hs.
    refl) (λ w hs. refl) (λ hs. refl) (λ hs. refl) (λ hs. refl) (λ hs. refl) in
    at_heads ss (asking (condition (cat a b r)) s) (x.0 ∷ h.0) z z turn.Silent (ap (λ o. add_head o (heads_of (b ∷ []) z.solution)) x.1
    ∙ ap (λ o. add_head (Some x.0) o) h.1) ((ap (λ (g : Given). g.equations) (x.2 h.0), ap (λ (g : Given). g.vars) (x.2 h.0)), refl)
apart ss a b r s z k turn.Adds i n q h = absurd h

-- the second is no word
pub second_apart : (ss : Shapes) (a b r : Ty) (s : Span) (m : ℕ) (z : Solved) (k : Known) → head (on a z.solution) ≡ Some (uint m)
    → IsKnown k (head (on b z.solution)) → (k ≡ known.Unknown → ⊥) → ((w : ℕ) → k ≡ known.Uint w → ⊥)
    → IsTurn ss (asking (condition (cat a b r)) s) z z turn.Silent
second_apart ss a b r s m z k l i n q =
    let P : Head → Type 0 = λ g. gives ss (condition (cat a b r)) (uint m ∷ g ∷ []) z.variables ≡ nothing in
    let x = known_at P k (head (on b z.solution)) i n (λ e. refl) (λ e. refl) (λ w e. absurd (q w e)) (λ v e. refl) (λ p e. refl) refl (λ w.
    refl) refl refl refl refl in
    at_heads ss (asking (condition (cat a b r)) s) (uint m ∷ x.0 ∷ []) z z turn.Silent (heads_two a b z.solution (Some (uint m)) (Some x.0) l x.1)
    ((ap (λ (g : Given). g.equations) x.2, ap (λ (g : Given). g.vars) x.2), refl)

pub too_wide : (m n : ℕ) (r : Ty) → 128 < m + n → joined m n r ≡ nothing
too_wide m n r h = elim (leb_tells (m + n) 128) [ inl q ↦ absurd (omega (arith, q.1, h)) | inr q ↦ rw q.0 refl ]

pub joined_carried : (m n w : ℕ) (u r : Ty) (s : Span) (a b : Solved) (x : Result Turn SettleError) → u ≡ con (uint w) none → w ≡ m + n → m + n ≤ 128
    → Carries (given (equal u r ∷ []) 0) s a b x → Carries (joined m n r) s a b x
joined_carried m n w u r s a b x e f h i =
    let i1 = rw e at i in let i2 = rw f at i1 in
    let q : joined m n r ≡ given (equal (con (uint (m + n)) none) r ∷ []) 0 =
    elim (leb_tells (m + n) 128) [ inl q ↦ rw q.0 refl | inr q ↦ absurd (omega (arith, q.1, h)) ] in
    subst (λ (g : Given). Carries g s a b x) (sym q) i2
