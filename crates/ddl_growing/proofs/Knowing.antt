-- Heads that are known.
use Rattle.std.proofs.Common.{◌≡◌, ℕ, List, [], ◌∷◌, Option, Some, None, refl, sym, ap, ◌∙◌, true}
use Rattle.ddl_types.specs.Types.{Ty, Ty.var, Ty.con, Sub, on, Head, Head.int, Head.uint, Head.sint, Head.bool, Head.unit, Head.stream, Head.maybe_of}
use Rattle.ddl_types.specs.Types.{Head.array_of, Head.map_of, Head.bits, Head.place}
use Rattle.ddl_unify.specs.State.{IsFree}
use Rattle.ddl_growing.specs.declared.heads.Known.TheVariants as known
use Rattle.ddl_growing.specs.declared.heads.Known.{Known}
use Rattle.ddl_growing.specs.declared.turn.Turn.{Turn}
use Rattle.ddl_growing.specs.declared.turn.Turn.TheVariants as turn
use Rattle.ddl_growing.specs.Carrying.{IsHeard, IsKnown, is_other}
use Rattle.ddl_growing.specs.Heads.{add_head, head, heads_of}

-- a type that is no bound variable shows the head of each type that is read as it
pub shown : (r t : Ty) (f : Sub) → on r f ≡ on t f → IsFree r f → head (on t f) ≡ head r
shown (var v) t f e free = ap head (sym e) ∙ ap head free
shown (con h ts) t f e free = ap head (sym e)

-- a head is known, and this holds of it
abbrev pub AtHead : Option Head → (Head → Type 0) → Type 0
AtHead o P = (h : Head) × (o ≡ Some h) × P h

-- what holds of each head that no demand looks for
others : (P : Head → Type 0) (o : Option Head) → is_other o ≡ true → P int → ((w : ℕ) → P (sint w)) → P bool → P unit → P stream → P maybe_of → AtHead o P
others P None e a b c d f g = cc
others P (Some int) e a b c d f g = (int, refl, a)
others P (Some (uint w)) e a b c d f g = cc
others P (Some (sint w)) e a b c d f g = (sint w, refl, b w)
others P (Some bool) e a b c d f g = (bool, refl, c)
others P (Some unit) e a b c d f g = (unit, refl, d)
others P (Some stream) e a b c d f g = (stream, refl, f)
others P (Some maybe_of) e a b c d f g = (maybe_of, refl, g)
others P (Some array_of) e a b c d f g = cc
others P (Some map_of) e a b c d f g = cc
others P (Some (bits n)) e a b c d f g = cc
others P (Some (place p)) e a b c d f g = cc

-- what holds of each head that is known, where some are ruled out
pub known_at : (P : Head → Type 0) (k : Known) (o : Option Head) → IsKnown k o → (k ≡ known.Unknown → ⊥) → (k ≡ known.Array → P array_of)
    → (k ≡ known.Map → P map_of) → ((w : ℕ) → k ≡ known.Uint w → P (uint w)) → ((b : ℕ) → k ≡ known.Bits b → P (bits b))
    → ((p : ℕ) → k ≡ known.Place p → P (place p)) → P int → ((w : ℕ) → P (sint w)) → P bool → P unit → P stream → P maybe_of → AtHead o P
known_at P known.Unknown o i u ar mp ui bi pl a b c d f g = absurd (u refl)
known_at P known.Array o i u ar mp ui bi pl a b c d f g = (array_of, i, ar refl)
known_at P known.Map o i u ar mp ui bi pl a b c d f g = (map_of, i, mp refl)
known_at P (known.Uint w) o i u ar mp ui bi pl a b c d f g = (uint w, i, ui w refl)
known_at P (known.Bits n) o i u ar mp ui bi pl a b c d f g = (bits n, i, bi n refl)
known_at P (known.Place p) o i u ar mp ui bi pl a b c d f g = (place p, i, pl p refl)
known_at P known.Other o i u ar mp ui bi pl a b c d f g = others P o i a b c d f g

-- some head is known
pub some_head : (k : Known) (o : Option Head) → IsKnown k o → (k ≡ known.Unknown → ⊥) → AtHead o (λ h. Unit {0})
some_head k o i u = known_at (λ h. Unit {0}) k o i u (λ e. tt) (λ e. tt) (λ w e. tt) (λ b e. tt) (λ p e. tt) tt (λ w. tt) tt tt tt tt

-- the heads of one subject, and of two
pub heads_one : (t : Ty) (f : Sub) (o : Option Head) → head (on t f) ≡ o → heads_of (t ∷ []) f ≡ add_head o (Some [])
heads_one t f o e = ap (λ z. add_head z (Some [])) e

pub heads_two : (s t : Ty) (f : Sub) (o p : Option Head) → head (on s f) ≡ o → head (on t f) ≡ p → heads_of (s ∷ t ∷ []) f ≡ add_head o (add_head p (Some []))
heads_two s t f o p e q = ap (λ z. add_head z (heads_of (t ∷ []) f)) e ∙ ap (λ z. add_head o (add_head z (Some []))) q

pub heard_one : (k : Known) (t : Ty) (f : Sub) → IsKnown k (head (on t f)) → (k ≡ known.Unknown → ⊥) → IsHeard turn.Silent (t ∷ []) f
heard_one k t f i u = let x = some_head k (head (on t f)) i u in (x.0 ∷ [], heads_one t f (Some x.0) x.1)

pub waits_first : (s t : Ty) (f : Sub) → head (on s f) ≡ None → heads_of (s ∷ t ∷ []) f ≡ None
waits_first s t f e = ap (λ z. add_head z (heads_of (t ∷ []) f)) e

-- the first is known, and so the second decides
pub heard_second : (h : Head) (s t : Ty) (f : Sub) (u : Turn) → head (on s f) ≡ Some h → IsHeard u (t ∷ []) f → IsHeard u (s ∷ t ∷ []) f
heard_second h s t f turn.Waits e i = ap (λ z. add_head z (heads_of (t ∷ []) f)) e ∙ ap (λ z. add_head (Some h) z) i
heard_second h s t f turn.Silent e i = (h ∷ i.0, ap (λ z. add_head z (heads_of (t ∷ []) f)) e ∙ ap (λ z. add_head (Some h) z) i.1)
heard_second h s t f turn.Adds e i = i

pub ruleset heads = (shown)

pub ruleset hears = (heads_one, heard_one, waits_first)
