-- Turns of demands with one subject or with two.
use Rattle.std.proofs.Common.{◌≡◌, ℕ, List, [], ◌∷◌, Option, Some, None, Result, Ok, Err, refl, sym, ap, ◌∙◌}
use Rattle.ddl_types.specs.Types.{Ty, on, Head}
use Rattle.ddl_growing.specs.declared.refusal.SettleError.{SettleError}
use Rattle.ddl_growing.specs.declared.refusal.SettleError.TheVariants as e
use Rattle.ddl_growing.specs.declared.turn.Turn.{Turn}
use Rattle.ddl_growing.specs.declared.turn.Turn.TheVariants as turn
use Rattle.ddl_growing.specs.Carrying.{Carries, IsCarried, IsHeard, IsTaken}
use Rattle.ddl_judging.specs.Demands.{Asked, subjects}
use Rattle.ddl_growing.specs.Giving.{Given, gives, nothing}
use Rattle.ddl_growing.specs.Heads.{head, heads_of}
use Rattle.ddl_judging.specs.Shapes.{Shapes}
use Rattle.ddl_growing.specs.Turns.{AreStopped, IsNoTurn, IsTurn, Solved}
use Rattle.ddl_growing.proofs.Knowing.{AtHead, heads_one, heads_two}

-- at known heads a demand's turn is what is carried of what it gives
pub at_heads : (ss : Shapes) (a : Asked) (hs : List Head) (old new : Solved) (u : Turn) → heads_of (subjects a.what) old.solution ≡ Some hs
    → IsCarried (gives ss a.what hs old.variables) old new u → IsTurn ss a old new u
at_heads ss a hs old new turn.Waits k i = absurd i
at_heads ss a hs old new turn.Silent k i = (record { heads = hs; known = k; so = i.0 }, i.1)
at_heads ss a hs old new turn.Adds k i = record { heads = hs; known = k; so = i }

stopped_at : (ss : Shapes) (a : Asked) (hs : List Head) (old new : Solved) (err : SettleError) → heads_of (subjects a.what) old.solution ≡ Some hs
    → AreStopped (gives ss a.what hs old.variables).equations a.span old new err → IsNoTurn ss a old new err
stopped_at ss a hs old new e.NoMemory k i = tt
stopped_at ss a hs old new (e.Clash x l r) k i = record { heads = hs; known = k; so = i }
stopped_at ss a hs old new (e.Endless x v t) k i = record { heads = hs; known = k; so = i }
stopped_at ss a hs old new (e.Wrong x why) k i = record { heads = hs; known = k; so = i }
stopped_at ss a hs old new (e.Unresolved x) k i = record { heads = hs; known = k; so = i }

pub taken_at : (ss : Shapes) (a : Asked) (hs : List Head) (old new : Solved) (r : Result Turn SettleError) → heads_of (subjects a.what) old.solution ≡ Some hs
    → Carries (gives ss a.what hs old.variables) a.span old new r → IsTaken ss a old new r
taken_at ss a hs old new (Ok u) k i = at_heads ss a hs old new u k i
taken_at ss a hs old new (Err x) k i = stopped_at ss a hs old new x k i

-- the same for one subject, and for two
pub taken_one : (ss : Shapes) (a : Asked) (t : Ty) (h : Head) (old new : Solved) (r : Result Turn SettleError) → subjects a.what ≡ t ∷ []
    → head (on t old.solution) ≡ Some h → Carries (gives ss a.what (h ∷ []) old.variables) a.span old new r → IsTaken ss a old new r
taken_one ss a t h old new r q k i = taken_at ss a (h ∷ []) old new r (ap (λ ts. heads_of ts old.solution) q ∙ heads_one t old.solution (Some h) k) i

pub taken_two : (ss : Shapes) (a : Asked) (s t : Ty) (h g : Head) (old new : Solved) (r : Result Turn SettleError) → subjects a.what ≡ s ∷ t ∷ []
    → head (on s old.solution) ≡ Some h → head (on t old.solution) ≡ Some g → Carries (gives ss a.what (h ∷ g ∷ []) old.variables) a.span old new r
    → IsTaken ss a old new r
taken_two ss a s t h g old new r q k l i = taken_at ss a (h ∷ g ∷ []) old new r (ap (λ ts. heads_of ts old.solution) q
    ∙ heads_two s t old.solution (Some h) (Some g) k l) i

-- a head is not known
pub waits_one : (ss : Shapes) (a : Asked) (t : Ty) (z : Solved) → subjects a.what ≡ t ∷ [] → head (on t z.solution) ≡ None → IsTurn ss a z z turn.Waits
waits_one ss a t z q k = (ap (λ ts. heads_of ts z.solution) q ∙ heads_one t z.solution None k, refl)

-- nothing is given at a head
pub silent_one : (ss : Shapes) (a : Asked) (t : Ty) (z : Solved) → subjects a.what ≡ t ∷ []
    → AtHead (head (on t z.solution)) (λ h. gives ss a.what (h ∷ []) z.variables ≡ nothing) → IsTurn ss a z z turn.Silent
silent_one ss a t z q x = at_heads ss a (x.0 ∷ []) z z turn.Silent (ap (λ ts. heads_of ts z.solution) q
    ∙ heads_one t z.solution (Some x.0) x.1) ((ap (λ g. g.equations) x.2, ap (λ g. g.vars) x.2), refl)

-- nothing is given at any heads
pub heard : (ss : Shapes) (a : Asked) (z : Solved) (u : Turn) → ((hs : List Head) → gives ss a.what hs z.variables ≡ nothing)
    → IsHeard u (subjects a.what) z.solution → IsTurn ss a z z u
heard ss a z turn.Waits q i = (i, refl)
heard ss a z turn.Silent q i = at_heads ss a i.0 z z turn.Silent i.1 ((ap (λ g. g.equations) (q i.0), ap (λ g. g.vars) (q i.0)), refl)
heard ss a z turn.Adds q i = absurd i
