-- Members of places and of bitdata.
use Rattle.std.proofs.Common.{◌≡◌, ◌≢◌, ℕ, ◌+◌, ◌<◌, ◌≤◌, List, [], ◌∷◌, Bool, true, false, Option, Some, None, All, Result, Ok, refl, sym, ap, ◌∙◌, arith}
use Rattle.std.proofs.Common.{zero, suc, get_or, length, map, subst, if◌then◌else◌, ne_eqb, ◌==◌}
use Rattle.std.specs.Prelude.{bytes_eq}
use Rattle.ddl_base.specs.declared.span.Span.{Span}
use Rattle.ddl_types.specs.declared.ty.Ty as program
use Rattle.ddl_types.specs.Types.{Ty, Ty.con, Tys.none, on, Head.bits, Head.place, Below, arguments, tys_of}
use Rattle.ddl_types.specs.TyView.{ty_view}
use Rattle.ddl_unify.specs.Equations.{EachBelow, equal}
use Rattle.ddl_unify.proofs.Equating.{below_more}
use Rattle.ddl_typed.specs.declared.specification.PlaceType.{PlaceType}
use Rattle.ddl_growing.specs.declared.refusal.SettleError.{SettleError}
use Rattle.ddl_judging.specs.declared.shapes.Shapes as shapes
use Rattle.ddl_judging.specs.declared.shapes.BitsShape.{BitsShape}
use Rattle.ddl_growing.specs.declared.turn.Turn.{Turn}
use Rattle.ddl_growing.specs.declared.turn.Turn.TheVariants as turn
use Rattle.ddl_growing.specs.Carrying.{Carries, for_member, given, listed, of_found}
use Rattle.ddl_judging.specs.Demands.{subjects}
use Rattle.ddl_growing.specs.Giving.{Given, gives, nothing, of_bits, of_place}
use Rattle.ddl_judging.specs.Shapes.{BitShape, Shape, Shapes, at, bits_at, found, fresh, member, place_at}
use Rattle.ddl_growing.specs.Turns.{AreShapes, HasAdded, IsShape, Solved}
use Rattle.ddl_judging.specs.Views.{bit_shape, place_shape, shapes_view}
use Rattle.ddl_growing.proofs.Added.{carried_then}
use Rattle.ddl_growing.proofs.Fresh.{as_it_is, at_listed, fresh_lower, lower_at, tys_listed}
use Rattle.ddl_growing.proofs.Sided.{stays}

pub member_subject : (b : Bool) (t : Ty) (x : List ℕ) (r : Ty) → subjects (for_member b t x r) ≡ t ∷ []
member_subject true t x r = refl
member_subject false t x r = refl

pub gives_place : (ss : Shapes) (b : Bool) (t : Ty) (x : List ℕ) (r : Ty) (p n : ℕ)
    → gives ss (for_member b t x r) (place p ∷ []) n ≡ of_place (place_at ss.places p) b p t x r n
gives_place ss true t x r p n = refl
gives_place ss false t x r p n = refl

pub gives_bits : (ss : Shapes) (b : Bool) (t : Ty) (x : List ℕ) (r : Ty) (m n : ℕ)
    → gives ss (for_member b t x r) (bits m ∷ []) n ≡ of_bits (found b x (bits_at ss.bitdata m).shape) r
gives_bits ss true t x r m n = refl
gives_bits ss false t x r m n = refl

pub carried_as : (g h : Given) (s : Span) (a b : Solved) (r : Result Turn SettleError) → g ≡ h → Carries h s a b r → Carries g s a b r
carried_as g h s a b r e i = subst (λ (z : Given). Carries z s a b r) (sym e) i

pub carried_nothing : (g : Given) (s : Span) (a : Solved) → g ≡ nothing → Carries g s a a (Ok turn.Silent)
carried_nothing g s a e = ((ap (λ (z : Given). z.equations) e, ap (λ (z : Given). z.vars) e), refl)

pub bits_as : (o p : Option Ty) (r : Ty) → o ≡ p → of_bits o r ≡ of_bits p r
bits_as o p r e = ap (λ z. of_bits z r) e

pub place_none : (s : Shape) (b : Bool) (p : ℕ) (t : Ty) (x : List ℕ) (r : Ty) (n : ℕ) → found b x s ≡ None → of_place s b p t x r n ≡ nothing
place_none s b p t x r n e = rw e refl

pub place_some : (s : Shape) (b : Bool) (p : ℕ) (t : Ty) (x : List ℕ) (r : Ty) (n : ℕ) (u : Ty) (v : ℕ) → found b x s ≡ Some u → v ≡ s.vars
    → of_place s b p t x r n ≡ of_found p v n u t r
place_some s b p t x r n u v e f = rw f (rw e refl)

-- what holds of each type of a list holds of a member's
by_test : (P : Ty → Type 0) (t : Ty) (o : Option Ty) (u : Ty) (b : Bool) → P t → (o ≡ Some u → P u) → (if b then Some t else o) ≡ Some u → P u
by_test P t o u true h k e = subst P (let q : t ≡ u = cc in q) h
by_test P t o u false h k e = k e

member_of : (P : Ty → Type 0) (x : List ℕ) (ns : List (List ℕ)) (ts : List Ty) (u : Ty) → All P ts → member x ns ts ≡ Some u → P u
member_of P x [] ts u a e = cc
member_of P x (n ∷ ns) [] u a e = cc
member_of P x (n ∷ ns) (t ∷ ts) u a e =
    by_test P t (member x ns ts) u (bytes_eq n x) (a 0 t (omega arith)) (member_of P x ns ts u (λ i d h. a (suc i) d (omega (arith, h)))) e

by_tag : (P : Ty → Type 0) (o : Option Ty) (u : Ty) (b : Bool) → (o ≡ Some u → P u) → (if b then None else o) ≡ Some u → P u
by_tag P o u true k e = cc
by_tag P o u false k e = k e

by_no_tag : (P : Ty → Type 0) (o : Option Ty) (u : Ty) (b : Bool) → (o ≡ Some u → P u) → (if b then o else None) ≡ Some u → P u
by_no_tag P o u true k e = k e
by_no_tag P o u false k e = cc

found_of : (P : Ty → Type 0) (b : Bool) (x : List ℕ) (s : Shape) (u : Ty) → All P s.types → found b x s ≡ Some u → P u
found_of P false x s u a e = by_tag P (member x s.names s.types) u s.tagged (member_of P x s.names s.types u a) e
found_of P true x s u a e = by_no_tag P (member x s.names s.types) u s.tagged (member_of P x s.names s.types u a) e

place_is_shape : (n : ℕ) (xs : List Shape) (p : ℕ) → All (IsShape n) xs → IsShape n (place_at xs p)
place_is_shape n [] p a = λ i d h. absurd (omega (arith, h))
place_is_shape n (x ∷ xs) zero a = a 0 x (omega arith)
place_is_shape n (x ∷ xs) (suc p) a = place_is_shape n xs p (λ i d h. a (suc i) d (omega (arith, h)))

bits_is_shape : (n : ℕ) (xs : List BitShape) (m : ℕ) → All (λ b. IsShape n b.shape) xs → IsShape n (bits_at xs m).shape
bits_is_shape n [] m a = λ i d h. absurd (omega (arith, h))
bits_is_shape n (x ∷ xs) zero a = a 0 x (omega arith)
bits_is_shape n (x ∷ xs) (suc m) a = bits_is_shape n xs m (λ i d h. a (suc i) d (omega (arith, h)))

no_vars : (xs : List BitsShape) (m : ℕ) → (bits_at (map bit_shape xs) m).shape.vars ≡ 0
no_vars [] m = refl
no_vars (x ∷ xs) zero = refl
no_vars (x ∷ xs) (suc m) = no_vars xs m

-- the variables of a member's type, where its place has none and where it has some
own_below : (u : Ty) (n v : ℕ) → v ≡ 0 → Below u (if v == 0 then n else v) → Below u n
own_below u n v e h = rw e at h

vars_below : (u : Ty) (n v : ℕ) → v ≢ 0 → Below u (if v == 0 then n else v) → Below u v
vars_below u n v e h = rw (ne_eqb v 0 e) at h

pub bits_below : (ss : shapes.Shapes) (n : ℕ) (b : Bool) (x : List ℕ) (m : ℕ) (u : Ty) → AreShapes n (shapes_view ss)
    → found b x (bits_at (shapes_view ss).bitdata m).shape ≡ Some u → Below u n
bits_below ss n b x m u a e =
    let s = (bits_at (shapes_view ss).bitdata m).shape in
    own_below u n s.vars (no_vars ss.bits.items m) (found_of (λ t. Below t (if s.vars == 0 then n else s.vars)) b x s u
    (bits_is_shape n (shapes_view ss).bitdata m a.1) e)

pub place_below : (ss : Shapes) (n : ℕ) (b : Bool) (x : List ℕ) (p : ℕ) (u : Ty) (v : ℕ) → AreShapes n ss → found b x (place_at ss.places p) ≡ Some u
    → v ≡ (place_at ss.places p).vars → v ≡ 0 → Below u n
place_below ss n b x p u v a e f z =
    let s = place_at ss.places p in
    own_below u n s.vars (sym f ∙ z) (found_of (λ t. Below t (if s.vars == 0 then n else s.vars)) b x s u (place_is_shape n ss.places p a.0) e)

pub place_vars_below : (ss : Shapes) (n : ℕ) (b : Bool) (x : List ℕ) (p : ℕ) (u : Ty) (v : ℕ) → AreShapes n ss → found b x (place_at ss.places p) ≡ Some u
    → v ≡ (place_at ss.places p).vars → v ≢ 0 → Below u v
place_vars_below ss n b x p u v a e f z =
    let s = place_at ss.places p in
    subst (Below u) (sym f) (vars_below u n s.vars (λ q. z (f ∙ q))
    (found_of (λ t. Below t (if s.vars == 0 then n else s.vars)) b x s u (place_is_shape n ss.places p a.0) e))

-- the equations of a member of a place without variables
pub own_carried : (p : ℕ) (xs : List program.Ty) (x u t r : Ty) (n : ℕ) (s : Span) (a b : Solved) (res : Result Turn SettleError)
    → x ≡ con (place p) (tys_of (map ty_view xs)) → xs ≡ [] → Carries (given (equal x t ∷ equal u r ∷ []) 0) s a b res
    → Carries (of_found p 0 n u t r) s a b res
own_carried p xs x u t r n s a b res e f i =
    let q : x ≡ con (place p) none = e ∙ ap (λ z. con (place p) (tys_of (map ty_view z))) f in
    let i1 = rw q at i in
    subst (λ z. Carries (given (equal (con (place p) none) t ∷ equal z r ∷ []) 0) s a b res) (sym (as_it_is u n)) i1

pub own_both_below : (p : ℕ) (xs : List program.Ty) (x u t r : Ty) (n : ℕ) → x ≡ con (place p) (tys_of (map ty_view xs)) → xs ≡ [] → Below u n → Below t n
    → Below r n → EachBelow (equal x t ∷ equal u r ∷ []) n
own_both_below p xs x u t r n e f bu bt br =
    let q : x ≡ con (place p) none = e ∙ ap (λ z. con (place p) (tys_of (map ty_view z))) f in
    rw q (tt, bt, (bu, br, tt))

-- those of one at new variables
pub fresh_carried : (p k : ℕ) (xs ys : List program.Ty) (x w u t r : Ty) (s : Span) (a b c : Solved) (res : Result Turn SettleError)
    → x ≡ con (place p) (tys_of (map ty_view xs)) → w ≡ on u (arguments (map ty_view ys)) → ys ≡ xs → map ty_view xs ≡ listed k a.variables → Below u k → k ≢ 0
    → HasAdded [] k a b → Carries (given (equal x t ∷ equal w r ∷ []) 0) s b c res → Carries (of_found p k a.variables u t r) s a c res
fresh_carried p k xs ys x w u t r s a b c res e f g q l h had i =
    let n = a.variables in
    let x1 : x ≡ con (place p) (fresh k n) = e ∙ ap (con (place p)) (tys_listed xs k n q) in
    let w1 : w ≡ on u (at k n) = f ∙ ap (λ z. on u (arguments (map ty_view z))) g ∙ ap (λ z. on u (arguments z)) q ∙ at_listed u k n l h in
    let i1 = rw x1 at i in let i2 = rw w1 at i1 in
    carried_then (equal (con (place p) (fresh k n)) t) [] (equal (on u (at k n)) r ∷ []) k 0 k s a b c res (omega arith) had i2

pub fresh_both_below : (p k : ℕ) (xs ys : List program.Ty) (x w u t r : Ty) (a b : Solved) → x ≡ con (place p) (tys_of (map ty_view xs))
    → w ≡ on u (arguments (map ty_view ys)) → ys ≡ xs → map ty_view xs ≡ listed k a.variables → Below u k → k ≢ 0 → HasAdded [] k a b → Below t a.variables
    → Below r a.variables → EachBelow (equal x t ∷ equal w r ∷ []) b.variables
fresh_both_below p k xs ys x w u t r a b e f g q l h had bt br =
    let n = a.variables in
    let x1 : x ≡ con (place p) (fresh k n) = e ∙ ap (con (place p)) (tys_listed xs k n q) in
    let w1 : w ≡ on u (at k n) = f ∙ ap (λ z. on u (arguments (map ty_view z))) g ∙ ap (λ z. on u (arguments z)) q ∙ at_listed u k n l h in
    rw x1 (rw w1 (
      fresh_lower k n b.variables (omega (arith, had.variables)),
      stays t k [] a b had bt,
      (below_more (on u (at k n)) (n + k) b.variables (omega (arith, had.variables)) (lower_at u k n l h), stays r k [] a b had br, tt),
    ))
