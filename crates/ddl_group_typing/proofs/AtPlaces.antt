-- What a demand for a member says of its types, where a map solves what it gives at a record, a union or a bitdata.
use Rattle.std.proofs.Common.{◌≡◌, ◌≢◌, ◌<◌, ℕ, zero, suc, ◌+◌, List, length, get_or, Bool, Option, Some, None}
use Rattle.std.proofs.Common.{refl, sym, ap, ◌∙◌, subst, arith, ne_eqb}
use Rattle.ddl_types.specs.Types.{Ty, Ty.var, Ty.con, Tys, Tys.none, Tys.more, Sub, on, on_all, arguments, Below, BelowAll, Head.bits, Head.place}
use Rattle.ddl_unify.specs.Equations.{Solves}
use Rattle.ddl_unify.proofs.Sub.{on_on}
use Rattle.ddl_judging.specs.Shapes.{Shape, Shapes, at, bits_at, found, fresh, place_at}
use Rattle.ddl_growing.specs.Carrying.{of_found}
use Rattle.ddl_growing.specs.Giving.{of_bits, of_place}
use Rattle.ddl_growing.proofs.Places.{place_some}
use Rattle.ddl_growing.proofs.Fresh.{as_it_is}
use Rattle.ddl_schemes.specs.Order.{parts}
use Rattle.ddl_group_typing.specs.OwnShapes.{ShapesClose, shape_by, shapes_on}
use Rattle.ddl_group_typing.specs.WellTyped.{IsMember, IsBitMember, IsMemberOf}
use Rattle.ddl_group_typing.proofs.AtHeads.{same_parts}
use Rattle.ddl_group_typing.proofs.Instances.{closed_on}
use Rattle.ddl_group_typing.proofs.OwnShapes.{ClosesMember, MemberBelow, bits_closed, found_below, found_by, member_closes, option_by, place_at_on}
use Rattle.ddl_group_typing.proofs.OwnShapes.{place_closes, vars_by}

-- ---- types at new variables

-- maps that agree below a number give the same for types below it
mutual
  agreed : (t : Ty) (k : ℕ) (f g : Sub) → Below t k → ((i : ℕ) → i < k → f i ≡ g i) → on t f ≡ on t g
  agreed (var v) k f g b h = h v b
  agreed (con c ts) k f g b h = ap (con c) (all_agreed ts k f g b h)

  all_agreed : (ts : Tys) (k : ℕ) (f g : Sub) → BelowAll ts k → ((i : ℕ) → i < k → f i ≡ g i) → on_all ts f ≡ on_all ts g
  all_agreed none k f g b h = refl
  all_agreed (more t ts) k f g b h = let x = agreed t k f g b.0 h in let y = all_agreed ts k f g b.1 h in cc

fresh_length : (k n : ℕ) (g : Sub) → length (parts (on_all (fresh k n) g)) ≡ k
fresh_length zero n g = refl
fresh_length (suc k) n g = ap suc (fresh_length k (suc n) g)

fresh_get : (k n i : ℕ) (g : Sub) (d : Ty) → i < k → get_or (parts (on_all (fresh k n) g)) i d ≡ g (n + i)
fresh_get zero n i g d h = absurd (omega (arith, h))
fresh_get (suc k) n zero g d h = ap g (let q : n ≡ n + 0 = omega arith in q)
fresh_get (suc k) n (suc i) g d h = fresh_get k (suc n) i g d (omega (arith, h)) ∙ ap g (let q : suc n + i ≡ n + suc i = omega arith in q)

at_some : (k n i : ℕ) → k ≢ 0 → at k n i ≡ var (n + i)
at_some k n i h = rw (ne_eqb k 0 h) refl

-- a member's type at new variables, under a map, is that at what the map gives for these
at_new : (u : Ty) (k n : ℕ) (g : Sub) → Below u k → k ≢ 0 → on (on u (at k n)) g ≡ on u (arguments (parts (on_all (fresh k n) g)))
at_new u k n g b h = on_on u (at k n) g
    ∙ agreed u k (λ v. on (at k n v) g) (arguments (parts (on_all (fresh k n) g))) b
    (λ i l. ap (λ x. on x g) (at_some k n i h) ∙ sym (fresh_get k n i g (var i) l))

-- ---- members

module _ (g : Sub) where
  -- a member of a place at these types
  member_given : (k : ℕ) (o : Option Ty) (us : Tys) (n : ℕ) (r : Ty) → ClosesMember k o → on_all (fresh k n) g ≡ us
      → ((u : Ty) → o ≡ Some u → on (on u (at k n)) g ≡ on r g) → IsMember (option_by k o g) k us (on r g)
  member_given zero None us n r c e s = tt
  member_given (suc k) None us n r c e s = tt
  member_given zero (Some u) us n r c e s =
      (ap (λ x. length (parts x)) (sym e), sym (s u refl) ∙ ap (λ x. on x g) (as_it_is u n))
  member_given (suc k) (Some u) us n r c e s = (
    ap (λ x. length (parts x)) (sym e) ∙ fresh_length (suc k) n g,
    sym (s u refl) ∙ at_new u (suc k) n g c (λ z. let q : suc k ≡ 0 = z in absurd (omega (arith, q))) ∙ ap (λ x. on u (arguments (parts x))) e,
  )

  shape_given : (k : ℕ) (s : Shape) (tagged : Bool) (x : List ℕ) (us : Tys) (n : ℕ) (r : Ty) → s.vars ≡ k → ClosesMember k (found tagged x s)
      → ((u : Ty) → found tagged x s ≡ Some u → on_all (fresh k n) g ≡ us) → ((u : Ty) → found tagged x s ≡ Some u → on (on u (at k n)) g ≡ on r g)
      → IsMember (found tagged x (shape_by k s g)) (shape_by k s g).vars us (on r g)
  shape_given k s tagged x us n r e c a b =
      let P : Option Ty → Type 0 = λ o. IsMember o k us (on r g) in
      let Q : ℕ → Type 0 = λ i. IsMember (found tagged x (shape_by k s g)) i us (on r g) in
      subst Q (sym (vars_by k s g ∙ e)) (subst P (sym (found_by k tagged x s g)) (by_option (found tagged x s) refl))
    where
      none_found : (k : ℕ) → IsMember (option_by k None g) k us (on r g)
      none_found zero = tt
      none_found (suc i) = tt

      by_option : (o : Option Ty) → found tagged x s ≡ o → IsMember (option_by k o g) k us (on r g)
      by_option None q = none_found k
      by_option (Some u) q =
          let C : Option Ty → Type 0 = λ o. ClosesMember k o in
          member_given k (Some u) us n r (subst C q c) (a u q) (λ w z. by_same w z)
        where
          by_same : (w : Ty) → Some u ≡ Some w → on (on w (at k n)) g ≡ on r g
          by_same w z = b w (q ∙ z)

  bit_given : (o : Option Ty) (r : Ty) → MemberBelow o 0 → Solves g (of_bits o r).equations → IsBitMember o (on r g)
  bit_given None r b s = tt
  bit_given (Some u) r b s = sym s.0 ∙ closed_on u g b

  module _ (ss : Shapes) (closes : ShapesClose ss) where
    pub place_given : (tagged : Bool) (p : ℕ) (us : Tys) (t : Ty) (x : List ℕ) (r : Ty) (n : ℕ) → on t g ≡ con (place p) us
        → Solves g (of_place (place_at ss.places p) tagged p t x r n).equations → IsMemberOf (shapes_on ss g) tagged (con (place p) us) x (on r g)
    place_given tagged p us t x r n q sol =
        let s = place_at ss.places p in
        let P : Shape → Type 0 = λ w. IsMember (found tagged x w) w.vars us (on r g) in
        subst P (sym (place_at_on ss.places p g))
        (shape_given s.vars s tagged x us n r refl (member_closes s.vars tagged x s (place_closes ss.places p closes.places))
        (λ u e. same_parts (place p) (place p) (on_all (fresh s.vars n) g) us ((solved u e).0 ∙ q)) (λ u e. (solved u e).1.0))
      where
        solved : (u : Ty) → found tagged x (place_at ss.places p) ≡ Some u
            → Solves g (of_found p (place_at ss.places p).vars n u t r).equations
        solved u e =
            let s = place_at ss.places p in
            let P : Rattle.ddl_growing.specs.Giving.Given → Type 0 = λ y. Solves g y.equations in
            subst P (place_some s tagged p t x r n u s.vars e refl) sol

    pub bits_given : (tagged : Bool) (b : ℕ) (us : Tys) (x : List ℕ) (r : Ty) → Solves g (of_bits (found tagged x (bits_at ss.bitdata b).shape) r).equations
        → IsMemberOf (shapes_on ss g) tagged (con (bits b) us) x (on r g)
    bits_given tagged b us x r sol =
        let s = (bits_at ss.bitdata b).shape in
        bit_given (found tagged x s) r (found_below tagged x s 0 (bits_closed ss.bitdata b closes.bitdata)) sol
