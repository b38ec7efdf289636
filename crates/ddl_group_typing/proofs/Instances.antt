-- What is well typed is so with its variables replaced.
use Rattle.std.proofs.Common.{◌≡◌, inl, inr, ℕ, zero, suc, List, [], ◌∷◌, length, Bool, true, false, Option, Some, None, refl, sym, ap, ◌∙◌}
use Rattle.std.proofs.Common.{subst, arith}
use Rattle.std.specs.Prelude.{Contains}
use Rattle.ddl_types.specs.Types.{Ty, Ty.var, Ty.con, Tys, Tys.none, Tys.more, Sub, on, on_all, arguments, Below, BelowAll, Head.uint}
use Rattle.ddl_types.specs.Types.{Head.array_of, Head.map_of, Head.bits, Head.place}
use Rattle.ddl_types.specs.Conditions.{Condition, num, word, lit, key, lossless, cut, fit, cat, field, tag, loops, on_condition}
use Rattle.ddl_judging.specs.Demands.{Demand, condition, make, gather, on_demand}
use Rattle.ddl_judging.specs.Judging.{Judged, holds, comparable, joined, has_field, has_tag, makes, looped}
use Rattle.ddl_judging.specs.Shapes.{Shape, Shapes, place_at, bits_at, found}
use Rattle.ddl_schemes.specs.Order.{parts}
use Rattle.ddl_rules.specs.Asks.{Ask, equates, demands}
use Rattle.ddl_typing.specs.Closed.{EachIsBelow}
use Rattle.ddl_typing.specs.Groups.{AreMet, bodies_on, group_on}
use Rattle.ddl_typing.specs.Replaced.{all_known_on, asks_on, state_on, trees_on, types_on}
use Rattle.ddl_principal.proofs.OnNames.{instance_on}
use Rattle.ddl_principal.proofs.Principal.{group_instance}
use Rattle.ddl_group_typing.specs.Laws.{InstancesAreWellTyped, OwnInstancesAreWellTyped}
use Rattle.ddl_group_typing.specs.OwnShapes.{EachCloses, ShapeClosesBy, ShapesClose, list_on, shape_by, shapes_on}
use Rattle.ddl_group_typing.specs.WellTyped.{AreClosed, AreClosedShapes, AreGranted, AreWellTyped, IsOfBytes, IsAsWide, IsMember, IsBitMember, IsMemberOf}
use Rattle.ddl_group_typing.specs.WellTyped.{AreTurns, IsGathered, IsGiven, IsGranted}
use Rattle.ddl_group_typing.proofs.OwnShapes.{ClosesMember, MemberBelow, bits_closed, found_below, found_by, judged_at, member_closes, option_by, place_at_on}
use Rattle.ddl_group_typing.proofs.OwnShapes.{place_closes, vars_by}
use Rattle.ddl_group_typing.proofs.Staying.{no_decision, no_verdict}

-- ---- closed types

mutual
  pub closed_on : (u : Ty) (f : Sub) → Below u 0 → on u f ≡ u
  closed_on (var v) f b = absurd (omega (arith, b))
  closed_on (con c us) f b = ap (con c) (all_closed_on us f b)

  all_closed_on : (us : Tys) (f : Sub) → BelowAll us 0 → on_all us f ≡ us
  all_closed_on none f b = refl
  all_closed_on (more u us) f b = ap (λ x. more x (on_all us f)) (closed_on u f b.0) ∙ ap (more u) (all_closed_on us f b.1)

types_closed_on : (ts : List Ty) (f : Sub) → EachIsBelow ts 0 → types_on ts f ≡ ts
types_closed_on [] f b = refl
types_closed_on (u ∷ ts) f b = ap (λ x. x ∷ types_on ts f) (closed_on u f b.0) ∙ ap (λ x. u ∷ x) (types_closed_on ts f b.1)

-- ---- members

parts_on : (us : Tys) (f : Sub) → parts (on_all us f) ≡ types_on (parts us) f
parts_on none f = refl
parts_on (more u us) f = ap (λ x. on u f ∷ x) (parts_on us f)

count_on : (us : Tys) (f : Sub) → length (parts (on_all us f)) ≡ length (parts us)
count_on none f = refl
count_on (more u us) f = ap suc (count_on us f)

member_on : (n : ℕ) (o : Option Ty) (us : Tys) (r : Ty) (f : Sub) → ClosesMember n o → IsMember o n us r
    → IsMember (option_by n o f) n (on_all us f) (on r f)
member_on zero None us r f b m = tt
member_on (suc k) None us r f b m = tt
member_on zero (Some u) us r f b m = (count_on us f ∙ m.0, ap (λ x. on x f) m.1)
member_on (suc k) (Some u) us r f b m = (
  count_on us f ∙ m.0,
  ap (λ x. on x f) m.1 ∙ instance_on u (parts us) f (suc k) b (omega (arith, m.0)) ∙ ap (λ x. on u (arguments x)) (sym (parts_on us f)),
)

shape_member : (n : ℕ) (tagged : Bool) (x : List ℕ) (s : Shape) (us : Tys) (r : Ty) (f : Sub) → s.vars ≡ n → ClosesMember n (found tagged x s)
    → IsMember (found tagged x s) n us r → IsMember (found tagged x (shape_by n s f)) (shape_by n s f).vars (on_all us f) (on r f)
shape_member n tagged x s us r f e b m =
    let P : Option Ty → Type 0 = λ o. IsMember o n (on_all us f) (on r f) in
    let Q : ℕ → Type 0 = λ k. IsMember (found tagged x (shape_by n s f)) k (on_all us f) (on r f) in
    subst Q (sym (vars_by n s f ∙ e)) (subst P (sym (found_by n tagged x s f)) (member_on n (found tagged x s) us r f b m))

bit_member_on : (o : Option Ty) (r : Ty) (f : Sub) → MemberBelow o 0 → IsBitMember o r → IsBitMember o (on r f)
bit_member_on None r f b m = tt
bit_member_on (Some u) r f b m = ap (λ x. on x f) m ∙ closed_on u f b

module _ (ss : Shapes) (closes : ShapesClose ss) (f : Sub) where
  at_place_on : (tagged : Bool) (p : ℕ) (us : Tys) (x : List ℕ) (r : Ty) → IsMemberOf ss tagged (con (place p) us) x r
      → IsMemberOf (shapes_on ss f) tagged (con (place p) (on_all us f)) x (on r f)
  at_place_on tagged p us x r m =
      let s = place_at ss.places p in
      let P : Shape → Type 0 = λ w. IsMember (found tagged x w) w.vars (on_all us f) (on r f) in
      subst P (sym (place_at_on ss.places p f))
      (shape_member s.vars tagged x s us r f refl (member_closes s.vars tagged x s (place_closes ss.places p closes.places)) m)

  at_bits_on : (tagged : Bool) (b : ℕ) (us : Tys) (x : List ℕ) (r : Ty) → IsMemberOf ss tagged (con (bits b) us) x r
      → IsMemberOf (shapes_on ss f) tagged (con (bits b) (on_all us f)) x (on r f)
  at_bits_on tagged b us x r m =
      let s = (bits_at ss.bitdata b).shape in
      bit_member_on (found tagged x s) r f (found_below tagged x s 0 (bits_closed ss.bitdata b closes.bitdata)) m

  field_on : (u : Ty) (x : List ℕ) (r : Ty) → holds ≡ has_field ss x u → IsMemberOf ss false u x r → IsMemberOf (shapes_on ss f) false (on u f) x (on r f)
  field_on (var v) x r j m = no_decision j
  field_on (con (place p) us) x r j m = at_place_on false p us x r m
  field_on (con (bits b) us) x r j m = at_bits_on false b us x r m
  field_on (con h us) x r j m = no_verdict j

  tag_on : (u : Ty) (x : List ℕ) (r : Ty) → holds ≡ has_tag ss x u → IsMemberOf ss true u x r → IsMemberOf (shapes_on ss f) true (on u f) x (on r f)
  tag_on (var v) x r j m = no_decision j
  tag_on (con (place p) us) x r j m = at_place_on true p us x r m
  tag_on (con (bits b) us) x r j m = at_bits_on true b us x r m
  tag_on (con h us) x r j m = no_verdict j

  make_on : (u : Ty) (x : List ℕ) (r : Ty) → holds ≡ makes ss x u → IsMemberOf ss true u x r → IsMemberOf (shapes_on ss f) true (on u f) x (on r f)
  make_on (var v) x r j m = no_decision j
  make_on (con (place p) us) x r j m = at_place_on true p us x r m
  make_on (con h us) x r j m = no_verdict j

-- ---- other demands

bytes_on : (u : Ty) (f : Sub) → holds ≡ comparable u → IsOfBytes u → IsOfBytes (on u f)
bytes_on (var v) f j m = no_decision j
bytes_on (con array_of none) f j m = tt
bytes_on (con array_of (more u none)) f j m = ap (λ x. on x f) m
bytes_on (con array_of (more u (more v us))) f j m = tt
bytes_on (con h us) f j m = tt

wide_on : (a b r : Ty) (f : Sub) → holds ≡ joined a b → IsAsWide a b r → IsAsWide (on a f) (on b f) (on r f)
wide_on (con (uint m) us) (con (uint n) vs) r f j e = ap (λ x. on x f) e
wide_on (con (uint m) us) (con h vs) r f j e = no_verdict j
wide_on (con (uint m) us) (var v) r f j e = no_decision j
wide_on (con h us) (con k vs) r f j e = no_verdict j
wide_on (con h us) (var v) r f j e = no_decision j
wide_on (var v) b r f j e = no_decision j

turns_on : (u k v : Ty) (f : Sub) → holds ≡ looped u → AreTurns u k v → AreTurns (on u f) (on k f) (on v f)
turns_on (var x) k v f j m = no_decision j
turns_on (con array_of none) k v f j m = tt
turns_on (con array_of (more u none)) k v f j m = (ap (λ x. on x f) m.0, ap (λ x. on x f) m.1)
turns_on (con array_of (more u (more s us))) k v f j m = tt
turns_on (con map_of none) k v f j m = tt
turns_on (con map_of (more s none)) k v f j m = tt
turns_on (con map_of (more s (more u none))) k v f j m = (ap (λ x. on x f) m.0, ap (λ x. on x f) m.1)
turns_on (con map_of (more s (more u (more q us)))) k v f j m = tt
turns_on (con h us) k v f j m = no_verdict j

gathered_on : (u b r : Ty) (f : Sub) → holds ≡ looped u → IsGathered u b r → IsGathered (on u f) (on b f) (on r f)
gathered_on (var x) b r f j m = no_decision j
gathered_on (con array_of none) b r f j m = tt
gathered_on (con array_of (more u none)) b r f j m = ap (λ x. on x f) m
gathered_on (con array_of (more u (more s us))) b r f j m = tt
gathered_on (con map_of none) b r f j m = tt
gathered_on (con map_of (more s none)) b r f j m = tt
gathered_on (con map_of (more s (more u none))) b r f j m = ap (λ x. on x f) m
gathered_on (con map_of (more s (more u (more q us)))) b r f j m = tt
gathered_on (con h us) b r f j m = no_verdict j

-- ---- what is granted

met_on : (as_ : List Ask) (f : Sub) → AreMet as_ → AreMet (asks_on as_ f)
met_on [] f m = tt
met_on (equates q s ∷ as_) f m = (ap (λ x. on x f) m.0, met_on as_ f m.1)
met_on (demands d s ∷ as_) f m = met_on as_ f m

module _ (ss : Shapes) (closes : ShapesClose ss) (f : Sub) where
  given_on : (d : Demand) → Judged ss d holds → IsGiven ss d → IsGiven (shapes_on ss f) (on_demand f d)
  given_on (condition (num u)) j m = tt
  given_on (condition (word u)) j m = tt
  given_on (condition (lit n u)) j m = tt
  given_on (condition (key u)) j m = bytes_on u f j m
  given_on (condition (lossless s u)) j m = tt
  given_on (condition (cut s u)) j m = tt
  given_on (condition (fit s u)) j m = tt
  given_on (condition (cat a b r)) j m = wide_on a b r f j m
  given_on (condition (field u x r)) j m = field_on ss closes f u x r j m
  given_on (condition (tag u x r)) j m = tag_on ss closes f u x r j m
  given_on (condition (loops u k v)) j m = turns_on u k v f j m
  given_on (make u x r) j m = make_on ss closes f u x r j m
  given_on (gather u k v b r) j m = (turns_on u k v f j m.0, gathered_on u b r f j m.1)

  granted_one : (assumed granted : List Condition)
      → ((c : Condition) → Contains assumed c → IsGranted (shapes_on ss f) granted (condition (on_condition f c)))
      → (d : Demand) → IsGranted ss assumed d → IsGranted (shapes_on ss f) granted (on_demand f d)
  granted_one assumed granted h d (inl m) = inl (judged_at ss f d m.0, given_on d m.0 m.1)
  granted_one assumed granted h d (inr m) =
      let P : Demand → Type 0 = λ x. IsGranted (shapes_on ss f) granted (on_demand f x) in subst P (sym m.2) (h m.0 m.1)

  granted_on : (assumed granted : List Condition)
      → ((c : Condition) → Contains assumed c → IsGranted (shapes_on ss f) granted (condition (on_condition f c)))
      → (as_ : List Ask) → AreGranted ss assumed as_ → AreGranted (shapes_on ss f) granted (asks_on as_ f)
  granted_on assumed granted h [] g = tt
  granted_on assumed granted h (equates q s ∷ as_) g = granted_on assumed granted h as_ g
  granted_on assumed granted h (demands d s ∷ as_) g = (granted_one assumed granted h d g.0, granted_on assumed granted h as_ g.1)

pub own_instances : OwnInstancesAreWellTyped
own_instances ss assumed granted known bs z trees f closes knowns h it = record {
  typing = group_on it.typing f;
  typed = group_instance bs known z it.typing f knowns it.typed;
  same = ap (λ es. trees_on es f) it.same;
  met = met_on it.typing.asks f it.met;
  granted = granted_on ss closes f assumed granted h it.typing.asks it.granted;
}

-- ---- where the types of all shapes are over their own variables

shape_closes : (n : ℕ) (s : Shape) → s.vars ≡ n → EachIsBelow s.types s.vars → ShapeClosesBy n s
shape_closes zero s e b = tt
shape_closes (suc k) s e b = let P : ℕ → Type 0 = λ n. EachIsBelow s.types n in subst P e b

each_closes : (ps : List Shape) → AreClosed ps → EachCloses ps
each_closes [] c = tt
each_closes (s ∷ ps) c = (shape_closes s.vars s refl c.0, each_closes ps c.1)

shape_stays : (n : ℕ) (s : Shape) (f : Sub) → s.vars ≡ n → EachIsBelow s.types s.vars → shape_by n s f ≡ s
shape_stays zero s f e b =
    let P : ℕ → Type 0 = λ n. EachIsBelow s.types n in
    ap (λ ts. let w : Shape = record s { types = ts } in w) (types_closed_on s.types f (subst P e b))
shape_stays (suc k) s f e b = refl

list_stays : (ps : List Shape) (f : Sub) → AreClosed ps → list_on ps f ≡ ps
list_stays [] f c = refl
list_stays (s ∷ ps) f c = ap (λ w. w ∷ list_on ps f) (shape_stays s.vars s f refl c.0) ∙ ap (λ ws. s ∷ ws) (list_stays ps f c.1)

shapes_stay : (ss : Shapes) (f : Sub) → AreClosedShapes ss → shapes_on ss f ≡ ss
shapes_stay ss f c = ap (λ ps. let w : Shapes = record ss { places = ps } in w) (list_stays ss.places f c.places)

pub instances : InstancesAreWellTyped
instances ss assumed granted known bs z trees f closed knowns h it =
    let e = shapes_stay ss f closed in
    let closes : ShapesClose ss = record { places = each_closes ss.places closed.places; bitdata = closed.bitdata } in
    let P : Shapes → Type 0 = λ w. AreWellTyped w granted (all_known_on known f) (bodies_on bs f) (state_on z f) (trees_on trees f) in
    let Q : Shapes → Type 0 = λ w. (c : Condition) → Contains assumed c → IsGranted w granted (condition (on_condition f c)) in
    subst P e (own_instances ss assumed granted known bs z trees f closes knowns (subst Q (sym e) h) it)
