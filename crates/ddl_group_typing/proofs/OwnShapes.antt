-- Records and unions of a group with its variables replaced: which members they have, and that what holds of them still does.
use Rattle.std.proofs.Common.{◌≡◌, ℕ, zero, suc, List, [], ◌∷◌, Bool, true, false, Option, Some, None, bytes_eq, if◌then◌else◌, refl, sym, ap, ◌∙◌, subst}
use Rattle.ddl_types.specs.Types.{Ty, Ty.var, Ty.con, Sub, on, Below, Head, Head.int, Head.uint, Head.sint, Head.bits, Head.place}
use Rattle.ddl_types.specs.Conditions.{num, word, lit, key, lossless, cut, fit, cat, field, tag, loops}
use Rattle.ddl_judging.specs.Demands.{Demand, condition, make, gather, on_demand}
use Rattle.ddl_judging.specs.Judging.{Casting, casting, can_fit, IsCast, IsLossless, Judged, holds, if_true, if_member, not_lossless, fitting, has_field}
use Rattle.ddl_judging.specs.Judging.{has_tag, makes}
use Rattle.ddl_judging.specs.Shapes.{BitShape, Shape, Shapes, place_at, bits_at, found, member}
use Rattle.ddl_typing.specs.Closed.{EachIsBelow}
use Rattle.ddl_typing.specs.Replaced.{option_on, types_on}
use Rattle.ddl_group_typing.specs.OwnShapes.{EachCloses, ShapeClosesBy, list_on, shape_by, shape_on, shapes_on}
use Rattle.ddl_group_typing.specs.WellTyped.{AreClosedBits}
use Rattle.ddl_group_typing.proofs.Staying.{judged_stays, no_decision, no_verdict}

-- ---- members

-- the type of a member, where its shape has so many variables of its own
abbrev pub option_by : ℕ → Option Ty → Sub → Option Ty
option_by zero o f = option_on o f
option_by (suc k) o f = o

member_types_on : (x : List ℕ) (ns : List (List ℕ)) (ts : List Ty) (f : Sub) → member x ns (types_on ts f) ≡ option_on (member x ns ts) f
member_types_on x [] ts f = refl
member_types_on x (y ∷ ns) [] f = refl
member_types_on x (y ∷ ns) (u ∷ ts) f = by_test (bytes_eq y x) (member_types_on x ns ts f)
  where
    by_test : (c : Bool) → member x ns (types_on ts f) ≡ option_on (member x ns ts) f
        → (if c then Some (on u f) else member x ns (types_on ts f)) ≡ option_on (if c then Some u else member x ns ts) f
    by_test true e = refl
    by_test false e = e

pub found_by : (n : ℕ) (tagged : Bool) (x : List ℕ) (s : Shape) (f : Sub) → found tagged x (shape_by n s f) ≡ option_by n (found tagged x s) f
found_by (suc k) tagged x s f = refl
found_by zero false x s f = by_test s.tagged
  where
    by_test : (c : Bool) → (if c then None else member x s.names (types_on s.types f)) ≡ option_on (if c then None else member x s.names s.types) f
    by_test true = refl
    by_test false = member_types_on x s.names s.types f
found_by zero true x s f = by_test s.tagged
  where
    by_test : (c : Bool) → (if c then member x s.names (types_on s.types f) else None) ≡ option_on (if c then member x s.names s.types else None) f
    by_test true = member_types_on x s.names s.types f
    by_test false = refl

pub vars_by : (n : ℕ) (s : Shape) (f : Sub) → (shape_by n s f).vars ≡ s.vars
vars_by zero s f = refl
vars_by (suc k) s f = refl

pub place_at_on : (ps : List Shape) (p : ℕ) (f : Sub) → place_at (list_on ps f) p ≡ shape_on (place_at ps p) f
place_at_on [] p f = refl
place_at_on (s ∷ ps) zero f = refl
place_at_on (s ∷ ps) (suc p) f = place_at_on ps p f

pub found_at : (ps : List Shape) (tagged : Bool) (x : List ℕ) (p : ℕ) (f : Sub)
    → found tagged x (place_at (list_on ps f) p) ≡ option_by (place_at ps p).vars (found tagged x (place_at ps p)) f
found_at ps tagged x p f = ap (found tagged x) (place_at_on ps p f) ∙ found_by (place_at ps p).vars tagged x (place_at ps p) f

-- ---- types over a shape's own variables

abbrev pub MemberBelow : Option Ty → ℕ → Type 0
MemberBelow None n = Unit {0}
MemberBelow (Some u) n = Below u n

member_below : (x : List ℕ) (ns : List (List ℕ)) (ts : List Ty) (n : ℕ) → EachIsBelow ts n → MemberBelow (member x ns ts) n
member_below x [] ts n b = tt
member_below x (y ∷ ns) [] n b = tt
member_below x (y ∷ ns) (u ∷ ts) n b = by_test (bytes_eq y x) (member_below x ns ts n b.1)
  where
    by_test : (c : Bool) → MemberBelow (member x ns ts) n → MemberBelow (if c then Some u else member x ns ts) n
    by_test true ih = b.0
    by_test false ih = ih

pub found_below : (tagged : Bool) (x : List ℕ) (s : Shape) (n : ℕ) → EachIsBelow s.types n → MemberBelow (found tagged x s) n
found_below false x s n b = by_test s.tagged
  where
    by_test : (c : Bool) → MemberBelow (if c then None else member x s.names s.types) n
    by_test true = tt
    by_test false = member_below x s.names s.types n b
found_below true x s n b = by_test s.tagged
  where
    by_test : (c : Bool) → MemberBelow (if c then member x s.names s.types else None) n
    by_test true = member_below x s.names s.types n b
    by_test false = tt

-- what is known of a member's type, where its shape has so many variables of its own
abbrev pub ClosesMember : ℕ → Option Ty → Type 0
ClosesMember zero o = Unit {0}
ClosesMember (suc k) o = MemberBelow o (suc k)

pub member_closes : (n : ℕ) (tagged : Bool) (x : List ℕ) (s : Shape) → ShapeClosesBy n s → ClosesMember n (found tagged x s)
member_closes zero tagged x s c = tt
member_closes (suc k) tagged x s c = found_below tagged x s (suc k) c

pub place_closes : (ps : List Shape) (p : ℕ) → EachCloses ps → ShapeClosesBy (place_at ps p).vars (place_at ps p)
place_closes [] p c = tt
place_closes (s ∷ ps) zero c = c.0
place_closes (s ∷ ps) (suc p) c = place_closes ps p c.1

pub bits_closed : (bs : List BitShape) (b : ℕ) → AreClosedBits bs → EachIsBelow (bits_at bs b).shape.types 0
bits_closed [] b a = tt
bits_closed (s ∷ bs) zero a = a.0
bits_closed (s ∷ bs) (suc b) a = bits_closed bs b a.1

-- ---- what holds of them

-- casts speak of bitdata alone
same_casting : (ss : Shapes) (ps : List Shape) (h k : Head) → casting (record ss { places = ps }) h k ≡ casting ss h k
same_casting ss ps (uint m) (uint n) = refl
same_casting ss ps (uint m) (sint n) = refl
same_casting ss ps (sint m) (sint n) = refl
same_casting ss ps (uint m) int = refl
same_casting ss ps (sint m) int = refl
same_casting ss ps int (sint n) = refl
same_casting ss ps (bits b) (uint n) = refl
same_casting ss ps (uint m) (bits b) = refl
same_casting ss ps h k = refl

same_fit : (ss : Shapes) (ps : List Shape) (h k : Head) → can_fit (record ss { places = ps }) h k ≡ can_fit ss h k
same_fit ss ps (uint m) (bits b) = refl
same_fit ss ps h k = refl

own_lossless : (ss : Shapes) (ps : List Shape) (s t : Ty) → IsLossless ss s t holds → IsLossless (record ss { places = ps }) s t holds
own_lossless ss ps (con h us) (con k vs) e =
    let P : Casting → Type 0 = λ c. IsCast c (con h us) (con k vs) holds in subst P (sym (same_casting ss ps h k)) e
own_lossless ss ps (con h us) (var v) e = e
own_lossless ss ps (var v) t e = e

own_fit : (ss : Shapes) (ps : List Shape) (s t : Ty) → holds ≡ fitting ss s t → holds ≡ fitting (record ss { places = ps }) s t
own_fit ss ps (con h us) (con k vs) e = e ∙ ap (λ b. if_true b (not_lossless (con h us) (con k vs))) (sym (same_fit ss ps h k))
own_fit ss ps (con h us) (var v) e = no_decision e
own_fit ss ps (var v) t e = no_decision e

-- a member that is found still is
own_member : (n : ℕ) (o q : Option Ty) (f : Sub) (x : List ℕ) (t : Ty) → q ≡ option_by n o f → holds ≡ if_member o x t → holds ≡ if_member q x t
own_member n o q f x t e m = let P : Option Ty → Type 0 = λ w. holds ≡ if_member w x t in subst P (sym e) (by_option n o m)
  where
    by_option : (n : ℕ) (o : Option Ty) → holds ≡ if_member o x t → holds ≡ if_member (option_by n o f) x t
    by_option zero None m = m
    by_option zero (Some u) m = refl
    by_option (suc k) o m = m

module _ (ss : Shapes) (f : Sub) where
  own_field : (x : List ℕ) (t : Ty) → holds ≡ has_field ss x t → holds ≡ has_field (shapes_on ss f) x t
  own_field x (var v) e = no_decision e
  own_field x (con (place p) us) e = own_member (place_at ss.places p).vars (found false x (place_at ss.places p))
      (found false x (place_at (list_on ss.places f) p)) f x (con (place p) us) (found_at ss.places false x p f) e
  own_field x (con (bits b) us) e = e
  own_field x (con h us) e = no_verdict e

  own_tag : (x : List ℕ) (t : Ty) → holds ≡ has_tag ss x t → holds ≡ has_tag (shapes_on ss f) x t
  own_tag x (var v) e = no_decision e
  own_tag x (con (place p) us) e = own_member (place_at ss.places p).vars (found true x (place_at ss.places p))
      (found true x (place_at (list_on ss.places f) p)) f x (con (place p) us) (found_at ss.places true x p f) e
  own_tag x (con (bits b) us) e = e
  own_tag x (con h us) e = no_verdict e

  own_make : (x : List ℕ) (t : Ty) → holds ≡ makes ss x t → holds ≡ makes (shapes_on ss f) x t
  own_make x (var v) e = no_decision e
  own_make x (con (place p) us) e = own_member (place_at ss.places p).vars (found true x (place_at ss.places p))
      (found true x (place_at (list_on ss.places f) p)) f x (con (place p) us) (found_at ss.places true x p f) e
  own_make x (con h us) e = no_verdict e

  pub judged_own : (d : Demand) → Judged ss d holds → Judged (shapes_on ss f) d holds
  judged_own (condition (num t)) e = e
  judged_own (condition (word t)) e = e
  judged_own (condition (lit n t)) e = e
  judged_own (condition (key t)) e = e
  judged_own (condition (lossless s t)) e = own_lossless ss (list_on ss.places f) s t e
  judged_own (condition (cut s t)) e = e
  judged_own (condition (fit s t)) e = own_fit ss (list_on ss.places f) s t e
  judged_own (condition (cat a b r)) e = e
  judged_own (condition (field t x r)) e = own_field x t e
  judged_own (condition (tag t x r)) e = own_tag x t e
  judged_own (condition (loops t k u)) e = e
  judged_own (make t x r) e = own_make x t e
  judged_own (gather t k u b r) e = e

  -- a demand that holds still holds where variables are replaced in its types and in those of the group's records and unions
  pub judged_at : (d : Demand) → Judged ss d holds → Judged (shapes_on ss f) (on_demand f d) holds
  judged_at d e = judged_own (on_demand f d) (judged_stays ss d f e)
