-- A typed group is well typed: each demand that holds at the solution is as it says, and the others are kept.
use Rattle.std.proofs.Common.{◌≡◌, inl, inr, ℕ, zero, suc, ◌+◌, List, [], ◌∷◌, ◌++◌, Bool, true, false, Some, length, refl, sym, ap, ◌∙◌, subst, arith}
use Rattle.std.proofs.Common.{◌<◌, get_or, map}
use Rattle.std.proofs.Common.{if◌then◌else◌}
use Rattle.ddl_base.specs.declared.span.Span.{Span}
use Rattle.std.specs.Prelude.{Contains}
use Rattle.std.proofs.lemmas.List.Elements.{Contains-append_left, Contains-append_right}
use Rattle.ddl_types.specs.Types.{Ty, Ty.var, Ty.con, Sub, on, Head, Head.bits, Head.place}
use Rattle.ddl_types.specs.Conditions.{Condition, num, word, lit, key, lossless, cut, fit, cat, field, tag, loops, on_condition}
use Rattle.ddl_unify.specs.Equations.{Equation, Solves}
use Rattle.ddl_unify.proofs.Steps.{solves_front}
use Rattle.ddl_unify.proofs.Sub.{on_on}
use Rattle.ddl_judging.specs.Demands.{Asked, Demand, adds, condition, make, gather, may_be_kept, on_demand, subjects}
use Rattle.ddl_judging.specs.Judging.{Judged, holds, makes}
use Rattle.ddl_judging.specs.Shapes.{Shapes}
use Rattle.ddl_growing.specs.Giving.{gives, turns}
use Rattle.ddl_growing.specs.Heads.{heads_of}
use Rattle.ddl_conditions.specs.Gave.{HaveGiven}
use Rattle.ddl_conditions.specs.Growing.{Group, equations}
use Rattle.ddl_conditions.specs.Settled.{AreKept, AreKept.met, AreKept.kept, IsMet}
use Rattle.ddl_conditions.proofs.Carrying.{Follows, along}
use Rattle.ddl_conditions.proofs.Gave.{has_given}
use Rattle.ddl_conditions.proofs.OneEnd.{heads_stay}
use Rattle.ddl_conditions.proofs.Shown.{met_ready}
use Rattle.ddl_schemes.specs.Renaming.{renaming, seen, shared}
use Rattle.ddl_typed.specs.Tree as t
use Rattle.ddl_rules.specs.Asks.{Ask, equates, demands}
use Rattle.ddl_typing.specs.Closed.{Closes}
use Rattle.ddl_typing.specs.Groups.{AreMet, demands_of, equations_of, group_on}
use Rattle.ddl_typing.specs.Replaced.{asks_on, conditions_on, tree_on, trees_on}
use Rattle.ddl_typing.specs.Retyped.{retyped}
use Rattle.ddl_principal.proofs.Principal.{group_fits}
use Rattle.ddl_principal.proofs.RetypedTwice.{twice}
use Rattle.ddl_group_typing.specs.Finals.{at_place, condition_of, final_bodies, is_among, kept_of}
use Rattle.ddl_group_typing.specs.Laws.{GroupsAreWellTyped, GroupsAreWellTypedAtAll, OwnCallsAreAtVariables, TreesAreOfGroup}
use Rattle.ddl_growing.specs.Carrying.{listed}
use Rattle.ddl_typing.specs.Names.{types_first}
use Rattle.ddl_group_typing.specs.OwnCalls.{args_calls, own_types, with_calls, with_types}
use Rattle.ddl_group_typing.specs.OwnShapes.{ShapesClose, shapes_on}
use Rattle.ddl_group_typing.specs.Solved.{AreWellTypedAt, followed, numbered}
use Rattle.ddl_group_typing.specs.Tables.{Done, Opening, Table, asked_in, elaborated_in, overlaid, shapes_in}
use Rattle.ddl_group_typing.specs.WellTyped.{AreGranted, IsGiven, IsGranted, IsMemberOf}
use Rattle.ddl_group_typing.specs.Whole.{IsGroup}
use Rattle.ddl_group_typing.proofs.AtHeads.{bytes_given, gathered_given, one_head, turns_given, wide_given}
use Rattle.ddl_group_typing.proofs.AtPlaces.{bits_given, place_given}
use Rattle.ddl_group_typing.proofs.OneTable.{met_follows}
use Rattle.ddl_group_typing.proofs.OwnShapes.{judged_own}
use Rattle.ddl_group_typing.proofs.Staying.{no_verdict}

-- ---- what a demand that holds says

module _ (ss : Shapes) (closes : ShapesClose ss) (g : Sub) where
  field_given : (u : Ty) (x : List ℕ) (r : Ty) (hs : List Head) (n : ℕ) → heads_of (u ∷ []) g ≡ Some hs
      → Solves g (gives ss (condition (field u x r)) hs n).equations → IsMemberOf (shapes_on ss g) false (on u g) x (on r g)
  field_given u x r hs n k sol = by_type (on u g) refl
    where
      at_head : (h : Head) → h ∷ [] ≡ hs → Solves g (gives ss (condition (field u x r)) (h ∷ []) n).equations
      at_head h p = let P : List Head → Type 0 = λ ys. Solves g (gives ss (condition (field u x r)) ys n).equations in subst P (sym p) sol

      by_type : (y : Ty) → on u g ≡ y → IsMemberOf (shapes_on ss g) false y x (on r g)
      by_type (var v) q = tt
      by_type (con (place p) us) q = place_given g ss closes false p us u x r n q (at_head (place p) (one_head u g (place p) us hs q k))
      by_type (con (bits b) us) q = bits_given g ss closes false b us x r (at_head (bits b) (one_head u g (bits b) us hs q k))
      by_type (con h us) q = tt

  tag_given : (u : Ty) (x : List ℕ) (r : Ty) (hs : List Head) (n : ℕ) → heads_of (u ∷ []) g ≡ Some hs
      → Solves g (gives ss (condition (tag u x r)) hs n).equations → IsMemberOf (shapes_on ss g) true (on u g) x (on r g)
  tag_given u x r hs n k sol = by_type (on u g) refl
    where
      at_head : (h : Head) → h ∷ [] ≡ hs → Solves g (gives ss (condition (tag u x r)) (h ∷ []) n).equations
      at_head h p = let P : List Head → Type 0 = λ ys. Solves g (gives ss (condition (tag u x r)) ys n).equations in subst P (sym p) sol

      by_type : (y : Ty) → on u g ≡ y → IsMemberOf (shapes_on ss g) true y x (on r g)
      by_type (var v) q = tt
      by_type (con (place p) us) q = place_given g ss closes true p us u x r n q (at_head (place p) (one_head u g (place p) us hs q k))
      by_type (con (bits b) us) q = bits_given g ss closes true b us x r (at_head (bits b) (one_head u g (bits b) us hs q k))
      by_type (con h us) q = tt

  make_given : (u : Ty) (x : List ℕ) (r : Ty) (hs : List Head) (n : ℕ) → holds ≡ makes ss x (on u g) → heads_of (u ∷ []) g ≡ Some hs
      → Solves g (gives ss (make u x r) hs n).equations → IsMemberOf (shapes_on ss g) true (on u g) x (on r g)
  make_given u x r hs n j k sol = by_type (on u g) refl j
    where
      by_type : (y : Ty) → on u g ≡ y → holds ≡ makes ss x y → IsMemberOf (shapes_on ss g) true y x (on r g)
      by_type (var v) q e = tt
      by_type (con (place p) us) q e =
          let P : List Head → Type 0 = λ ys. Solves g (gives ss (make u x r) ys n).equations in
          place_given g ss closes true p us u x r n q (subst P (sym (one_head u g (place p) us hs q k)) sol)
      by_type (con (bits b) us) q e = no_verdict e
      by_type (con h us) q e = tt

  loops_given : (u k v : Ty) (hs : List Head) (n : ℕ) → Solves g (gives ss (condition (loops u k v)) hs n).equations
      → (h : Head) → h ∷ [] ≡ hs → Solves g (turns h u k v n).equations
  loops_given u k v hs n sol h p = let P : List Head → Type 0 = λ ys. Solves g (gives ss (condition (loops u k v)) ys n).equations in subst P (sym p) sol

  gather_given : (u k v b r : Ty) (hs : List Head) (n : ℕ) → Solves g (gives ss (gather u k v b r) hs n).equations
      → (h : Head) → h ∷ [] ≡ hs → Solves g (turns h u k v n).equations
  gather_given u k v b r hs n sol h p =
      let P : List Head → Type 0 = λ ys. Solves g (gives ss (gather u k v b r) ys n).equations in
      solves_front g (turns h u k v n).equations (Rattle.ddl_growing.specs.Giving.gathered h b r n) (subst P (sym p) sol)

  -- a demand that holds, and what it gives is solved
  given : (d : Demand) (hs : List Head) (n : ℕ) → adds d ≡ true → Judged ss (on_demand g d) holds → heads_of (subjects d) g ≡ Some hs
      → Solves g (gives ss d hs n).equations → IsGiven (shapes_on ss g) (on_demand g d)
  given (condition (key u)) hs n e j k s = bytes_given ss g u hs n k s
  given (condition (cat a b r)) hs n e j k s = wide_given ss g a b r hs n j k s
  given (condition (field u x r)) hs n e j k s = field_given u x r hs n k s
  given (condition (tag u x r)) hs n e j k s = tag_given u x r hs n k s
  given (condition (loops u i v)) hs n e j k s = turns_given ss g u i v hs n k (loops_given u i v hs n s)
  given (make u x r) hs n e j k s = make_given u x r hs n j k s
  given (gather u i v b r) hs n e j k s =
      (turns_given ss g u i v hs n k (gather_given u i v b r hs n s), gathered_given ss g u i v b r hs n k s)
  given d hs n e j k s = let q : false ≡ true = e in absurd (cc)

-- one that adds nothing says nothing of its types
silent : (ss : Shapes) (d : Demand) → adds d ≡ false → IsGiven ss d
silent ss (condition (num u)) e = tt
silent ss (condition (word u)) e = tt
silent ss (condition (lit n u)) e = tt
silent ss (condition (lossless s u)) e = tt
silent ss (condition (cut s u)) e = tt
silent ss (condition (fit s u)) e = tt
silent ss d e = let q : true ≡ false = e in absurd (cc)

same_adds : (d : Demand) (g : Sub) → adds (on_demand g d) ≡ adds d
same_adds (condition (num u)) g = refl
same_adds (condition (word u)) g = refl
same_adds (condition (lit n u)) g = refl
same_adds (condition (key u)) g = refl
same_adds (condition (lossless s u)) g = refl
same_adds (condition (cut s u)) g = refl
same_adds (condition (fit s u)) g = refl
same_adds (condition (cat a b r)) g = refl
same_adds (condition (field u x r)) g = refl
same_adds (condition (tag u x r)) g = refl
same_adds (condition (loops u k v)) g = refl
same_adds (make u x r) g = refl
same_adds (gather u k v b r) g = refl

-- ---- a map that follows the solution

solves_on : (es : List Equation) (f g k : Sub) → Follows g f k → Solves f es → Solves g es
solves_on [] f g k e s = tt
solves_on (q ∷ es) f g k e s = (along q.left f g k e ∙ ap (λ x. on x k) s.0 ∙ sym (along q.right f g k e), solves_on es f g k e s.1)

met_asks : (as_ : List Ask) (g : Sub) → Solves g (equations_of as_) → AreMet (asks_on as_ g)
met_asks [] g s = tt
met_asks (equates q s ∷ as_) g h = (h.0, met_asks as_ g h.1)
met_asks (demands d s ∷ as_) g h = met_asks as_ g h

further : (a b : Asked) (as_ : List Asked) → Contains as_ b → Contains (a ∷ as_) b
further a b as_ c = (suc c.0, omega (arith, c.1), c.2)

behind : (asked : List Asked) (as_ : List Ask) (i : ℕ) (d : Demand) (s : Span)
    → ((j : ℕ) → at_place asked (i + j) ≡ at_place (record { what = d; span = s } ∷ demands_of as_) j)
    → (j : ℕ) → at_place asked (suc i + j) ≡ at_place (demands_of as_) j
behind asked as_ i d s same j = ap (at_place asked) (let q : suc i + j ≡ i + suc j = omega arith in q) ∙ same (suc j)

module _ (z : Group) (closes : ShapesClose z.shapes) (f g k : Sub) (follows : Follows g f k) (gave : HaveGiven z f) where
  -- a demand that holds under the solution
  met_given : (a : Asked) → Contains z.asked a → IsMet z f a → IsGiven (shapes_on z.shapes g) (on_demand g a.what)
  met_given a c m = by_adds (adds a.what) refl
    where
      by_adds : (b : Bool) → adds a.what ≡ b → IsGiven (shapes_on z.shapes g) (on_demand g a.what)
      by_adds false e = silent (shapes_on z.shapes g) (on_demand g a.what) (same_adds a.what g ∙ e)
      by_adds true e =
          let h = gave a c e (met_ready z f a e m) in
          given z.shapes closes g a.what h.heads h.from e (met_follows z f g k a follows m)
          (heads_stay (subjects a.what) f g k h.heads follows h.known) (solves_on (gives z.shapes a.what h.heads h.from).equations f g k follows h.solved)

  module _ (granted : List Condition) where
    -- one that is kept is a condition
    kept_granted : (d : Demand) → may_be_kept d ≡ true
        → ((c : Condition) → Contains (condition_of d) c → IsGranted (shapes_on z.shapes g) granted (condition (on_condition g c)))
        → IsGranted (shapes_on z.shapes g) granted (on_demand g d)
    kept_granted (condition c) e h = h c (0, omega arith, refl)
    kept_granted (make u x r) e h = let q : false ≡ true = e in absurd (cc)
    kept_granted (gather u i v b r) e h = let q : false ≡ true = e in absurd (cc)

    -- the i-th demand and those behind it
    all_granted : (as_ : List Ask) (i : ℕ) {ks : List ℕ} → ((j : ℕ) → at_place z.asked (i + j) ≡ at_place (demands_of as_) j)
        → ((a : Asked) → Contains (demands_of as_) a → Contains z.asked a) → AreKept z f i (demands_of as_) ks
        → ((c : Condition) → Contains (kept_of z.asked ks) c → IsGranted (shapes_on z.shapes g) granted (condition (on_condition g c)))
        → AreGranted (shapes_on z.shapes g) granted (asks_on as_ g)
    all_granted [] i same among k h = tt
    all_granted (equates q s ∷ as_) i same among k h = all_granted as_ i same among k h
    all_granted (demands d s ∷ as_) i same among (met m others) h =
        let a : Asked = record { what = d; span = s } in (
          inl (judged_own z.shapes g (on_demand g d) (met_follows z f g k a follows m), met_given a (among a (0, omega arith, refl)) m),
          all_granted as_ (suc i) (behind z.asked as_ i d s same) (λ b c. among b (further a b (demands_of as_) c)) others h,
        )
    all_granted (demands d s ∷ as_) i same among (kept {ks = js} m others) h =
        let a : Asked = record { what = d; span = s } in
        let P : List Condition → Type 0 = λ cs. (c : Condition) → Contains cs c
        → IsGranted (shapes_on z.shapes g) granted (condition (on_condition g c)) in
        let here : at_place z.asked i ≡ condition_of d = ap (at_place z.asked) (let q : i ≡ i + 0 = omega arith in q) ∙ same 0 in (
          kept_granted d m.form (subst P here (λ c q. h c (Contains-append_left (at_place z.asked i) (kept_of z.asked js) c q))),
          all_granted as_ (suc i) (behind z.asked as_ i d s same) (λ b c. among b (further a b (demands_of as_) c)) others
              (λ c q. h c (Contains-append_right (at_place z.asked i) (kept_of z.asked js) c q)),
        )

-- ---- the group

group_at : (o : Opening) (z a : Table) (x : IsGroup o z a) (g k : Sub) (granted : List Condition) → Follows g x.solution k
    → ((d : ℕ) → Closes (overlaid o.own z.known d)) → ShapesClose (shapes_in o z)
    → ((c : Condition) → Contains (kept_of (asked_in o z).asked x.kept) c → IsGranted (shapes_on (shapes_in o z) g) granted (condition (on_condition g c)))
    → AreWellTypedAt o z g granted
group_at o z a x g k granted follows knowns closes h =
    let it = elaborated_in o z in
    let f = x.solution in
    let es = equations_of it.asks in
    let s = x.solved.grown in
    let P : List Equation → Type 0 = λ qs. Solves f qs in
    let sol : Solves f (equations es s) = subst P x.solved.ended.all x.solved.ended.solution.solves in
    let gave : HaveGiven (asked_in o z) f = has_given (asked_in o z) es it.state.next s f x.solved.ended.grows x.solved.ended.done sol in
    record {
      typing = group_on it g;
      typed = group_fits o.bodies (overlaid o.own z.known) o.state g knowns;
      same = refl;
      met = met_asks it.asks g (solves_on es f g k follows (solves_front f es (map (λ b. b.equation) s.added) sol));
      granted = all_granted (asked_in o z) closes f g k follows gave granted it.asks 0
          (λ j. ap (at_place (asked_in o z).asked) (let q : 0 + j ≡ j = omega arith in q)) (λ b c. c) x.solved.are_kept h;
    }

contains_on : (cs : List Condition) (g : Sub) (c : Condition) → Contains cs c → Contains (conditions_on cs g) (on_condition g c)
contains_on cs g c q = by_place cs q.0 q.1 q.2
  where
    by_place : (cs : List Condition) (i : ℕ) → i < length cs → get_or cs i c ≡ c → Contains (conditions_on cs g) (on_condition g c)
    by_place [] i l e = absurd (omega (arith, l))
    by_place (b ∷ cs) zero l e = (0, omega arith, ap (on_condition g) e)
    by_place (b ∷ cs) (suc i) l e = let r = by_place cs i (omega (arith, l)) e in (suc r.0, omega (arith, r.1), r.2)

pub groups_well_typed : GroupsAreWellTyped
groups_well_typed o z a x knowns closes =
    let g = numbered x.variables x.solution in
    let cs = kept_of (asked_in o z).asked x.kept in
    group_at o z a x g (renaming x.variables 0) (conditions_on cs g) (λ n. refl) knowns closes
    (λ c q. inr (on_condition g c, contains_on cs g c q, refl))

pub groups_well_typed_at_all : GroupsAreWellTypedAtAll
groups_well_typed_at_all o z a x h granted knowns closes grants =
    let to : Sub = renaming x.variables 0 in
    group_at o z a x (followed (numbered x.variables x.solution) h) (λ v. on (to v) h) granted (λ n. on_on (x.solution n) to h) knowns closes grants

-- ---- its trees in the table

same_bodies : (n : ℕ) (final last : Ty → Ty) (g : Sub) → ((u : Ty) → final u ≡ last (on u g)) → (ms ds : List ℕ) (es : List t.Expr)
    → final_bodies n final ms ds es ≡ final_bodies n last ms ds (trees_on es g)
same_bodies n final last g e ms [] es = refl
same_bodies n final last g e ms (d ∷ ds) [] = refl
same_bodies n final last g e ms (d ∷ ds) (x ∷ es) =
    ap (λ y. let w : Done = record { number = d; tree = with_calls (is_among ms) n y } in w ∷ final_bodies n final ms ds es)
    (twice (λ u. on u g) last final e x)
    ∙ ap (λ ys. let w : Done = record { number = d; tree = with_calls (is_among ms) n (retyped (tree_on x g) last) } in w ∷ ys)
    (same_bodies n final last g e ms ds es)

pub trees_of_group : TreesAreOfGroup
trees_of_group o z a x =
    let n = length x.variables in
    let first = length z.places in
    let g = numbered x.variables x.solution in
    ap (λ w. w.done) x.table
    ∙ ap (λ w. z.done ++ w) (same_bodies n (seen first x.variables x.solution) (shared first n) g
    (λ u. ap (shared first n) (sym (along u x.solution g (renaming x.variables 0) (λ v. refl)))) o.members o.members (elaborated_in o z).trees)

-- ---- its own calls

own_listed : (k i : ℕ) (as_ : t.Args) → own_types k i as_ ≡ types_first i (listed k i) as_
own_listed zero i as_ = refl
own_listed (suc k) i as_ = ap (t.by_type i (var i)) (own_listed k (suc i) as_)

pub own_calls : OwnCallsAreAtVariables
own_calls is_member n d as_ e =
    let bs = args_calls is_member n as_ in
    let same : with_types is_member n d bs ≡ types_first 0 (listed n 0) bs = ap (λ c. if c then own_types n 0 bs else bs) e ∙ own_listed n 0 bs in
    (ap (t.value_call d) same, ap (t.call d) same)
