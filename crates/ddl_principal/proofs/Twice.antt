-- A typed group with its types replaced twice.
use Rattle.std.proofs.Common.{◌≡◌, ℕ, zero, suc, List, [], ◌∷◌, Bool, refl, ap, sym, ◌∙◌}
use Rattle.ddl_base.specs.declared.span.Span.{Span}
use Rattle.ddl_types.specs.Types.{Ty, Ty.var, Ty.con, Tys, Tys.none, Tys.more, Sub, on, on_all}
use Rattle.ddl_types.specs.Conditions.{Condition, num, word, lit, key, lossless, cut, fit, cat, field, tag, loops, on_condition}
use Rattle.ddl_judging.specs.Demands.{Demand, condition, make, gather, on_demand}
use Rattle.ddl_typed.specs.Specification.{Place}
use Rattle.ddl_typed.specs.Tree as t
use Rattle.ddl_rules.specs.Asks.{Ask, equates, demands}
use Rattle.ddl_unify.specs.Equations.{equal}
use Rattle.ddl_typing.specs.Replaced.{ask_on, asks_on, types_on, trees_on, tree_on, place_on, places_on, state_on}
use Rattle.ddl_typing.specs.Groups.{TypedGroup, group_on}
use Rattle.ddl_principal.proofs.RetypedTwice.{twice}

module _ (f h g : Sub) (e : (n : ℕ) → g n ≡ on (f n) h) where
  mutual
    pub type_twice : (u : Ty) → on u g ≡ on (on u f) h
    type_twice (var v) = e v
    type_twice (con c ts) = ap (con c) (types_twice ts)

    pub types_twice : (ts : Tys) → on_all ts g ≡ on_all (on_all ts f) h
    types_twice none = refl
    types_twice (more u ts) = ap (λ x. more x (on_all ts g)) (type_twice u) ∙ ap (more (on (on u f) h)) (types_twice ts)

  pub list_twice : (ts : List Ty) → types_on ts g ≡ types_on (types_on ts f) h
  list_twice [] = refl
  list_twice (u ∷ ts) = ap (λ x. x ∷ types_on ts g) (type_twice u) ∙ ap (λ x. on (on u f) h ∷ x) (list_twice ts)

  condition_twice : (c : Condition) → on_condition g c ≡ on_condition h (on_condition f c)
  condition_twice (num x) = ap num (type_twice x)
  condition_twice (word x) = ap word (type_twice x)
  condition_twice (lit n x) = ap (lit n) (type_twice x)
  condition_twice (key x) = ap key (type_twice x)
  condition_twice (lossless x y) = ap (λ w. lossless w (on y g)) (type_twice x) ∙ ap (lossless (on (on x f) h)) (type_twice y)
  condition_twice (cut x y) = ap (λ w. cut w (on y g)) (type_twice x) ∙ ap (cut (on (on x f) h)) (type_twice y)
  condition_twice (fit x y) = ap (λ w. fit w (on y g)) (type_twice x) ∙ ap (fit (on (on x f) h)) (type_twice y)
  condition_twice (cat x y z) = ap (λ w. cat w (on y g) (on z g)) (type_twice x) ∙ ap (λ w. cat (on (on x f) h) w (on z g)) (type_twice y)
      ∙ ap (cat (on (on x f) h) (on (on y f) h)) (type_twice z)
  condition_twice (field x n y) = ap (λ w. field w n (on y g)) (type_twice x) ∙ ap (field (on (on x f) h) n) (type_twice y)
  condition_twice (tag x n y) = ap (λ w. tag w n (on y g)) (type_twice x) ∙ ap (tag (on (on x f) h) n) (type_twice y)
  condition_twice (loops x y z) = ap (λ w. loops w (on y g) (on z g)) (type_twice x) ∙ ap (λ w. loops (on (on x f) h) w (on z g)) (type_twice y)
      ∙ ap (loops (on (on x f) h) (on (on y f) h)) (type_twice z)

  pub demand_twice : (d : Demand) → on_demand g d ≡ on_demand h (on_demand f d)
  demand_twice (condition c) = ap condition (condition_twice c)
  demand_twice (make x n y) = ap (λ w. make w n (on y g)) (type_twice x) ∙ ap (make (on (on x f) h) n) (type_twice y)
  demand_twice (gather a b c d r) = ap (λ w. gather w (on b g) (on c g) (on d g) (on r g)) (type_twice a)
      ∙ ap (λ w. gather (on (on a f) h) w (on c g) (on d g) (on r g)) (type_twice b)
      ∙ ap (λ w. gather (on (on a f) h) (on (on b f) h) w (on d g) (on r g)) (type_twice c)
      ∙ ap (λ w. gather (on (on a f) h) (on (on b f) h) (on (on c f) h) w (on r g)) (type_twice d)
      ∙ ap (gather (on (on a f) h) (on (on b f) h) (on (on c f) h) (on (on d f) h)) (type_twice r)

  pub asks_twice : (as_ : List Ask) → asks_on as_ g ≡ asks_on (asks_on as_ f) h
  asks_twice [] = refl
  asks_twice (equates q s ∷ as_) = ap (λ x. equates (equal x (on q.right g)) s ∷ asks_on as_ g) (type_twice q.left)
      ∙ ap (λ x. equates (equal (on (on q.left f) h) x) s ∷ asks_on as_ g) (type_twice q.right)
      ∙ ap (λ x. equates (equal (on (on q.left f) h) (on (on q.right f) h)) s ∷ x) (asks_twice as_)
  asks_twice (demands d s ∷ as_) = ap (λ x. demands x s ∷ asks_on as_ g) (demand_twice d)
      ∙ ap (λ x. demands (on_demand h (on_demand f d)) s ∷ x) (asks_twice as_)

  place_twice : (k : ℕ) (s : Span) (b : Bool) (names : List (List ℕ)) (us : List Ty) → let p : Place =
      record { span = s; vars = k; tagged = b; names = names; types = us } in place_on p g ≡ place_on (place_on p f) h
  place_twice zero s b names us = ap (λ ts. let p : Place = record { span = s; vars = zero; tagged = b; names = names; types = ts } in p) (list_twice us)
  place_twice (suc k) s b names us = refl

  places_twice : (ps : List Place) → places_on ps g ≡ places_on (places_on ps f) h
  places_twice [] = refl
  places_twice (p ∷ ps) = ap (λ x. x ∷ places_on ps g) (place_twice p.vars p.span p.tagged p.names p.types)
      ∙ ap (λ x. place_on (place_on p f) h ∷ x) (places_twice ps)

  trees_twice : (es : List t.Expr) → trees_on es g ≡ trees_on (trees_on es f) h
  trees_twice [] = refl
  trees_twice (x ∷ es) = ap (λ y. y ∷ trees_on es g) (twice (λ u. on u f) (λ u. on u h) (λ u. on u g) type_twice x)
      ∙ ap (λ y. tree_on (tree_on x f) h ∷ y) (trees_twice es)

  pub group_twice : (m : TypedGroup) → group_on m g ≡ group_on (group_on m f) h
  group_twice m =
      ap (λ y. let r : TypedGroup = record { trees = y; asks = asks_on m.asks g; state = state_on m.state g } in r) (trees_twice m.trees)
      ∙ ap (λ y. let r : TypedGroup = record { trees = trees_on (trees_on m.trees f) h; asks = y; state = state_on m.state g } in r) (asks_twice m.asks)
      ∙ ap (λ y. let r : TypedGroup = record {
        trees = trees_on (trees_on m.trees f) h;
        asks = asks_on (asks_on m.asks f) h;
        state =
            record m.state { places = y };
      } in r) (places_twice m.state.places)
