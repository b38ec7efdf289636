-- The principal typing of a group: each typing of it, at any own types, is the elaborated one under the most general
-- solution of its equations, followed by a map.
use Rattle.std.proofs.Common.{◌≡◌, ◌≤◌, ◌<◌, ℕ, zero, suc, ◌+◌, List, [], ◌∷◌, ◌++◌, Bool, true, false, if◌then◌else◌, nat_lt, refl, ap, sym, ◌∙◌, arith, subst}
use Rattle.std.proofs.Common.{rules}
use Rattle.ddl_types.specs.Types.{Ty, Ty.var, Sub, on}
use Rattle.ddl_unify.specs.Equations.{Solves, MostGeneral}
use Rattle.ddl_typed.specs.Tree as t
use Rattle.ddl_rules.specs.Asks.{Ask, equates, demands, wants, Known, State}
use Rattle.ddl_typing.specs.Typed.{Typed, tree_of}
use Rattle.ddl_typing.specs.Typing.{Typing}
use Rattle.ddl_typing.specs.Making.{made}
use Rattle.ddl_typing.specs.Replaced.{ask_on, asks_on, tree_on, trees_on, state_on, typed_on, all_known_on}
use Rattle.ddl_typing.specs.Closed.{Closes}
use Rattle.ddl_typing.specs.Groups.{Body, TypedGroup, no_bodies, one_body, in_body, at_body, TypingGroup, made_group, elaborated_group, body_on, bodies_on}
use Rattle.ddl_typing.specs.Groups.{group_on, equations_of, AreMet, IsOwn}
use Rattle.ddl_principal.proofs.Lists.{asks_append, asks_append3}
use Rattle.ddl_principal.proofs.Commuting.{then_on, on_made}
use Rattle.ddl_principal.proofs.Fitting.{fits}
use Rattle.ddl_principal.proofs.Fronts.{Front, Opens, behind, Becomes, still, then_, so}
use Rattle.ddl_principal.proofs.General.{general}
use Rattle.ddl_principal.proofs.Twice.{group_twice}

one_body_on : (b : Body) (l : Typed) (r : TypedGroup) (f : Sub) → group_on (one_body b l r) f ≡ one_body (body_on b f) (typed_on l f) (group_on r f)
one_body_on b l r f = ap (λ as_. let x : TypedGroup = record { trees = tree_on (tree_of l) f ∷ trees_on r.trees f; asks = as_; state = state_on r.state f }
    in x)
    (asks_append3 b.header (wants b.of l.of l.at ∷ l.asks) r.asks f)

-- what is made of a group at some types, with each type replaced, is what is made of it at the types replaced
on_group : (bs : List Body) (free : Sub) (known : ℕ → Known) (z : State) (f : Sub) → ((d : ℕ) → Closes (known d))
    → group_on (made_group free bs known z) f ≡ made_group (then_on free f) (bodies_on bs f) (all_known_on known f) (state_on z f)
on_group [] free known z f c = refl
on_group (b ∷ bs) free known z f c =
    let l = made free b.tree (in_body b known) (at_body b z) in
    one_body_on b l (made_group free bs known l.state) f
    ∙ ap (one_body (body_on b f) (typed_on l f)) (on_group bs free known l.state f c)
    ∙ ap (λ w. one_body (body_on b f) w (made_group (then_on free f) (bodies_on bs f) (all_known_on known f) w.state))
    (on_made free f b.tree (in_body b known) (at_body b z) c)

-- what is made of a group at some types is a typing of it
fits_group : (bs : List Body) (free : Sub) (known : ℕ → Known) (z : State) → TypingGroup bs known z (made_group free bs known z)
fits_group [] free known z = refl
fits_group (b ∷ bs) free known z =
    let l = made free b.tree (in_body b known) (at_body b z) in
    (l, fits free b.tree (in_body b known) (at_body b z), (made_group free bs known l.state, fits_group bs free known l.state, refl))

-- each typing of a group is what is made of it at some types
general_group : (bs : List Body) (known : ℕ → Known) (z : State) (m : TypedGroup) (φ : Front) → Opens z.next φ → TypingGroup bs known z m
    → Becomes m.state.next φ (λ f. made_group f bs known z) m
general_group [] known z m φ o h = so (λ w. w.state.next) h (still _ o)
general_group (b ∷ bs) known z m φ o h =
    let x = general b.tree (in_body b known) (at_body b z) h.0 φ o h.1 in
    so (λ w. w.state.next) h.2.2 (then_ x (λ l f. made_group f bs known l.state) (one_body b)
    (general_group bs known h.0.state h.2.0 (behind φ x.given) x.opens h.2.1))

-- ---- the map of the group's own variables

abbrev below : ℕ → Sub → Front
below n g rest v = if nat_lt v n then g v else rest v

below_own : (n : ℕ) (g rest : Sub) (v : ℕ) → v < n → below n g rest v ≡ g v
below_own n g rest v h = search (rules, h)

below_open : (n : ℕ) (g rest : Sub) (v : ℕ) → n ≤ v → below n g rest v ≡ rest v
below_open n g rest v h = grind arith

met_solves : (as_ : List Ask) (f : Sub) → AreMet (asks_on as_ f) → Solves f (equations_of as_)
met_solves [] f m = tt
met_solves (equates q s ∷ as_) f m = (m.0, met_solves as_ f m.1)
met_solves (demands d s ∷ as_) f m = met_solves as_ f m

-- what is elaborated of a group is a typing of it, whatever its variables become
pub group_fits : (bs : List Body) (known : ℕ → Known) (z : State) (f : Sub) → ((d : ℕ) → Closes (known d))
    → TypingGroup (bodies_on bs f) (all_known_on known f) (state_on z f) (group_on (elaborated_group bs known z) f)
group_fits bs known z f c =
    let P : TypedGroup → Type 0 = λ m. TypingGroup (bodies_on bs f) (all_known_on known f) (state_on z f) m in
    subst P (sym (on_group bs var known z f c)) (fits_group (bodies_on bs f) f (all_known_on known f) (state_on z f))

-- each typing of the group whose equations are met is the one under the most general solution of the list, followed by a map
pub principal : (bs : List Body) (known : ℕ → Known) (z : State) (g : Sub) (m : TypedGroup) (f : Sub) → IsOwn bs known z → ((d : ℕ) → Closes (known d))
    → TypingGroup (bodies_on bs g) (all_known_on known g) (state_on z g) m → AreMet m.asks
    → MostGeneral (equations_of (elaborated_group bs known z).asks) f → (h : Sub) × (m ≡ group_on (group_on (elaborated_group bs known z) f) h)
principal bs known z g m f own c typing met most =
    let φ : Front = below z.next g in
    let b = general_group (bodies_on bs g) (all_known_on known g) (state_on z g) m φ (λ rest v l. below_open z.next g rest v l) typing in
    let x : Sub = φ (b.given var) in
    let agrees : (v : ℕ) → v < z.next → g v ≡ x v = λ v l. sym (below_own z.next g (b.given var) v l) in
    let it = elaborated_group bs known z in
    let e : m ≡ group_on it x = b.same var ∙ ap (λ w. made_group x w (all_known_on known g) (state_on z g)) (own.bodies g x agrees)
    ∙ ap (λ w. made_group x (bodies_on bs x) w (state_on z g)) (own.knowns g x agrees)
    ∙ ap (made_group x (bodies_on bs x) (all_known_on known x)) (own.state g x agrees)
    ∙ sym (on_group bs var known z x c) in
    let P : List Ask → Type 0 = AreMet in
    let solves : Solves x (equations_of it.asks) = met_solves it.asks x (subst P (ap (λ w. w.asks) e) met) in
    let i = most.general x solves in
    (i.0, e ∙ group_twice f i.0 x i.1 it)

-- a typing of a group with each type replaced is one
pub group_instance : (bs : List Body) (known : ℕ → Known) (z : State) (m : TypedGroup) (f : Sub) → ((d : ℕ) → Closes (known d)) → TypingGroup bs known z m
    → TypingGroup (bodies_on bs f) (all_known_on known f) (state_on z f) (group_on m f)
group_instance bs known z m f c h =
    let φ : Front = λ rest. rest in
    let b = general_group bs known z m φ (λ rest v l. refl) h in
    let x : Sub = φ (b.given var) in
    let P : TypedGroup → Type 0 = λ w. TypingGroup (bodies_on bs f) (all_known_on known f) (state_on z f) w in
    subst P (sym (ap (λ w. group_on w f) (b.same var) ∙ on_group bs x known z f c))
    (fits_group (bodies_on bs f) (then_on x f) (all_known_on known f) (state_on z f))
