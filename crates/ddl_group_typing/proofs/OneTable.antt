-- A group has one typing, whichever most general solutions are kept, and so have all groups.
use Rattle.std.proofs.Common.{◌≡◌, ℕ, List, ◌∷◌, length, refl, sym, ap, ◌∙◌, subst}
use Rattle.std.proofs.Math.Path.{fun_ext}
use Rattle.ddl_types.specs.Types.{Ty, Sub, on}
use Rattle.ddl_unify.specs.Equations.{Equation, MostGeneral}
use Rattle.ddl_judging.specs.Demands.{Asked, on_demand}
use Rattle.ddl_judging.specs.Judging.{Judged, holds}
use Rattle.ddl_conditions.specs.Growing.{Group, State, equations}
use Rattle.ddl_conditions.specs.Laws.{done_with}
use Rattle.ddl_conditions.specs.Settled.{AreKept, IsMet, AreKept.none_left, AreKept.met, AreKept.kept}
use Rattle.ddl_conditions.proofs.Carrying.{Follows, along}
use Rattle.ddl_conditions.proofs.OneEnd.{one_end}
use Rattle.ddl_conditions.proofs.Verdicts.{not_neither}
use Rattle.ddl_group_typing.proofs.Following.{demand_follows}
use Rattle.ddl_typing.specs.Groups.{equations_of}
use Rattle.ddl_group_typing.specs.Tables.{Opening, Table, asked_in, elaborated_in}
use Rattle.ddl_group_typing.specs.Whole.{AreTyped, AreTyped.none_left as no_groups, AreTyped.group, IsGroup, with_group}
use Rattle.ddl_group_typing.proofs.Numbering.{numbered_alike, seen_alike, count_alike}
use Rattle.ddl_group_typing.proofs.Staying.{judged_stays}

-- a demand that holds under a solution holds under one that follows it
pub met_follows : (z : Group) (f g h : Sub) (a : Asked) → Follows g f h → IsMet z f a → IsMet z g a
met_follows z f g h a e m = let P : Rattle.ddl_judging.specs.Demands.Demand → Type 0 = λ d. Judged z.shapes d holds in
    subst P (sym (demand_follows f h g e a.what)) (judged_stays z.shapes (on_demand f a.what) h m)

-- the same demands are kept
same_kept : (z : Group) (f g h k : Sub) → Follows g f h → Follows f g k → {i : ℕ} {as_ : List Asked} {ks ls : List ℕ} → AreKept z f i as_ ks
    → AreKept z g i as_ ls → ks ≡ ls
same_kept z f g h k e d none_left none_left = refl
same_kept z f g h k e d (met m a) (met n b) = same_kept z f g h k e d a b
same_kept z f g h k e d {i} (kept m a) (kept n b) = ap (λ xs. i ∷ xs) (same_kept z f g h k e d a b)
same_kept z f g h k e d {as_ = x ∷ xs} (met m a) (kept n b) = absurd (not_neither z.shapes (on_demand g x.what) (met_follows z f g h x e m) n.neither)
same_kept z f g h k e d {as_ = x ∷ xs} (kept m a) (met n b) = absurd (not_neither z.shapes (on_demand f x.what) (met_follows z g f k x d n) m.neither)

-- the table hangs on how many variables there are, on what becomes of types, and on what is kept
same_table : (o : Opening) (z : Table) {m n : ℕ} {f g : Ty → Ty} {ks ls : List ℕ} → m ≡ n → f ≡ g → ks ≡ ls → with_group o z m f ks ≡ with_group o z n g ls
same_table o z {m} {n} {f} {g} {ks} {ls} p q r = ap (λ i. with_group o z i f ks) p ∙ ap (λ final. with_group o z n final ks) q ∙ ap (with_group o z n g) r

pub one_group : (o : Opening) (z a b : Table) → IsGroup o z a → IsGroup o z b → a ≡ b
one_group o z a b x y =
    let g = asked_in o z in let es = equations_of (elaborated_in o z).asks in
    let f1 = x.solution in let f2 = y.solution in let s1 = x.solved.grown in let s2 = y.solved.grown in
    let P1 : List Equation → Type 0 = λ qs. MostGeneral qs f1 in
    let P2 : List Equation → Type 0 = λ qs. MostGeneral qs f2 in
    let m1 : MostGeneral (equations es s1) f1 = subst P1 x.solved.ended.all x.solved.ended.solution in
    let m2 : MostGeneral (equations es s2) f2 = subst P2 y.solved.ended.all y.solved.ended.solution in
    let same : s1 ≡ s2 = one_end g es (elaborated_in o z).state.next s1 s2 x.solved.ended.grows (done_with f1 m1 x.solved.ended.done) y.solved.ended.grows
    (done_with f2 m2 y.solved.ended.done) in
    let Q : State → Type 0 = λ s. MostGeneral (equations es s) f2 in
    let n2 : MostGeneral (equations es s1) f2 = subst Q (sym same) m2 in
    let h = m1.general f2 n2.solves in
    let k = n2.general f1 m1.solves in
    let there : (t : Ty) → on t f2 ≡ on (on t f1) h.0 = λ t. along t f1 f2 h.0 h.1 in
    let back : (t : Ty) → on t f1 ≡ on (on t f2) k.0 = λ t. along t f2 f1 k.0 k.1 in
    let os = numbered_alike h.0 k.0 f1 f2 there back g.shapes o.roots x.variables y.variables x.solved.numbered y.solved.numbered in
    x.table
    ∙ same_table o z (count_alike h.0 k.0 f1 f2 there back x.variables y.variables os)
    (fun_ext (seen_alike h.0 k.0 f1 f2 there back (length z.places) x.variables y.variables os))
    (same_kept g f1 f2 h.0 k.0 h.1 k.1 x.solved.are_kept y.solved.are_kept)
    ∙ sym y.table

pub one_typing : (opened : List ℕ → Table → Opening) (groups : List (List ℕ)) (z a b : Table) → AreTyped opened groups z a → AreTyped opened groups z b → a ≡ b
one_typing opened groups z a b no_groups no_groups = refl
one_typing opened groups z a b (group {g = g} {gs = gs} {y = y} x later) (group {y = w} u others) =
    let P : Table → Type 0 = λ c. AreTyped opened gs c b in
    one_typing opened gs y a b later (subst P (sym (one_group (opened g z) z y w x u)) others)
