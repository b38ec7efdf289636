-- How deep the modules are that the machine reads, and where it passes a depth.
use Rattle.std.proofs.Common.{◌≡◌, ℕ, ◌≤◌, ◌<◌, List, [], ◌∷◌, ◌++◌, Option, Some, None, IfSome, option_and_then, refl, sym, ap, ◌∙◌, arith, subst}
use Rattle.ddl_tree.specs.declared.name.ByteLit.{ByteLit}
use Rattle.ddl_tree.specs.ClassTree as cls
use Rattle.ddl_tree.specs.ClassTree.{class_span}
use Rattle.ddl_tree.specs.ModuleTree as mo
use Rattle.ddl_tree.specs.Depth.{class_depth, module_depth}
use Rattle.ddl_tree.specs.PrintModule.{print_module}
use Rattle.ddl_tree.specs.Spans.{nowhere}
use Rattle.ddl_tree.specs.SpansModule.{placed}
use Rattle.ddl_reader.specs.Frames.{Seen, Frame, Focus, State, Found, FoundClass}
use Rattle.ddl_reader.specs.Frames as frame
use Rattle.ddl_reader.specs.StepClass.{class_done}
use Rattle.ddl_reader.specs.StepDecl.{close_body, close_class_body}
use Rattle.ddl_reader.specs.StepExpr.{closes}
use Rattle.ddl_reader.specs.Answers.{Begins, BeginsWithin, TooNested}
use Rattle.ddl_reader.specs.Depths.{low, need, lowest}
use Rattle.ddl_reader.specs.Step.{step_at, whole, finish_class, finish_class_at, finished, finish_body, finish_have, finish, goes, run, begun, reach, kinds}
use Rattle.ddl_reader.specs.Step.{places}
use Rattle.ddl_reader.proofs.Tokens.{seen}
use Rattle.ddl_reader.proofs.Fits.{wanted, AreFrames, IsFocus, Steps}
use Rattle.ddl_reader.proofs.Fine.{step_fine}
use Rattle.ddl_reader.proofs.FineTypes.{class_done_fine}
use Rattle.ddl_reader.proofs.Deep.{IsDeep, AreDeep, IsDeepFocus, Deeps}
use Rattle.ddl_reader.proofs.DeepTypes.{class_done_deep, class_done_least}
use Rattle.ddl_reader.proofs.DeepExprs.{ClosesDeep, closes_deep}
use Rattle.ddl_reader.proofs.DeepDecls.{close_body_deep, class_body_deep}
use Rattle.ddl_reader.proofs.DeepSteps.{step_deep}
use Rattle.ddl_reader.proofs.CompleteStates.{complete}
use Rattle.ddl_reader.proofs.PlacedDepth.{depth_placed}
use Rattle.ddl_reader.proofs.Exact.{some_one, reads_all, reached_begun, some_state, run_reach, kinds_more, kinds_seen, begins_at}

-- ---- the end of the tokens

whole_deep : (fs : List Frame) (a : mo.Module) → AreDeep fs → whole fs ≡ Some a → module_depth a ≡ low fs 0
whole_deep (frame.in_module b n ∷ []) a d e =
    let n_deep = d.0 in
    let same : module_depth b ≡ low (frame.in_module b n ∷ []) 0 = omega arith in
    subst (λ a. module_depth a ≡ low (frame.in_module b n ∷ []) 0) (some_one b a e) same
whole_deep [] a d e = cc
whole_deep (frame.in_module b n ∷ f ∷ fs) a d e = cc
whole_deep (_ ∷ fs) a d e = cc

class_deep : (fs : List Frame) (c : FoundClass) (a : mo.Module) → AreFrames fs → AreDeep fs → c.deep ≡ class_depth c.class → finish_class fs c ≡ Some a
    → module_depth a ≡ low fs c.deep
class_deep (frame.in_class_body s y ∷ fs) c a h d i e =
    let v = class_body_deep s y c fs d.1 h.1 i in
    let same = whole_deep (close_class_body s y c fs) a v.frames e in
    let most = v.most in
    let least = v.least in
    omega arith
class_deep [] c a h d i e = cc
class_deep (_ ∷ fs) c a h d i e = cc

class_deep_at : (fs : List Frame) (f : Focus) (a : mo.Module) → AreFrames fs → AreDeep fs → IsDeepFocus f → finish_class_at (fs, f) ≡ Some a
    → module_depth a ≡ low fs (need fs f)
class_deep_at fs (frame.have_class c) a h d i e = class_deep fs c a h d i e
class_deep_at fs _ a h d i e = cc

body_deep : (f : Frame) (fs : List Frame) (x : Found) (a : mo.Module) → AreFrames (f ∷ fs) → AreDeep (f ∷ fs) → IsDeep x → finish_body f x fs ≡ Some a
    → module_depth a ≡ low (f ∷ fs) x.deep
body_deep (frame.in_body c t n) fs x a h d i e =
    let p = d.0 in
    let v = close_body_deep c t n x fs d.1 h.1 p.0 p.1 i in
    let same = whole_deep (close_body c t n x fs) a v.frames e in
    let most = v.most in
    let least = v.least in
    omega arith
body_deep _ fs x a h d i e = cc

finished_deep : (f : Frame) (fs : List Frame) (x : Found) (a : mo.Module) (o : Option Found) (on : Found → Option mo.Module) (other : Option mo.Module)
    → IfSome o (λ u. ClosesDeep f x u fs)
    → ((u : Found) → ClosesDeep f x u fs → on u ≡ Some a → module_depth a ≡ low fs u.deep) → (other ≡ Some a → module_depth a ≡ low (f ∷ fs) x.deep)
    → finished o on other ≡ Some a → module_depth a ≡ low (f ∷ fs) x.deep
finished_deep f fs x a None on other h go stay e = stay e
finished_deep f fs x a (Some u) on other h go stay e = go u h e ∙ ap (low fs) (sym h.around)

have_deep : (fs : List Frame) (x : Found) (a : mo.Module) → AreFrames fs → AreDeep fs → IsDeep x → finish_have fs x ≡ Some a → module_depth a ≡ low fs x.deep
have_deep [] x a h d i e = cc
have_deep (f ∷ fs) x a h d i e =
    finished_deep f fs x a (closes f x) (λ u. finish_have fs u) (finish_body f x fs) (closes_deep f x fs d.0 i)
    (λ u c e. have_deep fs u a h.4 d.1 c.tree e)
    (λ e. body_deep f fs x a h d i e) e

byte_deep : (fs : List Frame) (b : ByteLit) (a : mo.Module) → AreFrames fs → wanted fs ≡ 3 → AreDeep fs → finish_class_at (class_done fs (cls.One b) 1) ≡ Some a
    → module_depth a ≡ low fs 1
byte_deep fs b a h w d e =
    let z = class_done fs (cls.One b) 1 in
    let g = class_done_fine fs (cls.One b) 1 h w tt (omega arith) in
    let v = class_done_deep fs (cls.One b) 1 d refl in
    let same = class_deep_at z.0 z.1 a g.1 v.0 v.1 e in
    let most = v.2 in
    let least = class_done_least fs (cls.One b) 1 in
    omega arith

-- a module that the machine ends with is as deep as the state says
ends_deep : (f : Focus) (fs : List Frame) (a : mo.Module) → AreFrames fs → IsFocus fs f → AreDeep fs → IsDeepFocus f → finish f fs ≡ Some a
    → module_depth a ≡ low fs (need fs f)
ends_deep frame.at_import fs a h i d g e = whole_deep fs a d e
ends_deep frame.at_decl fs a h i d g e = whole_deep fs a d e
ends_deep (frame.have x) fs a h i d g e = have_deep fs x a h d g e
ends_deep (frame.have_class c) fs a h i d g e = class_deep fs c a h d g e
ends_deep (frame.have_byte b) fs a h i d g e = byte_deep fs b a h i d e
ends_deep _ fs a h i d g e = cc

pub depth_at_end : (xs : List Seen) (z : State) (a : mo.Module) → reach xs begun ≡ Some z → finish z.1 z.0 ≡ Some a → module_depth a ≡ lowest z
depth_at_end xs z a way e = let w = reached_begun xs z way in ends_deep z.1 z.0 a w.frames w.focus w.deep w.deep_focus e

-- ---- on the way

run_step : (x : Seen) (xs : List Seen) (z : State) (a : mo.Module) (o : Option State) → Steps z.0 z.1 x.kind o → Deeps (lowest z) o
    → ((y : State) → AreFrames y.0 → IsFocus y.0 y.1 → AreDeep y.0 → IsDeepFocus y.1 → run xs y ≡ Some a → lowest y ≤ module_depth a) → goes (run xs) o ≡ Some a
    → lowest z ≤ module_depth a
run_step x xs z a None s d go e = cc
run_step x xs z a (Some y) s d go e = let l = d.2 in let m = go y s.1 s.2 d.0 d.1 e in omega arith

-- a module that is read from here on is no shallower than the state says
run_deep : (xs : List Seen) (z : State) (a : mo.Module) → AreFrames z.0 → IsFocus z.0 z.1 → AreDeep z.0 → IsDeepFocus z.1 → run xs z ≡ Some a
    → lowest z ≤ module_depth a
run_deep [] z a h i d g e = let same = ends_deep z.1 z.0 a h i d g e in omega arith
run_deep (x ∷ xs) z a h i d g e =
    run_step x xs z a (step_at z.1 z.0 x.kind x.at) (step_fine z.1 z.0 x.kind x.at h i) (step_deep z.1 z.0 x.kind x.at h i d g) (λ y h i d g e.
    run_deep xs y a h i d g e) e

-- where the state is within d, the tokens begin a module within d
pub begins_within : (d : ℕ) (used : List Seen) (z : State) → reach used begun ≡ Some z → lowest z ≤ d → BeginsWithin d (kinds used)
begins_within d used z way l =
    let w = reached_begun used z way in
    let c = complete z.1 z.0 w.frames w.focus w.deep w.deep_focus in
    let b = c.4 in
    (c.0, c.1, c.2, c.3 ∙ w.text c.1, omega arith)

-- where it is not, none does
none_within : (d : ℕ) (used : List Seen) (z : State) → reach used begun ≡ Some z → d < lowest z → BeginsWithin d (kinds used) → ⊥
none_within d used z way l b =
    let tail = seen b.1 (record { last = nowhere; rest = [] }) in
    let all = used ++ tail in
    let same : print_module b.0 ≡ kinds all = b.3 ∙ ap (λ ks. kinds used ++ ks) (sym (kinds_seen b.1 (record { last = nowhere; rest = [] })))
    ∙ sym (kinds_more used tail) in
    let ran : run tail z ≡ Some (placed b.0 (places all)) = sym (run_reach used tail begun z way) ∙ reads_all all b.0 b.2 same in
    let w = reached_begun used z way in
    let most = run_deep tail z (placed b.0 (places all)) w.frames w.focus w.deep w.deep_focus ran in
    let placed_same = depth_placed b.0 (places all) in
    let within = b.4 in
    absurd (omega arith)

reach_step : (x : Seen) (xs : List Seen) (y : Seen) (v u : State) (o : Option State) → ((z : State) → reach xs z ≡ Some v → reach (xs ++ y ∷ []) z ≡ Some u)
    → option_and_then (reach xs) o ≡ Some v → option_and_then (reach (xs ++ y ∷ [])) o ≡ Some u
reach_step x xs y v u None go e = cc
reach_step x xs y v u (Some z) go e = go z e

-- a token more
reach_more : (xs : List Seen) (y : Seen) (z v u : State) → reach xs z ≡ Some v → step_at v.1 v.0 y.kind y.at ≡ Some u → reach (xs ++ y ∷ []) z ≡ Some u
reach_more [] y z v u way e = ap (λ z. option_and_then (reach []) (step_at z.1 z.0 y.kind y.at)) (some_state z v way) ∙ ap (option_and_then (reach [])) e
reach_more (x ∷ xs) y z v u way e = reach_step x xs y v u (step_at z.1 z.0 x.kind x.at) (λ z way. reach_more xs y z v u way e) way

-- where a token leads beyond d, it is the first that does
pub too_nested : (d : ℕ) (used : List Seen) (x : Seen) (z y : State) → reach used begun ≡ Some z → lowest z ≤ d → step_at z.1 z.0 x.kind x.at ≡ Some y
    → d < lowest y → TooNested d (kinds used) x.kind
too_nested d used x z y way l step over =
    let more = reach_more used x begun z y way step in
    let same = kinds_more used (x ∷ []) in (
      begins_within d used z way l,
      subst Begins same (begins_at (used ++ x ∷ []) y more),
      λ b.
          none_within d (used ++ x ∷ []) y more over (subst (BeginsWithin d) (sym same) b),
    )
