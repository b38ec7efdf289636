-- The machine reads the modules of the grammar and no other tokens, and stops where no module goes on.
use Rattle.std.proofs.Common.{◌≡◌, ◌≢◌, List, [], ◌∷◌, ◌++◌, Option, Some, None, IfSome, option_and_then, refl, sym, ap, ◌∙◌, arith, subst, append_assoc}
use Rattle.ddl_base.specs.declared.span.Span.{Span}
use Rattle.ddl_token.specs.declared.token.Tok.{Tok}
use Rattle.ddl_tree.specs.declared.name.ByteLit.{ByteLit}
use Rattle.ddl_tree.specs.ClassTree as cls
use Rattle.ddl_tree.specs.ClassTree.{byte_span, class_span}
use Rattle.ddl_tree.specs.ModuleTree as mo
use Rattle.ddl_tree.specs.ModuleTree.{bits_span}
use Rattle.ddl_tree.specs.Print.{byte_token, print_class, print}
use Rattle.ddl_tree.specs.PrintModule.{print_module}
use Rattle.ddl_tree.specs.Grammar.{IsClass, IsExpr}
use Rattle.ddl_tree.specs.GrammarModule.{IsModule}
use Rattle.ddl_reader.specs.Frames.{Frame, Focus, State, Found, FoundType, FoundClass, Head, Sort, Layout, Parted, PartStart, Repeat, Start, Loop, Cases}
use Rattle.ddl_reader.specs.Frames as frame
use Rattle.ddl_tree.specs.Spans.{Places, nowhere, after}
use Rattle.ddl_tree.specs.SpansModule.{placed, StandsAt}
use Rattle.ddl_reader.specs.Frames.{Seen}
use Rattle.ddl_reader.specs.StepClass.{class_done}
use Rattle.ddl_reader.specs.StepDecl.{close_body, close_class_body}
use Rattle.ddl_reader.specs.StepExpr.{closes}
use Rattle.ddl_reader.specs.Answers.{Begins, Unexpected}
use Rattle.ddl_reader.specs.Step.{step_at, whole, finish_class, finish_class_at, finished, finish_body, finish_have, finish, goes, run, begun, parsed, reach}
use Rattle.ddl_reader.specs.Step.{kinds, places, IsStuck}
use Rattle.ddl_reader.specs.Depths.{lowest}
use Rattle.ddl_reader.proofs.Before.{read, here, text}
use Rattle.ddl_reader.proofs.Tokens.{seen}
use Rattle.ddl_reader.proofs.Fits.{wanted, AreFrames, IsFocus, Steps}
use Rattle.ddl_reader.proofs.FineTypes.{class_done_fine}
use Rattle.ddl_reader.proofs.FineExprs.{Closes, closes_fine}
use Rattle.ddl_reader.proofs.FineDecls.{close_body_fine, class_body_fine}
use Rattle.ddl_reader.proofs.Fine.{step_fine}
use Rattle.ddl_reader.proofs.Deep.{AreDeep, IsDeepFocus, Deeps}
use Rattle.ddl_reader.proofs.DeepSteps.{step_deep}
use Rattle.ddl_reader.proofs.CompleteStates.{complete}
use Rattle.ddl_reader.proofs.ReadsModule.{reads_module}

-- ---- the end of the tokens

-- the module is of the grammar, and has been read
record Ends (a : mo.Module) (xs : List Tok) : Type 0 where
  tree : IsModule a
  text : print_module a ≡ xs

pub some_one : (a b : mo.Module) → Some a ≡ Some b → a ≡ b
some_one a b e = cc

whole_ends : (fs : List Frame) (a : mo.Module) → AreFrames fs → whole fs ≡ Some a → Ends a (read fs [])
whole_ends (frame.in_module b n ∷ []) a h e = let same = some_one b a e in record { tree = subst IsModule same h.0; text = ap print_module (sym same) }
whole_ends [] a h e = cc
whole_ends (frame.in_module b n ∷ f ∷ fs) a h e = cc
whole_ends (_ ∷ fs) a h e = cc

class_ends : (fs : List Frame) (c : FoundClass) (a : mo.Module) → AreFrames fs → IsClass c.class → finish_class fs c ≡ Some a
    → Ends a (read fs (print_class c.class []))
class_ends (frame.in_class_body s y ∷ fs) c a h i e =
    let g = class_body_fine s y c fs h.4 h.1 i in
    let w = whole_ends (close_class_body s y c fs) a g.1 e in
    record { tree = w.tree; text = w.text ∙ g.0 [] }
class_ends [] c a h i e = cc
class_ends (_ ∷ fs) c a h i e = cc

class_ends_at : (fs : List Frame) (f : Focus) (a : mo.Module) → AreFrames fs → IsFocus fs f → finish_class_at (fs, f) ≡ Some a → Ends a (read fs (here f []))
class_ends_at fs (frame.have_class c) a h i e = class_ends fs c a h i.0 e
class_ends_at fs _ a h i e = cc

body_ends : (f : Frame) (fs : List Frame) (x : Found) (a : mo.Module) → AreFrames (f ∷ fs) → IsExpr x.expr → finish_body f x fs ≡ Some a
    → Ends a (read (f ∷ fs) (print x.expr []))
body_ends (frame.in_body d t n) fs x a h i e =
    let g = close_body_fine d t n x fs h.4 h.1 i in
    let w = whole_ends (close_body d t n x fs) a g.1 e in
    record { tree = w.tree; text = w.text ∙ g.0 [] }
body_ends _ fs x a h i e = cc

finished_ends : (f : Frame) (fs : List Frame) (x : Found) (a : mo.Module) (o : Option Found) (on : Found → Option mo.Module) (other : Option mo.Module)
    → IfSome o (λ u. Closes f x u)
    → ((u : Found) → Closes f x u → on u ≡ Some a → Ends a (read fs (print u.expr []))) → (other ≡ Some a → Ends a (read (f ∷ fs) (print x.expr [])))
    → finished o on other ≡ Some a → Ends a (read (f ∷ fs) (print x.expr []))
finished_ends f fs x a None on other h go stay e = stay e
finished_ends f fs x a (Some u) on other h go stay e = let w = go u h e in record { tree = w.tree; text = w.text ∙ ap (read fs) (h.text []) }

have_ends : (fs : List Frame) (x : Found) (a : mo.Module) → AreFrames fs → IsFocus fs (frame.have x) → finish_have fs x ≡ Some a
    → Ends a (read fs (print x.expr []))
have_ends [] x a h i e = cc
have_ends (f ∷ fs) x a h i e =
    finished_ends f fs x a (closes f x) (λ u. finish_have fs u) (finish_body f x fs) (closes_fine f x h.0 i.0 i.2)
    (λ u c e. have_ends fs u a h.4 (c.tree, h.1 ∙ c.kind, let at = c.at in let reach = h.2 in omega arith) e)
    (λ e. body_ends f fs x a h i.0 e) e

byte_ends : (fs : List Frame) (b : ByteLit) (a : mo.Module) → AreFrames fs → wanted fs ≡ 3 → finish_class_at (class_done fs (cls.One b) 1) ≡ Some a
    → Ends a (read fs (byte_token b ∷ []))
byte_ends fs b a h w e =
    let g = class_done_fine fs (cls.One b) 1 h w tt (omega arith) in
    let z = class_done fs (cls.One b) 1 in
    let v = class_ends_at z.0 z.1 a g.1 g.2 e in
    record { tree = v.tree; text = v.text ∙ g.0 [] }

ends_well : (f : Focus) (fs : List Frame) (a : mo.Module) → AreFrames fs → IsFocus fs f → finish f fs ≡ Some a → Ends a (read fs (here f []))
ends_well frame.at_import fs a h i e = whole_ends fs a h e
ends_well frame.at_decl fs a h i e = whole_ends fs a h e
ends_well (frame.have x) fs a h i e = have_ends fs x a h i e
ends_well (frame.have_class c) fs a h i e = class_ends fs c a h i.0 e
ends_well (frame.have_byte b) fs a h i e = byte_ends fs b a h i e
ends_well _ fs a h i e = cc

-- ---- what is read is a module

sound_step : (x : Seen) (xs : List Seen) (z : State) (a : mo.Module) (o : Option State) → Steps z.0 z.1 x.kind o
    → ((y : State) → AreFrames y.0 → IsFocus y.0 y.1 → run xs y ≡ Some a → Ends a (text y (kinds xs))) → goes (run xs) o ≡ Some a
    → Ends a (text z (x.kind ∷ kinds xs))
sound_step x xs z a None s go e = cc
sound_step x xs z a (Some y) s go e = let w = go y s.1 s.2 e in record { tree = w.tree; text = w.text ∙ s.0 (kinds xs) }

sound : (xs : List Seen) (z : State) (a : mo.Module) → AreFrames z.0 → IsFocus z.0 z.1 → run xs z ≡ Some a → Ends a (text z (kinds xs))
sound [] z a h i e = ends_well z.1 z.0 a h i e
sound (x ∷ xs) z a h i e = sound_step x xs z a (step_at z.1 z.0 x.kind x.at) (step_fine z.1 z.0 x.kind x.at h i) (λ y h i e. sound xs y a h i e) e

pub begun_frames : AreFrames begun.0
begun_frames = (tt, refl, omega arith, tt, tt)

pub begun_focus : IsFocus begun.0 begun.1
begun_focus = (refl, refl)

pub begun_deep : AreDeep begun.0
begun_deep = (refl, tt)

seen_again : (xs : List Seen) (s : Span) → seen (kinds xs) (record { last = s; rest = places xs }) ≡ xs
seen_again [] s = refl
seen_again (x ∷ xs) s = ap (λ ys. x ∷ ys) (seen_again xs x.at)

-- the tokens of a module of the grammar are read to it, each part where its tokens stand
pub reads_all : (xs : List Seen) (a : mo.Module) → IsModule a → print_module a ≡ kinds xs → parsed xs ≡ Some (placed a (places xs))
reads_all xs a i e =
    ap parsed (sym (seen_again xs nowhere))
    ∙ ap (λ ks. parsed (seen ks (record { last = nowhere; rest = places xs }))) (sym e)
    ∙ reads_module a i (places xs)

-- what is read is a module of the grammar with these tokens, each part where its tokens stand
pub reads_modules : (xs : List Seen) (a : mo.Module) → parsed xs ≡ Some a → IsModule a × (print_module a ≡ kinds xs) × StandsAt a (places xs)
reads_modules xs a e =
    let w = sound xs begun a begun_frames begun_focus e in
    (w.tree, w.text, some_one (placed a (places xs)) a (sym (reads_all xs a w.tree w.text) ∙ e))

-- ---- where it stops

pub record Reached (xs : List Seen) (z y : State) : Type 0 where
  pub frames : AreFrames y.0
  pub focus : IsFocus y.0 y.1
  pub deep : AreDeep y.0
  pub deep_focus : IsDeepFocus y.1
  pub text : (r : List Tok) → read y.0 (here y.1 r) ≡ read z.0 (here z.1 (kinds xs ++ r))

reached_step : (x : Seen) (xs : List Seen) (z y : State) (o : Option State) → Steps z.0 z.1 x.kind o → Deeps (lowest z) o
    → ((v : State) → AreFrames v.0 → IsFocus v.0 v.1 → AreDeep v.0 → IsDeepFocus v.1 → reach xs v ≡ Some y → Reached xs v y)
    → option_and_then (reach xs) o ≡ Some y → Reached (x ∷ xs) z y
reached_step x xs z y None s d go e = cc
reached_step x xs z y (Some v) s d go e =
    let w = go v s.1 s.2 d.0 d.1 e in
    record { frames = w.frames; focus = w.focus; deep = w.deep; deep_focus = w.deep_focus; text = λ r. w.text r ∙ s.0 (kinds xs ++ r) }

pub some_state : (z y : State) → Some z ≡ Some y → z ≡ y
some_state z y e = cc

reached : (xs : List Seen) (z y : State) → AreFrames z.0 → IsFocus z.0 z.1 → AreDeep z.0 → IsDeepFocus z.1 → reach xs z ≡ Some y → Reached xs z y
reached [] z y h i d g e =
    let same = some_state z y e in
    record {
      frames = subst (λ y. AreFrames y.0) same h;
      focus = subst (λ y. IsFocus y.0 y.1) same i;
      deep = subst (λ y. AreDeep y.0) same d;
      deep_focus = subst (λ y. IsDeepFocus y.1) same g;
      text = λ r. ap (λ y. read y.0 (here y.1 r)) (sym same);
    }
reached (x ∷ xs) z y h i d g e =
    reached_step x xs z y (step_at z.1 z.0 x.kind x.at) (step_fine z.1 z.0 x.kind x.at h i) (step_deep z.1 z.0 x.kind x.at h i d g) (λ v h i d g e.
    reached xs v y h i d g e) e

pub reached_begun : (used : List Seen) (y : State) → reach used begun ≡ Some y → Reached used begun y
reached_begun used y e = reached used begun y begun_frames begun_focus begun_deep tt e

-- tokens that the machine takes are the first of a module
pub begins_at : (used : List Seen) (y : State) → reach used begun ≡ Some y → Begins (kinds used)
begins_at used y e =
    let w = reached_begun used y e in
    let c = complete y.1 y.0 w.frames w.focus w.deep w.deep_focus in
    (c.0, c.1, c.2, c.3 ∙ w.text c.1)

run_reach_step : (x : Seen) (xs more : List Seen) (y : State) (o : Option State) → ((v : State) → reach xs v ≡ Some y → run (xs ++ more) v ≡ run more y)
    → option_and_then (reach xs) o ≡ Some y → goes (run (xs ++ more)) o ≡ run more y
run_reach_step x xs more y None go e = cc
run_reach_step x xs more y (Some v) go e = go v e

pub run_reach : (xs more : List Seen) (z y : State) → reach xs z ≡ Some y → run (xs ++ more) z ≡ run more y
run_reach [] more z y e = ap (run more) (some_state z y e)
run_reach (x ∷ xs) more z y e = run_reach_step x xs more y (step_at z.1 z.0 x.kind x.at) (λ v e. run_reach xs more v y e) e

pub kinds_more : (xs ys : List Seen) → kinds (xs ++ ys) ≡ kinds xs ++ kinds ys
kinds_more [] ys = refl
kinds_more (x ∷ xs) ys = ap (λ ks. x.kind ∷ ks) (kinds_more xs ys)

pub kinds_seen : (ks : List Tok) (p : Places) → kinds (seen ks p) ≡ ks
kinds_seen [] p = refl
kinds_seen (x ∷ ks) p = ap (λ ks. x ∷ ks) (kinds_seen ks (after p))

no_module : (a : mo.Module) → None ≡ Some a → ⊥
no_module a e = cc

-- where the machine takes no token, no module goes on so
pub stops_at : (used : List Seen) (x : Seen) (y : State) → reach used begun ≡ Some y → step_at y.1 y.0 x.kind x.at ≡ None → Begins (kinds used ++ x.kind ∷ [])
    → ⊥
stops_at used x y way stuck b =
    let tail = seen b.1 (record { last = nowhere; rest = [] }) in
    let all = used ++ x ∷ tail in
    let same : print_module b.0 ≡ kinds all = b.3 ∙ append_assoc (kinds used) (x.kind ∷ []) b.1
    ∙ ap (λ ks. kinds used ++ x.kind ∷ ks) (sym (kinds_seen b.1 (record { last = nowhere; rest = [] }))) ∙ sym (kinds_more used (x ∷ tail)) in
    no_module (placed b.0 (places all)) (sym (ap (goes (run tail)) stuck) ∙ sym (run_reach used (x ∷ tail) begun y way) ∙ reads_all all b.0 b.2 same)

append_none : (xs : List Seen) → xs ++ [] ≡ xs
append_none [] = refl
append_none (x ∷ xs) = ap (λ ys. x ∷ ys) (append_none xs)

-- where the machine does not end, the tokens are those of no module
pub ends_at : (xs : List Seen) (y : State) → reach xs begun ≡ Some y → finish y.1 y.0 ≡ None → (a : mo.Module) → IsModule a → print_module a ≢ kinds xs
ends_at xs y way stuck a i = λ e. no_module (placed a (places xs)) (sym stuck ∙ sym (run_reach xs [] begun y way) ∙ ap (λ ys. run ys begun) (append_none xs)
    ∙ reads_all xs a i e)

-- it reads each module that stands at these places
pub reads_each : (xs : List Seen) (a : mo.Module) → IsModule a → print_module a ≡ kinds xs → StandsAt a (places xs) → parsed xs ≡ Some a
reads_each xs a i e s = reads_all xs a i e ∙ ap (λ b. Some b) s

pub unexpected : (used rest : List Seen) (z : State) → reach used begun ≡ Some z → IsStuck z rest → Unexpected (kinds used) (kinds rest)
unexpected used [] z way stuck = ends_at used z way stuck
unexpected used (x ∷ rest) z way stuck = stops_at used x z way stuck
