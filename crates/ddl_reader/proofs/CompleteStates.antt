-- Each state can be completed to a module that is no deeper than it has to be.
use Rattle.std.proofs.Common.{◌≡◌, ℕ, ◌+◌, ◌≤◌, max, List, [], ◌∷◌, ◌++◌, Some, None, refl, ◌∙◌, arith, subst}
use Rattle.std.specs.Prelude.{codes}
use Rattle.ddl_base.specs.declared.span.Span.{Span}
use Rattle.ddl_token.specs.declared.token.Base.TheVariants.{Decimal, Binary}
use Rattle.ddl_token.specs.declared.token.Tok.{Tok}
use Rattle.ddl_token.specs.declared.token.Tok.TheVariants as k
use Rattle.ddl_token.specs.declared.word.Word.TheVariants as w
use Rattle.ddl_token.specs.declared.mark.Mark.TheVariants as m
use Rattle.ddl_tree.specs.declared.name.Name.{Name}
use Rattle.ddl_tree.specs.declared.name.ByteLit.{ByteLit}
use Rattle.ddl_tree.specs.declared.name.ByteLit.TheVariants.{Quoted}
use Rattle.ddl_tree.specs.declared.pattern.Names.{Names}
use Rattle.ddl_tree.specs.declared.pattern.Pat.{Pat}
use Rattle.ddl_tree.specs.declared.pattern.Pat.TheVariants as pat
use Rattle.ddl_tree.specs.declared.pattern.Binder.TheVariants.{Ignored}
use Rattle.ddl_tree.specs.declared.pattern.Shape.TheVariants.{IsTrue}
use Rattle.ddl_tree.specs.TypeTree as ty
use Rattle.ddl_tree.specs.TypeTree.{type_span}
use Rattle.ddl_tree.specs.ClassTree as cls
use Rattle.ddl_tree.specs.ClassTree.{byte_span, class_span}
use Rattle.ddl_tree.specs.ExprTree as ex
use Rattle.ddl_tree.specs.ExprTree.{expr_span}
use Rattle.ddl_tree.specs.ModuleTree as mo
use Rattle.ddl_tree.specs.ModuleTree.{bits_span}
use Rattle.ddl_tree.specs.Depth.{class_depth, bits_depth, decl_depth}
use Rattle.ddl_tree.specs.Print.{print_type, print_class, print}
use Rattle.ddl_tree.specs.PrintModule.{print_bits, print_decl}
use Rattle.ddl_tree.specs.Grammar.{class_level, IsClass}
use Rattle.ddl_tree.specs.GrammarModule.{IsBits}
use Rattle.ddl_reader.specs.Frames.{Frame, Focus, State, Found, FoundType, FoundClass, Head, Sort, Layout, Parted, PartStart, Repeat, Start, Loop, Cases}
use Rattle.ddl_reader.specs.Frames as frame
use Rattle.ddl_reader.specs.StepType.{joined, found, found_type}
use Rattle.ddl_tree.specs.Spans.{nowhere}
use Rattle.ddl_reader.specs.StepClass.{found_class}
use Rattle.ddl_reader.specs.StepParts.{two_names}
use Rattle.ddl_reader.specs.StepLists.{no_cases}
use Rattle.ddl_reader.specs.StepDecl.{with_decl, with_import, head_of, with_param, typed_param, close_class_body, con_of, bits_done, with_part, part_of}
use Rattle.ddl_reader.specs.Step.{step_at}
use Rattle.ddl_reader.specs.Depths.{layout_deep, low, need, lowest}
use Rattle.ddl_reader.proofs.Before.{here, layout_tokens}
use Rattle.ddl_reader.proofs.Deep.{IsDeepLayout, AreDeep, IsDeepFocus, Deeps, low_grows, type_some}
use Rattle.ddl_reader.proofs.DeepDecls.{import_least, class_body_deep, bits_done_deep, bits_done_least, typed_part_deep}
use Rattle.ddl_reader.proofs.DeepSteps.{step_deep}
use Rattle.ddl_reader.proofs.Classes.{IsClassHole}
use Rattle.ddl_reader.proofs.Fits.{wanted, AreFrames, IsFocus, Reads, Steps}
use Rattle.ddl_reader.proofs.FineDecls.{class_body_fine, bits_done_fine, typed_part_fine}
use Rattle.ddl_reader.proofs.Fine.{step_fine}
use Rattle.ddl_reader.proofs.Complete.{Completion, after_more, complete_between, complete_decl, complete_expr}

abbrev a_name : Name
a_name = record { text = codes "x"; span = nowhere }

abbrev an_upper : Name
an_upper = record { text = codes "X"; span = nowhere }

-- after a token that the machine takes, which makes the module no deeper
by_token : (f : Focus) (fs : List Frame) (x : Tok) (o : State) → step_at f fs x nowhere ≡ Some o → AreFrames fs → IsFocus fs f → AreDeep fs → IsDeepFocus f
    → lowest o ≤ low fs (need fs f)
    → (AreFrames o.0 → IsFocus o.0 o.1 → AreDeep o.0 → IsDeepFocus o.1 → Completion o.0 (need o.0 o.1) (here o.1)) → Completion fs (need fs f) (here f)
by_token f fs x o way h i d e least go =
    let s : Steps fs f x (Some o) = subst (Steps fs f x) way (step_fine f fs x nowhere h i) in
    let v : Deeps (low fs (need fs f)) (Some o) = subst (Deeps (low fs (need fs f))) way (step_deep f fs x nowhere h i d e) in
    let c = go s.1 s.2 v.0 v.1 in
    let b = c.4 in
    (c.0, x ∷ c.1, c.2, c.3 ∙ s.0 c.1, omega arith)

-- after a state that has read the same, and makes the module no deeper
by_state : (fs : List Frame) (n : ℕ) (g : List Tok → List Tok) (o : State) → Reads fs g o → lowest o ≤ low fs n → Completion o.0 (need o.0 o.1) (here o.1)
    → Completion fs n g
by_state fs n g o s least c = let b = c.4 in (c.0, c.1, c.2, c.3 ∙ s.0 c.1, omega arith)

complete_have : (fs : List Frame) (a : Found) → AreFrames fs → IsFocus fs (frame.have a) → AreDeep fs → IsDeepFocus (frame.have a)
    → Completion fs (need fs (frame.have a)) (here (frame.have a))
complete_have fs a h i d e = complete_expr fs a h i d e

complete_want : (fs : List Frame) → AreFrames fs → IsFocus fs frame.want → AreDeep fs → IsDeepFocus frame.want
    → Completion fs (need fs frame.want) (here frame.want)
complete_want (frame.in_array s [] n ∷ fs) h i d e =
    let least = low_grows fs 1 (1 + max n 0) (omega arith) in
    by_token frame.want (frame.in_array s [] n ∷ fs) (k.Mark m.CloseBracket) (fs, frame.have (found (ex.Array ex.no_exprs (joined s nowhere)) 1)) refl h i d e
    (omega arith) (λ h i d e. complete_have fs (found (ex.Array ex.no_exprs (joined s nowhere)) 1) h i d e)
complete_want fs h i d e = by_token frame.want fs (k.Word w.Nothing) (fs, frame.have (found (ex.Nothing nowhere) 1)) refl h i d e (omega arith) (λ h i d e.
    complete_have fs (found (ex.Nothing nowhere) 1) h i d e)

-- ---- declarations

complete_param : (fs : List Frame) (c : Head) → AreFrames fs → IsFocus fs (frame.want_param c) → AreDeep fs → IsDeepFocus (frame.want_param c)
    → Completion fs (need fs (frame.want_param c)) (here (frame.want_param c))
complete_param fs c h i d e = by_token (frame.want_param c) fs (k.Mark m.Equals) (frame.in_body c None 0 ∷ fs, frame.want) refl h i d e (omega arith)
    (λ h i d e. complete_want (frame.in_body c None 0 ∷ fs) h i d e)

complete_after_con : (fs : List Frame) (s : Span) (y : Name) (cs : List mo.Con) (n : ℕ) → AreFrames fs → IsFocus fs (frame.after_con s y cs n) → AreDeep fs
    → IsDeepFocus (frame.after_con s y cs n) → Completion fs (need fs (frame.after_con s y cs n)) (here (frame.after_con s y cs n))
complete_after_con fs s y cs n h i d e = after_more fs fs n (decl_depth (mo.BitsUnion y cs nowhere)) (here (frame.after_con s y cs n))
    (print_decl (mo.BitsUnion y cs nowhere)) (λ r. k.Mark m.CloseBrace ∷ r) (λ r. refl) (low_grows fs (decl_depth (mo.BitsUnion y cs nowhere)) n (omega arith))
    (complete_decl fs (mo.BitsUnion y cs nowhere) h i.1 (i.0.1, i.0.0) d)

-- a layout that has been read whole
complete_bits : (l : Layout) (b : mo.Bits) (n : ℕ) (fs : List Frame) → AreFrames fs → IsFocus fs (frame.want_bits l) → IsBits b → AreDeep fs → IsDeepLayout l
    → n ≡ bits_depth b
    → Completion (bits_done l b n fs).0 (need (bits_done l b n fs).0 (bits_done l b n fs).1) (here (bits_done l b n fs).1)
complete_bits (frame.of_decl s y) b n fs h i j d e same =
    let g = bits_done_fine (frame.of_decl s y) b n fs h i.1 i.0 j in
    let v = bits_done_deep (frame.of_decl s y) b n fs d i.1 e same in
    complete_between (with_decl (mo.BitsDef y b (joined s (bits_span b))) n fs) g.1 g.2 v.0
complete_bits (frame.of_con s y cs z a) b n fs h i j d e same =
    let g = bits_done_fine (frame.of_con s y cs z a) b n fs h i.1 i.0 j in
    let v = bits_done_deep (frame.of_con s y cs z a) b n fs d i.1 e same in
    complete_after_con fs s y (cs ++ con_of z b ∷ []) (max a n) g.1 g.2 v.0 v.1

complete_want_bits : (fs : List Frame) (l : Layout) → AreFrames fs → IsFocus fs (frame.want_bits l) → AreDeep fs → IsDeepFocus (frame.want_bits l)
    → Completion fs (need fs (frame.want_bits l)) (here (frame.want_bits l))
complete_want_bits fs l h i d e =
    let b = mo.Exactly (record { value = 1; base = Binary; digits = 1; span = nowhere }) in
    let least = bits_done_least l b 0 fs d i.1 refl in
    let same = low_grows fs (max (layout_deep l) 0) (layout_deep l) (omega arith) in
    by_token (frame.want_bits l) fs (k.Number 1 Binary 1) (bits_done l b 0 fs) refl h i d e (omega arith) (λ _ _ _ _.
    complete_bits l b 0 fs h i (λ e. cc) d e refl)

complete_after_part : (fs : List Frame) (p : Parted) → AreFrames fs → IsFocus fs (frame.after_part p) → AreDeep fs → IsDeepFocus (frame.after_part p)
    → Completion fs (need fs (frame.after_part p)) (here (frame.after_part p))
complete_after_part fs p h i d e =
    let b = mo.Parts p.parts nowhere in
    let n = p.deep in
    let g = bits_done_fine p.layout b n fs h i.1 i.0.0.0 (i.0.1, i.0.0.1) in
    let least = bits_done_least p.layout b n fs d i.1 e.1 in
    let c = by_state fs (max (layout_deep p.layout) n) (λ r. layout_tokens p.layout (print_bits b r)) (bits_done p.layout b n fs) g least
    (complete_bits p.layout b n fs h (i.0.0.0, i.1) (i.0.1, i.0.0.1) d e.0 e.1) in
    (c.0, k.Mark m.CloseBrace ∷ c.1, c.2, c.3, c.4)

complete_want_part : (fs : List Frame) (p : Parted) → AreFrames fs → IsFocus fs (frame.want_part p) → AreDeep fs → IsDeepFocus (frame.want_part p)
    → Completion fs (need fs (frame.want_part p)) (here (frame.want_part p))
complete_want_part fs p h i d e =
    let q = with_part p (mo.Fixed (record { value = 1; base = Binary; digits = 1; span = nowhere })) 0 in
    let least = low_grows fs (max (layout_deep p.layout) (max p.deep 0)) (max (layout_deep p.layout) p.deep) (omega arith) in
    by_token (frame.want_part p) fs (k.Number 1 Binary 1) (fs, frame.after_part q) refl h i d e least (λ h i d e. complete_after_part fs q h i d e)

-- ---- types

complete_type : (fs : List Frame) (t : FoundType) → AreFrames fs → IsFocus fs (frame.have_type t) → AreDeep fs → IsDeepFocus (frame.have_type t)
    → Completion fs (need fs (frame.have_type t)) (here (frame.have_type t))
complete_type [] t h i d e = absurd (omega arith)
complete_type (frame.in_maybe s ∷ fs) t h i d e = complete_type fs (found_type (ty.Maybe t.type nowhere) (1 + t.deep)) h.4 h.1 d.1 (omega arith)
complete_type (frame.in_bracket s ∷ fs) t h i d e = after_more (frame.in_bracket s ∷ fs) fs t.deep (1 + t.deep) (print_type t.type)
    (print_type (ty.ArrayOf t.type nowhere)) (λ r. k.Mark m.CloseBracket ∷ r) (λ r.
    refl) (omega arith) (complete_type fs (found_type (ty.ArrayOf t.type nowhere) (1 + t.deep)) h.4 h.1 d.1 (omega arith))
complete_type (frame.in_map_value s u ∷ fs) t h i d e = let key =
    d.0 in after_more (frame.in_map_value s u ∷ fs) fs t.deep (1 + max u.deep t.deep) (print_type t.type) (print_type (ty.MapOf u.type t.type nowhere)) (λ r.
    k.Mark m.CloseBracket ∷ r) (λ r. refl) (omega arith) (complete_type fs (found_type (ty.MapOf u.type t.type nowhere) (1 + max u.deep t.deep)) h.4 h.1 d.1
    (omega arith))
complete_type (frame.in_within s ∷ fs) t h i d e = after_more (frame.in_within s ∷ fs) fs t.deep (1 + t.deep) (print_type t.type)
    (print_type (ty.Within t.type nowhere)) (λ r. k.Mark m.CloseParen ∷ r) (λ r.
    refl) (omega arith) (complete_type fs (found_type (ty.Within t.type nowhere) (1 + t.deep)) h.4 h.1 d.1 (omega arith))
complete_type (frame.in_cast o a ∷ fs) t h i d e = let same =
    d.0 in complete_have fs (found (ex.Cast o a.expr t.type nowhere) (1 + max a.deep t.deep)) h.4 (h.0, h.1, h.2) d.1 (omega arith)
complete_type (frame.in_paren_type s a ∷ fs) t h i d e = let same =
    d.0 in after_more (frame.in_paren_type s a ∷ fs) fs t.deep (1 + max a.deep t.deep) (print_type t.type) (print (ex.Paren a.expr (Some t.type) nowhere)) (λ r.
    k.Mark m.CloseParen ∷ r) (λ r. refl) (omega arith) (complete_have fs (found (ex.Paren a.expr (Some t.type) nowhere) (1 + max a.deep t.deep)) h.4 (
      h.0,
      h.1,
      h.2,
    ) d.1 (omega arith))
complete_type (frame.in_param c s o y ∷ fs) t h i d e =
    by_token (frame.have_type t) (frame.in_param c s o y ∷ fs) (k.Mark m.CloseParen) (
      fs,
      frame.want_param (with_param c (typed_param o y t.type (joined s nowhere)) t.deep),
    ) refl h i d e
    (low_grows fs (max (max c.deep t.deep) 1) (max c.deep t.deep) (omega (arith, type_some t.type))) (λ h i d e.
    complete_param fs (with_param c (typed_param o y t.type (joined s nowhere)) t.deep) h i d e)
complete_type (frame.in_result c ∷ fs) t h i d e = by_token (frame.have_type t) (frame.in_result c ∷ fs) (k.Mark m.Equals)
    (frame.in_body c (Some t.type) t.deep ∷ fs, frame.want) refl h i d e
    (low_grows fs (max c.deep (max t.deep 1)) (max c.deep t.deep) (omega (arith, type_some t.type))) (λ h i d e.
    complete_want (frame.in_body c (Some t.type) t.deep ∷ fs) h i d e)
complete_type (frame.in_part p o ∷ fs) t h i d e =
    let q = with_part p (part_of o t.type) t.deep in
    let g = typed_part_fine p o t fs h in
    let v = typed_part_deep p o t fs d.1 d.0 e in
    by_state (frame.in_part p o ∷ fs) t.deep (print_type t.type) (fs, frame.after_part q) g (omega arith) (complete_after_part fs q g.1 g.2 v.0 v.1)
complete_type (_ ∷ fs) t h i d e = absurd (omega arith)

complete_want_type : (fs : List Frame) → AreFrames fs → IsFocus fs frame.want_type → AreDeep fs → IsDeepFocus frame.want_type
    → Completion fs (need fs frame.want_type) (here frame.want_type)
complete_want_type fs h i d e =
    let c = complete_type fs (found_type (ty.Int nowhere) 1) h i d refl in
    (c.0, k.Lower (codes "int") ∷ c.1, c.2, c.3, c.4)

-- ---- classes

-- a class, in its place: a factor anywhere, another where a `|` may go on with it
abbrev Stands : List Frame → cls.Cls → Type 0
Stands (frame.in_other s ∷ fs) c = 2 ≤ class_level c
Stands (frame.in_union a ∷ fs) c = 2 ≤ class_level c
Stands _ c = Unit {0}

factor_stands : (fs : List Frame) (c : cls.Cls) → 2 ≤ class_level c → Stands fs c
factor_stands [] c l = tt
factor_stands (frame.in_other s ∷ fs) c l = l
factor_stands (frame.in_union a ∷ fs) c l = l
factor_stands (_ ∷ fs) c l = tt

hole_stands : (fs : List Frame) (c : cls.Cls) → IsClassHole fs → Stands fs c
hole_stands [] c h = tt
hole_stands (frame.in_other s ∷ fs) c h = absurd h
hole_stands (frame.in_union a ∷ fs) c h = absurd h
hole_stands (_ ∷ fs) c h = tt

hole_wants : (fs : List Frame) → IsClassHole fs → wanted fs ≡ 3
hole_wants [] h = absurd h
hole_wants (frame.in_grouped s ∷ fs) h = refl
hole_wants (frame.in_class_set s ∷ fs) h = refl
hole_wants (frame.in_set s ∷ fs) h = refl
hole_wants (frame.in_class_body s x ∷ fs) h = refl
hole_wants (_ ∷ fs) h = absurd h

complete_class : (fs : List Frame) (c : cls.Cls) (n : ℕ) → AreFrames fs → wanted fs ≡ 3 → IsClass c → Stands fs c → AreDeep fs → n ≡ class_depth c
    → Completion fs n (print_class c)
complete_class [] c n h w i l d e = absurd (omega arith)
complete_class (frame.in_other s ∷ fs) c n h w i l d e =
    complete_class fs (cls.Other c nowhere) (1 + n) h.4 h.1 (i, l) (factor_stands fs (cls.Other c nowhere) (omega arith)) d.1 (omega arith)
complete_class (frame.in_union a ∷ fs) c n h w i l d e = let same =
    d.0 in complete_class fs (cls.Union a.class c nowhere) (1 + max a.deep n) h.4 h.1 (h.0, i, l) (hole_stands fs (cls.Union a.class c nowhere) h.3) d.1
    (omega arith)
complete_class (frame.in_grouped s ∷ fs) c n h w i l d e =
    after_more (frame.in_grouped s ∷ fs) fs n (1 + n) (print_class c) (print_class (cls.Grouped c nowhere)) (λ r. k.Mark m.CloseParen ∷ r) (λ r.
    refl) (omega arith)
    (complete_class fs (cls.Grouped c nowhere) (1 + n) h.4 h.1 i (factor_stands fs (cls.Grouped c nowhere) (omega arith)) d.1 (omega arith))
complete_class (frame.in_class_set s ∷ fs) c n h w i l d e =
    after_more (frame.in_class_set s ∷ fs) fs n (1 + n) (print_class c) (print_class (cls.Set c nowhere)) (λ r. k.Mark m.CloseBracket ∷ r) (λ r.
    refl) (omega arith)
    (complete_class fs (cls.Set c nowhere) (1 + n) h.4 h.1 i (factor_stands fs (cls.Set c nowhere) (omega arith)) d.1 (omega arith))
complete_class (frame.in_set s ∷ fs) c n h w i l d e =
    after_more (frame.in_set s ∷ fs) fs n (1 + n) (print_class c) (print (ex.Set c nowhere)) (λ r. k.Mark m.CloseBracket ∷ r) (λ r. refl) (omega arith)
    (complete_have fs (found (ex.Set c nowhere) (1 + n)) h.4 (i, h.1, h.2) d.1 (omega arith))
complete_class (frame.in_class_body s y ∷ fs) c n h w i l d e =
    let g = class_body_fine s y (found_class c n) fs h.4 h.1 i in
    let v = class_body_deep s y (found_class c n) fs d.1 h.1 e in
    let least = v.least in
    let a = complete_between (close_class_body s y (found_class c n) fs) g.1 g.2 v.frames in
    let b = a.4 in
    (a.0, a.1, a.2, a.3 ∙ g.0 a.1, omega arith)
complete_class (_ ∷ fs) c n h w i l d e = absurd (omega arith)

complete_byte : (fs : List Frame) (b : ByteLit) → AreFrames fs → wanted fs ≡ 3 → AreDeep fs → Completion fs 1 (print_class (cls.One b))
complete_byte fs b h w d = complete_class fs (cls.One b) 1 h w tt (factor_stands fs (cls.One b) (omega arith)) d refl

complete_want_class : (fs : List Frame) → AreFrames fs → wanted fs ≡ 3 → AreDeep fs → Completion fs 1 (here frame.want_class)
complete_want_class fs h w d = let c = complete_byte fs (Quoted 65 nowhere) h w d in (c.0, k.Char 65 ∷ c.1, c.2, c.3, c.4)

complete_range : (fs : List Frame) (b : ByteLit) → AreFrames fs → wanted fs ≡ 3 → AreDeep fs → Completion fs 1 (here (frame.want_last b))
complete_range fs b h w d =
    let c = complete_class fs (cls.Range b (Quoted 65 nowhere) nowhere) 1 h w tt (factor_stands fs (cls.Range b (Quoted 65 nowhere) nowhere) (omega arith)) d
    refl in
    (c.0, k.Char 65 ∷ c.1, c.2, c.3, c.4)

-- ---- loops

-- the list of a loop
complete_in : (l : Loop) (ns : Names) (fs : List Frame) → AreFrames fs → IsFocus fs (frame.loop_in l ns) → AreDeep fs → IsDeepFocus (frame.loop_in l ns)
    → Completion fs (need fs (frame.loop_in l ns)) (here (frame.loop_in l ns))
complete_in (frame.for_from s x i) ns fs h j d e = by_token (frame.loop_in (frame.for_from s x i) ns) fs (k.Word w.In) (
  frame.in_for_list s x i ns ∷ fs,
  frame.want,
) refl h j d e (omega arith) (λ h j d e. complete_want (frame.in_for_list s x i ns ∷ fs) h j d e)
complete_in (frame.map_from s) ns fs h j d e = by_token (frame.loop_in (frame.map_from s) ns) fs (k.Word w.In) (
  frame.in_map_list s ns ∷ fs,
  frame.want,
) refl h j d e (omega arith) (λ h j d e. complete_want (frame.in_map_list s ns ∷ fs) h j d e)

complete_second : (l : Loop) (y : Name) (fs : List Frame) → AreFrames fs → IsFocus fs (frame.loop_second l y) → AreDeep fs → IsDeepFocus (frame.loop_second l y)
    → Completion fs (need fs (frame.loop_second l y)) (here (frame.loop_second l y))
complete_second l y fs h i d e = by_token (frame.loop_second l y) fs (k.Lower (codes "x")) (fs, frame.loop_in l (two_names y a_name)) refl h i d e (omega arith)
    (λ h i d e. complete_in l (two_names y a_name) fs h i d e)

complete_after_first : (l : Loop) (y : Name) (fs : List Frame) → AreFrames fs → IsFocus fs (frame.loop_after_first l y) → AreDeep fs
    → IsDeepFocus (frame.loop_after_first l y) → Completion fs (need fs (frame.loop_after_first l y)) (here (frame.loop_after_first l y))
complete_after_first l y fs h i d e = by_token (frame.loop_after_first l y) fs (k.Mark m.Comma) (fs, frame.loop_second l y) refl h i d e (omega arith)
    (λ h i d e. complete_second l y fs h i d e)

complete_first : (l : Loop) (fs : List Frame) → AreFrames fs → IsFocus fs (frame.loop_first l) → AreDeep fs → IsDeepFocus (frame.loop_first l)
    → Completion fs (need fs (frame.loop_first l)) (here (frame.loop_first l))
complete_first l fs h i d e = by_token (frame.loop_first l) fs (k.Lower (codes "x")) (fs, frame.loop_after_first l a_name) refl h i d e (omega arith)
    (λ h i d e. complete_after_first l a_name fs h i d e)

-- ---- the alternatives of a case

complete_have_pattern : (c : Cases) (p : Pat) (fs : List Frame) → AreFrames fs → IsFocus fs (frame.have_pattern c p) → AreDeep fs
    → IsDeepFocus (frame.have_pattern c p) → Completion fs (need fs (frame.have_pattern c p)) (here (frame.have_pattern c p))
complete_have_pattern c p fs h i d e = by_token (frame.have_pattern c p) fs (k.Mark m.Arrow) (
  frame.in_alt c.from c.subject c.alts c.deep p ∷ fs,
  frame.want,
) refl h i d e (omega arith) (λ h i d e. complete_want (frame.in_alt c.from c.subject c.alts c.deep p ∷ fs) h i d e)

complete_pattern : (c : Cases) (fs : List Frame) → AreFrames fs → IsFocus fs (frame.want_pattern c) → AreDeep fs → IsDeepFocus (frame.want_pattern c)
    → Completion fs (need fs (frame.want_pattern c)) (here (frame.want_pattern c))
complete_pattern c fs h i d e = by_token (frame.want_pattern c) fs (k.Mark m.Underscore) (fs, frame.have_pattern c (pat.Any nowhere)) refl h i d e (omega arith)
    (λ h i d e. complete_have_pattern c (pat.Any nowhere) fs h i d e)

-- ---- constructors and parts

complete_con_equals : (s : Span) (y : Name) (cs : List mo.Con) (n : ℕ) (z : Name) (fs : List Frame) → AreFrames fs → IsFocus fs (frame.con_equals s y cs n z)
    → AreDeep fs → IsDeepFocus (frame.con_equals s y cs n z) → Completion fs (need fs (frame.con_equals s y cs n z)) (here (frame.con_equals s y cs n z))
complete_con_equals s y cs n z fs h i d e = by_token (frame.con_equals s y cs n z) fs (k.Mark m.Equals) (fs, frame.want_bits (frame.of_con s y cs z n)) refl h i
    d e (omega arith) (λ h i d e. complete_want_bits fs (frame.of_con s y cs z n) h i d e)

complete_want_con : (s : Span) (y : Name) (cs : List mo.Con) (n : ℕ) (fs : List Frame) → AreFrames fs → IsFocus fs (frame.want_con s y cs n) → AreDeep fs
    → IsDeepFocus (frame.want_con s y cs n) → Completion fs (need fs (frame.want_con s y cs n)) (here (frame.want_con s y cs n))
complete_want_con s y cs n fs h i d e = by_token (frame.want_con s y cs n) fs (k.Lower (codes "x")) (fs, frame.con_equals s y cs n a_name) refl h i d e
    (omega arith) (λ h i d e. complete_con_equals s y cs n a_name fs h i d e)

complete_after_bits : (s : Span) (y : Name) (fs : List Frame) → AreFrames fs → IsFocus fs (frame.after_bits_name s y) → AreDeep fs
    → IsDeepFocus (frame.after_bits_name s y) → Completion fs (need fs (frame.after_bits_name s y)) (here (frame.after_bits_name s y))
complete_after_bits s y fs h i d e = by_token (frame.after_bits_name s y) fs (k.Mark m.Equals) (fs, frame.want_bits (frame.of_decl s y)) refl h i d e
    (omega arith) (λ h i d e. complete_want_bits fs (frame.of_decl s y) h i d e)

complete_part_colon : (p : Parted) (o : PartStart) (fs : List Frame) → AreFrames fs → IsFocus fs (frame.part_colon p o) → AreDeep fs
    → IsDeepFocus (frame.part_colon p o) → Completion fs (need fs (frame.part_colon p o)) (here (frame.part_colon p o))
complete_part_colon p o fs h i d e = by_token (frame.part_colon p o) fs (k.Mark m.Colon) (frame.in_part p o ∷ fs, frame.want_type) refl h i d e (omega arith)
    (λ h i d e. complete_want_type (frame.in_part p o ∷ fs) h i d e)

complete_param_colon : (c : Head) (s : Span) (o : Sort) (y : Name) (fs : List Frame) → AreFrames fs → IsFocus fs (frame.param_colon c s o y) → AreDeep fs
    → IsDeepFocus (frame.param_colon c s o y) → Completion fs (need fs (frame.param_colon c s o y)) (here (frame.param_colon c s o y))
complete_param_colon c s o y fs h i d e = by_token (frame.param_colon c s o y) fs (k.Mark m.Colon) (frame.in_param c s o y ∷ fs, frame.want_type) refl h i d e
    (omega arith) (λ h i d e. complete_want_type (frame.in_param c s o y ∷ fs) h i d e)

-- ---- lists

complete_record_equals : (s : Span) (bs : List ex.Binding) (n : ℕ) (y : Name) (fs : List Frame) → AreFrames fs → IsFocus fs (frame.record_equals s bs n y)
    → AreDeep fs → IsDeepFocus (frame.record_equals s bs n y) → Completion fs (need fs (frame.record_equals s bs n y)) (here (frame.record_equals s bs n y))
complete_record_equals s bs n y fs h i d e = by_token (frame.record_equals s bs n y) fs (k.Mark m.Equals) (
  frame.in_record s bs n y ∷ fs,
  frame.want,
) refl h i d e (omega arith) (λ h i d e. complete_want (frame.in_record s bs n y ∷ fs) h i d e)

complete_item_equals : (s : Span) (is : List ex.Item) (n : ℕ) (b : Start) (fs : List Frame) → AreFrames fs → IsFocus fs (frame.item_equals s is n b)
    → AreDeep fs → IsDeepFocus (frame.item_equals s is n b) → Completion fs (need fs (frame.item_equals s is n b)) (here (frame.item_equals s is n b))
complete_item_equals s is n b fs h i d e = by_token (frame.item_equals s is n b) fs (k.Mark m.Equals) (
  frame.in_block s is n b ∷ fs,
  frame.want,
) refl h i d e (omega arith) (λ h i d e. complete_want (frame.in_block s is n b ∷ fs) h i d e)

complete_tag_equals : (o : Repeat) (bs : List ex.Binding) (n : ℕ) (y : Name) (fs : List Frame) → AreFrames fs → IsFocus fs (frame.tag_equals o bs n y)
    → AreDeep fs → IsDeepFocus (frame.tag_equals o bs n y) → Completion fs (need fs (frame.tag_equals o bs n y)) (here (frame.tag_equals o bs n y))
complete_tag_equals o bs n y fs h i d e = by_token (frame.tag_equals o bs n y) fs (k.Mark m.Equals) (
  frame.in_with_tags o bs n y ∷ fs,
  frame.want,
) refl h i d e (omega arith) (λ h i d e. complete_want (frame.in_with_tags o bs n y ∷ fs) h i d e)

complete_for_equals : (s : Span) (y : Name) (fs : List Frame) → AreFrames fs → IsFocus fs (frame.for_equals s y) → AreDeep fs
    → IsDeepFocus (frame.for_equals s y) → Completion fs (need fs (frame.for_equals s y)) (here (frame.for_equals s y))
complete_for_equals s y fs h i d e = by_token (frame.for_equals s y) fs (k.Mark m.Equals) (frame.in_for_start s y ∷ fs, frame.want) refl h i d e (omega arith)
    (λ h i d e. complete_want (frame.in_for_start s y ∷ fs) h i d e)

complete_for_name : (s : Span) (fs : List Frame) → AreFrames fs → IsFocus fs (frame.for_name s) → AreDeep fs → IsDeepFocus (frame.for_name s)
    → Completion fs (need fs (frame.for_name s)) (here (frame.for_name s))
complete_for_name s fs h i d e = by_token (frame.for_name s) fs (k.Lower (codes "x")) (fs, frame.for_equals s a_name) refl h i d e (omega arith) (λ h i d e.
    complete_for_equals s a_name fs h i d e)

complete_after_tag : (s : Span) (y : Name) (fs : List Frame) → AreFrames fs → IsFocus fs (frame.after_tag s y) → AreDeep fs → IsDeepFocus (frame.after_tag s y)
    → Completion fs (need fs (frame.after_tag s y)) (here (frame.after_tag s y))
complete_after_tag s y fs h i d e = by_token (frame.after_tag s y) fs (k.Mark m.CloseUnion) (fs, frame.have (found (ex.Tag y (joined s nowhere)) 1)) refl h i d
    e (omega arith) (λ h i d e. complete_have fs (found (ex.Tag y (joined s nowhere)) 1) h i d e)

-- ---- every state

pub complete : (f : Focus) (fs : List Frame) → AreFrames fs → IsFocus fs f → AreDeep fs → IsDeepFocus f → Completion fs (need fs f) (here f)
complete frame.at_import fs h i d e = complete_between fs h i.0 d
complete frame.at_decl fs h i d e = complete_between fs h i d
complete frame.want_type fs h i d e = complete_want_type fs h i d e
complete (frame.have_type t) fs h i d e = complete_type fs t h i d e
complete (frame.want_uint s) fs h i d e = let c = complete_type fs
    (found_type (ty.Uint (record { value = 8; base = Decimal; digits = 1; span = nowhere }) nowhere) 1) h i d refl
    in (c.0, k.Number 8 Decimal 1 ∷ c.1, c.2, c.3, c.4)
complete (frame.want_sint s) fs h i d e = let c = complete_type fs
    (found_type (ty.Sint (record { value = 8; base = Decimal; digits = 1; span = nowhere }) nowhere) 1) h i d refl
    in (c.0, k.Number 8 Decimal 1 ∷ c.1, c.2, c.3, c.4)
complete (frame.open_empty s) fs h i d e = let c = complete_type fs (found_type (ty.Empty nowhere) 1) h i d refl
    in (c.0, k.Mark m.CloseBrace ∷ c.1, c.2, c.3, c.4)
complete frame.want_class fs h i d e = complete_want_class fs h i d
complete (frame.have_class c) fs h i d e = complete_class fs c.class c.deep h (hole_wants fs i.1) i.0 (hole_stands fs c.class i.1) d e
complete (frame.have_byte b) fs h i d e = complete_byte fs b h i d
complete (frame.want_last b) fs h i d e = complete_range fs b h i d
complete frame.want fs h i d e = complete_want fs h i d e
complete (frame.have a) fs h i d e = complete_have fs a h i d e
complete (frame.open_for s) fs h i d e = by_token (frame.open_for s) fs (k.Mark m.OpenParen) (fs, frame.for_name s) refl h i d e (omega arith) (λ h i d e.
    complete_for_name s fs h i d e)
complete (frame.for_name s) fs h i d e = complete_for_name s fs h i d e
complete (frame.for_equals s x) fs h i d e = complete_for_equals s x fs h i d e
complete (frame.open_map s) fs h i d e = by_token (frame.open_map s) fs (k.Mark m.OpenParen) (fs, frame.loop_first (frame.map_from s)) refl h i d e
    (omega arith) (λ h i d e. complete_first (frame.map_from s) fs h i d e)
complete (frame.loop_first l) fs h i d e = complete_first l fs h i d e
complete (frame.loop_after_first l x) fs h i d e = complete_after_first l x fs h i d e
complete (frame.loop_second l x) fs h i d e = complete_second l x fs h i d e
complete (frame.loop_in l ns) fs h i d e = complete_in l ns fs h i d e
complete (frame.want_shape a) fs h i d e = by_token (frame.want_shape a) fs (k.Word w.True) (
  fs,
  frame.have (found (ex.Is a.expr (IsTrue nowhere) (joined (expr_span a.expr) nowhere)) (1 + a.deep)),
) refl h i d e (omega arith) (λ h i d e.
    complete_have fs (found (ex.Is a.expr (IsTrue nowhere) (joined (expr_span a.expr) nowhere)) (1 + a.deep)) h i d e)
complete (frame.want_field a) fs h i d e = by_token (frame.want_field a) fs (k.Lower (codes "x")) (
  fs,
  frame.have (found (ex.Select a.expr a_name (joined (expr_span a.expr) nowhere)) (1 + a.deep)),
) refl h i d e (omega arith) (λ h i d e.
    complete_have fs (found (ex.Select a.expr a_name (joined (expr_span a.expr) nowhere)) (1 + a.deep)) h i d e)
complete (frame.first_of_record s) fs h i d e = by_token (frame.first_of_record s) fs (k.Mark m.CloseBrace) (
  fs,
  frame.have (found (ex.RecordOf ex.no_bindings (joined s nowhere)) 1),
) refl h i d e (omega arith) (λ h i d e.
    complete_have fs (found (ex.RecordOf ex.no_bindings (joined s nowhere)) 1) h i d e)
complete (frame.next_of_record s bs n) fs h i d e = by_token (frame.next_of_record s bs n) fs (k.Lower (codes "x")) (fs, frame.record_equals s bs n a_name) refl
    h i d e (omega arith) (λ h i d e. complete_record_equals s bs n a_name fs h i d e)
complete (frame.record_equals s bs n x) fs h i d e = complete_record_equals s bs n x fs h i d e
complete (frame.open_tagged s) fs h i d e = by_token (frame.open_tagged s) fs (k.Lower (codes "x")) (fs, frame.after_tag s a_name) refl h i d e (omega arith)
    (λ h i d e. complete_after_tag s a_name fs h i d e)
complete (frame.after_tag s x) fs h i d e = complete_after_tag s x fs h i d e
complete (frame.open_block s) fs h i d e = by_token (frame.open_block s) fs (k.Mark m.OpenBrace) (
  frame.in_block s [] 0 frame.plainly ∷ fs,
  frame.want,
) refl h i d e (omega arith) (λ h i d e. complete_want (frame.in_block s [] 0 frame.plainly ∷ fs) h i d e)
complete (frame.item_equals s is n b) fs h i d e = complete_item_equals s is n b fs h i d e
complete (frame.let_name s is n t) fs h i d e = by_token (frame.let_name s is n t) fs (k.Lower (codes "x")) (
  fs,
  frame.item_equals s is n (frame.let_from t a_name),
) refl h i d e (omega arith) (λ h i d e. complete_item_equals s is n (frame.let_from t a_name) fs h i d e)
complete (frame.open_choice o) fs h i d e = by_token (frame.open_choice o) fs (k.Mark m.OpenBrace) (
  frame.in_untagged o [] 0 ∷ fs,
  frame.want,
) refl h i d e (omega arith) (λ h i d e. complete_want (frame.in_untagged o [] 0 ∷ fs) h i d e)
complete (frame.want_tag o bs n) fs h i d e = by_token (frame.want_tag o bs n) fs (k.Lower (codes "x")) (fs, frame.tag_equals o bs n a_name) refl h i d e
    (omega arith) (λ h i d e. complete_tag_equals o bs n a_name fs h i d e)
complete (frame.tag_equals o bs n x) fs h i d e = complete_tag_equals o bs n x fs h i d e
complete (frame.open_case s a) fs h i d e = by_token (frame.open_case s a) fs (k.Mark m.OpenBrace) (fs, frame.want_pattern (no_cases s a)) refl h i d e
    (omega arith) (λ h i d e. complete_pattern (no_cases s a) fs h i d e)
complete (frame.want_pattern c) fs h i d e = complete_pattern c fs h i d e
complete (frame.pattern_just c s) fs h i d e = by_token (frame.pattern_just c s) fs (k.Mark m.Underscore) (
  fs,
  frame.have_pattern c (pat.Just (Ignored nowhere) (joined s nowhere)),
) refl h i d e (omega arith) (λ h i d e.
    complete_have_pattern c (pat.Just (Ignored nowhere) (joined s nowhere)) fs h i d e)
complete (frame.pattern_tag c x) fs h i d e = by_token (frame.pattern_tag c x) fs (k.Mark m.Underscore) (
  fs,
  frame.have_pattern c (pat.Tag x (Some (Ignored nowhere)) (joined x.span nowhere)),
) refl h i d e (omega arith) (λ h i d e.
    complete_have_pattern c (pat.Tag x (Some (Ignored nowhere)) (joined x.span nowhere)) fs h i d e)
complete (frame.have_pattern c p) fs h i d e = complete_have_pattern c p fs h i d e
complete (frame.want_import s) fs h i d e = by_token (frame.want_import s) fs (k.Upper (codes "X"))
    (with_import (record { name = an_upper; span = joined s nowhere }) fs, frame.at_import) refl h i d e
    (import_least (record { name = an_upper; span = joined s nowhere }) fs) (λ h i d e.
    complete_between (with_import (record { name = an_upper; span = joined s nowhere }) fs) h i.0 d)
complete (frame.want_name s) fs h i d e = by_token (frame.want_name s) fs (k.Upper (codes "X")) (fs, frame.want_param (head_of s frame.of_grammar an_upper))
    refl h i d e (omega arith) (λ h i d e. complete_param fs (head_of s frame.of_grammar an_upper) h i d e)
complete (frame.want_param c) fs h i d e = complete_param fs c h i d e
complete (frame.open_param c s) fs h i d e = by_token (frame.open_param c s) fs (k.Upper (codes "X")) (fs, frame.param_colon c s frame.of_grammar an_upper) refl
    h i d e (omega arith) (λ h i d e. complete_param_colon c s frame.of_grammar an_upper fs h i d e)
complete (frame.param_colon c s o x) fs h i d e = complete_param_colon c s o x fs h i d e
complete (frame.class_equals s x) fs h i d e = by_token (frame.class_equals s x) fs (k.Mark m.Equals) (frame.in_class_body s x ∷ fs, frame.want_class) refl h i
    d e (omega arith) (λ h i d e. complete_want_class (frame.in_class_body s x ∷ fs) h i d)
complete (frame.want_bits_name s) fs h i d e = by_token (frame.want_bits_name s) fs (k.Upper (codes "X")) (fs, frame.after_bits_name s an_upper) refl h i d e
    (omega arith) (λ h i d e. complete_after_bits s an_upper fs h i d e)
complete (frame.after_bits_name s x) fs h i d e = complete_after_bits s x fs h i d e
complete (frame.open_cons s x) fs h i d e = by_token (frame.open_cons s x) fs (k.Mark m.OpenBrace) (fs, frame.want_con s x [] 0) refl h i d e (omega arith)
    (λ h i d e. complete_want_con s x [] 0 fs h i d e)
complete (frame.want_con s x cs n) fs h i d e = complete_want_con s x cs n fs h i d e
complete (frame.con_equals s x cs n y) fs h i d e = complete_con_equals s x cs n y fs h i d e
complete (frame.after_con s x cs n) fs h i d e = complete_after_con fs s x cs n h i d e
complete (frame.want_bits l) fs h i d e = complete_want_bits fs l h i d e
complete (frame.want_part p) fs h i d e = complete_want_part fs p h i d e
complete (frame.after_part p) fs h i d e = complete_after_part fs p h i d e
complete (frame.part_colon p o) fs h i d e = complete_part_colon p o fs h i d e
