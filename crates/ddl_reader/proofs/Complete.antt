-- What has been read can always be completed to a module that is no deeper than it has to be.
use Rattle.std.proofs.Common.{◌≡◌, ℕ, ◌+◌, ◌≤◌, max, List, [], ◌∷◌, Option, Some, None, unwrap_or, refl, ap, ◌∙◌, arith}
use Rattle.std.specs.Prelude.{codes}
use Rattle.ddl_token.specs.declared.token.Tok.{Tok}
use Rattle.ddl_token.specs.declared.token.Tok.TheVariants as k
use Rattle.ddl_token.specs.declared.word.Word.TheVariants as w
use Rattle.ddl_token.specs.declared.mark.Mark.TheVariants as m
use Rattle.ddl_tree.specs.declared.name.Name.{Name}
use Rattle.ddl_tree.specs.declared.pattern.Names.{Names}
use Rattle.ddl_tree.specs.declared.pattern.Pat.TheVariants as pat
use Rattle.ddl_tree.specs.ExprTree as ex
use Rattle.ddl_tree.specs.ExprTree.{expr_span}
use Rattle.ddl_tree.specs.ModuleTree as mo
use Rattle.ddl_tree.specs.ModuleTree.{bits_span}
use Rattle.ddl_tree.specs.Depth.{depth, decl_depth, module_depth}
use Rattle.ddl_tree.specs.Print.{print}
use Rattle.ddl_tree.specs.PrintModule.{print_decl, print_module}
use Rattle.ddl_tree.specs.GrammarModule.{IsDecl, IsModule}
use Rattle.ddl_reader.specs.Frames.{Frame, Focus, State, Found, FoundType, FoundClass, Head, Sort, Layout, Parted, PartStart, Repeat, Start, Loop, Cases}
use Rattle.ddl_reader.specs.Frames as frame
use Rattle.ddl_reader.specs.StepType.{found}
use Rattle.ddl_tree.specs.Spans.{nowhere}
use Rattle.ddl_reader.specs.StepExpr.{closes}
use Rattle.ddl_reader.specs.StepParts.{after_paren, after_array, after_field, after_tagged}
use Rattle.ddl_reader.specs.StepLists.{after_item, after_untagged, after_with_tags, after_alt}
use Rattle.ddl_reader.specs.StepDecl.{with_decl, close_body}
use Rattle.ddl_reader.specs.Depths.{around_in, low}
use Rattle.ddl_reader.proofs.Before.{read}
use Rattle.ddl_reader.proofs.Deep.{IsDeep, AreDeep, low_grows, expr_some}
use Rattle.ddl_reader.proofs.DeepExprs.{ClosesDeep, closes_deep}
use Rattle.ddl_reader.proofs.DeepParts.{after_paren_deep, after_array_deep, after_field_deep, after_tagged_deep}
use Rattle.ddl_reader.proofs.DeepLists.{after_item_deep, after_untagged_deep, after_with_tags_deep, after_alt_deep}
use Rattle.ddl_reader.proofs.DeepDecls.{with_decl_deep, close_body_deep}
use Rattle.ddl_reader.proofs.Fits.{wants, wanted, AreFrames, IsFocus, Reads}
use Rattle.ddl_reader.proofs.FineExprs.{Closes, closes_fine}
use Rattle.ddl_reader.proofs.FineParts.{after_paren_fine, after_array_fine, after_field_fine, after_tagged_fine}
use Rattle.ddl_reader.proofs.FineLists.{after_item_fine, after_untagged_fine, after_with_tags_fine, after_alt_fine}
use Rattle.ddl_reader.proofs.FineDecls.{with_decl_fine, close_body_fine}

-- a module whose print begins with what has been read, where g prints what stands at the hole, and n is its depth
abbrev pub Completion : List Frame → ℕ → (List Tok → List Tok) → Type 0
Completion fs n g = (a : mo.Module) × (rest : List Tok) × IsModule a × (print_module a ≡ read fs (g rest)) × (module_depth a ≤ low fs n)

-- from another state that has read the same and more, and is no deeper
pub after_more : (fs gs : List Frame) (m n : ℕ) (g h : List Tok → List Tok) (more : List Tok → List Tok)
    → ((r : List Tok) → read gs (h r) ≡ read fs (g (more r))) → low gs n ≤ low fs m → Completion gs n h → Completion fs m g
after_more fs gs m n g h more e l c = let b = c.4 in (c.0, more c.1, c.2, c.3 ∙ e c.1, omega arith)

wants_less : (f : Frame) → wants f ≡ 9 → ⊥
wants_less (frame.in_module a n) h = omega arith
wants_less _ h = omega arith

whole_module : (a : mo.Module) (n : ℕ) (fs : List Frame) → AreFrames (frame.in_module a n ∷ fs) → AreDeep (frame.in_module a n ∷ fs)
    → Completion (frame.in_module a n ∷ fs) 0 (λ r. r)
whole_module a n [] h d = let e = d.0 in (a, [], h.0, refl, omega arith)
whole_module a n (f ∷ fs) h d = absurd (wants_less f h.1)

-- between declarations
pub complete_between : (fs : List Frame) → AreFrames fs → wanted fs ≡ 4 → AreDeep fs → Completion fs 0 (λ r. r)
complete_between [] h w d = absurd (omega arith)
complete_between (frame.in_module a n ∷ fs) h w d = whole_module a n fs h d
complete_between (_ ∷ fs) h w d = absurd (omega arith)

pub complete_decl : (fs : List Frame) (a : mo.Decl) → AreFrames fs → wanted fs ≡ 4 → IsDecl a → AreDeep fs → Completion fs (decl_depth a) (print_decl a)
complete_decl fs a h w i d =
    let n = decl_depth a in
    let g = with_decl_fine a n fs h w i in
    let v = with_decl_deep a n fs d w refl in
    let least = v.least in
    let c = complete_between (with_decl a n fs) g.1 g.2 v.frames in
    let b = c.4 in
    (c.0, c.1, c.2, c.3 ∙ g.0 c.1, omega arith)

-- ---- expressions

-- some expression
abbrev filler : ex.Expr
filler = ex.Nothing nowhere

abbrev nothing : Tok
nothing = k.Word w.Nothing

abbrev some_name : Name
some_name = record { text = codes "x"; span = nowhere }

abbrev some_names : Names
some_names = record { first = some_name; second = None; span = nowhere }

-- a form that ends gives itself to the form around it
closing : (f : Frame) (fs : List Frame) (a u : Found) → AreFrames (f ∷ fs) → Closes f a u → ClosesDeep f a u fs
    → (IsFocus fs (frame.have u) → IsDeep u → Completion fs u.deep (print u.expr)) → Completion (f ∷ fs) a.deep (print a.expr)
closing f fs a u h c v go =
    let at = c.at in
    let reach = h.2 in
    let d = go (c.tree, h.1 ∙ c.kind, omega arith) v.tree in
    let e = v.around in
    let b = d.4 in
    let l = low_grows fs u.deep (around_in f fs a.deep) (omega arith) in
    (d.0, d.1, d.2, d.3 ∙ ap (read fs) (c.text d.1), omega arith)

one_token : (f : Frame) (fs : List Frame) (a u : Found) (x : Tok) → Reads (f ∷ fs) (λ r. print a.expr (x ∷ r)) (fs, frame.have u)
    → low fs u.deep ≤ low (f ∷ fs) a.deep → Completion fs u.deep (print u.expr) → Completion (f ∷ fs) a.deep (print a.expr)
one_token f fs a u x g l c = let b = c.4 in (c.0, x ∷ c.1, c.2, c.3 ∙ g.0 c.1, omega arith)

-- what a step gives, where that is an expression
abbrev found_in : Option State → Found → Found
found_in None a = a
found_in (Some (fs, frame.have u)) a = u
found_in (Some _) a = a

pub complete_expr : (fs : List Frame) (a : Found) → AreFrames fs → IsFocus fs (frame.have a) → AreDeep fs → IsDeep a → Completion fs a.deep (print a.expr)
complete_expr [] a h i d e = let w = i.1 in absurd (omega arith)
complete_expr (frame.in_infix o c ∷ fs) a h i d e = let u = unwrap_or (closes (frame.in_infix o c) a) a
    in closing (frame.in_infix o c) fs a u h (closes_fine (frame.in_infix o c) a h.0 i.0 i.2) (closes_deep (frame.in_infix o c) a fs d.0 e) (λ i e.
    complete_expr fs u h.4 i d.1 e)
complete_expr (frame.in_pure s ∷ fs) a h i d e = let u = unwrap_or (closes (frame.in_pure s) a) a
    in closing (frame.in_pure s) fs a u h (closes_fine (frame.in_pure s) a h.0 i.0 i.2) (closes_deep (frame.in_pure s) a fs d.0 e) (λ i e.
    complete_expr fs u h.4 i d.1 e)
complete_expr (frame.in_else s c b ∷ fs) a h i d e = let u = unwrap_or (closes (frame.in_else s c b) a) a
    in closing (frame.in_else s c b) fs a u h (closes_fine (frame.in_else s c b) a h.0 i.0 i.2) (closes_deep (frame.in_else s c b) a fs d.0 e) (λ i e.
    complete_expr fs u h.4 i d.1 e)
complete_expr (frame.in_for_body s x j ns l ∷ fs) a h i d e = let u = unwrap_or (closes (frame.in_for_body s x j ns l) a) a
    in closing (frame.in_for_body s x j ns l) fs a u h (closes_fine (frame.in_for_body s x j ns l) a h.0 i.0 i.2)
    (closes_deep (frame.in_for_body s x j ns l) a fs d.0 e) (λ i e. complete_expr fs u h.4 i d.1 e)
complete_expr (frame.in_map_body s ns l ∷ fs) a h i d e = let u = unwrap_or (closes (frame.in_map_body s ns l) a) a
    in closing (frame.in_map_body s ns l) fs a u h (closes_fine (frame.in_map_body s ns l) a h.0 i.0 i.2) (closes_deep (frame.in_map_body s ns l) a fs d.0 e)
    (λ i e. complete_expr fs u h.4 i d.1 e)
complete_expr (frame.in_prefix o s ∷ fs) a h i d e = let u = unwrap_or (closes (frame.in_prefix o s) a) a
    in closing (frame.in_prefix o s) fs a u h (closes_fine (frame.in_prefix o s) a h.0 i.0 i.2) (closes_deep (frame.in_prefix o s) a fs d.0 e) (λ i e.
    complete_expr fs u h.4 i d.1 e)
complete_expr (frame.in_call_grammar x xs n ∷ fs) a h i d e = let u = unwrap_or (closes (frame.in_call_grammar x xs n) a) a
    in closing (frame.in_call_grammar x xs n) fs a u h (closes_fine (frame.in_call_grammar x xs n) a h.0 i.0 i.2)
    (closes_deep (frame.in_call_grammar x xs n) a fs d.0 e) (λ i e. complete_expr fs u h.4 i d.1 e)
complete_expr (frame.in_call_value x xs n ∷ fs) a h i d e = let u = unwrap_or (closes (frame.in_call_value x xs n) a) a
    in closing (frame.in_call_value x xs n) fs a u h (closes_fine (frame.in_call_value x xs n) a h.0 i.0 i.2)
    (closes_deep (frame.in_call_value x xs n) a fs d.0 e) (λ i e. complete_expr fs u h.4 i d.1 e)
complete_expr (frame.in_just s ∷ fs) a h i d e = let u = unwrap_or (closes (frame.in_just s) a) a
    in closing (frame.in_just s) fs a u h (closes_fine (frame.in_just s) a h.0 i.0 i.2) (closes_deep (frame.in_just s) a fs d.0 e) (λ i e.
    complete_expr fs u h.4 i d.1 e)
complete_expr (frame.in_many o b n ∷ fs) a h i d e = let u = unwrap_or (closes (frame.in_many o b n) a) a
    in closing (frame.in_many o b n) fs a u h (closes_fine (frame.in_many o b n) a h.0 i.0 i.2) (closes_deep (frame.in_many o b n) a fs d.0 e) (λ i e.
    complete_expr fs u h.4 i d.1 e)
complete_expr (frame.in_optional o ∷ fs) a h i d e = let u = unwrap_or (closes (frame.in_optional o) a) a
    in closing (frame.in_optional o) fs a u h (closes_fine (frame.in_optional o) a h.0 i.0 i.2) (closes_deep (frame.in_optional o) a fs d.0 e) (λ i e.
    complete_expr fs u h.4 i d.1 e)
complete_expr (frame.in_if s ∷ fs) a h i d e =
    let x = ex.If a.expr filler filler nowhere in
    let done = complete_expr fs (found x (depth x)) h.4 ((i.0, tt, tt, omega arith), h.1, h.2) d.1 refl in
    let same = d.0 in
    after_more (frame.in_if s ∷ fs) fs a.deep (depth x) (print a.expr) (print x) (λ r. k.Word w.Then ∷ nothing ∷ k.Word w.Else ∷ nothing ∷ r) (λ r.
    refl) (low_grows fs (depth x) (1 + a.deep) (omega (arith, expr_some a.expr))) done
complete_expr (frame.in_then s c ∷ fs) a h i d e =
    let x = ex.If c.expr a.expr filler nowhere in
    let done = complete_expr fs (found x (depth x)) h.4 ((h.0, i.0, tt, omega arith), h.1, h.2) d.1 refl in
    let same = d.0 in
    after_more (frame.in_then s c ∷ fs) fs a.deep (depth x) (print a.expr) (print x) (λ r. k.Word w.Else ∷ nothing ∷ r) (λ r.
    refl) (low_grows fs (depth x) (1 + max c.deep a.deep) (omega (arith, expr_some a.expr))) done
complete_expr (frame.in_for_start s y ∷ fs) a h i d e =
    let x = ex.For y a.expr some_names filler filler nowhere in
    let done = complete_expr fs (found x (depth x)) h.4 ((i.0, tt, tt, omega arith), h.1, h.2) d.1 refl in
    let same = d.0 in
    after_more (frame.in_for_start s y ∷ fs) fs a.deep (depth x) (print a.expr) (print x) (λ r.
    k.Mark m.Semicolon ∷ k.Lower (codes "x") ∷ k.Word w.In ∷ nothing ∷ k.Mark m.CloseParen ∷ nothing ∷ r) (λ r.
    refl) (low_grows fs (depth x) (1 + a.deep) (omega (arith, expr_some a.expr))) done
complete_expr (frame.in_for_list s y j ns ∷ fs) a h i d e =
    let x = ex.For y j.expr ns a.expr filler nowhere in
    let done = complete_expr fs (found x (depth x)) h.4 ((h.0, i.0, tt, omega arith), h.1, h.2) d.1 refl in
    let same = d.0 in
    after_more (frame.in_for_list s y j ns ∷ fs) fs a.deep (depth x) (print a.expr) (print x) (λ r. k.Mark m.CloseParen ∷ nothing ∷ r) (λ r.
    refl) (low_grows fs (depth x) (1 + max j.deep a.deep) (omega (arith, expr_some a.expr))) done
complete_expr (frame.in_map_list s ns ∷ fs) a h i d e =
    let x = ex.Map ns a.expr filler nowhere in
    let done = complete_expr fs (found x (depth x)) h.4 ((i.0, tt, omega arith), h.1, h.2) d.1 refl in
    let same = d.0 in
    after_more (frame.in_map_list s ns ∷ fs) fs a.deep (depth x) (print a.expr) (print x) (λ r. k.Mark m.CloseParen ∷ nothing ∷ r) (λ r.
    refl) (low_grows fs (depth x) (1 + a.deep) (omega (arith, expr_some a.expr))) done
complete_expr (frame.in_at_most o s ∷ fs) a h i d e =
    let x = ex.Many o.bias (ex.AtMost a.expr nowhere) filler nowhere in
    let done = complete_expr fs (found x (depth x)) h.4 ((i.0, tt, omega arith), h.1, h.2) d.1 refl in
    let same = d.0 in
    after_more (frame.in_at_most o s ∷ fs) fs a.deep (depth x) (print a.expr) (print x) (λ r. k.Mark m.CloseParen ∷ nothing ∷ r) (λ r.
    refl) (low_grows fs (depth x) (1 + a.deep) (omega (arith, expr_some a.expr))) done
complete_expr (frame.in_between o s b ∷ fs) a h i d e =
    let x = ex.Many o.bias (ex.Between b.expr a.expr nowhere) filler nowhere in
    let done = complete_expr fs (found x (depth x)) h.4 (((h.0, i.0), tt, omega arith), h.1, h.2) d.1 refl in
    let same = d.0 in
    after_more (frame.in_between o s b ∷ fs) fs a.deep (depth x) (print a.expr) (print x) (λ r. k.Mark m.CloseParen ∷ nothing ∷ r) (λ r.
    refl) (low_grows fs (depth x) (1 + max b.deep a.deep) (omega (arith, expr_some a.expr))) done
complete_expr (frame.in_subject s ∷ fs) a h i d e =
    let x = ex.Case a.expr (ex.an_alt (pat.Any nowhere) filler nowhere ex.no_alts) nowhere in
    let done = complete_expr fs (found x (depth x)) h.4 ((i.0, tt, (tt, tt)), h.1, h.2) d.1 refl in
    let same = d.0 in
    after_more (frame.in_subject s ∷ fs) fs a.deep (depth x) (print a.expr) (print x) (λ r.
    k.Word w.Of ∷ k.Mark m.OpenBrace ∷ k.Mark m.Underscore ∷ k.Mark m.Arrow ∷ nothing ∷ k.Mark m.CloseBrace ∷ r) (λ r.
    refl) (low_grows fs (depth x) (1 + a.deep) (omega (arith, expr_some a.expr))) done
complete_expr (frame.in_paren s ∷ frame.in_many r ex.Free n ∷ fs) a h i d e =
    let x = ex.Many r.bias (ex.AtLeast a.expr nowhere) filler nowhere in
    let done = complete_expr fs (found x (depth x)) h.4.4 ((i.0, tt, omega arith), h.4.1, h.4.2) d.1.1 refl in
    after_more (frame.in_paren s ∷ frame.in_many r ex.Free n ∷ fs) fs a.deep (depth x) (print a.expr) (print x) (λ r.
    k.Mark m.DotDot ∷ k.Mark m.CloseParen ∷ nothing ∷ r) (λ r. refl) (low_grows fs (depth x) (1 + max n a.deep) (omega (arith, expr_some a.expr))) done
complete_expr (frame.in_paren s ∷ fs) a h i d e = let v = found_in (after_paren (k.Mark m.CloseParen) nowhere s a fs) a in let g =
    after_paren_fine (k.Mark m.CloseParen) nowhere s a fs h.4 h.1 i.0 in let w = after_paren_deep (k.Mark m.CloseParen) nowhere s a fs d.1 e
    in one_token (frame.in_paren s) fs a v (k.Mark m.CloseParen) g (low_grows fs (1 + max a.deep 0) (around_in (frame.in_paren s) fs a.deep) (omega arith))
    (complete_expr fs v g.1 g.2 d.1 w.1)
complete_expr (frame.in_array s xs n ∷ fs) a h i d e = let v = found_in (after_array (k.Mark m.CloseBracket) nowhere s xs n a fs) a in let g =
    after_array_fine (k.Mark m.CloseBracket) nowhere s xs n a fs h i.0 in let w = after_array_deep (k.Mark m.CloseBracket) nowhere s xs n a fs d.1 d.0 e
    in one_token (frame.in_array s xs n) fs a v (k.Mark m.CloseBracket) g (omega arith) (complete_expr fs v g.1 g.2 d.1 w.1)
complete_expr (frame.in_record s bs n x ∷ fs) a h i d e = let v = found_in (after_field (k.Mark m.CloseBrace) nowhere s bs n x a fs) a in let g =
    after_field_fine (k.Mark m.CloseBrace) nowhere s bs n x a fs h i.0 in let w = after_field_deep (k.Mark m.CloseBrace) nowhere s bs n x a fs d.1 d.0 e
    in one_token (frame.in_record s bs n x) fs a v (k.Mark m.CloseBrace) g (omega arith) (complete_expr fs v g.1 g.2 d.1 w.1)
complete_expr (frame.in_tagged s x ∷ fs) a h i d e = let v = found_in (after_tagged (k.Mark m.CloseUnion) nowhere s x a fs) a in let g =
    after_tagged_fine (k.Mark m.CloseUnion) nowhere s x a fs h i.0 in let w = after_tagged_deep (k.Mark m.CloseUnion) nowhere s x a fs d.1 e
    in one_token (frame.in_tagged s x) fs a v (k.Mark m.CloseUnion) g (omega arith) (complete_expr fs v g.1 g.2 d.1 w.1)
complete_expr (frame.in_block s is n b ∷ fs) a h i d e = let v = found_in (after_item (k.Mark m.CloseBrace) nowhere s is n b a fs) a in let g =
    after_item_fine (k.Mark m.CloseBrace) nowhere s is n b a fs h i.0 in let w = after_item_deep (k.Mark m.CloseBrace) nowhere s is n b a fs d.1 d.0 e
    in one_token (frame.in_block s is n b) fs a v (k.Mark m.CloseBrace) g (omega arith) (complete_expr fs v g.1 g.2 d.1 w.1)
complete_expr (frame.in_untagged o xs n ∷ fs) a h i d e = let v = found_in (after_untagged (k.Mark m.CloseBrace) nowhere o xs n a fs) a in let g =
    after_untagged_fine (k.Mark m.CloseBrace) nowhere o xs n a fs h i.0 in let w = after_untagged_deep (k.Mark m.CloseBrace) nowhere o xs n a fs d.1 d.0 e
    in one_token (frame.in_untagged o xs n) fs a v (k.Mark m.CloseBrace) g (omega arith) (complete_expr fs v g.1 g.2 d.1 w.1)
complete_expr (frame.in_with_tags o bs n x ∷ fs) a h i d e = let v = found_in (after_with_tags (k.Mark m.CloseBrace) nowhere o bs n x a fs) a in let g =
    after_with_tags_fine (k.Mark m.CloseBrace) nowhere o bs n x a fs h i.0 in let w = after_with_tags_deep (k.Mark m.CloseBrace) nowhere o bs n x a fs d.1 d.0 e
    in one_token (frame.in_with_tags o bs n x) fs a v (k.Mark m.CloseBrace) g (omega arith) (complete_expr fs v g.1 g.2 d.1 w.1)
complete_expr (frame.in_alt s c xs n p ∷ fs) a h i d e = let v = found_in (after_alt (k.Mark m.CloseBrace) nowhere s c xs n p a fs) a in let g =
    after_alt_fine (k.Mark m.CloseBrace) nowhere s c xs n p a fs h i.0 in let w = after_alt_deep (k.Mark m.CloseBrace) nowhere s c xs n p a fs d.1 d.0.0 d.0.1 e
    in one_token (frame.in_alt s c xs n p) fs a v (k.Mark m.CloseBrace) g (omega arith) (complete_expr fs v g.1 g.2 d.1 w.1)
complete_expr (frame.in_body c t n ∷ fs) a h i d e =
    let p = d.0 in
    let g = close_body_fine c t n a fs h.4 h.1 i.0 in
    let v = close_body_deep c t n a fs d.1 h.1 p.0 p.1 e in
    let least = v.least in
    let m = complete_between (close_body c t n a fs) g.1 g.2 v.frames in
    let b = m.4 in
    (m.0, m.1, m.2, m.3 ∙ g.0 m.1, omega arith)
complete_expr (_ ∷ fs) a h i d e = let w = i.1 in absurd (omega arith)
