-- The machine reads the forms of expressions with a fixed number of parts, where it reads their parts.
use Rattle.std.proofs.Common.{◌≡◌, ℕ, ◌+◌, ◌<◌, ◌≤◌, max, List, ◌∷◌, Option, Some, None, refl, ap, ◌∙◌, arith}
use Rattle.ddl_base.specs.declared.span.Span.{Span}
use Rattle.ddl_token.specs.declared.token.Tok.{Tok}
use Rattle.ddl_token.specs.declared.token.Tok.TheVariants as k
use Rattle.ddl_token.specs.declared.word.Word.TheVariants as w
use Rattle.ddl_token.specs.declared.mark.Mark.TheVariants as m
use Rattle.ddl_tree.specs.declared.name.Name.{Name}
use Rattle.ddl_tree.specs.declared.operator.CastOp.{CastOp}
use Rattle.ddl_tree.specs.declared.operator.CastOp.TheVariants as cast
use Rattle.ddl_tree.specs.declared.operator.InfixOp.{InfixOp}
use Rattle.ddl_tree.specs.declared.operator.PrefixOp.{PrefixOp}
use Rattle.ddl_tree.specs.declared.operator.PrefixOp.TheVariants as pre
use Rattle.ddl_tree.specs.declared.pattern.Names.{Names}
use Rattle.ddl_tree.specs.declared.pattern.Shape.{Shape}
use Rattle.ddl_tree.specs.declared.pattern.Shape.TheVariants.{IsTag, IsTrue, IsFalse, IsJust, IsNothing}
use Rattle.ddl_tree.specs.TypeTree as ty
use Rattle.ddl_tree.specs.TypeTree.{type_span}
use Rattle.ddl_tree.specs.ClassTree as cls
use Rattle.ddl_tree.specs.ExprTree as ex
use Rattle.ddl_tree.specs.ExprTree.{expr_span}
use Rattle.ddl_tree.specs.Print.{print, print_type, print_names, infix_token, prefix_token, cast_token, shape_token}
use Rattle.ddl_tree.specs.Grammar.{infix_level, left_level, right_level, level, IsClass}
use Rattle.ddl_tree.specs.Depth.{depth, type_depth}
use Rattle.ddl_tree.specs.Spans.{Places, next, after, between, place, place_type, place_names, place_name, place_shape}
use Rattle.ddl_reader.specs.Frames.{Frame, State, Found, Loop}
use Rattle.ddl_reader.specs.Frames as frame
use Rattle.ddl_reader.specs.StepType.{joined, found}
use Rattle.ddl_reader.specs.StepExpr.{least, binds, begin}
use Rattle.ddl_reader.specs.StepParts.{loop_list}
use Rattle.ddl_reader.specs.Step.{step_at, step_have, run}
use Rattle.ddl_reader.proofs.Tokens.{seen, go}
use Rattle.ddl_reader.proofs.Types.{reads_type, type_span_placed}
use Rattle.ddl_reader.proofs.Classes.{reads_class}
use Rattle.ddl_reader.proofs.Levels.{limit, first_binds, Completes, infix_binds, infix_extends, op_fits, limit_above, left_ends, level_some, level_placed}
use Rattle.ddl_reader.proofs.Levels.{expr_span_placed, within, is_above, step_extends, close_right}

-- ---- operators

infix_step : (o : InfixOp) (a : ex.Expr) (p q : Places) (d : ℕ) (fs : List Frame) → left_level o ≤ level a → least fs ≤ infix_level o
    → step_have fs (found (place a p).0 d) (infix_token o) (next q) ≡ Some (frame.in_infix o (found (place a p).0 d) ∷ fs, frame.want)
infix_step o a p q d fs l h =
    let e = infix_binds o in
    let same = level_placed a p in
    let reach : least fs ≤ binds (infix_token o) = omega arith in
    let fits : left_level o ≤ level (place a p).0 = omega arith in
    step_extends fs (found (place a p).0 d) (infix_token o) (next q) reach
    ∙ infix_extends o (next q) (found (place a p).0 d) fs
    ∙ is_above (left_level o) (found (place a p).0 d) (frame.in_infix o (found (place a p).0 d) ∷ fs, frame.want) fits

-- the span of two parts, with a token between them
joined_two : (a b : ex.Expr) (p : Places) → joined (expr_span (place a p).0) (expr_span (place b (after (place a p).1)).0)
    ≡ between p (place b (after (place a p).1)).1
joined_two a b p =
    ap (λ s. joined s (expr_span (place b (after (place a p).1)).0)) (expr_span_placed a p)
    ∙ ap (joined (between p (place a p).1)) (expr_span_placed b (after (place a p).1))

pub completes_infix : (o : InfixOp) (a b : ex.Expr) (s : Span) → left_level o ≤ level a → right_level o ≤ level b → Completes a → Completes b
    → Completes (ex.Infix o a b s)
completes_infix o a b s la lb all_a all_b fs r p lev lim =
    let x = place a p in
    let y = place b (after x.1) in
    let fits = op_fits o in
    let above_b = limit_above b in
    let ends = left_ends o a la in
    let e = infix_binds o in
    let reach : least fs ≤ infix_level o = lev in
    let stop : first_binds r < right_level o = lim in
    all_a fs (infix_token o ∷ print b r) p (omega arith) (omega arith)
    ∙ go (infix_token o) (print b r) x.1 (fs, frame.have (found x.0 (depth a))) (
      frame.in_infix o (found x.0 (depth a)) ∷ fs,
      frame.want,
    ) (infix_step o a p x.1 (depth a) fs la reach)
    ∙ all_b (frame.in_infix o (found x.0 (depth a)) ∷ fs) r (after x.1) lb (omega arith)
    ∙ close_right (frame.in_infix o (found x.0 (depth a))) fs (found y.0 (depth b))
    (found (ex.Infix o x.0 y.0 (joined (expr_span x.0) (expr_span y.0))) (1 + max (depth a) (depth b))) r y.1 refl stop (omega arith)
    ∙ ap (λ s. run (seen r y.1) (fs, frame.have (found (ex.Infix o x.0 y.0 s) (1 + max (depth a) (depth b))))) (joined_two a b p)

-- from a token to the end of a part
pub joined_one : (a : ex.Expr) (p q : Places) → joined (next p) (expr_span (place a q).0) ≡ between p (place a q).1
joined_one a p q = ap (joined (next p)) (expr_span_placed a q)

pub completes_pure : (a : ex.Expr) (s : Span) → 4 ≤ level a → Completes a → Completes (ex.Pure a s)
completes_pure a s la all fs r p lev lim =
    let x = place a (after p) in
    let above = limit_above a in
    let stop : first_binds r < 4 = lim in
    go (k.Mark m.Caret) (print a r) p (fs, frame.want) (frame.in_pure (next p) ∷ fs, frame.want) (within 3 fs (frame.in_pure (next p) ∷ fs, frame.want) lev)
    ∙ all (frame.in_pure (next p) ∷ fs) r (after p) la (omega arith)
    ∙ close_right (frame.in_pure (next p)) fs (found x.0 (depth a)) (found (ex.Pure x.0 (joined (next p) (expr_span x.0))) (1 + depth a)) r x.1 refl stop
    (omega arith)
    ∙ ap (λ s. run (seen r x.1) (fs, frame.have (found (ex.Pure x.0 s) (1 + depth a)))) (joined_one a p (after p))

prefix_step : (o : PrefixOp) (s : Span) (fs : List Frame) → least fs ≤ 14 → begin (prefix_token o) s fs ≡ Some (frame.in_prefix o s ∷ fs, frame.want)
prefix_step pre.Negate s fs h = within 14 fs (frame.in_prefix pre.Negate s ∷ fs, frame.want) h
prefix_step pre.Not s fs h = within 14 fs (frame.in_prefix pre.Not s ∷ fs, frame.want) h
prefix_step pre.Complement s fs h = within 14 fs (frame.in_prefix pre.Complement s ∷ fs, frame.want) h

pub completes_prefix : (o : PrefixOp) (a : ex.Expr) (s : Span) → 14 ≤ level a → Completes a → Completes (ex.Prefix o a s)
completes_prefix o a s la all fs r p lev lim =
    let x = place a (after p) in
    let above = limit_above a in
    let stop : first_binds r < 14 = lim in
    go (prefix_token o) (print a r) p (fs, frame.want) (frame.in_prefix o (next p) ∷ fs, frame.want) (prefix_step o (next p) fs lev)
    ∙ all (frame.in_prefix o (next p) ∷ fs) r (after p) la (omega arith)
    ∙ close_right (frame.in_prefix o (next p)) fs (found x.0 (depth a)) (found (ex.Prefix o x.0 (joined (next p) (expr_span x.0))) (1 + depth a)) r x.1 refl
    stop (omega arith)
    ∙ ap (λ s. run (seen r x.1) (fs, frame.have (found (ex.Prefix o x.0 s) (1 + depth a)))) (joined_one a p (after p))

cast_step : (o : CastOp) (a : Found) (s : Span) (fs : List Frame) → least fs ≤ 15 → 15 ≤ level a.expr
    → step_have fs a (cast_token o) s ≡ Some (frame.in_cast o a ∷ fs, frame.want_type)
cast_step cast.Lossless a s fs h l = step_extends fs a (k.Word w.As) s h ∙ is_above 15 a (frame.in_cast cast.Lossless a ∷ fs, frame.want_type) l
cast_step cast.Cut a s fs h l = step_extends fs a (k.Word w.AsCut) s h ∙ is_above 15 a (frame.in_cast cast.Cut a ∷ fs, frame.want_type) l
cast_step cast.Fit a s fs h l = step_extends fs a (k.Word w.AsFit) s h ∙ is_above 15 a (frame.in_cast cast.Fit a ∷ fs, frame.want_type) l

cast_binds : (o : CastOp) → binds (cast_token o) ≡ 15
cast_binds cast.Lossless = refl
cast_binds cast.Cut = refl
cast_binds cast.Fit = refl

-- a cast ends on its left what is narrower
cast_ends : (a : ex.Expr) → 15 ≤ level a → 15 < limit a
cast_ends (ex.Infix o a b s) l = let fits = op_fits o in omega arith
cast_ends (ex.Pure a s) l = omega arith
cast_ends (ex.If c a b s) l = omega arith
cast_ends (ex.For x i ns l b s) g = omega arith
cast_ends (ex.Map ns l b s) g = omega arith
cast_ends (ex.Is a f s) l = omega arith
cast_ends (ex.Prefix o a s) l = omega arith
cast_ends _ l = omega arith

pub completes_cast : (o : CastOp) (a : ex.Expr) (t : ty.TypeExpr) (s : Span) → 15 ≤ level a → Completes a → Completes (ex.Cast o a t s)
completes_cast o a t s la all fs r p lev lim =
    let x = place a p in
    let y = place_type t (after x.1) in
    let e = cast_binds o in
    let ends = cast_ends a la in
    let same = level_placed a p in
    let fits : 15 ≤ level x.0 = omega arith in
    all fs (cast_token o ∷ print_type t r) p (omega arith) (omega arith)
    ∙ go (cast_token o) (print_type t r) x.1 (fs, frame.have (found x.0 (depth a))) (
      frame.in_cast o (found x.0 (depth a)) ∷ fs,
      frame.want_type,
    ) (cast_step o (found x.0 (depth a)) (next x.1) fs lev fits)
    ∙ reads_type t (frame.in_cast o (found x.0 (depth a)) ∷ fs) r (after x.1)
    ∙ ap (λ s. run (seen r y.1) (fs, frame.have (found (ex.Cast o x.0 y.0 (joined s (type_span y.0))) (1 + max (depth a) (type_depth t)))))
    (expr_span_placed a p)
    ∙ ap (λ s. run (seen r y.1) (fs, frame.have (found (ex.Cast o x.0 y.0 (joined (between p x.1) s)) (1 + max (depth a) (type_depth t)))))
    (type_span_placed t (after x.1))

-- ---- is, and fields

shape_step : (a : Found) (f : Shape) (q : Places) (fs : List Frame)
    → step_at (frame.want_shape a) fs (shape_token f) (next q)
    ≡ Some (fs, frame.have (found (ex.Is a.expr (place_shape f q) (joined (expr_span a.expr) (next q))) (1 + a.deep)))
shape_step a (IsTag x) q fs = refl
shape_step a (IsTrue s) q fs = refl
shape_step a (IsFalse s) q fs = refl
shape_step a (IsJust s) q fs = refl
shape_step a (IsNothing s) q fs = refl

-- `is` ends on its left what is narrower
is_ends : (a : ex.Expr) → 4 ≤ level a → 3 < limit a
is_ends a l = let above = limit_above a in omega arith

pub completes_is : (a : ex.Expr) (f : Shape) (s : Span) → 4 ≤ level a → Completes a → Completes (ex.Is a f s)
completes_is a f s la all fs r p lev lim =
    let x = place a p in
    let above = limit_above a in
    let same = level_placed a p in
    let fits : 4 ≤ level x.0 = omega arith in
    all fs (k.Word w.Is ∷ shape_token f ∷ r) p (omega arith) (omega arith)
    ∙ go (k.Word w.Is) (shape_token f ∷ r) x.1 (fs, frame.have (found x.0 (depth a))) (fs, frame.want_shape (found x.0 (depth a)))
    (step_extends fs (found x.0 (depth a)) (k.Word w.Is) (next x.1) lev ∙ is_above 4 (found x.0 (depth a)) (fs, frame.want_shape (found x.0 (depth a))) fits)
    ∙ go (shape_token f) r (after x.1) (fs, frame.want_shape (found x.0 (depth a))) (
      fs,
      frame.have (found (ex.Is x.0 (place_shape f (after x.1)) (joined (expr_span x.0) (next (after x.1)))) (1 + depth a)),
    )
    (shape_step (found x.0 (depth a)) f (after x.1) fs)
    ∙ ap (λ s. run (seen r (after (after x.1))) (fs, frame.have (found (ex.Is x.0 (place_shape f (after x.1)) (joined s (next (after x.1)))) (1 + depth a))))
    (expr_span_placed a p)

-- a field ends on its left an atom
pub atom_limit : (a : ex.Expr) → 17 ≤ level a → limit a ≡ 19
atom_limit (ex.Infix o a b s) l = let fits = op_fits o in absurd (omega arith)
atom_limit (ex.Pure a s) l = absurd (omega arith)
atom_limit (ex.If c a b s) l = absurd (omega arith)
atom_limit (ex.For x i ns l b s) g = absurd (omega arith)
atom_limit (ex.Map ns l b s) g = absurd (omega arith)
atom_limit (ex.Prefix o a s) l = absurd (omega arith)
atom_limit (ex.CallGrammar x xs s) l = absurd (omega arith)
atom_limit (ex.CallValue x xs s) l = absurd (omega arith)
atom_limit (ex.Just a s) l = absurd (omega arith)
atom_limit (ex.Many o n a s) l = absurd (omega arith)
atom_limit (ex.Optional o a s) l = absurd (omega arith)
atom_limit _ l = refl

pub completes_select : (a : ex.Expr) (y : Name) (s : Span) → 17 ≤ level a → Completes a → Completes (ex.Select a y s)
completes_select a y s la all fs r p lev lim =
    let x = place a p in
    let ends = atom_limit a la in
    let same = level_placed a p in
    let fits : 17 ≤ level x.0 = omega arith in
    all fs (k.Mark m.Dot ∷ k.Lower y.text ∷ r) p (omega arith) (omega arith)
    ∙ go (k.Mark m.Dot) (k.Lower y.text ∷ r) x.1 (fs, frame.have (found x.0 (depth a))) (fs, frame.want_field (found x.0 (depth a)))
    (step_extends fs (found x.0 (depth a)) (k.Mark m.Dot) (next x.1) lev ∙ is_above 17 (found x.0 (depth a)) (fs, frame.want_field (found x.0 (depth a))) fits)
    ∙ ap (λ s. run (seen r (after (after x.1))) (fs, frame.have (found (ex.Select x.0 (place_name y (after x.1)) (joined s (next (after x.1)))) (1 + depth a))))
    (expr_span_placed a p)

-- ---- if, for, map

pub completes_if : (c a b : ex.Expr) (s : Span) → 3 ≤ level b → Completes c → Completes a → Completes b → Completes (ex.If c a b s)
completes_if c a b s lb all_c all_a all_b fs r p lev lim =
    let z = place c (after p) in
    let x = place a (after z.1) in
    let y = place b (after x.1) in
    let some_c = level_some c in
    let some_a = level_some a in
    let above_c = limit_above c in
    let above_a = limit_above a in
    let above_b = limit_above b in
    let stop : first_binds r < 3 = lim in
    let fc = found z.0 (depth c) in
    let fa = found x.0 (depth a) in
    go (k.Word w.If) (print c (k.Word w.Then ∷ print a (k.Word w.Else ∷ print b r))) p (fs, frame.want) (
      frame.in_if (next p) ∷ fs,
      frame.want,
    ) (within 3 fs (frame.in_if (next p) ∷ fs, frame.want) lev)
    ∙ all_c (frame.in_if (next p) ∷ fs) (k.Word w.Then ∷ print a (k.Word w.Else ∷ print b r)) (after p) (omega arith) (omega arith)
    ∙ all_a (frame.in_then (next p) fc ∷ fs) (k.Word w.Else ∷ print b r) (after z.1) (omega arith) (omega arith)
    ∙ all_b (frame.in_else (next p) fc fa ∷ fs) r (after x.1) lb (omega arith)
    ∙ close_right (frame.in_else (next p) fc fa) fs (found y.0 (depth b))
    (found (ex.If z.0 x.0 y.0 (joined (next p) (expr_span y.0))) (1 + max (depth c) (max (depth a) (depth b)))) r y.1 refl stop (omega arith)
    ∙ ap (λ s. run (seen r y.1) (fs, frame.have (found (ex.If z.0 x.0 y.0 s) (1 + max (depth c) (max (depth a) (depth b)))))) (joined_one b p (after x.1))

-- the names of a loop
names_read : (o : Loop) (x : Name) (y : Option Name) (u : Span) (fs : List Frame) (r : List Tok) (p : Places)
    → let ns : Names = record { first = x; second = y; span = u }
    in run (seen (print_names ns r) p) (fs, frame.loop_first o) ≡ run (seen r (place_names ns p).1) (loop_list o (place_names ns p).0 fs)
names_read o x None u fs r p = refl
names_read o x (Some y) u fs r p = refl

pub completes_for : (v : Name) (i : ex.Expr) (ns : Names) (l b : ex.Expr) (s : Span) → 3 ≤ level b → Completes i → Completes l → Completes b
    → Completes (ex.For v i ns l b s)
completes_for v i ns l b s lb all_i all_l all_b fs r p lev lim =
    let q = after (after (after (after p))) in
    let n = place_name v (after (after p)) in
    let x = place i q in
    let ms = place_names ns (after x.1) in
    let y = place l ms.1 in
    let z = place b (after y.1) in
    let some_i = level_some i in
    let some_l = level_some l in
    let above_i = limit_above i in
    let above_l = limit_above l in
    let above_b = limit_above b in
    let stop : first_binds r < 3 = lim in
    let fi = found x.0 (depth i) in
    let fl = found y.0 (depth l) in
    let tail = print_names ns (print l (k.Mark m.CloseParen ∷ print b r)) in
    go (k.Word w.For) (k.Mark m.OpenParen ∷ k.Lower v.text ∷ k.Mark m.Equals ∷ print i (k.Mark m.Semicolon ∷ tail)) p (fs, frame.want) (
      fs,
      frame.open_for (next p),
    ) (within 3 fs (fs, frame.open_for (next p)) lev)
    ∙ all_i (frame.in_for_start (next p) n ∷ fs) (k.Mark m.Semicolon ∷ tail) q (omega arith) (omega arith)
    ∙ names_read (frame.for_from (next p) n fi) ns.first ns.second ns.span fs (print l (k.Mark m.CloseParen ∷ print b r)) (after x.1)
    ∙ all_l (frame.in_for_list (next p) n fi ms.0 ∷ fs) (k.Mark m.CloseParen ∷ print b r) ms.1 (omega arith) (omega arith)
    ∙ all_b (frame.in_for_body (next p) n fi ms.0 fl ∷ fs) r (after y.1) lb (omega arith)
    ∙ close_right (frame.in_for_body (next p) n fi ms.0 fl) fs (found z.0 (depth b))
    (found (ex.For n x.0 ms.0 y.0 z.0 (joined (next p) (expr_span z.0))) (1 + max (depth i) (max (depth l) (depth b)))) r z.1 refl stop (omega arith)
    ∙ ap (λ s. run (seen r z.1) (fs, frame.have (found (ex.For n x.0 ms.0 y.0 z.0 s) (1 + max (depth i) (max (depth l) (depth b))))))
    (joined_one b p (after y.1))

pub completes_map : (ns : Names) (l b : ex.Expr) (s : Span) → 3 ≤ level b → Completes l → Completes b → Completes (ex.Map ns l b s)
completes_map ns l b s lb all_l all_b fs r p lev lim =
    let ms = place_names ns (after (after p)) in
    let y = place l ms.1 in
    let z = place b (after y.1) in
    let some_l = level_some l in
    let above_l = limit_above l in
    let above_b = limit_above b in
    let stop : first_binds r < 3 = lim in
    let fl = found y.0 (depth l) in
    let tail = print_names ns (print l (k.Mark m.CloseParen ∷ print b r)) in
    go (k.Word w.Map) (k.Mark m.OpenParen ∷ tail) p (fs, frame.want) (fs, frame.open_map (next p)) (within 3 fs (fs, frame.open_map (next p)) lev)
    ∙ names_read (frame.map_from (next p)) ns.first ns.second ns.span fs (print l (k.Mark m.CloseParen ∷ print b r)) (after (after p))
    ∙ all_l (frame.in_map_list (next p) ms.0 ∷ fs) (k.Mark m.CloseParen ∷ print b r) ms.1 (omega arith) (omega arith)
    ∙ all_b (frame.in_map_body (next p) ms.0 fl ∷ fs) r (after y.1) lb (omega arith)
    ∙ close_right (frame.in_map_body (next p) ms.0 fl) fs (found z.0 (depth b))
    (found (ex.Map ms.0 y.0 z.0 (joined (next p) (expr_span z.0))) (1 + max (depth l) (depth b))) r z.1 refl stop (omega arith)
    ∙ ap (λ s. run (seen r z.1) (fs, frame.have (found (ex.Map ms.0 y.0 z.0 s) (1 + max (depth l) (depth b))))) (joined_one b p (after y.1))

-- ---- parentheses, classes, tags

pub completes_paren : (a : ex.Expr) (t : Option ty.TypeExpr) (s : Span) → Completes a → Completes (ex.Paren a t s)
completes_paren a None s all fs r p lev lim =
    let some = level_some a in
    let above = limit_above a in
    all (frame.in_paren (next p) ∷ fs) (k.Mark m.CloseParen ∷ r) (after p) (omega arith) (omega arith)
completes_paren a (Some t) s all fs r p lev lim =
    let some = level_some a in
    let above = limit_above a in
    let x = place a (after p) in
    all (frame.in_paren (next p) ∷ fs) (k.Mark m.Colon ∷ print_type t (k.Mark m.CloseParen ∷ r)) (after p) (omega arith) (omega arith)
    ∙ reads_type t (frame.in_paren_type (next p) (found x.0 (depth a)) ∷ fs) (k.Mark m.CloseParen ∷ r) (after x.1)

pub completes_set : (c : cls.Cls) (s : Span) → IsClass c → Completes (ex.Set c s)
completes_set c s i fs r p lev lim = reads_class c i (frame.in_set (next p) ∷ fs) (k.Mark m.CloseBracket ∷ r) (after p) tt tt

pub completes_tagged : (y : Name) (a : ex.Expr) (s : Span) → Completes a → Completes (ex.TagWith y a s)
completes_tagged y a s all fs r p lev lim =
    let some = level_some a in
    let above = limit_above a in
    all (frame.in_tagged (next p) (place_name y (after p)) ∷ fs) (k.Mark m.CloseUnion ∷ r) (after (after (after p))) (omega arith) (omega arith)
