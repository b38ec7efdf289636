-- The machine reads the forms of expressions that hold a list, where it reads the elements.
use Rattle.std.proofs.Common.{◌≡◌, ℕ, ◌+◌, max, List, [], ◌∷◌, ◌++◌, refl, ap, ◌∙◌, arith, append_assoc}
use Rattle.ddl_base.specs.declared.span.Span.{Span}
use Rattle.ddl_token.specs.declared.token.Tok.{Tok}
use Rattle.ddl_token.specs.declared.token.Tok.TheVariants as k
use Rattle.ddl_token.specs.declared.mark.Mark.{Mark}
use Rattle.ddl_token.specs.declared.mark.Mark.TheVariants as m
use Rattle.ddl_tree.specs.declared.operator.Bias.{Bias}
use Rattle.ddl_tree.specs.declared.operator.Bias.TheVariants.{Biased, Unbiased}
use Rattle.ddl_tree.specs.ExprTree as ex
use Rattle.ddl_tree.specs.ExprTree.{expr_span}
use Rattle.ddl_tree.specs.View.{exprs_of}
use Rattle.ddl_tree.specs.Print.{print, print_more_exprs, choice_token}
use Rattle.ddl_tree.specs.Grammar.{SomeExprs}
use Rattle.ddl_tree.specs.Depth.{depth, exprs_depth}
use Rattle.ddl_tree.specs.Spans.{Places, next, after, place, place_more_exprs}
use Rattle.ddl_reader.specs.Frames.{Frame, State, Found, Repeat, Start}
use Rattle.ddl_reader.specs.Frames as frame
use Rattle.ddl_reader.specs.StepType.{joined, found}
use Rattle.ddl_reader.specs.StepExpr.{binds, repeat}
use Rattle.ddl_reader.specs.Step.{run}
use Rattle.ddl_reader.proofs.Tokens.{seen}
use Rattle.ddl_reader.proofs.Levels.{first_binds, Completes, limit_above, level_some}

-- ---- lists of expressions

abbrev pub listed : ex.Exprs → List ex.Expr
listed ex.no_exprs = []
listed (ex.an_expr a xs) = a ∷ listed xs

pub listed_back : (xs : ex.Exprs) → exprs_of (listed xs) ≡ xs
listed_back ex.no_exprs = refl
listed_back (ex.an_expr a xs) = ap (ex.an_expr a) (listed_back xs)

abbrev pub AllComplete : ex.Exprs → Type 0
AllComplete ex.no_exprs = Unit {0}
AllComplete (ex.an_expr a xs) = Completes a × AllComplete xs

pub max_none : (n : ℕ) → n ≡ max n 0
max_none n = omega arith

pub max_more : (n a b : ℕ) → max (max n a) b ≡ max n (max a b)
max_more n a b = omega arith

more_small : (xs : ex.Exprs) (c : Mark) (r : List Tok) → binds (k.Mark c) ≡ 0 → first_binds r ≡ 0 → first_binds (print_more_exprs xs c r) ≡ 0
more_small ex.no_exprs c r h i = i
more_small (ex.an_expr a xs) c r h i = h

-- the elements so far, the one that stands here, and the rest
abbrev array_of : Span → Span → List ex.Expr → ex.Expr → ex.Exprs → ℕ → Found
array_of s t pre a xs n = found (ex.Array (exprs_of (pre ++ a ∷ listed xs)) (joined s t)) (1 + n)

rest_of_array : (xs : ex.Exprs) → AllComplete xs → (s : Span) (pre : List ex.Expr) (n : ℕ) (a : Found) (fs : List Frame) (r : List Tok) (p : Places)
    → let y = place_more_exprs xs p in
    run (seen (print_more_exprs xs m.Comma (k.Mark m.CloseBracket ∷ r)) p) (frame.in_array s pre n ∷ fs, frame.have a)
    ≡ run (seen r (after y.1)) (fs, frame.have (array_of s (next y.1) pre a.expr y.0 (max (max n a.deep) (exprs_depth xs))))
rest_of_array ex.no_exprs all s pre n a fs r p = ap (λ d. run (seen r (after p)) (fs, frame.have (array_of s (next p) pre a.expr ex.no_exprs d)))
    (max_none (max n a.deep))
rest_of_array (ex.an_expr b xs) all s pre n a fs r p =
    let x = place b (after p) in
    let y = place_more_exprs xs x.1 in
    let some = level_some b in
    let above = limit_above b in
    let small = more_small xs m.Comma (k.Mark m.CloseBracket ∷ r) refl refl in
    all.0 (frame.in_array s (pre ++ a.expr ∷ []) (max n a.deep) ∷ fs) (print_more_exprs xs m.Comma (k.Mark m.CloseBracket ∷ r)) (after p) (omega arith)
    (omega arith)
    ∙ rest_of_array xs all.1 s (pre ++ a.expr ∷ []) (max n a.deep) (found x.0 (depth b)) fs r x.1
    ∙ ap (λ ys. run (seen r (after y.1)) (
      fs,
      frame.have (found (ex.Array (exprs_of ys) (joined s (next y.1)))
          (1 + max (max (max n a.deep) (depth b)) (exprs_depth xs))),
    )) (append_assoc pre (a.expr ∷ []) (x.0 ∷ listed y.0))
    ∙ ap (λ d. run (seen r (after y.1)) (fs, frame.have (array_of s (next y.1) pre a.expr (ex.an_expr x.0 y.0) d)))
    (max_more (max n a.deep) (depth b) (exprs_depth xs))

pub zero_max : (a b : ℕ) → max (max 0 a) b ≡ max a b
zero_max a b = omega arith

pub completes_array : (xs : ex.Exprs) (s : Span) → AllComplete xs → Completes (ex.Array xs s)
completes_array ex.no_exprs s all fs r p lev lim = refl
completes_array (ex.an_expr a xs) s all fs r p lev lim =
    let x = place a (after p) in
    let y = place_more_exprs xs x.1 in
    let some = level_some a in
    let above = limit_above a in
    let small = more_small xs m.Comma (k.Mark m.CloseBracket ∷ r) refl refl in
    all.0 (frame.in_array (next p) [] 0 ∷ fs) (print_more_exprs xs m.Comma (k.Mark m.CloseBracket ∷ r)) (after p) (omega arith) (omega arith)
    ∙ rest_of_array xs all.1 (next p) [] 0 (found x.0 (depth a)) fs r x.1
    ∙ ap (λ ys. run (seen r (after y.1)) (
      fs,
      frame.have (found (ex.Array (ex.an_expr x.0 ys) (joined (next p) (next y.1)))
          (1 + max (max 0 (depth a)) (exprs_depth xs))),
    )) (listed_back y.0)
    ∙ ap (λ d. run (seen r (after y.1)) (fs, frame.have (found (ex.Array (ex.an_expr x.0 y.0) (joined (next p) (next y.1))) (1 + d))))
    (zero_max (depth a) (exprs_depth xs))

-- ---- alternatives without tags

pub choice_step : (b : Bias) (s : Span) (fs : List Frame) (r : List Tok) (p : Places)
    → run (seen (choice_token b ∷ k.Mark m.OpenBrace ∷ r) p) (fs, frame.want) ≡ run (seen r (after (after p))) (
      frame.in_untagged (repeat b (next p)) [] 0 ∷ fs,
      frame.want,
    )
choice_step Biased s fs r p = refl
choice_step Unbiased s fs r p = refl

rest_of_untagged : (xs : ex.Exprs) → AllComplete xs → (o : Repeat) (pre : List ex.Expr) (n : ℕ) (a : Found) (fs : List Frame) (r : List Tok) (p : Places)
    → let y = place_more_exprs xs p in
    run (seen (print_more_exprs xs m.Semicolon (k.Mark m.CloseBrace ∷ r)) p) (frame.in_untagged o pre n ∷ fs, frame.have a)
    ≡ run (seen r (after y.1)) (
      fs,
      frame.have (found (ex.Choice o.bias (ex.Untagged (exprs_of (pre ++ a.expr ∷ listed y.0))) (joined o.from (next y.1)))
          (1 + max (max n a.deep) (exprs_depth xs))),
    )
rest_of_untagged ex.no_exprs all o pre n a fs r p = ap (λ d.
    run (seen r (after p)) (fs, frame.have (found (ex.Choice o.bias (ex.Untagged (exprs_of (pre ++ a.expr ∷ []))) (joined o.from (next p))) (1 + d))))
    (max_none (max n a.deep))
rest_of_untagged (ex.an_expr b xs) all o pre n a fs r p =
    let x = place b (after p) in
    let y = place_more_exprs xs x.1 in
    let some = level_some b in
    let above = limit_above b in
    let small = more_small xs m.Semicolon (k.Mark m.CloseBrace ∷ r) refl refl in
    all.0 (frame.in_untagged o (pre ++ a.expr ∷ []) (max n a.deep) ∷ fs) (print_more_exprs xs m.Semicolon (k.Mark m.CloseBrace ∷ r)) (after p) (omega arith)
    (omega arith)
    ∙ rest_of_untagged xs all.1 o (pre ++ a.expr ∷ []) (max n a.deep) (found x.0 (depth b)) fs r x.1
    ∙ ap (λ ys. run (seen r (after y.1)) (
      fs,
      frame.have (found (ex.Choice o.bias (ex.Untagged (exprs_of ys)) (joined o.from (next y.1)))
          (1 + max (max (max n a.deep) (depth b)) (exprs_depth xs))),
    )) (append_assoc pre (a.expr ∷ []) (x.0 ∷ listed y.0))
    ∙ ap (λ d. run (seen r (after y.1)) (
      fs,
      frame.have (found
          (ex.Choice o.bias (ex.Untagged (exprs_of (pre ++ a.expr ∷ x.0 ∷ listed y.0))) (joined o.from (next y.1))) (1 + d)),
    ))
    (max_more (max n a.deep) (depth b) (exprs_depth xs))

pub completes_untagged : (b : Bias) (xs : ex.Exprs) (s : Span) → SomeExprs xs → AllComplete xs → Completes (ex.Choice b (ex.Untagged xs) s)
completes_untagged b ex.no_exprs s some all fs r p lev lim = absurd some
completes_untagged b (ex.an_expr a xs) s _ all fs r p lev lim =
    let q = after (after p) in
    let x = place a q in
    let y = place_more_exprs xs x.1 in
    let some = level_some a in
    let above = limit_above a in
    let small = more_small xs m.Semicolon (k.Mark m.CloseBrace ∷ r) refl refl in
    choice_step b s fs (print a (print_more_exprs xs m.Semicolon (k.Mark m.CloseBrace ∷ r))) p
    ∙ all.0 (frame.in_untagged (repeat b (next p)) [] 0 ∷ fs) (print_more_exprs xs m.Semicolon (k.Mark m.CloseBrace ∷ r)) q (omega arith) (omega arith)
    ∙ rest_of_untagged xs all.1 (repeat b (next p)) [] 0 (found x.0 (depth a)) fs r x.1
    ∙ ap (λ ys. run (seen r (after y.1)) (
      fs,
      frame.have (found (ex.Choice b (ex.Untagged (ex.an_expr x.0 ys)) (joined (next p) (next y.1)))
          (1 + max (max 0 (depth a)) (exprs_depth xs))),
    )) (listed_back y.0)
    ∙ ap (λ d. run (seen r (after y.1)) (fs, frame.have (found (ex.Choice b (ex.Untagged (ex.an_expr x.0 y.0)) (joined (next p) (next y.1))) (1 + d))))
    (zero_max (depth a) (exprs_depth xs))
