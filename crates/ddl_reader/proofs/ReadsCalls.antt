-- The machine reads applications, `just`, `Many` and `Optional`, where it reads the arguments.
use Rattle.std.proofs.Common.{◌≡◌, ℕ, ◌+◌, ◌<◌, ◌≤◌, max, List, [], ◌∷◌, ◌++◌, Some, option_and_then, refl, ap, ◌∙◌, arith, append_assoc}
use Rattle.ddl_base.specs.declared.span.Span.{Span}
use Rattle.ddl_token.specs.declared.token.Tok.{Tok}
use Rattle.ddl_token.specs.declared.token.Tok.TheVariants as k
use Rattle.ddl_token.specs.declared.word.Word.{Word}
use Rattle.ddl_token.specs.declared.word.Word.TheVariants as w
use Rattle.ddl_token.specs.declared.mark.Mark.{Mark}
use Rattle.ddl_token.specs.declared.mark.Mark.TheVariants as m
use Rattle.ddl_tree.specs.declared.name.Name.{Name}
use Rattle.ddl_tree.specs.declared.operator.Bias.{Bias}
use Rattle.ddl_tree.specs.declared.operator.Bias.TheVariants.{Biased, Unbiased}
use Rattle.ddl_tree.specs.ExprTree as ex
use Rattle.ddl_tree.specs.ExprTree.{expr_span}
use Rattle.ddl_tree.specs.View.{exprs_of}
use Rattle.ddl_tree.specs.Print.{print, print_class, print_typed, print_exprs, print_bindings, print_items, print_alternatives, print_alts, print_args}
use Rattle.ddl_tree.specs.Print.{print_bound, many_token, optional_token}
use Rattle.ddl_tree.specs.Grammar.{level, IsExpr, AreAtoms, SomeExprs}
use Rattle.ddl_tree.specs.Depth.{depth, exprs_depth, bound_depth}
use Rattle.ddl_tree.specs.Spans.{Places, next, after, between, place, place_name, place_exprs, place_bound}
use Rattle.ddl_reader.specs.Frames.{Frame, State, Found, Repeat}
use Rattle.ddl_reader.specs.Frames as frame
use Rattle.ddl_reader.specs.StepType.{joined, found}
use Rattle.ddl_reader.specs.StepExpr.{least, hole, binds, begin, apply, called, extend, with_argument, repeat}
use Rattle.ddl_reader.specs.Step.{step_at, goes, run}
use Rattle.ddl_reader.proofs.Tokens.{seen, go}
use Rattle.ddl_reader.proofs.Levels.{first_binds, Completes, limit_above, level_some, op_fits, expr_span_placed, within, step_extends, step_argues, close_right}
use Rattle.ddl_reader.proofs.ReadsForms.{atom_limit, joined_one}
use Rattle.ddl_reader.proofs.ReadsLists.{listed, listed_back, AllComplete, max_none, max_more, zero_max}

-- ---- an atom that begins an argument

-- the two states go on alike with the first token of an atom
abbrev SameOnAtoms : State → State → Type 0
SameOnAtoms z y = (x : Tok) (s : Span) → binds x ≡ 16 → step_at z.1 z.0 x s ≡ step_at y.1 y.0 x s

first_token : (x : Tok) (xs : List Tok) (p : Places) (z y : State) → SameOnAtoms z y → binds x ≡ 16 → run (seen (x ∷ xs) p) z ≡ run (seen (x ∷ xs) p) y
first_token x xs p z y same h = ap (goes (run (seen xs (after p)))) (same x (next p) h)

starts : (a : ex.Expr) → IsExpr a → 17 ≤ level a → (z y : State) → SameOnAtoms z y → (r : List Tok) (p : Places)
    → run (seen (print a r) p) z ≡ run (seen (print a r) p) y
starts (ex.Select a x s) i l z y same r p = starts a i.0 i.1 z y same (k.Mark m.Dot ∷ k.Lower x.text ∷ r) p
starts (ex.Num n) i l z y same r p = first_token _ r p z y same refl
starts (ex.Char b s) i l z y same r p = first_token _ r p z y same refl
starts (ex.Text bs s) i l z y same r p = first_token _ r p z y same refl
starts (ex.True s) i l z y same r p = first_token _ r p z y same refl
starts (ex.False s) i l z y same r p = first_token _ r p z y same refl
starts (ex.Nothing s) i l z y same r p = first_token _ r p z y same refl
starts (ex.Upper x) i l z y same r p = first_token _ r p z y same refl
starts (ex.Lower x) i l z y same r p = first_token _ r p z y same refl
starts (ex.Class x) i l z y same r p = first_token _ r p z y same refl
starts (ex.Set c s) i l z y same r p = first_token (k.Mark m.DollarBracket) (print_class c (k.Mark m.CloseBracket ∷ r)) p z y same refl
starts (ex.Paren a t s) i l z y same r p = first_token (k.Mark m.OpenParen) (print a (print_typed t (k.Mark m.CloseParen ∷ r))) p z y same refl
starts (ex.Array xs s) i l z y same r p = first_token (k.Mark m.OpenBracket) (print_exprs xs m.Comma (k.Mark m.CloseBracket ∷ r)) p z y same refl
starts (ex.RecordOf bs s) i l z y same r p = first_token (k.Mark m.OpenBrace) (print_bindings bs m.Comma (k.Mark m.CloseBrace ∷ r)) p z y same refl
starts (ex.Tag x s) i l z y same r p = first_token (k.Mark m.OpenUnion) (k.Lower x.text ∷ k.Mark m.CloseUnion ∷ r) p z y same refl
starts (ex.TagWith x a s) i l z y same r p = first_token (k.Mark m.OpenUnion) (k.Lower x.text ∷ k.Mark m.Equals ∷ print a (k.Mark m.CloseUnion ∷ r)) p z y same
    refl
starts (ex.Block is s) i l z y same r p = first_token (k.Word w.Block) (k.Mark m.OpenBrace ∷ print_items is (k.Mark m.CloseBrace ∷ r)) p z y same refl
starts (ex.Choice Biased xs s) i l z y same r p = first_token (k.Word w.First) (k.Mark m.OpenBrace ∷ print_alternatives xs (k.Mark m.CloseBrace ∷ r)) p z y same
    refl
starts (ex.Choice Unbiased xs s) i l z y same r p = first_token (k.Word w.Choose) (k.Mark m.OpenBrace ∷ print_alternatives xs (k.Mark m.CloseBrace ∷ r)) p z y
    same refl
starts (ex.Case a xs s) i l z y same r p = first_token (k.Word w.Case) (print a (k.Word w.Of ∷ k.Mark m.OpenBrace ∷ print_alts xs (k.Mark m.CloseBrace ∷ r))) p
    z y same refl
starts (ex.Infix o a b s) i l z y same r p = let fits = op_fits o in absurd (omega arith)
starts (ex.Pure a s) i l z y same r p = absurd (omega arith)
starts (ex.If c a b s) i l z y same r p = absurd (omega arith)
starts (ex.For x j ns c b s) i l z y same r p = absurd (omega arith)
starts (ex.Map ns c b s) i l z y same r p = absurd (omega arith)
starts (ex.Is a f s) i l z y same r p = absurd (omega arith)
starts (ex.Prefix o a s) i l z y same r p = absurd (omega arith)
starts (ex.Cast o a t s) i l z y same r p = absurd (omega arith)
starts (ex.CallGrammar x xs s) i l z y same r p = absurd (omega arith)
starts (ex.CallValue x xs s) i l z y same r p = absurd (omega arith)
starts (ex.Just a s) i l z y same r p = absurd (omega arith)
starts (ex.Many o n a s) i l z y same r p = absurd (omega arith)
starts (ex.Optional o a s) i l z y same r p = absurd (omega arith)

-- a token that begins an atom goes on with a name alone
word_applies : (o : Word) (s : Span) (a : Found) (fs : List Frame) → binds (k.Word o) ≡ 16 → extend (k.Word o) s a fs ≡ apply (k.Word o) s a fs
word_applies w.Is s a fs h = absurd (omega arith)
word_applies w.As s a fs h = absurd (omega arith)
word_applies w.AsCut s a fs h = absurd (omega arith)
word_applies w.AsFit s a fs h = absurd (omega arith)
word_applies _ s a fs h = refl

mark_applies : (o : Mark) (s : Span) (a : Found) (fs : List Frame) → binds (k.Mark o) ≡ 16 → extend (k.Mark o) s a fs ≡ apply (k.Mark o) s a fs
mark_applies m.OpenParen s a fs h = refl
mark_applies m.OpenBracket s a fs h = refl
mark_applies m.OpenBrace s a fs h = refl
mark_applies m.OpenUnion s a fs h = refl
mark_applies m.DollarBracket s a fs h = refl
mark_applies _ s a fs h = absurd (omega arith)

applies : (x : Tok) (s : Span) (a : Found) (fs : List Frame) → binds x ≡ 16 → extend x s a fs ≡ apply x s a fs
applies (k.Word o) s a fs h = word_applies o s a fs h
applies (k.Mark o) s a fs h = mark_applies o s a fs h
applies _ s a fs h = refl

-- the first argument
same_first : (a : Found) (f : Frame) (fs : List Frame) → called a.expr ≡ Some f → least fs ≤ 16 → SameOnAtoms (fs, frame.have a) (f ∷ fs, frame.want)
same_first a f fs e h = λ x s b.
    let reach : least fs ≤ binds x = omega arith in
    step_extends fs a x s reach ∙ applies x s a fs b ∙ ap (option_and_then (λ f. begin x s (f ∷ fs))) e

-- another
same_more : (f g : Frame) (a : Found) (fs : List Frame) → with_argument f a ≡ Some g → hole f ≡ 17 → SameOnAtoms (f ∷ fs, frame.have a) (g ∷ fs, frame.want)
same_more f g a fs e h = λ x s b. step_argues f g fs a x s e h b

-- ---- arguments of a grammar

-- an atom begins with a token that goes on with an application, and with nothing narrower
args_small : (a : ex.Expr) → IsExpr a → 17 ≤ level a → (r : List Tok) → first_binds (print a r) ≡ 16
args_small (ex.Select a x s) i l r = args_small a i.0 i.1 (k.Mark m.Dot ∷ k.Lower x.text ∷ r)
args_small (ex.Num n) i l r = refl
args_small (ex.Char b s) i l r = refl
args_small (ex.Text bs s) i l r = refl
args_small (ex.True s) i l r = refl
args_small (ex.False s) i l r = refl
args_small (ex.Nothing s) i l r = refl
args_small (ex.Upper x) i l r = refl
args_small (ex.Lower x) i l r = refl
args_small (ex.Class x) i l r = refl
args_small (ex.Set c s) i l r = refl
args_small (ex.Paren a t s) i l r = refl
args_small (ex.Array xs s) i l r = refl
args_small (ex.RecordOf bs s) i l r = refl
args_small (ex.Tag x s) i l r = refl
args_small (ex.TagWith x a s) i l r = refl
args_small (ex.Block is s) i l r = refl
args_small (ex.Choice Biased xs s) i l r = refl
args_small (ex.Choice Unbiased xs s) i l r = refl
args_small (ex.Case a xs s) i l r = refl
args_small (ex.Infix o a b s) i l r = let fits = op_fits o in absurd (omega arith)
args_small (ex.Pure a s) i l r = absurd (omega arith)
args_small (ex.If c a b s) i l r = absurd (omega arith)
args_small (ex.For x j ns c b s) i l r = absurd (omega arith)
args_small (ex.Map ns c b s) i l r = absurd (omega arith)
args_small (ex.Is a f s) i l r = absurd (omega arith)
args_small (ex.Prefix o a s) i l r = absurd (omega arith)
args_small (ex.Cast o a t s) i l r = absurd (omega arith)
args_small (ex.CallGrammar x xs s) i l r = absurd (omega arith)
args_small (ex.CallValue x xs s) i l r = absurd (omega arith)
args_small (ex.Just a s) i l r = absurd (omega arith)
args_small (ex.Many o n a s) i l r = absurd (omega arith)
args_small (ex.Optional o a s) i l r = absurd (omega arith)

args_of_grammar : (xs : ex.Exprs) → AreAtoms xs → AllComplete xs → (c : Name) (pre : List ex.Expr) (n : ℕ) (a : ex.Expr) (p : Places) → Completes a → IsExpr a
    → 17 ≤ level a → (fs : List Frame) (r : List Tok) → first_binds r < 16
    → let x = place a p in let y = place_exprs xs x.1 in
    run (seen (print a (print_args xs r)) p) (frame.in_call_grammar c pre n ∷ fs, frame.want)
    ≡ run (seen r y.1) (
      fs,
      frame.have (found (ex.CallGrammar c (exprs_of (pre ++ x.0 ∷ listed y.0)) (joined c.span (between p y.1)))
          (1 + max (max n (depth a)) (exprs_depth xs))),
    )
args_of_grammar ex.no_exprs atoms all c pre n a p one i l fs r stop =
    let x = place a p in
    let ends = atom_limit a l in
    one (frame.in_call_grammar c pre n ∷ fs) r p l (omega arith)
    ∙ close_right (frame.in_call_grammar c pre n) fs (found x.0 (depth a))
    (found (ex.CallGrammar c (exprs_of (pre ++ x.0 ∷ [])) (joined c.span (expr_span x.0))) (1 + max n (depth a))) r x.1 refl (omega arith) stop
    ∙ ap (λ s. run (seen r x.1) (fs, frame.have (found (ex.CallGrammar c (exprs_of (pre ++ x.0 ∷ [])) (joined c.span s)) (1 + max n (depth a)))))
    (expr_span_placed a p)
    ∙ ap (λ d. run (seen r x.1) (fs, frame.have (found (ex.CallGrammar c (exprs_of (pre ++ x.0 ∷ [])) (joined c.span (between p x.1))) (1 + d))))
    (max_none (max n (depth a)))
args_of_grammar (ex.an_expr b xs) atoms all c pre n a p one i l fs r stop =
    let x = place a p in
    let y = place_exprs (ex.an_expr b xs) x.1 in
    let ends = atom_limit a l in
    let small = args_small b atoms.0 atoms.1 (print_args xs r) in
    one (frame.in_call_grammar c pre n ∷ fs) (print b (print_args xs r)) p l (omega arith)
    ∙ starts b atoms.0 atoms.1 (frame.in_call_grammar c pre n ∷ fs, frame.have (found x.0 (depth a)))
    (frame.in_call_grammar c (pre ++ x.0 ∷ []) (max n (depth a)) ∷ fs, frame.want)
    (same_more (frame.in_call_grammar c pre n) (frame.in_call_grammar c (pre ++ x.0 ∷ []) (max n (depth a))) (found x.0 (depth a)) fs refl refl)
    (print_args xs r) x.1
    ∙ args_of_grammar xs atoms.2 all.1 c (pre ++ x.0 ∷ []) (max n (depth a)) b x.1 all.0 atoms.0 atoms.1 fs r stop
    ∙ ap (λ ys. run (seen r y.1) (
      fs,
      frame.have (found (ex.CallGrammar c (exprs_of ys) (joined c.span (between x.1 y.1)))
          (1 + max (max (max n (depth a)) (depth b)) (exprs_depth xs))),
    )) (append_assoc pre (x.0 ∷ []) (listed y.0))
    ∙ ap (λ d. run (seen r y.1) (fs, frame.have (found (ex.CallGrammar c (exprs_of (pre ++ x.0 ∷ listed y.0)) (joined c.span (between p y.1))) (1 + d))))
    (max_more (max n (depth a)) (depth b) (exprs_depth xs))

-- ---- arguments of a function

args_of_value : (xs : ex.Exprs) → AreAtoms xs → AllComplete xs → (c : Name) (pre : List ex.Expr) (n : ℕ) (a : ex.Expr) (p : Places) → Completes a → IsExpr a
    → 17 ≤ level a → (fs : List Frame) (r : List Tok) → first_binds r < 16
    → let x = place a p in let y = place_exprs xs x.1 in
    run (seen (print a (print_args xs r)) p) (frame.in_call_value c pre n ∷ fs, frame.want)
    ≡ run (seen r y.1) (
      fs,
      frame.have (found (ex.CallValue c (exprs_of (pre ++ x.0 ∷ listed y.0)) (joined c.span (between p y.1)))
          (1 + max (max n (depth a)) (exprs_depth xs))),
    )
args_of_value ex.no_exprs atoms all c pre n a p one i l fs r stop =
    let x = place a p in
    let ends = atom_limit a l in
    one (frame.in_call_value c pre n ∷ fs) r p l (omega arith)
    ∙ close_right (frame.in_call_value c pre n) fs (found x.0 (depth a))
    (found (ex.CallValue c (exprs_of (pre ++ x.0 ∷ [])) (joined c.span (expr_span x.0))) (1 + max n (depth a))) r x.1 refl (omega arith) stop
    ∙ ap (λ s. run (seen r x.1) (fs, frame.have (found (ex.CallValue c (exprs_of (pre ++ x.0 ∷ [])) (joined c.span s)) (1 + max n (depth a)))))
    (expr_span_placed a p)
    ∙ ap (λ d. run (seen r x.1) (fs, frame.have (found (ex.CallValue c (exprs_of (pre ++ x.0 ∷ [])) (joined c.span (between p x.1))) (1 + d))))
    (max_none (max n (depth a)))
args_of_value (ex.an_expr b xs) atoms all c pre n a p one i l fs r stop =
    let x = place a p in
    let y = place_exprs (ex.an_expr b xs) x.1 in
    let ends = atom_limit a l in
    let small = args_small b atoms.0 atoms.1 (print_args xs r) in
    one (frame.in_call_value c pre n ∷ fs) (print b (print_args xs r)) p l (omega arith)
    ∙ starts b atoms.0 atoms.1 (frame.in_call_value c pre n ∷ fs, frame.have (found x.0 (depth a))) (
      frame.in_call_value c (pre ++ x.0 ∷ []) (max n (depth a))
          ∷ fs,
      frame.want,
    )
    (same_more (frame.in_call_value c pre n) (frame.in_call_value c (pre ++ x.0 ∷ []) (max n (depth a))) (found x.0 (depth a)) fs refl refl) (print_args xs r)
    x.1
    ∙ args_of_value xs atoms.2 all.1 c (pre ++ x.0 ∷ []) (max n (depth a)) b x.1 all.0 atoms.0 atoms.1 fs r stop
    ∙ ap (λ ys. run (seen r y.1) (
      fs,
      frame.have (found (ex.CallValue c (exprs_of ys) (joined c.span (between x.1 y.1)))
          (1 + max (max (max n (depth a)) (depth b)) (exprs_depth xs))),
    )) (append_assoc pre (x.0 ∷ []) (listed y.0))
    ∙ ap (λ d. run (seen r y.1) (fs, frame.have (found (ex.CallValue c (exprs_of (pre ++ x.0 ∷ listed y.0)) (joined c.span (between p y.1))) (1 + d))))
    (max_more (max n (depth a)) (depth b) (exprs_depth xs))

pub completes_call_grammar : (c : Name) (xs : ex.Exprs) (s : Span) → SomeExprs xs → AreAtoms xs → AllComplete xs → Completes (ex.CallGrammar c xs s)
completes_call_grammar c ex.no_exprs s some atoms all fs r p lev lim = absurd some
completes_call_grammar c (ex.an_expr a xs) s some atoms all fs r p lev lim =
    let n = place_name c p in
    let x = place a (after p) in
    let y = place_exprs xs x.1 in
    let stop : first_binds r < 16 = lim in
    starts a atoms.0 atoms.1 (fs, frame.have (found (ex.Upper n) 1)) (
      frame.in_call_grammar n [] 0 ∷ fs,
      frame.want,
    ) (same_first (found (ex.Upper n) 1) (frame.in_call_grammar n [] 0) fs refl lev) (print_args xs r) (after p)
    ∙ args_of_grammar xs atoms.2 all.1 n [] 0 a (after p) all.0 atoms.0 atoms.1 fs r stop
    ∙ ap (λ ys. run (seen r y.1) (fs, frame.have (found (ex.CallGrammar n (ex.an_expr x.0 ys) (between p y.1)) (1 + max (max 0 (depth a)) (exprs_depth xs)))))
    (listed_back y.0)
    ∙ ap (λ d. run (seen r y.1) (fs, frame.have (found (ex.CallGrammar n (ex.an_expr x.0 y.0) (between p y.1)) (1 + d)))) (zero_max (depth a) (exprs_depth xs))

pub completes_call_value : (c : Name) (xs : ex.Exprs) (s : Span) → SomeExprs xs → AreAtoms xs → AllComplete xs → Completes (ex.CallValue c xs s)
completes_call_value c ex.no_exprs s some atoms all fs r p lev lim = absurd some
completes_call_value c (ex.an_expr a xs) s some atoms all fs r p lev lim =
    let n = place_name c p in
    let x = place a (after p) in
    let y = place_exprs xs x.1 in
    let stop : first_binds r < 16 = lim in
    starts a atoms.0 atoms.1 (fs, frame.have (found (ex.Lower n) 1)) (
      frame.in_call_value n [] 0 ∷ fs,
      frame.want,
    ) (same_first (found (ex.Lower n) 1) (frame.in_call_value n [] 0) fs refl lev) (print_args xs r) (after p)
    ∙ args_of_value xs atoms.2 all.1 n [] 0 a (after p) all.0 atoms.0 atoms.1 fs r stop
    ∙ ap (λ ys. run (seen r y.1) (fs, frame.have (found (ex.CallValue n (ex.an_expr x.0 ys) (between p y.1)) (1 + max (max 0 (depth a)) (exprs_depth xs)))))
    (listed_back y.0)
    ∙ ap (λ d. run (seen r y.1) (fs, frame.have (found (ex.CallValue n (ex.an_expr x.0 y.0) (between p y.1)) (1 + d)))) (zero_max (depth a) (exprs_depth xs))

-- ---- just, Optional, Many

pub completes_just : (a : ex.Expr) (s : Span) → 17 ≤ level a → Completes a → Completes (ex.Just a s)
completes_just a s la all fs r p lev lim =
    let x = place a (after p) in
    let ends = atom_limit a la in
    let stop : first_binds r < 16 = lim in
    go (k.Word w.Just) (print a r) p (fs, frame.want) (frame.in_just (next p) ∷ fs, frame.want) (within 16 fs (frame.in_just (next p) ∷ fs, frame.want) lev)
    ∙ all (frame.in_just (next p) ∷ fs) r (after p) la (omega arith)
    ∙ close_right (frame.in_just (next p)) fs (found x.0 (depth a)) (found (ex.Just x.0 (joined (next p) (expr_span x.0))) (1 + depth a)) r x.1 refl
    (omega arith) stop
    ∙ ap (λ s. run (seen r x.1) (fs, frame.have (found (ex.Just x.0 s) (1 + depth a)))) (joined_one a p (after p))

optional_step : (b : Bias) (s : Span) (fs : List Frame) → least fs ≤ 16 → begin (optional_token b) s fs ≡ Some (frame.in_optional (repeat b s) ∷ fs, frame.want)
optional_step Biased s fs h = within 16 fs (frame.in_optional (repeat Biased s) ∷ fs, frame.want) h
optional_step Unbiased s fs h = within 16 fs (frame.in_optional (repeat Unbiased s) ∷ fs, frame.want) h

pub completes_optional : (b : Bias) (a : ex.Expr) (s : Span) → 17 ≤ level a → Completes a → Completes (ex.Optional b a s)
completes_optional b a s la all fs r p lev lim =
    let x = place a (after p) in
    let ends = atom_limit a la in
    let stop : first_binds r < 16 = lim in
    go (optional_token b) (print a r) p (fs, frame.want) (frame.in_optional (repeat b (next p)) ∷ fs, frame.want) (optional_step b (next p) fs lev)
    ∙ all (frame.in_optional (repeat b (next p)) ∷ fs) r (after p) la (omega arith)
    ∙ close_right (frame.in_optional (repeat b (next p))) fs (found x.0 (depth a)) (found (ex.Optional b x.0 (joined (next p) (expr_span x.0))) (1 + depth a)) r
    x.1 refl (omega arith) stop
    ∙ ap (λ s. run (seen r x.1) (fs, frame.have (found (ex.Optional b x.0 s) (1 + depth a)))) (joined_one a p (after p))

many_step : (b : Bias) (s : Span) (fs : List Frame) → least fs ≤ 16 → begin (many_token b) s fs ≡ Some (frame.in_many (repeat b s) ex.Free 0 ∷ fs, frame.want)
many_step Biased s fs h = within 16 fs (frame.in_many (repeat Biased s) ex.Free 0 ∷ fs, frame.want) h
many_step Unbiased s fs h = within 16 fs (frame.in_many (repeat Unbiased s) ex.Free 0 ∷ fs, frame.want) h

-- what is repeated, after its bound
many_body : (o : Repeat) (c : ex.Bound) (n : ℕ) (a : ex.Expr) (q p : Places) → o.from ≡ next q → 17 ≤ level a → Completes a → (fs : List Frame) (r : List Tok)
    → first_binds r < 16
    → let x = place a p in
    run (seen (print a r) p) (frame.in_many o c n ∷ fs, frame.want)
    ≡ run (seen r x.1) (fs, frame.have (found (ex.Many o.bias c x.0 (between q x.1)) (1 + max n (depth a))))
many_body o c n a q p e la all fs r stop =
    let x = place a p in
    let ends = atom_limit a la in
    all (frame.in_many o c n ∷ fs) r p la (omega arith)
    ∙ close_right (frame.in_many o c n) fs (found x.0 (depth a)) (found (ex.Many o.bias c x.0 (joined o.from (expr_span x.0))) (1 + max n (depth a))) r x.1 refl
    (omega arith) stop
    ∙ ap (λ s. run (seen r x.1) (fs, frame.have (found (ex.Many o.bias c x.0 (joined o.from s)) (1 + max n (depth a))))) (expr_span_placed a p)
    ∙ ap (λ s. run (seen r x.1) (fs, frame.have (found (ex.Many o.bias c x.0 (joined s (between p x.1))) (1 + max n (depth a))))) e

abbrev pub BoundCompletes : ex.Bound → Type 0
BoundCompletes ex.Free = Unit {0}
BoundCompletes (ex.Exactly c) = Completes c × IsExpr c × (17 ≤ level c)
BoundCompletes (ex.AtLeast c s) = Completes c
BoundCompletes (ex.AtMost c s) = Completes c
BoundCompletes (ex.Between c d s) = Completes c × Completes d

-- the bound, before an atom
reads_bound : (o : Repeat) (c : ex.Bound) → BoundCompletes c → (a : ex.Expr) → IsExpr a → 17 ≤ level a → (fs : List Frame) (r : List Tok) (p : Places)
    → run (seen (print_bound c (print a r)) p) (frame.in_many o ex.Free 0 ∷ fs, frame.want)
    ≡ run (seen (print a r) (place_bound c p).1) (frame.in_many o (place_bound c p).0 (bound_depth c) ∷ fs, frame.want)
reads_bound o ex.Free h a i l fs r p = refl
reads_bound o (ex.Exactly c) h a i l fs r p =
    let x = place c p in
    let ends = atom_limit c h.2 in
    let small = args_small a i l r in
    h.0 (frame.in_many o ex.Free 0 ∷ fs) (print a r) p h.2 (omega arith)
    ∙ starts a i l (frame.in_many o ex.Free 0 ∷ fs, frame.have (found x.0 (depth c))) (frame.in_many o (ex.Exactly x.0) (depth c) ∷ fs, frame.want)
    (same_more (frame.in_many o ex.Free 0) (frame.in_many o (ex.Exactly x.0) (depth c)) (found x.0 (depth c)) fs refl refl) r x.1
reads_bound o (ex.AtLeast c s) h a i l fs r p =
    let some = level_some c in
    let above = limit_above c in
    h (frame.in_paren (next p) ∷ frame.in_many o ex.Free 0 ∷ fs) (k.Mark m.DotDot ∷ k.Mark m.CloseParen ∷ print a r) (after p) (omega arith) (omega arith)
reads_bound o (ex.AtMost c s) h a i l fs r p =
    let some = level_some c in
    let above = limit_above c in
    h (frame.in_at_most o (next p) ∷ fs) (k.Mark m.CloseParen ∷ print a r) (after (after p)) (omega arith) (omega arith)
reads_bound o (ex.Between c d s) h a i l fs r p =
    let x = place c (after p) in
    let some_c = level_some c in
    let above_c = limit_above c in
    let some_d = level_some d in
    let above_d = limit_above d in
    h.0 (frame.in_paren (next p) ∷ frame.in_many o ex.Free 0 ∷ fs) (k.Mark m.DotDot ∷ print d (k.Mark m.CloseParen ∷ print a r)) (after p) (omega arith)
    (omega arith)
    ∙ h.1 (frame.in_between o (next p) (found x.0 (depth c)) ∷ fs) (k.Mark m.CloseParen ∷ print a r) (after x.1) (omega arith) (omega arith)

pub completes_many : (b : Bias) (c : ex.Bound) (a : ex.Expr) (s : Span) → IsExpr a → 17 ≤ level a → BoundCompletes c → Completes a → Completes (ex.Many b c a s)
completes_many b c a s i la bound all fs r p lev lim =
    let o = repeat b (next p) in
    let q = place_bound c (after p) in
    let stop : first_binds r < 16 = lim in
    go (many_token b) (print_bound c (print a r)) p (fs, frame.want) (frame.in_many o ex.Free 0 ∷ fs, frame.want) (many_step b (next p) fs lev)
    ∙ reads_bound o c bound a i la fs r (after p)
    ∙ many_body o q.0 (bound_depth c) a p q.1 refl la all fs r stop
