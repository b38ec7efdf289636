-- The machine reads records and alternatives with tags, where it reads the values.
use Rattle.std.proofs.Common.{◌≡◌, ℕ, ◌+◌, max, List, [], ◌∷◌, ◌++◌, refl, ap, ◌∙◌, arith, append_assoc}
use Rattle.ddl_base.specs.declared.span.Span.{Span}
use Rattle.ddl_token.specs.declared.token.Tok.{Tok}
use Rattle.ddl_token.specs.declared.token.Tok.TheVariants as k
use Rattle.ddl_token.specs.declared.mark.Mark.{Mark}
use Rattle.ddl_token.specs.declared.mark.Mark.TheVariants as m
use Rattle.ddl_tree.specs.declared.name.Name.{Name}
use Rattle.ddl_tree.specs.declared.operator.Bias.{Bias}
use Rattle.ddl_tree.specs.ExprTree as ex
use Rattle.ddl_tree.specs.ExprTree.{expr_span}
use Rattle.ddl_reader.specs.Frames.{Frame, State, Found, Repeat, Start, Cases}
use Rattle.ddl_reader.specs.Frames as frame
use Rattle.ddl_reader.specs.StepType.{joined, found}
use Rattle.ddl_reader.specs.StepExpr.{binds, repeat}
use Rattle.ddl_reader.specs.Step.{run}
use Rattle.ddl_reader.proofs.Tokens.{seen}
use Rattle.ddl_reader.proofs.Levels.{first_binds, Completes, limit_above, level_some, expr_span_placed}
use Rattle.ddl_reader.proofs.ReadsLists.{max_none, max_more, zero_max}
use Rattle.ddl_tree.specs.View.{bindings_of}
use Rattle.ddl_tree.specs.Print.{print, print_more_bindings}
use Rattle.ddl_tree.specs.Grammar.{SomeBindings}
use Rattle.ddl_tree.specs.Depth.{depth, bindings_depth}
use Rattle.ddl_tree.specs.Spans.{Places, next, after, between, place, place_name, place_more_bindings}
use Rattle.ddl_reader.specs.StepParts.{bound_to}
use Rattle.ddl_reader.proofs.ReadsLists.{choice_step}

abbrev pub AllBound : ex.Bindings → Type 0
AllBound ex.no_bindings = Unit {0}
AllBound (ex.a_binding x a s bs) = Completes a × AllBound bs

abbrev binding : Name → ex.Expr → Span → ex.Binding
binding x a s = record { name = x; value = a; span = s }

abbrev bindings_listed : ex.Bindings → List ex.Binding
bindings_listed ex.no_bindings = []
bindings_listed (ex.a_binding x a s bs) = binding x a s ∷ bindings_listed bs

bindings_back : (bs : ex.Bindings) → bindings_of (bindings_listed bs) ≡ bs
bindings_back ex.no_bindings = refl
bindings_back (ex.a_binding x a s bs) = ap (ex.a_binding x a s) (bindings_back bs)

-- a value after its name, at p
placed_value : (x : Name) (a : ex.Expr) (n : ℕ) (p q : Places)
    → bound_to (place_name x p) (found (place a q).0 n) ≡ binding (place_name x p) (place a q).0 (between p (place a q).1)
placed_value x a n p q = ap (λ s. binding (place_name x p) (place a q).0 (joined (next p) s)) (expr_span_placed a q)

bindings_small : (bs : ex.Bindings) (c : Mark) (r : List Tok) → binds (k.Mark c) ≡ 0 → first_binds r ≡ 0 → first_binds (print_more_bindings bs c r) ≡ 0
bindings_small ex.no_bindings c r h i = i
bindings_small (ex.a_binding x a s bs) c r h i = h

-- ---- records

abbrev record_of : Span → Span → List ex.Binding → ℕ → Found
record_of s t bs n = found (ex.RecordOf (bindings_of bs) (joined s t)) (1 + n)

rest_of_record : (bs : ex.Bindings) → AllBound bs → (s : Span) (pre : List ex.Binding) (n : ℕ) (v : Name) (a : Found) (fs : List Frame) (r : List Tok)
    (p : Places)
    → let y = place_more_bindings bs p in
    run (seen (print_more_bindings bs m.Comma (k.Mark m.CloseBrace ∷ r)) p) (frame.in_record s pre n v ∷ fs, frame.have a)
    ≡ run (seen r (after y.1)) (fs, frame.have (record_of s (next y.1) (pre ++ bound_to v a ∷ bindings_listed y.0) (max (max n a.deep) (bindings_depth bs))))
rest_of_record ex.no_bindings all s pre n v a fs r p = ap (λ d. run (seen r (after p)) (fs, frame.have (record_of s (next p) (pre ++ bound_to v a ∷ []) d)))
    (max_none (max n a.deep))
rest_of_record (ex.a_binding u b t bs) all s pre n v a fs r p =
    let q = after p in
    let x = place b (after (after q)) in
    let y = place_more_bindings bs x.1 in
    let some = level_some b in
    let above = limit_above b in
    let small = bindings_small bs m.Comma (k.Mark m.CloseBrace ∷ r) refl refl in
    let name = place_name u q in
    all.0 (frame.in_record s (pre ++ bound_to v a ∷ []) (max n a.deep) name ∷ fs) (print_more_bindings bs m.Comma (k.Mark m.CloseBrace ∷ r)) (after (after q))
    (omega arith) (omega arith)
    ∙ rest_of_record bs all.1 s (pre ++ bound_to v a ∷ []) (max n a.deep) name (found x.0 (depth b)) fs r x.1
    ∙ ap (λ ys. run (seen r (after y.1)) (fs, frame.have (record_of s (next y.1) ys (max (max (max n a.deep) (depth b)) (bindings_depth bs)))))
    (append_assoc pre (bound_to v a ∷ []) (bound_to name (found x.0 (depth b)) ∷ bindings_listed y.0))
    ∙ ap (λ z. run (seen r (after y.1)) (
      fs,
      frame.have (record_of s (next y.1) (pre ++ bound_to v a ∷ z ∷ bindings_listed y.0)
          (max (max (max n a.deep) (depth b)) (bindings_depth bs))),
    )) (placed_value u b (depth b) q (after (after q)))
    ∙ ap (λ d. run (seen r (after y.1)) (
      fs,
      frame.have (record_of s (next y.1) (pre ++ bound_to v a ∷ binding name x.0 (between q x.1) ∷ bindings_listed y.0)
          d),
    )) (max_more (max n a.deep) (depth b) (bindings_depth bs))

pub completes_record : (bs : ex.Bindings) (s : Span) → AllBound bs → Completes (ex.RecordOf bs s)
completes_record ex.no_bindings s all fs r p lev lim = refl
completes_record (ex.a_binding u a t bs) s all fs r p lev lim =
    let q = after p in
    let x = place a (after (after q)) in
    let y = place_more_bindings bs x.1 in
    let some = level_some a in
    let above = limit_above a in
    let small = bindings_small bs m.Comma (k.Mark m.CloseBrace ∷ r) refl refl in
    let name = place_name u q in
    all.0 (frame.in_record (next p) [] 0 name ∷ fs) (print_more_bindings bs m.Comma (k.Mark m.CloseBrace ∷ r)) (after (after q)) (omega arith) (omega arith)
    ∙ rest_of_record bs all.1 (next p) [] 0 name (found x.0 (depth a)) fs r x.1
    ∙ ap (λ z. run (seen r (after y.1)) (fs, frame.have (record_of (next p) (next y.1) (z ∷ bindings_listed y.0) (max (max 0 (depth a)) (bindings_depth bs)))))
    (placed_value u a (depth a) q (after (after q)))
    ∙ ap (λ ys. run (seen r (after y.1)) (
      fs,
      frame.have (found (ex.RecordOf (ex.a_binding name x.0 (between q x.1) ys) (joined (next p) (next y.1)))
          (1 + max (max 0 (depth a)) (bindings_depth bs))),
    )) (bindings_back y.0)
    ∙ ap (λ d. run (seen r (after y.1)) (fs, frame.have (found (ex.RecordOf (ex.a_binding name x.0 (between q x.1) y.0) (joined (next p) (next y.1))) (1 + d))))
    (zero_max (depth a) (bindings_depth bs))

-- ---- tags

abbrev choice_of : Repeat → Span → List ex.Binding → ℕ → Found
choice_of o t bs n = found (ex.Choice o.bias (ex.WithTags (bindings_of bs)) (joined o.from t)) (1 + n)

rest_of_tags : (bs : ex.Bindings) → AllBound bs → (o : Repeat) (pre : List ex.Binding) (n : ℕ) (v : Name) (a : Found) (fs : List Frame) (r : List Tok)
    (p : Places)
    → let y = place_more_bindings bs p in
    run (seen (print_more_bindings bs m.Semicolon (k.Mark m.CloseBrace ∷ r)) p) (frame.in_with_tags o pre n v ∷ fs, frame.have a)
    ≡ run (seen r (after y.1)) (fs, frame.have (choice_of o (next y.1) (pre ++ bound_to v a ∷ bindings_listed y.0) (max (max n a.deep) (bindings_depth bs))))
rest_of_tags ex.no_bindings all o pre n v a fs r p = ap (λ d. run (seen r (after p)) (fs, frame.have (choice_of o (next p) (pre ++ bound_to v a ∷ []) d)))
    (max_none (max n a.deep))
rest_of_tags (ex.a_binding u b t bs) all o pre n v a fs r p =
    let q = after p in
    let x = place b (after (after q)) in
    let y = place_more_bindings bs x.1 in
    let some = level_some b in
    let above = limit_above b in
    let small = bindings_small bs m.Semicolon (k.Mark m.CloseBrace ∷ r) refl refl in
    let name = place_name u q in
    all.0 (frame.in_with_tags o (pre ++ bound_to v a ∷ []) (max n a.deep) name ∷ fs) (print_more_bindings bs m.Semicolon (k.Mark m.CloseBrace ∷ r))
    (after (after q)) (omega arith) (omega arith)
    ∙ rest_of_tags bs all.1 o (pre ++ bound_to v a ∷ []) (max n a.deep) name (found x.0 (depth b)) fs r x.1
    ∙ ap (λ ys. run (seen r (after y.1)) (fs, frame.have (choice_of o (next y.1) ys (max (max (max n a.deep) (depth b)) (bindings_depth bs)))))
    (append_assoc pre (bound_to v a ∷ []) (bound_to name (found x.0 (depth b)) ∷ bindings_listed y.0))
    ∙ ap (λ z. run (seen r (after y.1)) (
      fs,
      frame.have (choice_of o (next y.1) (pre ++ bound_to v a ∷ z ∷ bindings_listed y.0)
          (max (max (max n a.deep) (depth b)) (bindings_depth bs))),
    )) (placed_value u b (depth b) q (after (after q)))
    ∙ ap (λ d. run (seen r (after y.1)) (
      fs,
      frame.have (choice_of o (next y.1) (pre ++ bound_to v a ∷ binding name x.0 (between q x.1) ∷ bindings_listed y.0)
          d),
    )) (max_more (max n a.deep) (depth b) (bindings_depth bs))

pub completes_tags : (b : Bias) (bs : ex.Bindings) (s : Span) → SomeBindings bs → AllBound bs → Completes (ex.Choice b (ex.WithTags bs) s)
completes_tags b ex.no_bindings s some all fs r p lev lim = absurd some
completes_tags b (ex.a_binding u a t bs) s _ all fs r p lev lim =
    let q = after (after p) in
    let x = place a (after (after q)) in
    let y = place_more_bindings bs x.1 in
    let some = level_some a in
    let above = limit_above a in
    let small = bindings_small bs m.Semicolon (k.Mark m.CloseBrace ∷ r) refl refl in
    let name = place_name u q in
    let o = repeat b (next p) in
    choice_step b s fs (k.Lower u.text ∷ k.Mark m.Equals ∷ print a (print_more_bindings bs m.Semicolon (k.Mark m.CloseBrace ∷ r))) p
    ∙ all.0 (frame.in_with_tags o [] 0 name ∷ fs) (print_more_bindings bs m.Semicolon (k.Mark m.CloseBrace ∷ r)) (after (after q)) (omega arith) (omega arith)
    ∙ rest_of_tags bs all.1 o [] 0 name (found x.0 (depth a)) fs r x.1
    ∙ ap (λ z. run (seen r (after y.1)) (fs, frame.have (choice_of o (next y.1) (z ∷ bindings_listed y.0) (max (max 0 (depth a)) (bindings_depth bs)))))
    (placed_value u a (depth a) q (after (after q)))
    ∙ ap (λ ys. run (seen r (after y.1)) (
      fs,
      frame.have (found
          (ex.Choice b (ex.WithTags (ex.a_binding name x.0 (between q x.1) ys)) (joined (next p) (next y.1))) (1 + max (max 0 (depth a)) (bindings_depth bs))),
    ))
    (bindings_back y.0)
    ∙ ap (λ d. run (seen r (after y.1)) (
      fs,
      frame.have (found
          (ex.Choice b (ex.WithTags (ex.a_binding name x.0 (between q x.1) y.0)) (joined (next p) (next y.1))) (1 + d)),
    )) (zero_max (depth a) (bindings_depth bs))
