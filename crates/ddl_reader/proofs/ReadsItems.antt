-- The machine reads blocks and cases, where it reads their expressions.
use Rattle.std.proofs.Common.{◌≡◌, ℕ, ◌+◌, max, List, [], ◌∷◌, ◌++◌, Some, None, refl, ap, ◌∙◌, arith, append_assoc}
use Rattle.ddl_base.specs.declared.span.Span.{Span}
use Rattle.ddl_token.specs.declared.token.Tok.{Tok}
use Rattle.ddl_token.specs.declared.token.Tok.TheVariants as k
use Rattle.ddl_token.specs.declared.word.Word.TheVariants as w
use Rattle.ddl_token.specs.declared.mark.Mark.TheVariants as m
use Rattle.ddl_tree.specs.ExprTree as ex
use Rattle.ddl_tree.specs.ExprTree.{expr_span}
use Rattle.ddl_reader.specs.Frames.{Frame, State, Found, Repeat, Start, Cases}
use Rattle.ddl_reader.specs.Frames as frame
use Rattle.ddl_reader.specs.StepType.{joined, found}
use Rattle.ddl_reader.specs.Step.{run}
use Rattle.ddl_reader.proofs.Tokens.{seen}
use Rattle.ddl_reader.proofs.Levels.{first_binds, Completes, limit_above, level_some, expr_span_placed}
use Rattle.ddl_reader.proofs.ReadsLists.{max_none, max_more, zero_max}
use Rattle.ddl_tree.specs.declared.pattern.Pat.{Pat}
use Rattle.ddl_tree.specs.declared.pattern.Pat.TheVariants as pat
use Rattle.ddl_tree.specs.declared.pattern.Binder.TheVariants.{Called, Ignored}
use Rattle.ddl_tree.specs.PatternTree.{pattern_span}
use Rattle.ddl_tree.specs.View.{items_of, alts_of}
use Rattle.ddl_tree.specs.Print.{print, print_item, print_more_items, print_pattern, print_alts, print_more_alts}
use Rattle.ddl_tree.specs.Grammar.{SomeItems, SomeAlts}
use Rattle.ddl_tree.specs.Depth.{depth, item_depth, items_depth, alts_depth}
use Rattle.ddl_tree.specs.Spans.{Places, next, after, between, place, place_name, place_item, place_more_items, place_pattern, place_more_alts}
use Rattle.ddl_reader.specs.StepLists.{started, in_alt_of, alt_of, no_cases}

-- ---- blocks

abbrev pub ItemCompletes : ex.Item → Type 0
ItemCompletes (ex.Result a s) = Completes a
ItemCompletes (ex.Let x a s) = Completes a
ItemCompletes (ex.Field x a s) = Completes a
ItemCompletes (ex.Plain a) = Completes a

abbrev pub AllItems : ex.Items → Type 0
AllItems ex.no_items = Unit {0}
AllItems (ex.an_item i is) = ItemCompletes i × AllItems is

abbrev items_listed : ex.Items → List ex.Item
items_listed ex.no_items = []
items_listed (ex.an_item i is) = i ∷ items_listed is

items_back : (is : ex.Items) → items_of (items_listed is) ≡ is
items_back ex.no_items = refl
items_back (ex.an_item i is) = ap (ex.an_item i) (items_back is)

items_small : (is : ex.Items) (r : List Tok) → first_binds (print_more_items is (k.Mark m.CloseBrace ∷ r)) ≡ 0
items_small ex.no_items r = refl
items_small (ex.an_item i is) r = refl

-- the beginning of a part, and the expression that it ends with
abbrev start_of : ex.Item → Places → Start
start_of (ex.Result a s) p = frame.result_from (next p)
start_of (ex.Let x a s) p = frame.let_from (next p) (place_name x (after p))
start_of (ex.Field x a s) p = frame.field (place_name x p)
start_of (ex.Plain a) p = frame.plainly

abbrev value_of : ex.Item → Places → Found
value_of (ex.Result a s) p = found (place a (after (after p))).0 (depth a)
value_of (ex.Let x a s) p = found (place a (after (after (after p)))).0 (depth a)
value_of (ex.Field x a s) p = found (place a (after (after p))).0 (depth a)
value_of (ex.Plain a) p = found (place a p).0 (depth a)

value_deep : (i : ex.Item) (p : Places) → (value_of i p).deep ≡ item_depth i
value_deep (ex.Result a s) p = refl
value_deep (ex.Let x a s) p = refl
value_deep (ex.Field x a s) p = refl
value_deep (ex.Plain a) p = refl

item_started : (i : ex.Item) (p : Places) → started (start_of i p) (value_of i p) ≡ (place_item i p).0
item_started (ex.Result a s) p = ap (λ s. ex.Result (place a (after (after p))).0 (joined (next p) s)) (expr_span_placed a (after (after p)))
item_started (ex.Let x a s) p = ap (λ s. ex.Let (place_name x (after p)) (place a (after (after (after p)))).0 (joined (next p) s))
    (expr_span_placed a (after (after (after p))))
item_started (ex.Field x a s) p = ap (λ s. ex.Field (place_name x p) (place a (after (after p))).0 (joined (next p) s)) (expr_span_placed a (after (after p)))
item_started (ex.Plain a) p = refl

reads_item : (i : ex.Item) → ItemCompletes i → (s : Span) (pre : List ex.Item) (n : ℕ) (fs : List Frame) (r : List Tok) (p : Places) → first_binds r ≡ 0
    → run (seen (print_item i r) p) (frame.in_block s pre n frame.plainly ∷ fs, frame.want)
    ≡ run (seen r (place_item i p).1) (frame.in_block s pre n (start_of i p) ∷ fs, frame.have (value_of i p))
reads_item (ex.Result a t) all s pre n fs r p h =
    let some = level_some a in
    let above = limit_above a in
    all (frame.in_block s pre n (frame.result_from (next p)) ∷ fs) r (after (after p)) (omega arith) (omega arith)
reads_item (ex.Let x a t) all s pre n fs r p h =
    let some = level_some a in
    let above = limit_above a in
    all (frame.in_block s pre n (frame.let_from (next p) (place_name x (after p))) ∷ fs) r (after (after (after p))) (omega arith) (omega arith)
reads_item (ex.Field x a t) all s pre n fs r p h =
    let some = level_some a in
    let above = limit_above a in
    all (frame.in_block s pre n (frame.field (place_name x p)) ∷ fs) r (after (after p)) (omega arith) (omega arith)
reads_item (ex.Plain a) all s pre n fs r p h =
    let some = level_some a in
    let above = limit_above a in
    all (frame.in_block s pre n frame.plainly ∷ fs) r p (omega arith) (omega arith)

abbrev block_of : Span → Span → List ex.Item → ℕ → Found
block_of s t is n = found (ex.Block (items_of is) (joined s t)) (1 + n)

rest_of_block : (is : ex.Items) → AllItems is → (s : Span) (pre : List ex.Item) (n : ℕ) (b : Start) (a : Found) (fs : List Frame) (r : List Tok) (p : Places)
    → let y = place_more_items is p in
    run (seen (print_more_items is (k.Mark m.CloseBrace ∷ r)) p) (frame.in_block s pre n b ∷ fs, frame.have a)
    ≡ run (seen r (after y.1)) (fs, frame.have (block_of s (next y.1) (pre ++ started b a ∷ items_listed y.0) (max (max n a.deep) (items_depth is))))
rest_of_block ex.no_items all s pre n b a fs r p = ap (λ d. run (seen r (after p)) (fs, frame.have (block_of s (next p) (pre ++ started b a ∷ []) d)))
    (max_none (max n a.deep))
rest_of_block (ex.an_item i is) all s pre n b a fs r p =
    let q = after p in
    let x = place_item i q in
    let y = place_more_items is x.1 in
    let v = value_of i q in
    let o = start_of i q in
    reads_item i all.0 s (pre ++ started b a ∷ []) (max n a.deep) fs (print_more_items is (k.Mark m.CloseBrace ∷ r)) q (items_small is r)
    ∙ rest_of_block is all.1 s (pre ++ started b a ∷ []) (max n a.deep) o v fs r x.1
    ∙ ap (λ ys. run (seen r (after y.1)) (fs, frame.have (block_of s (next y.1) ys (max (max (max n a.deep) v.deep) (items_depth is)))))
    (append_assoc pre (started b a ∷ []) (started o v ∷ items_listed y.0))
    ∙ ap (λ z. run (seen r (after y.1)) (
      fs,
      frame.have (block_of s (next y.1) (pre ++ started b a ∷ z ∷ items_listed y.0)
          (max (max (max n a.deep) v.deep) (items_depth is))),
    )) (item_started i q)
    ∙ ap (λ d. run (seen r (after y.1)) (
      fs,
      frame.have (block_of s (next y.1) (pre ++ started b a ∷ x.0 ∷ items_listed y.0)
          (max (max (max n a.deep) d) (items_depth is))),
    )) (value_deep i q)
    ∙ ap (λ d. run (seen r (after y.1)) (fs, frame.have (block_of s (next y.1) (pre ++ started b a ∷ x.0 ∷ items_listed y.0) d)))
    (max_more (max n a.deep) (item_depth i) (items_depth is))

pub completes_block : (is : ex.Items) (s : Span) → SomeItems is → AllItems is → Completes (ex.Block is s)
completes_block ex.no_items s some all fs r p lev lim = absurd some
completes_block (ex.an_item i is) s some all fs r p lev lim =
    let q = after (after p) in
    let x = place_item i q in
    let y = place_more_items is x.1 in
    let v = value_of i q in
    let o = start_of i q in
    reads_item i all.0 (next p) [] 0 fs (print_more_items is (k.Mark m.CloseBrace ∷ r)) q (items_small is r)
    ∙ rest_of_block is all.1 (next p) [] 0 o v fs r x.1
    ∙ ap (λ z. run (seen r (after y.1)) (fs, frame.have (block_of (next p) (next y.1) (z ∷ items_listed y.0) (max (max 0 v.deep) (items_depth is)))))
    (item_started i q)
    ∙ ap (λ d. run (seen r (after y.1)) (fs, frame.have (block_of (next p) (next y.1) (x.0 ∷ items_listed y.0) (max (max 0 d) (items_depth is)))))
    (value_deep i q)
    ∙ ap (λ ys. run (seen r (after y.1)) (
      fs,
      frame.have (found (ex.Block (ex.an_item x.0 ys) (joined (next p) (next y.1)))
          (1 + max (max 0 (item_depth i)) (items_depth is))),
    )) (items_back y.0)
    ∙ ap (λ d. run (seen r (after y.1)) (fs, frame.have (found (ex.Block (ex.an_item x.0 y.0) (joined (next p) (next y.1))) (1 + d))))
    (zero_max (item_depth i) (items_depth is))

-- ---- case

abbrev pub AllAlts : ex.Alts → Type 0
AllAlts ex.no_alts = Unit {0}
AllAlts (ex.an_alt f a s xs) = Completes a × AllAlts xs

abbrev alternative : Pat → ex.Expr → Span → ex.Alt
alternative f a s = record { pattern = f; body = a; span = s }

abbrev alts_listed : ex.Alts → List ex.Alt
alts_listed ex.no_alts = []
alts_listed (ex.an_alt f a s xs) = alternative f a s ∷ alts_listed xs

alts_back : (xs : ex.Alts) → alts_of (alts_listed xs) ≡ xs
alts_back ex.no_alts = refl
alts_back (ex.an_alt f a s xs) = ap (ex.an_alt f a s) (alts_back xs)

alts_small : (xs : ex.Alts) (r : List Tok) → first_binds (print_more_alts xs (k.Mark m.CloseBrace ∷ r)) ≡ 0
alts_small ex.no_alts r = refl
alts_small (ex.an_alt f a s xs) r = refl

pattern_span_placed : (f : Pat) (p : Places) → pattern_span (place_pattern f p).0 ≡ between p (place_pattern f p).1
pattern_span_placed (pat.Any s) p = refl
pattern_span_placed (pat.Num n) p = refl
pattern_span_placed (pat.Char b s) p = refl
pattern_span_placed (pat.True s) p = refl
pattern_span_placed (pat.False s) p = refl
pattern_span_placed (pat.Nothing s) p = refl
pattern_span_placed (pat.Just b s) p = refl
pattern_span_placed (pat.Tag x b s) p = refl

reads_pattern : (f : Pat) (c : Cases) (fs : List Frame) (r : List Tok) (p : Places)
    → run (seen (print_pattern f (k.Mark m.Arrow ∷ r)) p) (fs, frame.want_pattern c)
    ≡ run (seen r (after (place_pattern f p).1)) (in_alt_of c (place_pattern f p).0 fs)
reads_pattern (pat.Any s) c fs r p = refl
reads_pattern (pat.Num n) c fs r p = refl
reads_pattern (pat.Char b s) c fs r p = refl
reads_pattern (pat.True s) c fs r p = refl
reads_pattern (pat.False s) c fs r p = refl
reads_pattern (pat.Nothing s) c fs r p = refl
reads_pattern (pat.Just (Called x) s) c fs r p = refl
reads_pattern (pat.Just (Ignored t) s) c fs r p = refl
reads_pattern (pat.Tag x None s) c fs r p = refl
reads_pattern (pat.Tag x (Some (Called y)) s) c fs r p = refl
reads_pattern (pat.Tag x (Some (Ignored t)) s) c fs r p = refl

-- an alternative whose pattern begins at p
placed_alt : (f : Pat) (a : ex.Expr) (n : ℕ) (p : Places)
    → let g = place_pattern f p in let x = place a (after g.1) in alt_of g.0 (found x.0 n) ≡ alternative g.0 x.0 (between p x.1)
placed_alt f a n p =
    let g = place_pattern f p in
    let x = place a (after g.1) in
    ap (λ s. alternative g.0 x.0 (joined s (expr_span x.0))) (pattern_span_placed f p)
    ∙ ap (λ s. alternative g.0 x.0 (joined (between p g.1) s)) (expr_span_placed a (after g.1))

abbrev case_of : Span → Span → Found → List ex.Alt → ℕ → Found
case_of s t e xs n = found (ex.Case e.expr (alts_of xs) (joined s t)) (1 + max e.deep n)

rest_of_case : (xs : ex.Alts) → AllAlts xs → (s : Span) (e : Found) (pre : List ex.Alt) (n : ℕ) (f : Pat) (a : Found) (fs : List Frame) (r : List Tok)
    (p : Places)
    → let y = place_more_alts xs p in
    run (seen (print_more_alts xs (k.Mark m.CloseBrace ∷ r)) p) (frame.in_alt s e pre n f ∷ fs, frame.have a)
    ≡ run (seen r (after y.1)) (fs, frame.have (case_of s (next y.1) e (pre ++ alt_of f a ∷ alts_listed y.0) (max (max n a.deep) (alts_depth xs))))
rest_of_case ex.no_alts all s e pre n f a fs r p = ap (λ d. run (seen r (after p)) (fs, frame.have (case_of s (next p) e (pre ++ alt_of f a ∷ []) d)))
    (max_none (max n a.deep))
rest_of_case (ex.an_alt g b t xs) all s e pre n f a fs r p =
    let q = after p in
    let h = place_pattern g q in
    let x = place b (after h.1) in
    let y = place_more_alts xs x.1 in
    let some = level_some b in
    let above = limit_above b in
    let small = alts_small xs r in
    let c : Cases = record { from = s; subject = e; alts = pre ++ alt_of f a ∷ []; deep = max n a.deep } in
    reads_pattern g c fs (print b (print_more_alts xs (k.Mark m.CloseBrace ∷ r))) q
    ∙ all.0 (frame.in_alt s e (pre ++ alt_of f a ∷ []) (max n a.deep) h.0 ∷ fs) (print_more_alts xs (k.Mark m.CloseBrace ∷ r)) (after h.1) (omega arith)
    (omega arith)
    ∙ rest_of_case xs all.1 s e (pre ++ alt_of f a ∷ []) (max n a.deep) h.0 (found x.0 (depth b)) fs r x.1
    ∙ ap (λ ys. run (seen r (after y.1)) (fs, frame.have (case_of s (next y.1) e ys (max (max (max n a.deep) (depth b)) (alts_depth xs)))))
    (append_assoc pre (alt_of f a ∷ []) (alt_of h.0 (found x.0 (depth b)) ∷ alts_listed y.0))
    ∙ ap (λ z. run (seen r (after y.1)) (
      fs,
      frame.have (case_of s (next y.1) e (pre ++ alt_of f a ∷ z ∷ alts_listed y.0)
          (max (max (max n a.deep) (depth b)) (alts_depth xs))),
    )) (placed_alt g b (depth b) q)
    ∙ ap (λ d. run (seen r (after y.1)) (fs, frame.have (case_of s (next y.1) e (pre ++ alt_of f a ∷ alternative h.0 x.0 (between q x.1) ∷ alts_listed y.0) d)))
    (max_more (max n a.deep) (depth b) (alts_depth xs))

pub completes_case : (a : ex.Expr) (xs : ex.Alts) (s : Span) → SomeAlts xs → Completes a → AllAlts xs → Completes (ex.Case a xs s)
completes_case a ex.no_alts s some one all fs r p lev lim = absurd some
completes_case a (ex.an_alt g b t xs) s _ one all fs r p lev lim =
    let z = place a (after p) in
    let q = after (after z.1) in
    let h = place_pattern g q in
    let x = place b (after h.1) in
    let y = place_more_alts xs x.1 in
    let some_a = level_some a in
    let above_a = limit_above a in
    let some_b = level_some b in
    let above_b = limit_above b in
    let small = alts_small xs r in
    let e = found z.0 (depth a) in
    let tail = print_alts (ex.an_alt g b t xs) (k.Mark m.CloseBrace ∷ r) in
    one (frame.in_subject (next p) ∷ fs) (k.Word w.Of ∷ k.Mark m.OpenBrace ∷ tail) (after p) (omega arith) (omega arith)
    ∙ reads_pattern g (no_cases (next p) e) fs (print b (print_more_alts xs (k.Mark m.CloseBrace ∷ r))) q
    ∙ all.0 (frame.in_alt (next p) e [] 0 h.0 ∷ fs) (print_more_alts xs (k.Mark m.CloseBrace ∷ r)) (after h.1) (omega arith) (omega arith)
    ∙ rest_of_case xs all.1 (next p) e [] 0 h.0 (found x.0 (depth b)) fs r x.1
    ∙ ap (λ v. run (seen r (after y.1)) (fs, frame.have (case_of (next p) (next y.1) e (v ∷ alts_listed y.0) (max (max 0 (depth b)) (alts_depth xs)))))
    (placed_alt g b (depth b) q)
    ∙ ap (λ ys. run (seen r (after y.1)) (
      fs,
      frame.have (found (ex.Case z.0 (ex.an_alt h.0 x.0 (between q x.1) ys) (joined (next p) (next y.1)))
          (1 + max (depth a) (max (max 0 (depth b)) (alts_depth xs)))),
    )) (alts_back y.0)
    ∙ ap (λ d. run (seen r (after y.1)) (
      fs,
      frame.have (found (ex.Case z.0 (ex.an_alt h.0 x.0 (between q x.1) y.0) (joined (next p) (next y.1)))
          (1 + max (depth a) d)),
    )) (zero_max (depth b) (alts_depth xs))
