-- A module that is shown is read back as itself.
use Rattle.std.proofs.Common.{◌≡◌, ◌≤◌, ◌^◌, ℕ, List, [], ◌∷◌, length, map, arith, refl, sym, ap, ◌∙◌, subst}
use Rattle.ddl_base.specs.declared.span.Span.{Span}
use Rattle.ddl_token.specs.declared.token.Tok.{Tok}
use Rattle.ddl_token.specs.declared.token.Token.{Token}
use Rattle.ddl_tree.specs.Depth.{module_depth}
use Rattle.ddl_tree.specs.GrammarModule.{IsModule}
use Rattle.ddl_tree.specs.ModuleTree.{Module}
use Rattle.ddl_tree.specs.PrintModule.{print_module}
use Rattle.ddl_tree.specs.Spans.{nowhere}
use Rattle.ddl_tree.specs.SpansModule.{placed, SameButSpans, StandsAt}
use Rattle.ddl_lex.specs.Layout.{lay}
use Rattle.ddl_lex.proofs.Reached.{one_list}
use Rattle.ddl_reader.specs.Frames.{Seen}
use Rattle.ddl_reader.specs.Step.{kinds, places}
use Rattle.ddl_reader.proofs.Exact.{reads_modules, kinds_seen}
use Rattle.ddl_reader.proofs.PlacedDepth.{depth_placed}
use Rattle.ddl_reader.proofs.ReadsModule.{one_module, reads_module}
use Rattle.ddl_reader.proofs.Tokens.{seen}
use Rattle.ddl_show.specs.ReadBack.{AreTokenForms, ReadsBack}
use Rattle.ddl_show.specs.Show.{show_text}
use Rattle.ddl_show.proofs.ReadsBack.{reads_back}
use Rattle.ddl_syntax.specs.Answer.{kinds_of, places_of}
use Rattle.ddl_source.specs.Source.{HasTokens, HasTree}
use Rattle.std.specs.Prelude.{None}

-- the places of tokens that stand at as many places are these
places_seen : (ks : List Tok) (spans : List Span) (last : Span) → length ks ≡ length spans → places (seen ks (record { last = last; rest = spans })) ≡ spans
places_seen [] [] last h = refl
places_seen [] (s ∷ spans) last h = absurd (cc)
places_seen (k ∷ ks) [] last h = absurd (cc)
places_seen (k ∷ ks) (s ∷ spans) last h = ap (λ ss. s ∷ ss) (places_seen ks spans s (omega (arith, h)))

as_many : (m : ℕ) (ts : List Token) → length (kinds_of ts) ≡ length (places_of m ts)
as_many m [] = refl
as_many m (t ∷ ts) = let h = as_many m ts in omega (arith, h)

-- a text whose tokens are printed has the module as its tree, each part at the place of its tokens
tree_there : (m : ℕ) (a : Module) (text : List ℕ) (ts : List Token) → IsModule a → module_depth a ≤ 200 → HasTokens text ts → kinds_of ts ≡ print_module a
    → HasTree m text (placed a (places_of m ts))
tree_there m a text ts i deep tokens same =
    let spans : List Span = places_of m ts in
    let xs : List Seen = seen (print_module a) (record { last = nowhere; rest = spans }) in
    let read = reads_modules xs (placed a spans) (reads_module a i spans) in
    let many : length (print_module a) ≡ length spans = ap length (sym same) ∙ as_many m ts in
    let printed : print_module (placed a spans) ≡ kinds_of ts = read.1 ∙ kinds_seen (print_module a) (record { last = nowhere; rest = spans }) ∙ sym same in
    let stands : StandsAt (placed a spans) spans = subst (StandsAt (placed a spans)) (places_seen (print_module a) spans nowhere many) read.2 in
    (ts, tokens, (read.0, printed, stands, rw (depth_placed a spans) deep))

-- two trees of the grammar with the tokens of one text differ in nothing but spans
pub same_tree : (m : ℕ) (a b : Module) → IsModule a → AreTokenForms (print_module a) → length (print_module a) ≤ 2 ^ 20 → HasTree m (show_text a) b
    → SameButSpans a b
same_tree m a b i forms few h =
    let back = reads_back a forms few in
    let cut : h.1.0 ≡ back.0 = one_list (show_text a) h.1.0 back.0 h.1.1 back.1 in
    let kinds_are : kinds_of h.0 ≡ print_module a = ap kinds_of h.1.2 ∙ ap (λ tokens. kinds_of (lay None [] tokens)) cut ∙ back.2 in
    one_module a b i h.2.0 (sym kinds_are ∙ sym h.2.1)

pub there : (m : ℕ) (a : Module) → IsModule a → AreTokenForms (print_module a) → length (print_module a) ≤ 2 ^ 20 → module_depth a ≤ 200
    → (b : Module) × HasTree m (show_text a) b × SameButSpans a b
there m a i forms few deep =
    let back = reads_back a forms few in
    let ts : List Token = lay None [] back.0 in
    let tokens : HasTokens (show_text a) ts = (back.0, back.1, refl) in
    let tree : HasTree m (show_text a) (placed a (places_of m ts)) = tree_there m a (show_text a) ts i deep tokens back.2 in
    (placed a (places_of m ts), tree, same_tree m a (placed a (places_of m ts)) i forms few tree)
