-- What a text has is one thing.
use Rattle.std.proofs.Common.{◌≡◌, ℕ, List, [], drop, length, None, Ok, Err, refl, sym, ap, ◌∙◌, subst}
use Rattle.ddl_token.specs.declared.token.Token.{Token}
use Rattle.ddl_tree.specs.ModuleTree.{Module}
use Rattle.ddl_lex.specs.Layout.{lay}
use Rattle.ddl_lex.specs.declared.error.LexError.{LexError}
use Rattle.ddl_lex.proofs.Reached.{one_list, no_tokens_with_error, one_error}
use Rattle.ddl_reader.proofs.ReadsModule.{one_module}
use Rattle.ddl_syntax.specs.Answer.{kinds_of, places_of}
use Rattle.ddl_source.specs.Source.{HasLexError, HasModule, HasTokens, HasTooNested, HasTree, HasUnexpected, IsTooNested, first_place}
use Rattle.ddl_source.specs.declared.error.SourceError.TheVariants as e
use Rattle.ddl_exact.specs.OneSource.{OneSource}
use Rattle.ddl_exact.proofs.Stops.{Stops, no_stop, nested_stops, one_stop, one_way, unexpected_stops}

-- ---- tokens

pub one_tokens : (text : List ℕ) (ts us : List Token) → HasTokens text ts → HasTokens text us → ts ≡ us
one_tokens text ts us h k = h.2 ∙ ap (lay None []) (one_list text h.0 k.0 h.1 k.1) ∙ sym k.2

no_error : (text : List ℕ) (f : LexError) (ts : List Token) → HasLexError text f → HasTokens text ts → ⊥
no_error text f ts h k = no_tokens_with_error text f k.0 h.0 h.1 k.1

-- ---- trees

one_tree_of : (m : ℕ) (ts : List Token) (a b : Module) → HasModule m ts a → HasModule m ts b → a ≡ b
one_tree_of m ts a b h k = sym h.2 ∙ one_module a b h.0 k.0 (h.1 ∙ sym k.1) (places_of m ts) ∙ k.2

pub one_tree : (m : ℕ) (text : List ℕ) (a b : Module) → HasTree m text a → HasTree m text b → a ≡ b
one_tree m text a b h k =
    let same : k.0 ≡ h.0 = one_tokens text k.0 h.0 k.1 h.1 in
    one_tree_of m h.0 a b h.2 (subst (λ ts. HasModule m ts b) same k.2)

-- ---- where it stops

abbrev place : ℕ → ℕ → ℕ × ℕ
place start end = (start, end)

-- the tokens of a text are read up to place k, which is told so
record StopsIn (text : List ℕ) (k start end : ℕ) : Type 0 where
  tokens : List Token
  are : HasTokens text tokens
  stops : Stops (kinds_of tokens) k
  stands : first_place (length text) (drop k tokens) ≡ place start end

unexpected_in : (text : List ℕ) (k start end : ℕ) → HasUnexpected text k start end → StopsIn text k start end
unexpected_in text k start end u = record { tokens = u.0; are = u.1; stops = unexpected_stops u.0 k u.2; stands = u.3 }

nested_in : (text : List ℕ) (k start end : ℕ) → HasTooNested text k start end → StopsIn text k start end
nested_in text k start end u = record { tokens = u.0; are = u.1; stops = nested_stops u.0 k u.2; stands = u.3 }

no_tree : (m : ℕ) (text : List ℕ) (k start end : ℕ) (a : Module) → HasTree m text a → StopsIn text k start end → ⊥
no_tree m text k start end a h s =
    let same : h.0 ≡ s.tokens = one_tokens text h.0 s.tokens h.1 s.are in
    no_stop m k s.tokens a (subst (λ ts. HasModule m ts a) same h.2) s.stops

same_stop : (text : List ℕ) (j start end k start' end' : ℕ) → StopsIn text j start end → StopsIn text k start' end' → j ≡ k
same_stop text j start end k start' end' s t =
    let same : t.tokens ≡ s.tokens = one_tokens text t.tokens s.tokens t.are s.are in
    one_stop (kinds_of s.tokens) j k s.stops (subst (λ ts. Stops (kinds_of ts) k) same t.stops)

same_place : (text : List ℕ) (j start end k start' end' : ℕ) → StopsIn text j start end → StopsIn text k start' end' → place start end ≡ place start' end'
same_place text j start end k start' end' s t =
    let same : s.tokens ≡ t.tokens = one_tokens text s.tokens t.tokens s.are t.are in
    let at : j ≡ k = same_stop text j start end k start' end' s t in
    sym s.stands ∙ ap (λ ts. first_place (length text) (drop j ts)) same ∙ ap (λ n. first_place (length text) (drop n t.tokens)) at ∙ t.stands

two_ways : (text : List ℕ) (j start end k start' end' : ℕ) → HasUnexpected text j start end → HasTooNested text k start' end' → ⊥
two_ways text j start end k start' end' u n =
    let same : n.0 ≡ u.0 = one_tokens text n.0 u.0 n.1 u.1 in
    one_way u.0 j k (same_stop text j start end k start' end' (unexpected_in text j start end u) (nested_in text k start' end' n)) u.2
    (subst (λ ts. IsTooNested ts k) same n.2)

-- ---- all together

one_unexpected : (text : List ℕ) (j start end k start' end' : ℕ) → HasUnexpected text j start end → HasUnexpected text k start' end'
    → e.Unexpected j start end ≡ e.Unexpected k start' end'
one_unexpected text j start end k start' end' u v =
    let s = unexpected_in text j start end u in
    let t = unexpected_in text k start' end' v in
    ap (λ n. e.Unexpected n start end) (same_stop text j start end k start' end' s t)
    ∙ ap (λ p. e.Unexpected k p.0 p.1) (same_place text j start end k start' end' s t)

one_nested : (text : List ℕ) (j start end k start' end' : ℕ) → HasTooNested text j start end → HasTooNested text k start' end'
    → e.TooNested j start end ≡ e.TooNested k start' end'
one_nested text j start end k start' end' u v =
    let s = nested_in text j start end u in
    let t = nested_in text k start' end' v in
    ap (λ n. e.TooNested n start end) (same_stop text j start end k start' end' s t)
    ∙ ap (λ p. e.TooNested k p.0 p.1) (same_place text j start end k start' end' s t)

pub one_source : OneSource
one_source m text (Ok a) (Ok b) h k = ap Ok (one_tree m text a b h k)
one_source m text (Ok a) (Err (e.Lex f)) h k = absurd (no_error text f h.0 k.1 h.1)
one_source m text (Ok a) (Err (e.Unexpected j s t)) h k = absurd (no_tree m text j s t a h (unexpected_in text j s t k.1))
one_source m text (Ok a) (Err (e.TooNested j s t)) h k = absurd (no_tree m text j s t a h (nested_in text j s t k.1))
one_source m text (Err (e.Lex f)) (Ok b) h k = absurd (no_error text f k.0 h.1 k.1)
one_source m text (Err (e.Lex f)) (Err (e.Lex g)) h k = ap (λ x. Err (e.Lex x)) (one_error text f g h.1.0 k.1.0 h.1.1 k.1.1)
one_source m text (Err (e.Lex f)) (Err (e.Unexpected j s t)) h k = absurd (no_error text f k.1.0 h.1 k.1.1)
one_source m text (Err (e.Lex f)) (Err (e.TooNested j s t)) h k = absurd (no_error text f k.1.0 h.1 k.1.1)
one_source m text (Err (e.Unexpected j s t)) (Ok b) h k = absurd (no_tree m text j s t b k (unexpected_in text j s t h.1))
one_source m text (Err (e.Unexpected j s t)) (Err (e.Lex g)) h k = absurd (no_error text g h.1.0 k.1 h.1.1)
one_source m text (Err (e.Unexpected j s t)) (Err (e.Unexpected l u v)) h k = ap (λ x. Err x) (one_unexpected text j s t l u v h.1 k.1)
one_source m text (Err (e.Unexpected j s t)) (Err (e.TooNested l u v)) h k = absurd (two_ways text j s t l u v h.1 k.1)
one_source m text (Err (e.TooNested j s t)) (Ok b) h k = absurd (no_tree m text j s t b k (nested_in text j s t h.1))
one_source m text (Err (e.TooNested j s t)) (Err (e.Lex g)) h k = absurd (no_error text g h.1.0 k.1 h.1.1)
one_source m text (Err (e.TooNested j s t)) (Err (e.Unexpected l u v)) h k = absurd (two_ways text l u v j s t k.1 h.1)
one_source m text (Err (e.TooNested j s t)) (Err (e.TooNested l u v)) h k = ap (λ x. Err x) (one_nested text j s t l u v h.1 k.1)
one_source m text (Err e.NoMemory) y h k = absurd (h.0 refl)
one_source m text x (Err e.NoMemory) h k = absurd (k.0 refl)
