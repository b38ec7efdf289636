-- One more byte of a match.
use Rattle.std.proofs.Common.{◌≡◌, ◌≢◌, ℕ, ◌+◌, ◌<◌, ◌≤◌, List, ◌∷◌, length, drop, get_or, ap, ◌∙◌, drop-cons, add-one, arith}
use Rattle.std.proofs.lemmas.List.{drop_all}
use Rattle.ddl_base.specs.declared.span.Span.{Span}
use Rattle.ddl_base.specs.declared.why.Why.TheVariants as why
use Rattle.ddl_types.specs.Value.{in_input, array}
use Rattle.ddl_types.specs.Outcome.{parsed, missed}
use Rattle.ddl_ops.specs.Primitives.{byte_values}
use Rattle.ddl_typed.specs.Evaluated.{stream_at, matched}

at_byte : (input bs whole : List ℕ) (i : ℕ) (span : Span) (at : ℕ) → i < length bs
    → matched input (drop i bs) whole span at ≡ matched input (get_or bs i 0 ∷ drop (i + 1) bs) whole span at
at_byte input bs whole i span at h = let next : drop i bs ≡ get_or bs i 0 ∷ drop (i + 1) bs =
    rw (add-one, drop-cons bs i 0) in ap (λ cs. matched input cs whole span at) next

pub matched_absent : (input bs whole : List ℕ) (i : ℕ) (span : Span) (at : ℕ) → i < length bs → length input ≤ at
    → matched input (drop i bs) whole span at ≡ missed why.Match in_input at span
unfolding matched
matched_absent input bs whole i span at h k = at_byte input bs whole i span at h ∙ grind arith

pub matched_differs : (input bs whole : List ℕ) (i : ℕ) (span : Span) (at : ℕ) → i < length bs → at < length input → get_or input at 0 ≢ get_or bs i 0
    → matched input (drop i bs) whole span at ≡ missed why.Match in_input at span
unfolding matched
matched_differs input bs whole i span at h k n = at_byte input bs whole i span at h ∙ grind arith

pub matched_next : (input bs whole : List ℕ) (i : ℕ) (span : Span) (at : ℕ) → i < length bs → at < length input → get_or input at 0 ≡ get_or bs i 0
    → matched input (drop i bs) whole span at ≡ matched input (drop (i + 1) bs) whole span (at + 1)
unfolding matched
matched_next input bs whole i span at h k e = at_byte input bs whole i span at h ∙ grind arith

pub matched_all : (input bs whole : List ℕ) (i : ℕ) (span : Span) (at : ℕ) → length bs ≤ i
    → matched input (drop i bs) whole span at ≡ parsed (array (byte_values whole)) (stream_at input at)
unfolding matched
matched_all input bs whole i span at h = ap (λ cs. matched input cs whole span at) (drop_all i bs h)

pub ruleset matching = (matched_absent, matched_differs, matched_next, matched_all)
