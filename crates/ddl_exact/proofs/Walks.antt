-- Each text has a tree, or something is wrong with it.
use Rattle.std.proofs.Common.{◌≡◌, ◌≢◌, ◌≤◌, ◌<◌, ◌+◌, ◌⊎◌, inl, inr, ℕ, List, [], ◌∷◌, ◌++◌, map, take, drop, length, Option, Some, None, option_and_then}
use Rattle.std.proofs.Common.{Result, Ok, Err, refl, sym, ap, ◌∙◌, subst, arith, append_assoc, append-nil, length-append}
use Rattle.std.proofs.lemmas.Bool.{cases_order}
use Rattle.ddl_token.specs.declared.token.Token.{Token}
use Rattle.ddl_tree.specs.ModuleTree.{Module}
use Rattle.ddl_tree.specs.SpansModule.{StandsAt}
use Rattle.ddl_lex.specs.Layout.{lay}
use Rattle.ddl_lex.specs.Tokens.{Cut, HasError}
use Rattle.ddl_lex.specs.declared.error.LexError as lex_error
use Rattle.ddl_lex.specs.declared.error.LexError.TheVariants as le
use Rattle.ddl_lex.proofs.Answered.{tokens_or_error}
use Rattle.ddl_reader.specs.Answers.{BeginsWithin, Unexpected}
use Rattle.ddl_reader.specs.Depths.{lowest}
use Rattle.ddl_reader.specs.Frames.{Seen, State}
use Rattle.ddl_reader.specs.Step.{begun, finish, kinds, parsed, places, reach, run, step_at, IsStuck}
use Rattle.ddl_reader.proofs.Exact.{reads_modules, run_reach, unexpected}
use Rattle.ddl_reader.proofs.Within.{begins_within, depth_at_end, too_nested}
use Rattle.ddl_syntax.specs.Answer.{NextTooNested, kinds_of, place_of, places_of}
use Rattle.ddl_source.specs.Source.{HasModule, HasTokens, IsTooNested, IsUnexpected, first_place}
use Rattle.ddl_source.specs.declared.error.SourceError.{SourceError}
use Rattle.ddl_source.specs.declared.error.SourceError.TheVariants as e
use Rattle.ddl_exact.specs.OneSource.{HasSource, SomeSource}

abbrev seen_of : ℕ → Token → Seen
seen_of m t = record { kind = t.kind; at = place_of m t }

abbrev seen_in : ℕ → List Token → List Seen
seen_in m ts = map (seen_of m) ts

places_are : (m : ℕ) (ts : List Token) → places (seen_in m ts) ≡ places_of m ts
places_are m [] = refl
places_are m (t ∷ ts) = ap (λ ss. place_of m t ∷ ss) (places_are m ts)

kinds_are : (m : ℕ) (ts : List Token) → kinds (seen_in m ts) ≡ kinds_of ts
kinds_are m [] = refl
kinds_are m (t ∷ ts) = ap (λ ks. t.kind ∷ ks) (kinds_are m ts)

seen_more : (m : ℕ) (ts us : List Token) → seen_in m ts ++ seen_in m us ≡ seen_in m (ts ++ us)
seen_more m [] us = refl
seen_more m (t ∷ ts) us = ap (λ xs. seen_of m t ∷ xs) (seen_more m ts us)

taken : (done more : List Token) → take (length done) (kinds_of (done ++ more)) ≡ kinds_of done
taken [] more = refl
taken (t ∷ done) more = ap (λ ks. t.kind ∷ ks) (taken done more)

left : (done more : List Token) → drop (length done) (kinds_of (done ++ more)) ≡ kinds_of more
left [] more = refl
left (t ∷ done) more = left done more

-- ---- a token more

some_state : (a b : State) → Some a ≡ Some b → a ≡ b
some_state a b e = cc

reach_step : (x : Seen) (xs : List Seen) (y : Seen) (v u : State) (o : Option State) → ((z : State) → reach xs z ≡ Some v → reach (xs ++ y ∷ []) z ≡ Some u)
    → option_and_then (reach xs) o ≡ Some v → option_and_then (reach (xs ++ y ∷ [])) o ≡ Some u
reach_step x xs y v u None go e = cc
reach_step x xs y v u (Some z) go e = go z e

reach_more : (xs : List Seen) (y : Seen) (z v u : State) → reach xs z ≡ Some v → step_at v.1 v.0 y.kind y.at ≡ Some u → reach (xs ++ y ∷ []) z ≡ Some u
reach_more [] y z v u way e =
    ap (λ z. option_and_then (reach []) (step_at z.1 z.0 y.kind y.at)) (some_state z v way) ∙ ap (option_and_then (reach [])) e
reach_more (x ∷ xs) y z v u way e = reach_step x xs y v u (step_at z.1 z.0 x.kind x.at) (λ z way. reach_more xs y z v u way e) way

-- ---- what tokens have

data Has (m : ℕ) (ts : List Token) : Type 0 where
  a_tree : (a : Module) → HasModule m ts a → Has m ts
  an_unexpected : (k : ℕ) → IsUnexpected ts k → Has m ts
  a_nested : (k : ℕ) → IsTooNested ts k → Has m ts

begins_so_far : (m : ℕ) (done more : List Token) (z : State) → reach (seen_in m done) begun ≡ Some z → lowest z ≤ 200
    → BeginsWithin 200 (take (length done) (kinds_of (done ++ more)))
begins_so_far m done more z way low =
    subst (BeginsWithin 200) (kinds_are m done ∙ sym (taken done more)) (begins_within 200 (seen_in m done) z way low)

is_unexpected : (m : ℕ) (done more : List Token) (z : State) → reach (seen_in m done) begun ≡ Some z → lowest z ≤ 200 → IsStuck z (seen_in m more)
    → IsUnexpected (done ++ more) (length done)
is_unexpected m done more z way low stuck =
    let stops : Unexpected (kinds (seen_in m done)) (kinds (seen_in m more)) = unexpected (seen_in m done) (seen_in m more) z way stuck in
    let used : kinds (seen_in m done) ≡ take (length done) (kinds_of (done ++ more)) = kinds_are m done ∙ sym (taken done more) in
    let rest : kinds (seen_in m more) ≡ drop (length done) (kinds_of (done ++ more)) = kinds_are m more ∙ sym (left done more) in
    let long : length (done ++ more) ≡ length done + length more = length-append done more in (
      omega arith,
      begins_so_far m done more z way low,
      subst (Unexpected (take (length done) (kinds_of (done ++ more)))) rest (subst (λ ks. Unexpected ks (kinds (seen_in m more))) used stops),
    )

is_nested : (m : ℕ) (done : List Token) (t : Token) (rest : List Token) (z y : State) → reach (seen_in m done) begun ≡ Some z → lowest z ≤ 200
    → step_at z.1 z.0 t.kind (place_of m t) ≡ Some y → 200 < lowest y → IsTooNested (done ++ t ∷ rest) (length done)
is_nested m done t rest z y way low step high =
    let nested : NextTooNested 200 (kinds (seen_in m done)) (t.kind ∷ kinds_of rest) = too_nested 200 (seen_in m done) (seen_of m t) z y way low step high in
    let used : kinds (seen_in m done) ≡ take (length done) (kinds_of (done ++ t ∷ rest)) = kinds_are m done ∙ sym (taken done (t ∷ rest)) in
    let long : length (done ++ t ∷ rest) ≡ length done + length (t ∷ rest) = length-append done (t ∷ rest) in
    let some : length (t ∷ rest) ≡ length rest + 1 = omega arith in (
      omega arith,
      subst (NextTooNested 200 (take (length done) (kinds_of (done ++ t ∷ rest)))) (sym (left done (t ∷ rest)))
          (subst (λ ks. NextTooNested 200 ks (t.kind ∷ kinds_of rest)) used nested),
    )

is_tree : (m : ℕ) (ts : List Token) (z : State) (a : Module) → reach (seen_in m ts) begun ≡ Some z → lowest z ≤ 200 → finish z.1 z.0 ≡ Some a
    → HasModule m ts a
is_tree m ts z a way low fin =
    let all : parsed (seen_in m ts) ≡ Some a = ap (λ xs. run xs begun) (sym (append-nil (seen_in m ts))) ∙ run_reach (seen_in m ts) [] begun z way ∙ fin in
    let it = reads_modules (seen_in m ts) a all in
    let deep = depth_at_end (seen_in m ts) z a way fin in
    (it.0, it.1 ∙ kinds_are m ts, subst (λ ss. StandsAt a ss) (places_are m ts) it.2, omega arith)

-- ---- from token to token

at_end : (m : ℕ) (done : List Token) (z : State) → reach (seen_in m done) begun ≡ Some z → lowest z ≤ 200 → (o : Option Module) → finish z.1 z.0 ≡ o
    → Has m (done ++ [])
at_end m done z way low None fin = an_unexpected (length done) (is_unexpected m done [] z way low fin)
at_end m done z way low (Some a) fin = a_tree a (subst (λ ts. HasModule m ts a) (sym (append-nil done)) (is_tree m done z a way low fin))

abbrev Goes : ℕ → List Token → Token → List Token → Type 0
Goes m done t rest = (y : State) → reach (seen_in m (done ++ t ∷ [])) begun ≡ Some y → lowest y ≤ 200 → Has m ((done ++ t ∷ []) ++ rest)

on_with : (m : ℕ) (done : List Token) (t : Token) (rest : List Token) (z y : State) → reach (seen_in m done) begun ≡ Some z
    → step_at z.1 z.0 t.kind (place_of m t) ≡ Some y
    → lowest y ≤ 200 → Goes m done t rest → Has m (done ++ t ∷ rest)
on_with m done t rest z y way step low go =
    let more : reach (seen_in m (done ++ t ∷ [])) begun ≡ Some y =
    ap (λ xs. reach xs begun) (sym (seen_more m done (t ∷ []))) ∙ reach_more (seen_in m done) (seen_of m t) begun z y way step in
    subst (Has m) (append_assoc done (t ∷ []) rest) (go y more low)

by_depth : (m : ℕ) (done : List Token) (t : Token) (rest : List Token) (z y : State) → reach (seen_in m done) begun ≡ Some z → lowest z ≤ 200
    → step_at z.1 z.0 t.kind (place_of m t) ≡ Some y → Goes m done t rest → (200 ≡ lowest y) ⊎ ((200 < lowest y) ⊎ (lowest y < 200))
    → Has m (done ++ t ∷ rest)
by_depth m done t rest z y way low step go (inl same) = on_with m done t rest z y way step (omega arith) go
by_depth m done t rest z y way low step go (inr (inl high)) = a_nested (length done) (is_nested m done t rest z y way low step high)
by_depth m done t rest z y way low step go (inr (inr less)) = on_with m done t rest z y way step (omega arith) go

at_next : (m : ℕ) (done : List Token) (t : Token) (rest : List Token) (z : State) → reach (seen_in m done) begun ≡ Some z → lowest z ≤ 200
    → (o : Option State) → step_at z.1 z.0 t.kind (place_of m t) ≡ o → Goes m done t rest → Has m (done ++ t ∷ rest)
at_next m done t rest z way low None step go = an_unexpected (length done) (is_unexpected m done (t ∷ rest) z way low step)
at_next m done t rest z way low (Some y) step go = by_depth m done t rest z y way low step go (cases_order 200 (lowest y))

walk : (m : ℕ) (done rest : List Token) (z : State) → reach (seen_in m done) begun ≡ Some z → lowest z ≤ 200 → Has m (done ++ rest)
walk m done [] z way low = at_end m done z way low (finish z.1 z.0) refl
walk m done (t ∷ rest) z way low =
    at_next m done t rest z way low (step_at z.1 z.0 t.kind (place_of m t)) refl (λ y more less. walk m (done ++ t ∷ []) rest y more less)

has : (m : ℕ) (ts : List Token) → Has m ts
has m ts = walk m [] ts begun refl (omega arith)

-- ---- texts

of_tokens : (m : ℕ) (text : List ℕ) (ts : List Token) → HasTokens text ts → Has m ts → (x : Result Module SourceError) × HasSource m text x
of_tokens m text ts tokens (a_tree a h) = (Ok a, (ts, tokens, h))
of_tokens m text ts tokens (an_unexpected k h) =
    let place : ℕ × ℕ = first_place (length text) (drop k ts) in
    (Err (e.Unexpected k place.0 place.1), ((λ same. cc), (ts, tokens, h, refl)))
of_tokens m text ts tokens (a_nested k h) =
    let place : ℕ × ℕ = first_place (length text) (drop k ts) in
    (Err (e.TooNested k place.0 place.1), ((λ same. cc), (ts, tokens, h, refl)))

of_text : (m : ℕ) (text : List ℕ)
    → ((tokens : List Token) × Cut text tokens (length text)) ⊎ ((error : lex_error.LexError) × (error ≢ le.NoMemory) × HasError text error)
    → (x : Result Module SourceError) × HasSource m text x
of_text m text (inl h) = let ts : List Token = lay None [] h.0 in of_tokens m text ts (h.0, h.1, refl) (has m ts)
of_text m text (inr h) = (Err (e.Lex h.0), ((λ same. cc), (h.1, h.2)))

pub some_source : SomeSource
some_source m text = of_text m text (tokens_or_error text)
