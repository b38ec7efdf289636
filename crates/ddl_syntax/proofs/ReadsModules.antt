-- What the parser answers in words of the machine it answers in words of modules.
use Rattle.std.proofs.Common.{◌≡◌, ◌≤◌, ◌<◌, ℕ, zero, suc, take, drop, length, List, [], ◌∷◌, ◌++◌, Some, Result, Ok, Err, refl, ap, subst, sym, ◌∙◌, arith}
use Rattle.ddl_token.specs.declared.token.Token.{Token}
use Rattle.ddl_tree.specs.declared.module.Module as code_module
use Rattle.ddl_tree.specs.SpansModule.{StandsAt}
use Rattle.ddl_tree.specs.ViewModule.{module_view}
use Rattle.ddl_reader.specs.Answers.{BeginsWithin, Unexpected}
use Rattle.ddl_reader.specs.Depths.{lowest}
use Rattle.ddl_reader.specs.Frames.{Seen, State}
use Rattle.ddl_reader.specs.Step.{begun, kinds, parsed, places, reach, run}
use Rattle.ddl_reader.proofs.Exact.{reads_modules, run_reach, unexpected}
use Rattle.ddl_reader.proofs.Within.{begins_within, depth_at_end, too_nested}
use Rattle.ddl_syntax.specs.Answer.{kinds_of, place_of, places_of, Answers, NextTooNested}
use Rattle.ddl_syntax.specs.Parses.{seen_of, seen_in, Leads, Parses}
use Rattle.ddl_syntax.specs.declared.error.SyntaxError as code_error
use Rattle.ddl_syntax.specs.declared.error.SyntaxError.TheVariants as e

places_are : (m : ℕ) (ts : List Token) → places (seen_in m ts) ≡ places_of m ts
places_are m [] = refl
places_are m (t ∷ ts) = ap (λ ss. place_of m t ∷ ss) (places_are m ts)

kinds_are : (m : ℕ) (ts : List Token) → kinds (seen_in m ts) ≡ kinds_of ts
kinds_are m [] = refl
kinds_are m (t ∷ ts) = ap (λ ks. t.kind ∷ ks) (kinds_are m ts)

kinds_taken : (m k : ℕ) (ts : List Token) → kinds (take k (seen_in m ts)) ≡ take k (kinds_of ts)
kinds_taken m zero ts = refl
kinds_taken m (suc k) [] = refl
kinds_taken m (suc k) (t ∷ ts) = ap (λ ks. t.kind ∷ ks) (kinds_taken m k ts)

kinds_left : (m k : ℕ) (ts : List Token) → kinds (drop k (seen_in m ts)) ≡ drop k (kinds_of ts)
kinds_left m zero ts = kinds_are m ts
kinds_left m (suc k) [] = refl
kinds_left m (suc k) (t ∷ ts) = kinds_left m k ts

seen_all : (m : ℕ) (ts : List Token) → take (length ts) (seen_in m ts) ≡ seen_in m ts
seen_all m [] = refl
seen_all m (t ∷ ts) = ap (λ xs. seen_of m t ∷ xs) (seen_all m ts)

append_none : (xs : List Seen) → xs ++ [] ≡ xs
append_none [] = refl
append_none (x ∷ xs) = ap (λ ys. x ∷ ys) (append_none xs)

next_too_nested : (used rest : List Seen) (z y : State) → reach used begun ≡ Some z → lowest z ≤ 200 → Leads rest z y → 200 < lowest y
    → NextTooNested 200 (kinds used) (kinds rest)
next_too_nested used [] z y way low leads high = leads
next_too_nested used (x ∷ rest) z y way low leads high = too_nested 200 used x z y way low leads high

pub answers : (m : ℕ) (ts : List Token) (r : Result code_module.Module code_error.SyntaxError) → Parses m ts r → Answers 200 m ts r
answers m ts (Ok a) p =
    let z = p.0 in
    let way : reach (seen_in m ts) begun ≡ Some z = ap (λ xs. reach xs begun) (sym (seen_all m ts)) ∙ p.1.0 in
    let all : parsed (seen_in m ts) ≡ Some (module_view a) = ap (λ xs. run xs begun) (sym (append_none (seen_in m ts)))
    ∙ run_reach (seen_in m ts) [] begun z way ∙ p.2 in
    let it = reads_modules (seen_in m ts) (module_view a) all in
    let deep = depth_at_end (seen_in m ts) z (module_view a) way p.2 in
    let low = p.1.1 in
    (it.0, it.1 ∙ kinds_are m ts, subst (λ ss. StandsAt (module_view a) ss) (places_are m ts) it.2, omega arith)
answers m ts (Err (e.Unexpected k)) p =
    let z = p.1.0 in
    let within = begins_within 200 (take k (seen_in m ts)) z p.1.1.0 p.1.1.1 in
    let stops = unexpected (take k (seen_in m ts)) (drop k (seen_in m ts)) z p.1.1.0 p.1.2 in (
      p.0,
      subst (λ ks. BeginsWithin 200 ks) (kinds_taken m k ts) within,
      subst (λ ks. Unexpected (take k (kinds_of ts)) ks) (kinds_left m k ts)
          (subst (λ ks. Unexpected ks (kinds (drop k (seen_in m ts)))) (kinds_taken m k ts) stops),
    )
answers m ts (Err (e.TooNested k)) p =
    let nested = next_too_nested (take k (seen_in m ts)) (drop k (seen_in m ts)) p.1.0 p.1.1 p.1.2.0 p.1.2.1 p.1.3 p.1.4 in (
      p.0,
      subst (λ ks. NextTooNested 200 (take k (kinds_of ts)) ks) (kinds_left m k ts)
          (subst (λ ks. NextTooNested 200 ks (kinds (drop k (seen_in m ts)))) (kinds_taken m k ts) nested),
    )
answers m ts (Err e.NoMemory) p = tt
