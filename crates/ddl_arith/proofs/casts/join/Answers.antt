use Rattle.std.proofs.Common.{◌≡◌, ℕ, ◌+◌, ◌*◌, ◌%◌, ◌^◌, ◌<◌, ◌≤◌, bit_or, Option, Some, None, inl, inr, ap, subst, ◌∙◌, arith}
use Rattle.std.specs.Option.{SomeIff, unwrap_or}
use Rattle.std.proofs.lemmas.Bool.{cases_lt}
use Rattle.std.proofs.lemmas.Nat.{or_shifted, shl_whole}
use Rattle.ddl_arith.proofs.casts.join.Goals as goal

-- the bits of a, moved by those of b
moved : (a a_width b_width : ℕ) (high : Option ℕ) → SomeIff high (b_width < 128) (a * 2 ^ b_width % 2 ^ 128) → a_width + b_width ≤ 128 → a < 2 ^ a_width
    → unwrap_or high 0 ≡ a * 2 ^ b_width
moved a a_width b_width None iff room a_fits =
    let none : a_width ≡ 0 = elim (cases_lt b_width 128) [ inl h ↦ absurd (iff h) | inr h ↦ omega arith ] in
    let zero : a < 2 ^ 0 = let P : ℕ → Type 0 = λ w. a < 2 ^ w in subst P none a_fits in
    let e : a ≡ 0 = omega arith in
    rw e (omega arith)
moved a a_width b_width (Some high) iff room a_fits = iff.1 ∙ shl_whole a a_width b_width 128 a_fits room

pub returns : goal.returns
returns c =
    let high = c.unwrap_or.ensures ∙ moved c.args.a c.args.a_width c.args.b_width c.checked_shl.result c.checked_shl.ensures c.requires.room c.requires.a_fits
    in
    ap (λ n. bit_or n c.args.b) high ∙ or_shifted c.args.a c.args.b_width c.args.b c.requires.b_fits
