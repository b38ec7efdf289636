use Rattle.std.proofs.Common.{◌≡◌, ◌+◌, ◌^◌, length, take, drop, ap, ◌∙◌, ◌==◌, sym, arith, length-drop, subst, ◌<◌, Ok, Err, rules}
use Rattle.std.proofs.lemmas.List.{drop-drop}
use Rattle.ddl_lex.specs.Gives.{Gives}
use Rattle.ddl_lex.specs.Pieces.{next_piece}
use Rattle.ddl_lex.specs.Tokens.{with_token}
use Rattle.ddl_lex.proofs.Standing.{is_full}
use Rattle.ddl_lex.proofs.Erring.{has_error}
use Rattle.ddl_lex.proofs.Cutting.{cut_nothing, cut_more, few_more, line_more, column_more}
use Rattle.ddl_lex.proofs.lexer.lex.Goals as goal

pub loop-first-init : goal.loop-first-init
loop-first-init c = record {
  cut = cut_nothing c.args.text.now _ _ c.new-tokens.ensures.items c.start-place.ensures.at;
  few = rw c.new-tokens.ensures.items (omega arith);
  left = rw c.start-place.ensures.at;
  within = omega (arith, c.start-place.ensures.at);
  lines = rw (c.start-place.ensures.at, c.start-place.ensures.line);
  columns = rw (c.start-place.ensures.at, c.start-place.ensures.column);
  line_fits = omega (arith, c.start-place.ensures.line);
  column_fits = omega (arith, c.start-place.ensures.column);
}

pub loop-first-preserved : goal.loop-first-preserved
loop-first-preserved c =
    let known = c.loop-first.invariant in
    let text = c.args.text.now in
    let at = c.loop-first.place.at in
    let n = c.in_ok-found.n in
    let to : c.behind-end.result.at ≡ at + n = c.behind-end.ensures.at ∙ ap (λ k. at + k) c.split_at.ensures.front_len in
    let piece : c.split_at.result.0.now ≡ take n (drop at text) = c.split_at.ensures.front ∙ ap (take n) known.left in
    let full : (c.len-full.result == 2 ^ 20) ≡ is_full c.loop-first.tokens.items =
    let len : c.len-full.result ≡ length c.loop-first.tokens.items = search rules in
    ap (λ k. k == 2 ^ 20) len in
    let there : next_piece (is_full c.loop-first.tokens.items) at c.in-Some.first.now c.loop-first.rest.now ≡ Ok (c.in_ok-found.found, n) =
    subst (λ b. next_piece b at c.in-Some.first.now c.loop-first.rest.now ≡ Ok (c.in_ok-found.found, n)) full c.in_ok-found.ensures.value in
    let kept : c.keep.new.tokens.items ≡ with_token c.loop-first.tokens.items c.loop-first.place c.behind-end.result.at c.in_ok-found.found =
    c.in_ok-keep.ensures in
    record {
      cut = cut_more text c.loop-first.rest.now c.loop-first.tokens.items c.keep.new.tokens.items c.loop-first.place c.behind-end.result.at c.in-Some.first.now
          n c.in_ok-found.found
          known.cut known.few known.left known.lines known.columns c.in-Some.ensures.item.3.0 (c.in-Some.ensures.item.3.1 0) there to kept;
      few = rw kept (few_more c.loop-first.tokens.items c.loop-first.place c.behind-end.result.at c.in_ok-found.found known.few (λ h.
          c.in_ok-found.ensures.room (full ∙ h)));
      left = c.split_at.ensures.back ∙ ap (drop n) known.left ∙ drop-drop n at text ∙ ap (λ k. drop k text) (sym to);
      within = omega (arith, to, c.in_ok-found.ensures.within, ap length known.left, length-drop at text);
      lines = rw to (line_more text c.split_at.result.0.now at n c.loop-first.place.line c.behind-end.result.line known.lines piece c.behind-end.ensures.line);
      columns = rw to (column_more text c.split_at.result.0.now at n c.loop-first.place.column c.behind-end.result.column known.columns piece
          c.behind-end.ensures.column);
      line_fits = c.behind-end.ensures.line_fits;
      column_fits = c.behind-end.ensures.column_fits;
    }

pub returns-in_err-found-clause-error : goal.returns-in_err-found-clause-error
returns-in_err-found-clause-error c =
    let known = c.loop-first.invariant in
    let text = c.args.text.now in
    let at = c.loop-first.place.at in
    let tokens = c.loop-first.tokens.items in
    let rest = c.loop-first.rest.now in
    let first = c.in-Some.first.now in
    let full : (c.len-full.result == 2 ^ 20) ≡ is_full tokens =
    let len : c.len-full.result ≡ length tokens = search rules in
    ap (λ k. k == 2 ^ 20) len in
    let there : Gives (next_piece (is_full tokens) at first rest) (Err c.in_err-found.field-0.0) =
    subst (λ b. Gives (next_piece b at first rest) (Err c.in_err-found.field-0.0)) full c.in_err-found.ensures.value in
    let within : at < length text = omega (arith, c.in-Some.ensures.item.3.0, ap length known.left, length-drop at text) in
    let wrong = has_error text rest tokens at first c.in_err-found.field-0.0 known.cut within known.left (c.in-Some.ensures.item.3.1 0) there in
    search rules
