use Rattle.std.proofs.Common.{rules, ◌≡◌, drop, length}
use Rattle.ddl_source.specs.Source.{first_place, IsTooNested}
use Rattle.ddl_source.proofs.source.tree_of.Goals as goal

pub returns-in-Err-TooNested : goal.returns-in-Err-TooNested
returns-in-Err-TooNested c =
    let nested : IsTooNested c.in_ok-tokens.tokens.items c.in-Err-TooNested.token =
    rw c.deref.ensures.value at (rw c.in-Err-TooNested.field-0-is at c.in-Err-TooNested.ensures) in
    let place : first_place (length c.args.text.now) (drop c.in-Err-TooNested.token c.in_ok-tokens.tokens.items)
    ≡ (c.place_of-place-in-Err-TooNested.result.from, c.place_of-place-in-Err-TooNested.result.to) = search rules in
    (c.in_ok-tokens.tokens.items, c.in_ok-tokens.ensures.tokens, nested, place)
