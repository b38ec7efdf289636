use Rattle.std.proofs.Common.{◌∙◌, sym, pos, refl}
use Rattle.ddl_arith.proofs.Ranges.{not_kept}
use Rattle.ddl_arith.proofs.casts.keep.Goals as goal

pub returns-in_err-ok-in-Sint-Uint : goal.returns-in_err-ok-in-Sint-Uint
returns-in_err-ok-in-Sint-Uint c =
    let none = sym c.ok-in-Sint-Uint.ensures.value ∙ c.in_err-ok-in-Sint-Uint.was in
    c.from_residual-in_err-ok-in-Sint-Uint.ensures
    ∙ sym (not_kept _ c.in-Sint-Uint.width (pos c.in-Sint-Uint.n) c.try_from-in-Sint-Uint.result (rw c.in-Sint-Uint.is-0 at c.requires).1
    c.try_from-in-Sint-Uint.ensures none)
    ∙ rw (c.in-Sint-Uint.is-0, c.in-Sint-Uint.is-1) refl
