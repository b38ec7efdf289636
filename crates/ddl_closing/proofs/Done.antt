-- What one part more of a list tells of the whole list.
use Rattle.std.proofs.Common.{◌≡◌, Option, Some, None, refl, ap, ◌∙◌}
use Rattle.ddl_closing.specs.declared.error.CaseError.{CaseError}
use Rattle.ddl_closing.specs.declared.error.CaseError.TheVariants as error
use Rattle.ddl_closing.specs.Left.{IsGap}
use Rattle.ddl_typing.specs.Gaps.{Gap, or_later}

-- the part there is refused: so is the list
pub refused_there : (whole rest here later : Option Gap) (r : CaseError) → whole ≡ rest → rest ≡ or_later here later → IsGap here r → IsGap whole r
refused_there whole rest here later (error.Gap g) a b h = a ∙ b ∙ ap (λ o. or_later o later) h
refused_there whole rest here later error.NoMemory a b h = tt

-- nothing is left of the part there: what is left of the list is left behind it
pub done_there : (whole rest here later : Option Gap) → whole ≡ rest → rest ≡ or_later here later → here ≡ None → whole ≡ later
done_there whole rest here later a b h = a ∙ b ∙ ap (λ o. or_later o later) h
