-- Findings one after the other.
use Rattle.std.proofs.Common.{◌≡◌, List, [], ◌∷◌, ◌++◌, Option, Some, None, refl, ap}
use Rattle.std.specs.Option.{option_or}
use Rattle.std.proofs.lemmas.List.{append-nil, append_assoc}
use Rattle.ddl_kinds.specs.declared.bound.Use.{Use}
use Rattle.ddl_kinds.specs.Findings.{Finding, uses, refuses, all_uses, first_refusal}

-- of findings one after the other the first refusal is that of the first, or else that of the second
pub first_append : (fs gs : List Finding) → first_refusal (fs ++ gs) ≡ option_or (first_refusal fs) (first_refusal gs)
first_append [] gs = refl
first_append (uses u ∷ fs) gs = first_append fs gs
first_append (refuses r ∷ fs) gs = refl

pub uses_append : (fs gs : List Finding) → all_uses (fs ++ gs) ≡ all_uses fs ++ all_uses gs
uses_append [] gs = refl
uses_append (uses u ∷ fs) gs = ap (λ us. u ∷ us) (uses_append fs gs)
uses_append (refuses r ∷ fs) gs = uses_append fs gs

-- of all findings these are left: no refusal stood before them, and the uses before them are added
abbrev pub Leaves : List Finding → List Use → List Finding → List Use → Type 0
Leaves all before left after = (first_refusal all ≡ first_refusal left) × (before ++ all_uses all ≡ after ++ all_uses left)

pub ruleset finding = (first_append, uses_append, append_assoc, append-nil)
