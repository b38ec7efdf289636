-- What is told can be printed.
use Rattle.std.proofs.Common.{◌≡◌, ℕ, zero, suc, List, [], ◌∷◌, map, Option, Some, None, subst, ap, arith}
use Rattle.std.specs.Prelude.{All}
use Rattle.ddl_types.specs.Outcome.{Parsed}
use Rattle.ddl_types.specs.Answer.{Answer}
use Rattle.ddl_types.specs.Plain.{Printable, IsPaired}
use Rattle.ddl_types.specs.Plain as p
use Rattle.ddl_types.specs.PlainView.{plain_view}
use Rattle.ddl_types.specs.Answer.{answer_of}
use Rattle.ddl_types.proofs.Printing.{plain_of_paired}
use Rattle.ddl_typed.specs.declared.answer.Parse.{Parse}
use Rattle.ddl_typed.specs.declared.answer.Answer.{Answer as Given}
use Rattle.ddl_typed.specs.AnswerView.{answer_view, shown_view}
use Rattle.ddl_typed.specs.Tree.{Spec}
use Rattle.ddl_typed.specs.Denoted.{Denoted}
use Rattle.ddl_typed.specs.Told.{IsAnswer, Shown, Told, shown, told_of}

abbrev first_value : List Shown → Printable
first_value [] = p.unit
first_value (s ∷ ss) = s.value

abbrev later_parses : List Shown → List Shown
later_parses [] = []
later_parses (s ∷ ss) = ss

abbrev told_parses : Option Told → List Shown
told_parses None = []
told_parses (Some t) = t.parses

shown_paired : (qs : List Parsed) (ps : List Parse) → map shown qs ≡ map shown_view ps → All (λ (q : Parse). IsPaired (plain_view q.value)) ps
shown_paired qs [] e k d h = absurd (omega arith)
shown_paired [] (q ∷ ps) e k d h = absurd (let n : ⊥ = cc in n)
shown_paired (o ∷ qs) (q ∷ ps) e zero d h = subst IsPaired (ap first_value e) (plain_of_paired o.value)
shown_paired (o ∷ qs) (q ∷ ps) e (suc k) d h = shown_paired qs ps (ap later_parses e) k d (omega arith)

told_paired : (a : Option Answer) (t : Given) → told_of a ≡ Some (answer_view t) → All (λ (q : Parse). IsPaired (plain_view q.value)) t.parses.items
told_paired None t e = absurd (let n : ⊥ = cc in n)
told_paired (Some a) t e = shown_paired a.parses t.parses.items (ap told_parses e)

-- each value that is told has as many names and keys as values
pub answer_paired : (spec : Spec) (entry : ℕ) (input : List ℕ) (t : Given) → IsAnswer spec entry input (answer_view t)
    → All (λ (q : Parse). IsPaired (plain_view q.value)) t.parses.items
answer_paired spec entry input t h = let n = h.enough.0 in told_paired (answer_of (Denoted n spec entry input)) t (h.always n h.enough.1)
