-- The lines and the status of a refusal.
use Rattle.std.specs.Prelude.{◌≡◌, ℕ, List, [], ◌∷◌}
use Rattle.ddl_front.specs.Reasons.{Reason, reason_view}
use Rattle.ddl_outside.specs.declared.refusal.Refusal.{Refusal}
use Rattle.ddl_outside.specs.declared.refusal.Refusal.TheVariants as refused
use Rattle.ddl_report.specs.Lines.{line_text}
use Rattle.ddl_report.specs.Refusal.{refusal_data}
use Rattle.ddl_report.specs.declared.closing.Closing.TheVariants as closing_is
use Rattle.ddl_top.specs.Answered.{closing_only}
use Rattle.ddl_top.specs.declared.status.Status.{Status}
use Rattle.ddl_top.specs.declared.status.Status.TheVariants as status_is

-- the one line of a reason
abbrev pub reason_lines : Reason → List (List ℕ)
reason_lines r = line_text (refusal_data r.stage r.number r.name r.start r.end r.more) ∷ []

-- what is answered where a specification is refused so
abbrev pub IsRefusalAnswer : Refusal → Status → List (List ℕ) → Type 0
IsRefusalAnswer (refused.Missing file) status lines = (status ≡ status_is.Missing) × (lines ≡ closing_only (closing_is.Missing file))
IsRefusalAnswer refused.ReadFault status lines = (status ≡ status_is.ReadFault) × (lines ≡ closing_only closing_is.Read)
IsRefusalAnswer (refused.Refused told) status lines = (status ≡ status_is.Refused) × (lines ≡ reason_lines (reason_view told))
IsRefusalAnswer refused.Unbuilt status lines = (status ≡ status_is.Refused) × (lines ≡ closing_only closing_is.Unbuilt)
IsRefusalAnswer refused.NoMemory status lines = ⊥
