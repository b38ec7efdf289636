-- The tokens of a form at given places, and one step of the machine.
use Rattle.std.proofs.Common.{◌≡◌, List, [], ◌∷◌, Some, ap}
use Rattle.ddl_token.specs.declared.token.Tok.{Tok}
use Rattle.ddl_tree.specs.Spans.{Places, next, after}
use Rattle.ddl_reader.specs.Frames.{Seen, State}
use Rattle.ddl_reader.specs.Step.{step_at, goes, run}

-- these tokens at these places
abbrev pub seen : List Tok → Places → List Seen
seen [] p = []
seen (x ∷ xs) p = record { kind = x; at = next p } ∷ seen xs (after p)

-- one token
pub go : (x : Tok) (xs : List Tok) (p : Places) (z y : State) → step_at z.1 z.0 x (next p) ≡ Some y → run (seen (x ∷ xs) p) z ≡ run (seen xs (after p)) y
go x xs p z y e = ap (goes (run (seen xs (after p)))) e
