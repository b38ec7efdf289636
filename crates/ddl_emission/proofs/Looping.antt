-- The form `loop`.
use Rattle.std.proofs.Common.{ℕ, ◌+◌, List, ◌++◌}
use Rattle.ddl_types.specs.Types.{Ty}
use Rattle.ddl_ops.specs.Valued.{then_parse}
use Rattle.ddl_core.specs.Core.{Form, Function, loop}
use Rattle.ddl_core.specs.Meaning.{Lower, all_at}
use Rattle.ddl_emission.specs.Pieces.{all_of, renumber}
use Rattle.ddl_emission.proofs.Runs.{Blocks}
use Rattle.ddl_emission.proofs.Picks.{holds_now, holds_all, picks-append}
use Rattle.ddl_emission.proofs.Steps.{jumps, parses_is, runs_as}
use Rattle.ddl_emission.proofs.Context.{all_here, Simulates, TurnRuns, goes_out}

module _ (code : Blocks) (fs : List Function) (lower : Lower) (d : ℕ) where
  pub loop_form : TurnRuns code fs lower d → (tys : List Ty) (xs : List ℕ) (g : Form) → Simulates code fs lower d (loop tys xs g)
  loop_form ht tys inits g cur L z q s h t sc b n ws le =
      let hs = all_here z inits h.arrays sc.0 in
      let xs = hs.all in
      let p = picks-append (all_of z.place) (renumber inits z.place.variables) z.vals z.vals xs.values
      (holds_now (all_of z.place) z.vals z.vals (holds_all z.vals _ h.long)) (xs.picked z.place.variables z.vals h.vars) in
      runs_as code (goes_out code fs lower d z) b n 0 (d + 1) (then_parse (all_at z.env inits) (λ l. lower.turn g z.env l s)) (lower.turn g z.env xs.values s) _
      ws
      (parses_is code (all_at z.env inits) xs.values (λ l. lower.turn g z.env l s) xs.are)
      (ht tys inits g z h sc.1 sc.2 xs.values q s b n ws _ hs.arrays le (jumps code q z.fn z.at _ z.vals (z.vals ++ xs.values) s z.frames ws n p))
