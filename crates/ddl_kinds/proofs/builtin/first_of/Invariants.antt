use Rattle.std.proofs.Common.{◌≡◌, drop}
use Rattle.std.specs.Prelude.{find, bytes_eq}
use Rattle.ddl_kinds.specs.BuiltIns.{builtin_spelling}
use Rattle.ddl_kinds.proofs.builtin.first_of.Given as goal

abbrev pub invariant-loop-builtin : goal.invariant-loop-builtin
invariant-loop-builtin l = find (λ b. bytes_eq (builtin_spelling b) l.name) (drop l.builtin-index l.builtins)
    ≡ find (λ b. bytes_eq (builtin_spelling b) l.name) l.builtins
