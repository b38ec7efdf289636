-- A program in which every name is bound, and whose code is well typed.
use Rattle.std.proofs.Common.{◌≡◌, ℕ, zero, suc, [], ◌∷◌, map, refl, subst, None, Some, false, arith}
use Rattle.ddl_core.specs.Core.{Operation, Form, Core, Alternatives, give, perform, none, bind, both, attempt, call, case_, loop, again, inside, none_left}
use Rattle.ddl_core.specs.Core.{when}
use Rattle.ddl_core.specs.Core.{text, literal, list, push, gather, infix_, uint8, match_text, match, end}
use Rattle.ddl_core.specs.Core as c
use Rattle.ddl_core.specs.Meaning.{function_at}
use Rattle.ddl_blocks.specs.OperationTypes as types
use Rattle.ddl_blocks.specs.Places.{IsType}
use Rattle.ddl_blocks.specs.WellTyped.{plain, IsWellTyped}
use Rattle.ddl_emission.specs.Program.{code_of}
use Rattle.ddl_emission.specs.Scope.{IsScoped, IsWellScoped}
use Rattle.ddl_emission.proofs.Rows.{bytes, one_function, main_of, nothing_beside, many_bytes}

-- ---- the premise of the law: in this program every name is bound, and what grows of the loop's state is pushed to
many_bytes_scoped : IsWellScoped (main_of bytes many_bytes)
many_bytes_scoped = record { each = each; entry = (_, refl, refl) }
  where
    each : (f : ℕ) (d : c.Function) → function_at (one_function bytes many_bytes ∷ []) f ≡ Some d
        → IsScoped (one_function bytes many_bytes ∷ []) None (map (λ ty. false) d.params) d.body
    each zero d e =
        let is : one_function bytes many_bytes ≡ d = cc in
        subst (λ (g : c.Function). IsScoped (one_function bytes many_bytes ∷ []) None (map (λ ty. false) g.params) g.body) is
        (tt, ((omega arith, tt), refl, (tt, ((omega arith, (omega arith, tt)), ((omega arith, tt), refl)), omega arith)))
    each (suc f) d e = absurd (cc)

-- ---- its code is well typed
bytes_there : IsType [] bytes
bytes_there = (refl, ((((omega arith, omega arith), refl), tt), tt))

is_byte : IsType [] types.byte
is_byte = (((omega arith, omega arith), refl), tt)

many_bytes_typed : IsWellTyped plain (code_of nothing_beside (main_of bytes many_bytes))
many_bytes_typed = (
  (
    (_, refl, refl),
    bytes_there,
    (
      (tt, (([], (_, refl, refl), refl), is_byte, (tt, tt, tt), (_, (_, refl, refl), (_, refl, refl)))),
      (
        ((bytes_there, tt), (_, refl, refl)),
        (
          (
            (is_byte, (is_byte, tt)),
            (
              ([], (_, refl, refl), ([], types.byte, refl, refl, (refl, refl))),
              is_byte,
              ((_, refl, refl), tt, tt),
              ((_, (_, refl, refl), (types.byte, refl, refl)), is_byte, (tt, tt, tt), (_, (_, refl, refl), (_, refl, refl))),
            ),
          ),
          (((is_byte, (is_byte, tt)), (types.byte, (_, refl, refl), (_, refl, refl))), tt),
        ),
      ),
    ),
  ),
  tt,
)
