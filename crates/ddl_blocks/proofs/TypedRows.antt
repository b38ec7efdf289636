-- A code that is well typed, with the conditions for a run, and one that is owned.
use Rattle.std.proofs.Common.{ℕ, List, [], ◌∷◌, refl, None, Some, ◌<◌, ◌≤◌, arith}
use Rattle.ddl_base.specs.declared.span.Span.{Span}
use Rattle.ddl_core.specs.Core.{Operation, text, match}
use Rattle.ddl_blocks.specs.Code.{ValueType, of_type, Targets, Instr, do_, return, fail_, Block, Code}
use Rattle.ddl_blocks.specs.Conditions.{CanBeRun}
use Rattle.ddl_blocks.specs.OperationTypes.{array, byte}
use Rattle.ddl_blocks.specs.Owned.{IsOwned}
use Rattle.ddl_blocks.specs.Places.{IsType}
use Rattle.ddl_blocks.specs.WellTyped.{plain, IsWellTyped}

abbrev span : Span
span = record { «module» = 0; from = 11; to = 21 }

abbrev bytes : ValueType
bytes = of_type (array byte)

abbrev op_to : Operation → List ℕ → Targets → Instr
op_to o xs targets = do_ (record { operation = o; arguments = xs; of = bytes; span = span; opened = []; targets = targets })

abbrev code_of : List Block → Code
code_of bs = record {
  functions = record { params = 0; blocks = bs; result = bytes; name = None } ∷ [];
  entry = 0;
  texts = [];
  units = (65 ∷ []) ∷ [];
  decls = [];
  places = [];
  entry_name = span;
  result = array byte;
}

-- `Match "ab"`, with the types that the block for its failure begins with
abbrev match_ab : List ValueType → Code
match_ab params = code_of (
    record {
      params = [];
      body = op_to (text (97 ∷ 98 ∷ [])) [] (record { fail = None; faults = [] }) ∷ op_to match (0 ∷ []) (record { fail = Some 1; faults = [] }) ∷ [];
      exit = return 1;
    }
    ∷ record { params = params; body = []; exit = fail_ }
    ∷ []
    )

bytes_there : IsType [] (array byte)
bytes_there = (refl, ((((omega arith, omega arith), refl), tt), tt))

is_byte_97 : 97 < 256
is_byte_97 = omega arith

is_byte_98 : 98 < 256
is_byte_98 = omega arith

-- the text, then the match, whose failure goes on at the second block
is_well_typed : IsWellTyped plain (match_ab (bytes ∷ []))
is_well_typed = (
  (
    (_, refl, refl),
    bytes_there,
    (
      (
        tt,
        (
          ([], (_, refl, refl), ([], array byte, refl, refl, (refl, refl, (is_byte_97, (is_byte_98, tt))))),
          bytes_there,
          (tt, tt, tt),
          (
            (bytes ∷ [], (_, refl, refl), (array byte ∷ [], array byte, refl, refl, (refl, refl))),
            bytes_there,
            ((_, refl, refl), tt, tt),
            (_, refl, refl),
          ),
        ),
      ),
      (((bytes_there, tt), tt), tt),
    ),
  ),
  tt,
)

one_there : 0 < 1
one_there = omega arith

can_be_run : CanBeRun (match_ab (bytes ∷ []))
can_be_run = record {
  entry = (_, refl, refl, refl);
  functions = (
    (
      bytes_there,
      tt,
      ((tt, ((tt, one_there, tt, bytes_there), ((tt, one_there, tt, bytes_there), tt)), tt), (((bytes_there, tt), tt, tt), tt)),
    ),
    tt,
  );
  decls = tt;
  entry_name = one_there;
  result = bytes_there;
  shapes = tt;
  types = tt;
}

-- ---- in the slot reading the text is used up where the match fails, and so is not handed on

no_more : 0 ≤ 1
no_more = omega arith

is_owned : IsOwned (match_ab [])
is_owned = (
  (
    (
      (_, refl, refl),
      bytes_there,
      (
        (
          tt,
          (
            ([], (_, refl, refl), ([], array byte, refl, refl, (refl, refl, (is_byte_97, (is_byte_98, tt))))),
            bytes_there,
            (tt, tt, tt),
            (
              (bytes ∷ [], (_, refl, refl), (array byte ∷ [], array byte, refl, refl, (refl, refl))),
              bytes_there,
              ((_, refl, refl), tt, tt),
              (_, refl, refl),
            ),
          ),
        ),
        ((tt, tt), tt),
      ),
    ),
    tt,
  ),
  (((tt, tt, ((one_there, tt), (no_more, tt), ((one_there, tt), (refl, (refl, tt))))), (tt, tt)), tt),
)
