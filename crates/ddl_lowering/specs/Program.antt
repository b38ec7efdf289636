-- The core of a specialised specification.
use Rattle.std.specs.Prelude.{if◌then◌else◌, List, [], ◌∷◌, map, Some}
use Rattle.ddl_types.specs.Layout.{Layout}
use Rattle.ddl_types.specs.Types.{Ty}
use Rattle.ddl_ops.specs.declared.pattern.Pattern.{Pattern}
use Rattle.ddl_mono.specs.Copies.{Copy, Mono, spec_of, names_before, is_value_kind}
use Rattle.ddl_core.specs.Core.{Form, Function, Core}
use Rattle.ddl_lowering.specs.PartTypes.{content_type}
use Rattle.ddl_lowering.specs.Lowered.{valued, lowered}

-- types in front of others, the last one in front
abbrev pub types_before : List Ty → List Ty → List Ty
types_before [] tys = tys
types_before (ty ∷ more) tys = types_before more (ty ∷ tys)

module _ (layouts : List Layout) (within : Pattern → Ty → Ty) where
  -- the body of a copy, by its kind; its last parameter is variable 0
  abbrev pub body_of : Copy → Form
  body_of k =
      if is_value_kind k.kind then valued layouts within k.body (names_before k.names [])
      else lowered layouts within k.body (names_before k.names [])

  -- the function of a copy
  abbrev pub function_of : Copy → Function
  function_of k =
      record { name = Some k.declaration; params = types_before k.params []; result = k.result; body = body_of k }

  -- the functions of copies, each under the number of its copy
  abbrev pub functions_of : List Copy → List Function
  functions_of ks = map function_of ks

-- a function for each copy, and the one that is run
abbrev pub core_of : Mono → Core
core_of m = record { functions = functions_of (spec_of m).bits (content_type m.places) m.copies; entry = m.entry }
