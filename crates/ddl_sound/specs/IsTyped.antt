-- Which specialised specifications are well typed.
use Rattle.std.specs.Prelude.{ℕ, Bool, true, false, List, Option, Some, None}
use Rattle.ddl_types.specs.Layout.{Layout}
use Rattle.ddl_types.specs.Types.{Ty}
use Rattle.ddl_mono.specs.Copies.{Copy, Mono, copy_at, is_value_kind, spec_of}
use Rattle.ddl_sound.specs.Context.{no_names, parameters_context}
use Rattle.ddl_sound.specs.BasicTypes.{unit_type}
use Rattle.ddl_sound.specs.Typed.{Sort, values, grammars, Signature, IsDeclared, AreTyped}

abbrev pub sort_of : Bool → Sort
sort_of true = values
sort_of false = grammars

-- the signature of a copy; a number that no copy has is never called
abbrev pub signature : Option Copy → Signature
signature None = record { sort = grammars; parameters = no_names; of = unit_type }
signature (Some c) = record {
  sort = sort_of (is_value_kind c.kind);
  parameters = parameters_context c.names c.params no_names;
  of = c.result;
}

abbrev pub signature_of : Mono → ℕ → Signature
signature_of m f = signature (copy_at m.copies f)

-- the layouts of the bitdata
abbrev pub layouts_of : Mono → List Layout
layouts_of m = (spec_of m).bits

-- the type of what is run
abbrev pub entry_type : Mono → Ty
entry_type m = (signature_of m m.entry).of

-- each copy is typed as its kind, its parameters and its result say, and what is run is a grammar without parameters
pub record IsTyped (m : Mono) : Type 0 where
  pub bodies : AreTyped m.places (spec_of m) (signature_of m)
  pub entry : IsDeclared m.places (spec_of m) (signature_of m) m.entry grammars no_names (entry_type m)
