-- The laws on what specialisation makes of a valid specification.
use Rattle.std.proofs.Common.{ℕ, [], map, ap, ◌∙◌}
use Rattle.ddl_typed.specs.Specification.{Specification, spec_of}
use Rattle.ddl_mono.specs.Copies.{Mono, is_value_kind}
use Rattle.ddl_copies.specs.Shapes.{member, unit_types}
use Rattle.ddl_copies.specs.Queue.{at_entry}
use Rattle.ddl_copies.specs.Scoped.{Takes}
use Rattle.ddl_copies.specs.Keeping.{Sound, SpecialisedMeans, CopiesAreMono}
use Rattle.ddl_copies.specs.Valid.{values_at, value_parameters, numbers_of, IsValid}
use Rattle.ddl_copies.specs.Specialised.{Specialised}
use Rattle.ddl_copies.proofs.AllMet.{copy_of, declared_form, holds}
use Rattle.ddl_copies.proofs.Closing.{specialised_keeps}
use Rattle.ddl_copies.proofs.Made.{is_mono}
use Rattle.ddl_copies.proofs.ValidSound.{valid_sound}

module _ (s : Specification) (entry : ℕ) (m : Mono) (valid : IsValid s) (made : Specialised s entry m) where
  sound : Sound (spec_of s) (value_parameters s) entry made.order.declared.typing.vars
  sound = valid_sound s valid entry made.order.declared made.order.is made.order.without

  entry_takes : Takes (spec_of s) (value_parameters s) entry []
  entry_takes =
      let h = copy_of s entry m made (member entry (unit_types made.order.declared.typing.vars)) at_entry in
      record {
        body = h.of.text;
        is = declared_form s.declarations entry h.of.is h.of.stands;
        values = ap values_at made.order.is ∙ ap (λ ps. numbers_of is_value_kind 0 (map (λ p. p.kind) ps) []) made.order.without;
      }

pub specialised_means : SpecialisedMeans
specialised_means s entry m valid made input =
    specialised_keeps (spec_of s) m (value_parameters s) made.number entry made.order.declared.typing.vars (sound s entry m valid made) (holds s entry m made)
    (entry_takes s entry m valid made) input

pub copies_are_mono : CopiesAreMono
copies_are_mono s entry m valid made = is_mono s entry m (value_parameters s) made (sound s entry m valid made) valid.kinded
