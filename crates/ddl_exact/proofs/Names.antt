-- What the names of modules are answered is one thing.
use Rattle.std.proofs.Common.{◌≡◌, ◌≢◌, List, [], ◌∷◌, map, Option, Some, None, Ok, Err, refl, sym, ap, ◌∙◌}
use Rattle.ddl_tree.specs.declared.module.SourceUnit.{SourceUnit}
use Rattle.ddl_kinds.specs.Findings.{Finding, first_refusal}
use Rattle.ddl_kinds.specs.Found.{IsFirst}
use Rattle.ddl_kinds.specs.declared.error.NameError.{NameError}
use Rattle.ddl_kinds.specs.declared.error.NameError.TheVariants as e
use Rattle.ddl_uses.specs.Walks.{loaded}
use Rattle.ddl_names.specs.Cutting.{begins}
use Rattle.ddl_names.specs.Modules.{all_findings, refusal, uses_in, uses_of_each}
use Rattle.ddl_names.specs.Resolves.{IsUnbound, infos_from}
use Rattle.ddl_exact.specs.OneNames.{OneNames, OneResolved}

is_first : (fs : List Finding) (error : NameError) → error ≢ e.NoMemory → IsFirst fs error → first_refusal fs ≡ Some error
is_first fs e.NoMemory n h = absurd (n refl)
is_first fs _ n h = h

pub is_refusal : (us : List SourceUnit) (error : NameError) → error ≢ e.NoMemory → IsUnbound us error → refusal (loaded us) ≡ Some error
is_refusal us error n h = is_first (all_findings (loaded us)) error n h

same_refusal : (us vs : List SourceUnit) → loaded us ≡ loaded vs → refusal (loaded us) ≡ refusal (loaded vs)
same_refusal us vs same = ap refusal same

not_both : (o : Option NameError) (error : NameError) → o ≡ None → o ≡ Some error → ⊥
not_both o error h k = cc

one_refusal : (o : Option NameError) (error other : NameError) → o ≡ Some error → o ≡ Some other → error ≡ other
one_refusal o error other h k = cc

-- the names of the modules
names_of : (us : List SourceUnit) → map (λ u. u.name) us ≡ map (λ l. l.name) (loaded us)
names_of [] = refl
names_of (u ∷ us) = ap (λ names. u.name ∷ names) (names_of us)

pub one_names : OneNames
one_names us vs (Ok f) (Ok g) same h k =
    (h.1 ∙ ap uses_in same ∙ sym k.1, h.2 ∙ ap (λ ls. begins 0 (uses_of_each ls)) same ∙ sym k.2)
one_names us vs (Ok f) (Err error) same h k = not_both (refusal (loaded us)) error h.0 (same_refusal us vs same ∙ is_refusal vs error k.0 k.1)
one_names us vs (Err error) (Ok g) same h k = not_both (refusal (loaded us)) error (same_refusal us vs same ∙ k.0) (is_refusal us error h.0 h.1)
one_names us vs (Err error) (Err other) same h k =
    one_refusal (refusal (loaded us)) error other (is_refusal us error h.0 h.1) (same_refusal us vs same ∙ is_refusal vs other k.0 k.1)

pub one_resolved : OneResolved
one_resolved us vs (Ok q) (Ok r) same h k = (
  h.1 ∙ names_of us ∙ ap (λ ls. map (λ l. l.name) ls) same ∙ sym (names_of vs) ∙ sym k.1,
  h.2 ∙ ap (infos_from 0) same ∙ sym k.2,
  h.3 ∙ ap uses_in same ∙ sym k.3,
  h.4 ∙ ap (λ ls. begins 0 (uses_of_each ls)) same ∙ sym k.4,
)
one_resolved us vs (Ok q) (Err error) same h k = not_both (refusal (loaded us)) error h.0 (same_refusal us vs same ∙ is_refusal vs error k.0 k.1)
one_resolved us vs (Err error) (Ok r) same h k = not_both (refusal (loaded us)) error (same_refusal us vs same ∙ k.0) (is_refusal us error h.0 h.1)
one_resolved us vs (Err error) (Err other) same h k =
    one_refusal (refusal (loaded us)) error other (is_refusal us error h.0 h.1) (same_refusal us vs same ∙ is_refusal vs other k.0 k.1)
