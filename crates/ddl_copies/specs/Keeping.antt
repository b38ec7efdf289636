-- What it is that the copies which an entry needs keep.
use Rattle.std.specs.Prelude.{◌≡◌, ℕ, List, [], Some}
use Rattle.ddl_types.specs.Value.{Stream}
use Rattle.ddl_types.specs.Keeping.{Keeps}
use Rattle.ddl_typed.specs.Tree.{Site, Expr, Spec}
use Rattle.ddl_typed.specs.Specification as t
use Rattle.ddl_typed.specs.Specification.{Specification}
use Rattle.ddl_typed.specs.Meaning.{form_at, Run}
use Rattle.ddl_mono.specs.Copies.{Mono, spec_of}
use Rattle.ddl_mono.specs.IsMono.{IsMono}
use Rattle.ddl_copies.specs.Shapes.{Instance, Origin, member, argument, unit_types}
use Rattle.ddl_copies.specs.Copied.{copied}
use Rattle.ddl_copies.specs.Needed.{Needs}
use Rattle.ddl_copies.specs.Scoped.{Takes, Scoped}
use Rattle.ddl_copies.specs.Specialised.{Specialised}
use Rattle.ddl_copies.specs.Valid.{IsValid}

-- in each member that an entry needs, each name is bound, and each call gives what is called its parameters
abbrev pub Sound : Spec → (ℕ → List ℕ) → ℕ → ℕ → Type 0
Sound spec params entry variables = (f : ℕ) (τs : Instance) (body : Expr) → Needs spec entry variables (member f τs) →
    form_at spec.decls f ≡ Some body → Scoped spec params (λ o. Unit {0}) body τs (params f)

-- a specialised specification has each copy that the entry needs, with its text, and that of the entry is the one that is run; its
-- bitdata are those of the specification
pub record Holds (spec : Spec) (entry variables : ℕ) (number : Origin → ℕ) (m : Mono) : Type 0 where
  pub members : (f : ℕ) (τs : Instance) (body : Expr) → Needs spec entry variables (member f τs) → form_at spec.decls f ≡ Some body →
      form_at (spec_of m).decls (number (member f τs)) ≡ Some (copied spec number body τs)
  pub arguments : (site : Site) (e : Expr) (τs : Instance) → Needs spec entry variables (argument site e τs) →
      form_at (spec_of m).decls (number (argument site e τs)) ≡ Some (copied spec number e τs)
  pub bits : (spec_of m).bits ≡ spec.bits
  pub entry_is : m.entry ≡ number (member entry (unit_types variables))

-- the copies that an entry needs mean what the entry means, with at most as many ticks
abbrev pub SpecialisedKeeps : Type 0
SpecialisedKeeps = (spec : Spec) (m : Mono) (params : ℕ → List ℕ) (number : Origin → ℕ) (entry variables : ℕ) →
    Sound spec params entry variables → Holds spec entry variables number m → Takes spec params entry [] → (s : Stream) →
    Keeps 1 (λ n. Run n spec entry s) (λ n. Run n (spec_of m) m.entry s)

-- what specialisation makes of a valid specification means what the entry means, with at most as many ticks
abbrev pub SpecialisedMeans : Type 0
SpecialisedMeans = (s : Specification) (entry : ℕ) (m : Mono) → IsValid s → Specialised s entry m → (input : Stream) →
    Keeps 1 (λ n. Run n (t.spec_of s) entry input) (λ n. Run n (spec_of m) m.entry input)

-- what specialisation makes of a valid specification is a specialised specification
abbrev pub CopiesAreMono : Type 0
CopiesAreMono = (s : Specification) (entry : ℕ) (m : Mono) → IsValid s → Specialised s entry m → IsMono m
