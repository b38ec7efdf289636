-- A set of copies that is closed under use, and a specification that holds it.
use Rattle.std.proofs.Common.{◌≡◌, ℕ, List, [], Some}
use Rattle.ddl_types.specs.Value.{Stream}
use Rattle.ddl_types.specs.Keeping.{Keeps}
use Rattle.ddl_typed.specs.Tree.{Site, Expr, Spec}
use Rattle.ddl_typed.specs.Meaning.{form_at, Run}
use Rattle.ddl_copies.specs.Shapes.{Instance, Origin, member, argument, unit_types}
use Rattle.ddl_copies.specs.Copied.{copied}
use Rattle.ddl_copies.specs.Scoped.{Takes, Scoped}

-- the set is closed under use, and each copy of it stands with its text at its number
pub record Delivered (spec : Spec) (params : ℕ → List ℕ) (Needed : Origin → Type 0) (number : Origin → ℕ) (made : Spec) : Type 0 where
  pub closed : (f : ℕ) (τs : Instance) (body : Expr) → Needed (member f τs) → form_at spec.decls f ≡ Some body → Scoped spec params Needed body τs (params f)
  pub members : (f : ℕ) (τs : Instance) (body : Expr) → Needed (member f τs) → form_at spec.decls f ≡ Some body →
      form_at made.decls (number (member f τs)) ≡ Some (copied spec number body τs)
  pub arguments : (site : Site) (e : Expr) (τs : Instance) → Needed (argument site e τs) →
      form_at made.decls (number (argument site e τs)) ≡ Some (copied spec number e τs)
  pub bits : made.bits ≡ spec.bits

-- for each set of copies that is closed under use and stands in a specification, the entry means the same there
abbrev pub Specialises : Type 1
Specialises = (spec made : Spec) (params : ℕ → List ℕ) (Needed : Origin → Type 0) (number : Origin → ℕ) (entry variables : ℕ) →
    Delivered spec params Needed number made → Takes spec params entry [] → Needed (member entry (unit_types variables)) → (s : Stream) →
    Keeps 1 (λ n. Run n spec entry s) (λ n. Run n made (number (member entry (unit_types variables))) s)
