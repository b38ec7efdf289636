-- When specialisation refuses an entry.
use Rattle.std.specs.Prelude.{◌≡◌, ◌≢◌, ℕ, ◌≤◌, List, [], Some, length}
use Rattle.ddl_base.specs.declared.span.Span.{Span}
use Rattle.ddl_tree.specs.declared.kind.Kind.TheVariants.{Grammar}
use Rattle.ddl_typed.specs.Specification.{Specification, Declaration, spec_of}
use Rattle.ddl_copies.specs.Shapes.{Instance, Origin, member, unit_types}
use Rattle.ddl_copies.specs.Queue.{Met, item}
use Rattle.ddl_copies.specs.Needed.{member_uses}
use Rattle.ddl_copies.specs.Kinds.{declared_at}

-- the declaration of a number is a grammar of this name that the root declares; the root is unit 1, behind the prelude
pub record IsEntry (s : Specification) (name : List ℕ) (f : ℕ) : Type 0 where
  pub declared : Declaration
  pub is : declared_at s f ≡ Some declared
  pub unit : declared.unit ≡ 1
  pub kind : declared.kind ≡ Grammar
  pub name_is : declared.name ≡ name

-- the root declares no grammar of this name
abbrev pub NoEntry : Specification → List ℕ → Type 0
NoEntry s name = (f : ℕ) → IsEntry s name f → ⊥

-- the entry of this name has parameters
pub record EntryHasParameters (s : Specification) (name : List ℕ) : Type 0 where
  pub entry : ℕ
  pub is : IsEntry s name entry
  pub parameters : is.declared.parameters ≢ []

-- the entry of this name needs more members than the limit; the declaration whose name stands at the span is that of the first
-- member beyond it, in the order in which the queue meets them
pub record TooManyCopies (s : Specification) (limit : ℕ) (name : List ℕ) (span : Span) : Type 0 where
  pub entry : ℕ
  pub is : IsEntry s name entry
  pub walked : ℕ
  pub met : List Origin
  pub queue : Met (member_uses (spec_of s)) (member entry (unit_types is.declared.typing.vars)) walked met
  pub beyond : ℕ
  pub instance : Instance
  pub declared : Declaration
  pub member_is : item met limit ≡ Some (member beyond instance)
  pub declared_is : declared_at s beyond ≡ Some declared
  pub span_is : declared.span ≡ span

-- however long its queue goes on, the entry needs no more members than the limit
abbrev pub IsWithin : Specification → ℕ → ℕ → ℕ → Type 0
IsWithin s limit entry variables =
    (walked : ℕ) (met : List Origin) → Met (member_uses (spec_of s)) (member entry (unit_types variables)) walked met → length met ≤ limit
