-- What solving remembers of the pairs of variables that it compared.
use Rattle.std.specs.Prelude.{◌≡◌, ℕ, Bool, true, false, ◌&&◌, ◌⊎◌, nat_eq, List, [], ◌∷◌, drop, Result, Ok, Err}
use Rattle.std.specs.HashSet.{contains}
use Rattle.ddl_base.specs.declared.memory.NoMemory.{NoMemory}
use Rattle.ddl_types.specs.Types.{Sub}
use Rattle.ddl_unify.specs.declared.store.Bound.{Bound}
use Rattle.ddl_unify.specs.declared.compared.Pending.{Pending}
use Rattle.ddl_unify.specs.declared.compared.Compared.{Compared}
use Rattle.ddl_unify.specs.Equations.{Equation, Solves}
use Rattle.ddl_unify.specs.Bindings.{Agrees}
use Rattle.ddl_unify.specs.View.{bounds}

-- two pairs of the same variables in the same order
abbrev pub same_pair : (ℕ × ℕ) → (ℕ × ℕ) → Bool
same_pair p q = nat_eq p.0 q.0 && nat_eq p.1 q.1

-- the bindings make each known pair equal
abbrev pub Known : ((ℕ × ℕ) → Bool) → List Bound → Type 0
Known known xs = (p : ℕ × ℕ) → known p ≡ true → (f : Sub) → Agrees f (bounds xs) → f p.0 ≡ f p.1

-- one more pair may be known
abbrev pub KnownOne : ((ℕ × ℕ) → Bool) → ((ℕ × ℕ) → Bool) → (ℕ × ℕ) → Type 0
KnownOne known known2 p = (q : ℕ × ℕ) → known2 q ≡ true → (q ≡ p) ⊎ (known q ≡ true)

-- the bindings make two variables equal with what is left of the equations above those that stood before
abbrev pub Awaits : Pending → List Bound → List Equation → Type 0
Awaits p xs es = (f : Sub) → Agrees f (bounds xs) → Solves f (drop p.above es) → f p.left ≡ f p.right

abbrev pub EachAwaits : List Pending → List Bound → List Equation → Type 0
EachAwaits [] xs es = Unit {0}
EachAwaits (p ∷ ps) xs es = Awaits p xs es × EachAwaits ps xs es

pub record Remembers (m : Compared) (xs : List Bound) (es : List Equation) : Type 0 where
  pub known : Known (contains same_pair m.known) xs
  pub pending : EachAwaits m.pending.items xs es

-- the same of two variables and a number of equations
abbrev pub Awaited : ℕ → ℕ → ℕ → List Bound → List Equation → Type 0
Awaited v w above xs es = (f : Sub) → Agrees f (bounds xs) → Solves f (drop above es) → f v ≡ f w

-- the bindings make two variables equal
abbrev pub AreEqual : ℕ → ℕ → List Bound → Type 0
AreEqual v w xs = (f : Sub) → Agrees f (bounds xs) → f v ≡ f w

-- what was remembered is remembered
abbrev pub Carries : Compared → Compared → List Bound → List Equation → Type 0
Carries m m2 xs es = Remembers m xs es → Remembers m2 xs es

-- two variables more may be awaited
abbrev pub MayAwait : ℕ → ℕ → ℕ → Compared → Compared → List Bound → List Equation → Type 0
MayAwait v w above m m2 xs es = Remembers m xs es → Awaited v w above xs es → Remembers m2 xs es

-- what is remembered after a step that did not fail
abbrev pub Remembered : Result Bool NoMemory → Compared → List Bound → List Equation → Type 0
Remembered (Ok true) m xs es = Remembers m xs es
Remembered (Ok false) m xs es = Unit {0}
Remembered (Err d) m xs es = Unit {0}
