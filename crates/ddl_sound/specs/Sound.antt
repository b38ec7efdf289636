-- What is sound: what is not Stuck, and gives values of a type.
use Rattle.std.specs.Prelude.{◌≡◌, List, Option, Some, None}
use Rattle.ddl_types.specs.Layout.{Layout}
use Rattle.ddl_types.specs.Types.{Ty}
use Rattle.ddl_types.specs.Outcome.{Outcome, Stuck, ends, tick, miss, parse}
use Rattle.ddl_ops.specs.Valued.{Given, Valued, gives, fails, deep, stuck, counts}
use Rattle.ddl_typed.specs.Env.{Env, empty, with_value, with_captured}
use Rattle.ddl_typed.specs.Specification.{Place}
use Rattle.ddl_sound.specs.HasType.{HasType, IsStream}
use Rattle.ddl_sound.specs.Context.{Context, no_names, name, captured}

-- a result is not stuck, and is of this property where there is one
abbrev pub Gives : {A : Type 0} → (A → Type 0) → Given A → Type 0
Gives P (gives v) = P v
Gives P (fails fault span) = Unit {0}
Gives P deep = Unit {0}
Gives P stuck = ⊥
Gives P (counts o) = Gives P o

-- what is there is of this property
abbrev pub There : {A : Type 0} → (A → Type 0) → Option A → Type 0
There P (Some v) = P v
There P None = ⊥

module _ (places : List Place) (layouts : List Layout) where
  -- an outcome is not Stuck; each parse is of this type, and its stream is within its bytes
  abbrev pub Parses : Ty → Outcome → Type 0
  Parses ty (ends Stuck) = ⊥
  Parses ty (ends e) = Unit {0}
  Parses ty (tick o) = Parses ty o
  Parses ty (miss why source at span o) = Parses ty o
  Parses ty (parse v s o) = HasType places layouts v ty × IsStream s × Parses ty o

  -- a value form is not stuck, and its value is of this type
  abbrev pub GivesType : Ty → Valued → Type 0
  GivesType ty o = Gives (λ w. HasType places layouts w ty) o

  -- the values of an environment are of the types of a context
  abbrev pub EnvHas : Env → Context → Type 0
  EnvHas empty no_names = Unit {0}
  EnvHas (with_value x v env) (name y ty Γ) = (x ≡ y) × HasType places layouts v ty × EnvHas env Γ
  EnvHas (with_captured h m v env) (captured g n ty Γ) = (h ≡ g) × (m ≡ n) × HasType places layouts v ty × EnvHas env Γ
  EnvHas env Γ = ⊥
