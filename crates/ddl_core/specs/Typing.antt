-- Which forms are typed, by the types that are written at what they bind. A rule for operations and one for patterns are given.
use Rattle.std.specs.Prelude.{◌≡◌, ℕ, zero, suc, List, [], ◌∷◌, ◌++◌, Option, Some, None}
use Rattle.ddl_types.specs.Types.{Ty}
use Rattle.ddl_ops.specs.declared.pattern.Pattern.{Pattern}
use Rattle.ddl_core.specs.Core.{Operation, Form, Alternatives, Function, Core, give, perform, none, bind, both, attempt, call, case_, loop, again, inside, none_left, when}
use Rattle.ddl_core.specs.Meaning.{function_at}

-- the type of a variable
abbrev pub type_at : List Ty → ℕ → Option Ty
type_at [] x = None
type_at (ty ∷ tys) zero = Some ty
type_at (ty ∷ tys) (suc x) = type_at tys x

-- variables are there, and have these types in order
abbrev pub HaveTypes : List Ty → List ℕ → List Ty → Type 0
HaveTypes Γ [] [] = Unit {0}
HaveTypes Γ (x ∷ xs) (ty ∷ tys) = (type_at Γ x ≡ Some ty) × HaveTypes Γ xs tys
HaveTypes Γ xs tys = ⊥

-- the loop whose body a form ends: the types of the values that a turn begins with
pub data Round : Type 0 where
  no_loop : Round
  round : List Ty → Round

-- a call gives what the function takes, and has what it results in
abbrev pub CallRule : Option Function → List Ty → Ty → Type 0
CallRule None tys of = ⊥
CallRule (Some d) tys of = (tys ≡ d.params) × (of ≡ d.result)

-- `again` ends the body of a loop, and gives what a turn begins with
abbrev pub AgainRule : Round → List ℕ → List Ty → Type 0
AgainRule no_loop xs Γ = ⊥
AgainRule (round tys) xs Γ = HaveTypes Γ xs tys

-- an operation takes values of these types and gives one of that type; a pattern is one of a type, with content of that type
module _ (Performs : Operation → List Ty → Ty → Type 0) (Holds : Pattern → Ty → Ty → Type 0) (functions : List Function) where
  abbrev mutual
    -- where variables have these types, a form is typed, and each of its parses has this type
    pub Typed : Form → Round → List Ty → Ty → Type 0
    Typed (give x) r Γ of = type_at Γ x ≡ Some of
    Typed (perform op xs span) r Γ of = (tys : List Ty) × HaveTypes Γ xs tys × Performs op tys of
    Typed none r Γ of = Unit {0}
    Typed (bind ty g k) r Γ of = Typed g no_loop Γ ty × Typed k r (ty ∷ Γ) of
    Typed (both g h) r Γ of = Typed g r Γ of × Typed h r Γ of
    Typed (attempt ty g k h) r Γ of = Typed g no_loop Γ ty × Typed k r (ty ∷ Γ) of × Typed h r Γ of
    Typed (call f xs) r Γ of = (tys : List Ty) × HaveTypes Γ xs tys × CallRule (function_at functions f) tys of
    Typed (case_ x as_ other) r Γ of =
        ((ty : Ty) × (type_at Γ x ≡ Some ty) × AreTyped as_ ty r Γ of) × Typed other r Γ of
    Typed (loop tys xs body) r Γ of = HaveTypes Γ xs tys × Typed body (round tys) (tys ++ Γ) of
    Typed (again xs) r Γ of = AgainRule r xs Γ
    Typed (inside d g) r Γ of = Typed g r Γ of

    -- each alternative has a pattern of the subject's type, and its form has the content as variable 0
    pub AreTyped : Alternatives → Ty → Round → List Ty → Ty → Type 0
    AreTyped none_left subject r Γ of = Unit {0}
    AreTyped (when p ty g as_) subject r Γ of = Holds p subject ty × Typed g r (ty ∷ Γ) of × AreTyped as_ subject r Γ of

  -- the body of each function is typed at its parameters, with its result
  abbrev pub FunctionsTyped : List Function → Type 0
  FunctionsTyped [] = Unit {0}
  FunctionsTyped (d ∷ ds) = Typed d.body no_loop d.params d.result × FunctionsTyped ds

-- a program is typed: its functions are, and the one that is run has no parameters
abbrev pub IsTyped : (Operation → List Ty → Ty → Type 0) → (Pattern → Ty → Ty → Type 0) → Core → Type 0
IsTyped Performs Holds program =
    FunctionsTyped Performs Holds program.functions program.functions ×
    ((d : Function) × (function_at program.functions program.entry ≡ Some d) × (d.params ≡ []))
