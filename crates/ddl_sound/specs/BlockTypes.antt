-- The type of a block.
use Rattle.std.specs.Prelude.{◌≡◌, ℕ, List, [], ◌∷◌, ◌++◌, Option, Some, None}
use Rattle.ddl_types.specs.Types.{Ty}
use Rattle.ddl_typed.specs.Specification.{Place}
use Rattle.ddl_typed.specs.Tree.{Expr, expr, Item, plain, let_, field, result_}
use Rattle.ddl_sound.specs.Context.{Context, name}
use Rattle.ddl_sound.specs.BasicTypes.{unit_type}
use Rattle.ddl_sound.specs.Members.{IsRecord}

-- the type that is written on a form
abbrev pub type_of : Expr → Ty
type_of (expr form ty span) = ty

-- what the items so far have given, by type: the fields, `$$`, and the last item
pub record Making : Type 0 where
  pub names : List (List ℕ)
  pub types : List Ty
  pub result : Option Ty
  pub last : Ty

-- before the first item
abbrev pub nothing_made : Making
nothing_made = record { names = []; types = []; result = None; last = unit_type }

-- the form of an item
abbrev pub form_of_item : Item → Expr
form_of_item (plain e) = e
form_of_item (let_ x e) = e
form_of_item (field label x e) = e
form_of_item (result_ e) = e

-- after an item; a `let` gives `{}` where it is the last
abbrev pub made_with : Item → Making → Making
made_with (plain e) m = record m { last = type_of e }
made_with (let_ x e) m = record m { last = unit_type }
made_with (field label x e) m =
    record m { names = m.names ++ label ∷ []; types = m.types ++ type_of e ∷ []; last = type_of e }
made_with (result_ e) m = record m { result = Some (type_of e); last = type_of e }

-- the names that the items after an item see
abbrev pub context_after : Item → Context → Context
context_after (plain e) Γ = Γ
context_after (let_ x e) Γ = name x (type_of e) Γ
context_after (field label x e) Γ = name x (type_of e) Γ
context_after (result_ e) Γ = Γ

module _ (places : List Place) where
  -- the record of the fields; without fields the last item's type
  abbrev pub FieldsOrLast : List (List ℕ) → List Ty → Ty → Ty → Type 0
  FieldsOrLast [] [] last ty = last ≡ ty
  FieldsOrLast [] (u ∷ us) last ty = ⊥
  FieldsOrLast (x ∷ xs) tys last ty = IsRecord places (x ∷ xs) tys ty

  -- the type of `$$`; without it that of the fields, or of the last item
  abbrev pub FinishedBy : Option Ty → Making → Ty → Type 0
  FinishedBy (Some u) m ty = u ≡ ty
  FinishedBy None m ty = FieldsOrLast m.names m.types m.last ty

  abbrev pub Finished : Making → Ty → Type 0
  Finished m ty = FinishedBy m.result m ty
