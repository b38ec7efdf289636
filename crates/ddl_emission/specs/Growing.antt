-- Arrays that grow: which variables hold one. It begins as an empty list, and only pushes take it.
use Rattle.std.specs.Prelude.{ℕ, zero, suc, ◌+◌, List, [], ◌∷◌, length, Bool, true, false, ◌&&◌, ◌||◌, nat_eq}
use Rattle.ddl_types.specs.Types.{Ty, con, more, array_of}
use Rattle.ddl_core.specs.Core.{Form, give, perform, none, bind, both, attempt, call, case_, loop, again, inside}
use Rattle.ddl_core.specs.Core.{Operation, list, push, gather, Alternatives, none_left, when}
use Rattle.ddl_blocks.specs.Code.{ValueType, of_type, builder}
use Rattle.ddl_emission.specs.Lone.{Lone, lone, several}

-- a variable begins one of a loop's values, counted from i on, of which this says that it grows
abbrev pub begins_one : (ℕ → Bool) → ℕ → List ℕ → ℕ → Bool
begins_one state i [] x = false
begins_one state i (y ∷ ys) x = (nat_eq y x && state i) || begins_one state (suc i) ys x

-- a form pushes to a variable, or begins a loop with it that does
abbrev mutual
  pub grows : Form → ℕ → Bool
  grows (give y) x = false
  grows (perform push (y ∷ ys) span) x = nat_eq y x
  grows (perform op ys span) x = false
  grows none x = false
  grows (bind ty g k) x = grows g x || grows k (suc x)
  grows (both l r) x = grows l x || grows r x
  grows (attempt ty l k r) x = grows l x || grows k (suc x) || grows r x
  grows (call f ys) x = false
  grows (case_ y as_ other) x = grows_in as_ x || grows other x
  grows (loop tys ys g) x = begins_one (grows g) 0 ys x || grows g (length tys + x)
  grows (again ys) x = false
  grows (inside d g) x = grows g x

  pub grows_in : Alternatives → ℕ → Bool
  grows_in none_left x = false
  grows_in (when p ty g as_) x = grows g (suc x) || grows_in as_ x

-- the result of a push grows, and an empty list that what follows pushes to
abbrev pub result_grows : Operation → List ℕ → Form → Bool
result_grows push xs k = true
result_grows list [] k = grows k 0
result_grows op xs k = false

abbrev pub first_grows : Lone → Form → Bool
first_grows (lone op xs span) k = result_grows op xs k
first_grows several k = false

-- which of a form's variables hold an array that grows
abbrev pub flag_at : List Bool → ℕ → Bool
flag_at [] x = false
flag_at (b ∷ bs) zero = b
flag_at (b ∷ bs) (suc x) = flag_at bs x

abbrev pub flags_at : List Bool → List ℕ → List Bool
flags_at bs [] = []
flags_at bs (x ∷ xs) = flag_at bs x ∷ flags_at bs xs

-- what is gathered is an array: one that grows is built first
abbrev pub takes_array : List Bool → Operation → List ℕ → Bool
takes_array bs gather (x ∷ y ∷ xs) = flag_at bs y
takes_array bs op xs = false

-- the type of an array that grows
abbrev pub grown_type : Bool → Ty → ValueType
grown_type true (con array_of (more ty tys)) = builder ty
grown_type b ty = of_type ty

abbrev pub grown_types : List Bool → List Ty → List ValueType
grown_types bs [] = []
grown_types [] (ty ∷ tys) = of_type ty ∷ grown_types [] tys
grown_types (b ∷ bs) (ty ∷ tys) = grown_type b ty ∷ grown_types bs tys
