-- Programs in which every name is bound, and what grows of a loop's state is pushed to.
use Rattle.std.specs.Prelude.{◌≡◌, ℕ, ◌<◌, List, [], ◌∷◌, ◌++◌, map, length, Bool, false, Option, Some, None}
use Rattle.ddl_core.specs.Core.{Form, give, perform, none, bind, both, attempt, call, case_, loop, again, inside}
use Rattle.ddl_core.specs.Core.{Alternatives, none_left, when, Function, Core}
use Rattle.ddl_core.specs.Meaning.{function_at}
use Rattle.ddl_emission.specs.Growing.{first_grows, flags_at}
use Rattle.ddl_emission.specs.Lone.{lone_of}

-- variables of k
abbrev pub Below : ℕ → List ℕ → Type 0
Below k [] = Unit {0}
Below k (x ∷ xs) = (x < k) × Below k xs

-- the function of a call is there, and takes so many values
abbrev pub Callable : List Function → ℕ → ℕ → Type 0
Callable fs f n = (d : Function) × (function_at fs f ≡ Some d) × (n ≡ length d.params)

-- there is a loop, and what grows of its state does
abbrev pub Loops : Option (List Bool) → List Bool → Type 0
Loops None bs = ⊥
Loops (Some states) bs = bs ≡ states

module _ (fs : List Function) where
  abbrev mutual
    -- a form with these variables, of which these grow, that ends the body of a loop with such a state, or of none; the
    -- first form of a `bind` and the left side of a biased choice end none
    pub IsScoped : Option (List Bool) → List Bool → Form → Type 0
    IsScoped around bs (give x) = x < length bs
    IsScoped around bs (perform op xs span) = Below (length bs) xs
    IsScoped around bs none = Unit {0}
    IsScoped around bs (bind ty g k) = IsScoped None bs g × IsScoped around (first_grows (lone_of g) k ∷ bs) k
    IsScoped around bs (both l r) = IsScoped around bs l × IsScoped around bs r
    IsScoped around bs (attempt ty l k r) = IsScoped None bs l × IsScoped around (false ∷ bs) k × IsScoped around bs r
    IsScoped around bs (call f xs) = Below (length bs) xs × Callable fs f (length xs)
    IsScoped around bs (case_ x as_ other) = (x < length bs) × AreScoped around bs as_ × IsScoped around bs other
    IsScoped around bs (loop tys xs g) =
        Below (length bs) xs × (length xs ≡ length tys) × IsScoped (Some (flags_at bs xs)) (flags_at bs xs ++ bs) g
    IsScoped around bs (again xs) = Below (length bs) xs × Loops around (flags_at bs xs)
    IsScoped around bs (inside d g) = IsScoped around bs g

    pub AreScoped : Option (List Bool) → List Bool → Alternatives → Type 0
    AreScoped around bs none_left = Unit {0}
    AreScoped around bs (when p ty g as_) = IsScoped around (false ∷ bs) g × AreScoped around bs as_

-- in each function's body the parameters are the variables; the entry is there, and has no parameters
pub record IsWellScoped (program : Core) : Type 0 where
  pub each : (f : ℕ) (d : Function) → function_at program.functions f ≡ Some d
      → IsScoped program.functions None (map (λ ty. false) d.params) d.body
  pub entry : Callable program.functions program.entry 0
