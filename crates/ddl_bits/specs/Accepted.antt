-- What makes a layout one: one width, no number in two constructors, and the same inside.
use Rattle.std.specs.Prelude.{◌≡◌, ℕ, ◌≤◌}
use Rattle.std.specs.Coded.{×_prop, Π_prop, Unit-prop, le_prop, Coded-set, coded_ℕ}
use Rattle.ddl_bits.specs.Tree.{Part, fixed, any, inner, Parts, no_parts, part, Cons, no_cons, con, cons_width, parts_width, IsUnambiguous}

abbrev mutual
  -- a part has a bit at least, and an inner layout is one
  pub PartAccepted : Part → Type 0
  PartAccepted (fixed bits width) = 1 ≤ width
  PartAccepted (any width) = 1 ≤ width
  PartAccepted (inner cons) = (1 ≤ cons_width cons) × (cons_width cons ≤ 128) × IsUnambiguous cons × ConsAccepted cons (cons_width cons)

  pub PartsAccepted : Parts → Type 0
  PartsAccepted no_parts = Unit {0}
  PartsAccepted (part p ps) = PartAccepted p × PartsAccepted ps

  -- all constructors have this width, and their parts are accepted
  pub ConsAccepted : Cons → ℕ → Type 0
  ConsAccepted no_cons width = Unit {0}
  ConsAccepted (con ps cons) width = (parts_width ps ≡ width) × PartsAccepted ps × ConsAccepted cons width

-- a layout that is accepted with this width
abbrev pub IsAccepted : Cons → ℕ → Type 0
IsAccepted cons width = (width ≤ 128) × IsUnambiguous cons × ConsAccepted cons width

IsUnambiguous-prop : (cons : Cons) → IsProp (IsUnambiguous cons)
IsUnambiguous-prop cons = Π_prop (λ n. le_prop)

mutual
  PartAccepted-prop : (p : Part) → IsProp (PartAccepted p)
  PartAccepted-prop (fixed bits width) = le_prop
  PartAccepted-prop (any width) = le_prop
  PartAccepted-prop (inner cons) = λ a b i. (
    le_prop a.0 b.0 i,
    le_prop a.1 b.1 i,
    IsUnambiguous-prop cons a.2 b.2 i,
    ConsAccepted-prop cons (cons_width cons) a.3 b.3 i,
  )

  PartsAccepted-prop : (ps : Parts) → IsProp (PartsAccepted ps)
  PartsAccepted-prop no_parts = Unit-prop
  PartsAccepted-prop (part p ps) = ×_prop (PartAccepted-prop p) (PartsAccepted-prop ps)

  ConsAccepted-prop : (cons : Cons) (width : ℕ) → IsProp (ConsAccepted cons width)
  ConsAccepted-prop no_cons width = Unit-prop
  ConsAccepted-prop (con ps cons) width = λ a b i. (
    Coded-set coded_ℕ (parts_width ps) width a.0 b.0 i,
    PartsAccepted-prop ps a.1 b.1 i,
    ConsAccepted-prop cons width a.2 b.2 i,
  )

-- a fact with one proof, so that a type may keep it
pub IsAccepted-prop : (cons : Cons) (width : ℕ) → IsProp (IsAccepted cons width)
IsAccepted-prop cons width = λ a b i. (le_prop a.0 b.0 i, IsUnambiguous-prop cons a.1 b.1 i, ConsAccepted-prop cons width a.2 b.2 i)
