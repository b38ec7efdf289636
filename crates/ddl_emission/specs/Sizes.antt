-- How many further blocks a form has.
use Rattle.std.specs.Prelude.{ℕ, ◌+◌, length, Bool, true, false, if◌then◌else◌}
use Rattle.ddl_core.specs.Core.{Form, give, perform, none, bind, both, attempt, call, case_, loop, again, inside}
use Rattle.ddl_core.specs.Core.{Alternatives, none_left, when}
use Rattle.ddl_blocks.specs.Failing.{faults_of}
use Rattle.ddl_emission.specs.Lone.{Lone, lone, several, lone_of}
use Rattle.ddl_emission.specs.Pieces.{stop_count}

-- those of a `bind` before those of what follows, where the first form has so many
abbrev pub before_rest : Lone → ℕ → ℕ
before_rest (lone op xs span) g = stop_count op
before_rest several g = 1 + g

-- those of a biased choice before those of its right side, and all of them
abbrev pub before_right : Lone → ℕ
before_right (lone op xs span) = 1 + length (faults_of op)
before_right several = 2

abbrev pub choice_size : Lone → ℕ → ℕ → ℕ → ℕ
choice_size (lone op xs span) r k l = 1 + length (faults_of op) + r + k
choice_size several r k l = 2 + r + k + l

-- one alternative or two are tried one after the other, more are found in a table
abbrev pub few : Alternatives → Bool
few none_left = false
few (when p ty g none_left) = true
few (when p ty g (when q tz h none_left)) = true
few (when p ty g (when q tz h (when r tw i as_))) = false

-- the one where an alternative is left, else the other
abbrev pub if_left : {A : Type 0} → Alternatives → A → A → A
if_left none_left a b = b
if_left (when p ty g as_) a b = a

abbrev mutual
  pub size : Form → ℕ
  size (give x) = 0
  size (perform op xs span) = stop_count op
  size none = 0
  size (bind ty g k) = before_rest (lone_of g) (size g) + size k
  size (both l r) = 1 + size r + size l
  size (attempt ty l k r) = choice_size (lone_of l) (size r) (size k) (size l)
  size (call f xs) = 0
  size (case_ x as_ other) = 1 + size other + (if few as_ then size_chain as_ else size_all as_)
  size (loop tys xs g) = 1 + size g
  size (again xs) = 0
  size (inside d g) = size g

  -- the alternatives of a table
  pub size_all : Alternatives → ℕ
  size_all none_left = 0
  size_all (when p ty g as_) = 1 + size g + size_all as_

  -- those that are tried one after the other
  pub size_chain : Alternatives → ℕ
  size_chain none_left = 0
  size_chain (when p ty g as_) = size g + if_left as_ (1 + size_chain as_) 0
