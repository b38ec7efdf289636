-- What a step over a part of a module answers, and what a name means to it.
use Rattle.std.specs.Prelude.{◌≡◌, List, [], ◌++◌, map, Some, None, Result, Ok, Err}
use Rattle.ddl_tree.specs.ViewModule.{param_view}
use Rattle.ddl_kinds.specs.declared.want.Want.{Want}
use Rattle.ddl_kinds.specs.declared.bound.Use.{Use}
use Rattle.ddl_kinds.specs.declared.error.NameError.{NameError}
use Rattle.ddl_kinds.specs.declared.error.NameError.TheVariants.{NoMemory}
use Rattle.ddl_kinds.specs.declared.meaning.Arguments.{Arguments}
use Rattle.ddl_kinds.specs.declared.meaning.Arguments.TheVariants as arguments
use Rattle.ddl_kinds.specs.declared.meaning.Meaning.{Meaning}
use Rattle.ddl_kinds.specs.declared.meaning.Meaning.TheVariants as meaning
use Rattle.ddl_kinds.specs.Meanings as m
use Rattle.ddl_kinds.specs.Findings.{Finding, all_uses, first_refusal}

-- the refusal is the first that is found; where memory ran out nothing is said
abbrev pub IsFirst : List Finding → NameError → Type 0
IsFirst fs NoMemory = Unit {0}
IsFirst fs r = first_refusal fs ≡ Some r

-- where these are the findings, the walk refuses by the first refusal, or else adds the uses to those before
abbrev pub Finds : {A : Type 0} → List Finding → List Use → List Use → Result A NameError → Type 0
Finds fs before after (Ok a) = (first_refusal fs ≡ None) × (after ≡ before ++ all_uses fs)
Finds fs before after (Err r) = IsFirst fs r

-- no rule is found that is not met, or else the refusal is the first that is found
abbrev pub Refuses : {A : Type 0} → List Finding → Result A NameError → Type 0
Refuses fs (Ok a) = first_refusal fs ≡ None
Refuses fs (Err r) = IsFirst fs r

-- what the arguments of a name have to be
abbrev pub wants_view : Arguments → List Want
wants_view arguments.Nothing = []
wants_view (arguments.Params ps) = map (λ p. m.param_want (param_view p)) ps.now
wants_view (arguments.Row ws) = ws.now

-- what a name means
abbrev pub meaning_view : Meaning → m.Meaning
meaning_view meaning.Unbound = m.nothing
meaning_view (meaning.TwoImports i j) = m.two_imports i j
meaning_view (meaning.One bound kind wants) = m.one bound kind (wants_view wants)
