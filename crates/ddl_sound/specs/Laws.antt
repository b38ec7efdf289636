-- The laws of well typed specifications.
use Rattle.std.specs.Prelude.{◌≢◌, ℕ, Bool, List}
use Rattle.ddl_base.specs.declared.span.Span.{Span}
use Rattle.ddl_types.specs.Layout.{Layout}
use Rattle.ddl_types.specs.Types.{Ty}
use Rattle.ddl_types.specs.Value.{Value, Stream}
use Rattle.ddl_types.specs.Outcome.{Outcome, Stuck, ending}
use Rattle.ddl_types.specs.Keeping.{Keeps}
use Rattle.ddl_types.specs.Cut.{cut_by}
use Rattle.ddl_types.specs.Growth.{IsWhole}
use Rattle.ddl_types.specs.Answer.{counted}
use Rattle.ddl_typed.specs.Env.{Env}
use Rattle.ddl_typed.specs.Specification.{Place}
use Rattle.ddl_typed.specs.Tree.{Expr, Spec}
use Rattle.ddl_typed.specs.Meaning.{Run, Val, Den}
use Rattle.ddl_typed.specs.Denoted.{Denoted, whole_input}
use Rattle.ddl_typed.specs.Told.{Told, IsAnswer}
use Rattle.ddl_mono.specs.Copies.{Mono, spec_of}
use Rattle.ddl_core.specs.Core.{Core}
use Rattle.ddl_core.specs.Meaning as core
use Rattle.ddl_sound.specs.HasType.{Bytes, IsStream}
use Rattle.ddl_sound.specs.Context.{Context}
use Rattle.ddl_sound.specs.BlockTypes.{type_of}
use Rattle.ddl_sound.specs.Typed.{TypedValue, TypedGrammar}
use Rattle.ddl_sound.specs.IsTyped.{IsTyped, signature_of, layouts_of, entry_type}
use Rattle.ddl_sound.specs.Sound.{Parses, GivesType, EnvHas}

-- an outcome is not Stuck, and each of its parses is of the type of what is run
abbrev pub IsSound : Mono → Outcome → Type 0
IsSound m o = (ending o ≢ Stuck) × Parses m.places (layouts_of m) (entry_type m) o

-- a run of a typed specification is sound, at every depth and on every stream
abbrev pub NeverStuck : Type 0
NeverStuck = (m : Mono) → IsTyped m → (n : ℕ) (s : Stream) → IsStream s → IsSound m (Run n (spec_of m) m.entry s)

-- so is each of its grammar forms, in each environment of its context
abbrev pub FormsAreSound : Type 0
FormsAreSound = (m : Mono) → IsTyped m → (n : ℕ) (e : Expr) (Γ : Context) (env : Env) (s : Stream) →
    TypedGrammar m.places (spec_of m) (signature_of m) e Γ → EnvHas m.places (layouts_of m) env Γ → IsStream s →
    Parses m.places (layouts_of m) (type_of e) (Den n (spec_of m) e env s)

-- and each of its value forms
abbrev pub ValuesAreSound : Type 0
ValuesAreSound = (m : Mono) → IsTyped m → (n : ℕ) (e : Expr) (Γ : Context) (env : Env) →
    TypedValue m.places (spec_of m) (signature_of m) e Γ → EnvHas m.places (layouts_of m) env Γ →
    GivesType m.places (layouts_of m) (type_of e) (Val n (spec_of m) e env)

-- what keeps a meaning that is sound is sound
abbrev pub SoundOn : Type 0
SoundOn = (places : List Place) (layouts : List Layout) (ty : Ty) (c : ℕ) (a b : ℕ → Outcome) → Keeps c a b →
    ((n : ℕ) → Parses places layouts ty (a n)) → (n : ℕ) → Parses places layouts ty (b n)

-- what is kept by a meaning that is sound is sound
abbrev pub SoundBack : Type 0
SoundBack = (places : List Place) (layouts : List Layout) (ty : Ty) (c : ℕ) (a b : ℕ → Outcome) → Keeps c a b →
    ((n : ℕ) → Parses places layouts ty (b n)) → (n : ℕ) → Parses places layouts ty (a n)

-- a cut leaves an outcome sound
abbrev pub SoundCut : Type 0
SoundCut =
    (places : List Place) (layouts : List Layout) (ty : Ty) (too_deep : Value → Bool) (name : Span) (o : Outcome) →
    Parses places layouts ty o → Parses places layouts ty (cut_by too_deep name o)

-- where a program of Core keeps a typed specification, its runs are sound
abbrev pub CoreNeverStuck : Type 0
CoreNeverStuck = (m : Mono) → IsTyped m → (program : Core) (c : ℕ) (s : Stream) → IsStream s →
    Keeps c (λ n. Run n (spec_of m) m.entry s) (λ n. core.Run n program s) → (n : ℕ) → IsSound m (core.Run n program s)

-- where a typed specification keeps another one, the runs of that one are sound
abbrev pub KeptNeverStuck : Type 0
KeptNeverStuck = (m : Mono) → IsTyped m → (spec : Spec) (entry c : ℕ) (s : Stream) → IsStream s →
    Keeps c (λ n. Run n spec entry s) (λ n. Run n (spec_of m) m.entry s) → (n : ℕ) → IsSound m (Run n spec entry s)

-- where a depth is large enough there is an answer, and it says why where there is no parse
abbrev pub HasAnswer : Spec → ℕ → List ℕ → Type 0
HasAnswer spec entry input =
    (n : ℕ) → IsWhole (Denoted n spec entry input) →
    (a : Told) × (IsAnswer spec entry input a × (a.closing ≢ counted 0))

-- a typed specification has an answer on each input
abbrev pub TypedAnswers : Type 0
TypedAnswers = (m : Mono) → IsTyped m → (input : List ℕ) → Bytes input → HasAnswer (spec_of m) m.entry input

-- so has one that a typed specification keeps
abbrev pub KeptAnswers : Type 0
KeptAnswers = (m : Mono) → IsTyped m → (spec : Spec) (entry c : ℕ) (input : List ℕ) → Bytes input →
    Keeps c (λ n. Run n spec entry (whole_input input)) (λ n. Run n (spec_of m) m.entry (whole_input input)) →
    HasAnswer spec entry input
