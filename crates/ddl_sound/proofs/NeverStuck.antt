-- A typed specification is never Stuck, at every depth, and so is what keeps it and what it keeps.
use Rattle.std.proofs.Common.{ℕ, zero, suc, List}
use Rattle.ddl_types.specs.Value.{Stream}
use Rattle.ddl_types.specs.Outcome.{Outcome}
use Rattle.ddl_typed.specs.Tree.{Spec}
use Rattle.ddl_typed.specs.Env.{empty}
use Rattle.ddl_typed.specs.Meaning.{level, called, Run}
use Rattle.ddl_typed.specs.Specification.{Place}
use Rattle.ddl_mono.specs.Copies.{Mono, spec_of}
use Rattle.ddl_core.specs.Meaning as core
use Rattle.ddl_sound.specs.HasType.{IsStream}
use Rattle.ddl_sound.specs.Context.{no_names}
use Rattle.ddl_sound.specs.BlockTypes.{type_of}
use Rattle.ddl_sound.specs.Typed.{Signature, AreTyped, grammars}
use Rattle.ddl_sound.specs.IsTyped.{IsTyped, signature_of, layouts_of, entry_type}
use Rattle.ddl_sound.specs.Sound.{Parses}
use Rattle.ddl_sound.specs.Laws.{IsSound, NeverStuck, FormsAreSound, ValuesAreSound, CoreNeverStuck, KeptNeverStuck}
use Rattle.ddl_sound.proofs.Joins.{then_fine, fine_as, fine_ending}
use Rattle.ddl_sound.proofs.Below.{LowerFine, body_of}
use Rattle.ddl_sound.proofs.WalkGrammars.{next_fine}
use Rattle.ddl_sound.proofs.Keeping.{sound_on, sound_back}

level_fine : (places : List Place) (spec : Spec) (signatures : ℕ → Signature) → AreTyped places spec signatures → (n : ℕ) →
    LowerFine places spec signatures (level spec n)
level_fine places spec signatures bodies zero = record {
  den = λ e Γ env s r en i. tt;
  val = λ e Γ env r en. tt;
  repeat = λ r Γ env xs s g en a i. tt;
  fold_value = λ f Γ key element ty env so_far k w ps r en a b c p. tt;
  each_value = λ m Γ key element env done k w ps r en d b c p v. tt;
  fold = λ f Γ key element ty env so_far k w ps s r en a b c p i. tt;
  each = λ m Γ key element ty env done k w ps s r g en d b c p v i. tt;
}
level_fine places spec signatures bodies (suc n) = next_fine places spec signatures bodies (level spec n) (level_fine places spec signatures bodies n)

pub forms_are_sound : FormsAreSound
forms_are_sound m typed n e Γ env s r en i = (level_fine m.places (spec_of m) (signature_of m) typed.bodies (suc n)).den e Γ env s r en i

pub values_are_sound : ValuesAreSound
values_are_sound m typed n e Γ env r en = (level_fine m.places (spec_of m) (signature_of m) typed.bodies (suc n)).val e Γ env r en

pub run_fine : (m : Mono) → IsTyped m → (n : ℕ) (s : Stream) → IsStream s → Parses m.places (layouts_of m) (entry_type m) (Run n (spec_of m) m.entry s)
run_fine m typed n s i =
    let spec = spec_of m in
    let below = level_fine m.places spec (signature_of m) typed.bodies n in
    then_fine m.places spec.bits _ (entry_type m) (called spec m.entry) _
    (body_of m.places spec (signature_of m) typed.bodies m.entry grammars no_names (entry_type m) typed.entry)
    (λ e b. fine_as m.places spec.bits (type_of e) (entry_type m) ((level spec n).den e empty s) b.1 (below.den e no_names empty s b.0 tt i))

sound_of : (m : Mono) (o : Outcome) → Parses m.places (layouts_of m) (entry_type m) o → IsSound m o
sound_of m o h = (fine_ending m.places (layouts_of m) (entry_type m) o h, h)

pub never_stuck : NeverStuck
never_stuck m typed n s i = sound_of m (Run n (spec_of m) m.entry s) (run_fine m typed n s i)

pub core_never_stuck : CoreNeverStuck
core_never_stuck m typed program c s i k n =
    sound_of m (core.Run n program s) (sound_on m.places (layouts_of m) (entry_type m) c (λ n. Run n (spec_of m) m.entry s) (λ n. core.Run n program s) k
    (λ n. run_fine m typed n s i) n)

pub kept_fine : (m : Mono) → IsTyped m → (spec : Spec) (entry c : ℕ) (s : Stream) → IsStream s →
    Rattle.ddl_types.specs.Keeping.Keeps c (λ n. Run n spec entry s) (λ n. Run n (spec_of m) m.entry s) → (n : ℕ) →
    Parses m.places (layouts_of m) (entry_type m) (Run n spec entry s)
kept_fine m typed spec entry c s i k n =
    sound_back m.places (layouts_of m) (entry_type m) c (λ n. Run n spec entry s) (λ n. Run n (spec_of m) m.entry s) k (λ n. run_fine m typed n s i) n

pub kept_never_stuck : KeptNeverStuck
kept_never_stuck m typed spec entry c s i k n = sound_of m (Run n spec entry s) (kept_fine m typed spec entry c s i k n)
