-- What is kept carries both ways that a meaning is sound.
use Rattle.std.proofs.Common.{◌≡◌, ℕ, ◌+◌, List, [], ◌∷◌, Bool, true, false, if◌then◌else◌, refl, sym, ◌∙◌, subst}
use Rattle.std.specs.Prelude.{◌≢◌}
use Rattle.ddl_base.specs.declared.span.Span.{Span}
use Rattle.ddl_types.specs.declared.fault.Fault.TheVariants.{DeepResult}
use Rattle.ddl_types.specs.Layout.{Layout}
use Rattle.ddl_types.specs.Types.{Ty}
use Rattle.ddl_types.specs.Outcome.{Outcome, Event, Tick, Miss, Parse, End, Faulted, Deep, Stuck, ends, tick, miss, parse, ending}
use Rattle.ddl_types.specs.Keeping.{Mark, marks, StartsWith, StartsWithin, Follows, Covers}
use Rattle.ddl_types.specs.Cut.{cut_by}
use Rattle.ddl_typed.specs.Specification.{Place}
use Rattle.ddl_sound.specs.HasType.{HasType, IsStream}
use Rattle.ddl_sound.specs.Sound.{Parses}
use Rattle.ddl_sound.specs.Laws.{SoundOn, SoundBack, SoundCut}
use Rattle.ddl_sound.proofs.Joins.{fine_ending}

stuck_not_deep : (o : Outcome) → ending o ≡ Stuck → ending o ≢ Deep
stuck_not_deep o s d = absurd cc

module _ (places : List Place) (layouts : List Layout) (ty : Ty) where
  -- an event is none, or a parse of the type
  abbrev IsOf : Event → Type 0
  IsOf Tick = Unit {0}
  IsOf (Miss why source at span) = Unit {0}
  IsOf (Parse v s) = HasType places layouts v ty × IsStream s

  abbrev AreOf : List Mark → Type 0
  AreOf [] = Unit {0}
  AreOf (m ∷ ms) = IsOf m.event × AreOf ms

  marks_are : (before : ℕ) (o : Outcome) → Parses places layouts ty o → AreOf (marks before o)
  marks_are before (ends e) h = tt
  marks_are before (tick o) h = marks_are (before + 1) o h
  marks_are before (miss why source at span o) h = (tt, marks_are before o h)
  marks_are before (parse v s o) (a, b, h) = ((a, b), marks_are before o h)

  parses_from : (before : ℕ) (o : Outcome) → ending o ≢ Stuck → AreOf (marks before o) → Parses places layouts ty o
  parses_from before (ends End) e h = tt
  parses_from before (ends (Faulted fault span)) e h = tt
  parses_from before (ends Deep) e h = tt
  parses_from before (ends Stuck) e h = e refl
  parses_from before (tick o) e h = parses_from (before + 1) o e h
  parses_from before (miss why source at span o) e (a, h) = parses_from before o e h
  parses_from before (parse v s o) e ((a, b), h) = (a, b, parses_from before o e h)

  front_is : (ms ns : List Mark) → StartsWith ms ns → AreOf ns → AreOf ms
  front_is [] ns e h = tt
  front_is (m ∷ ms) [] e h = absurd e
  front_is (m ∷ ms) (n ∷ ns) (same, e) (a, h) = (subst IsOf (sym same) a, front_is ms ns e h)

  front_within : (c : ℕ) (ms ns : List Mark) → StartsWithin c ms ns → AreOf ns → AreOf ms
  front_within c [] ns e h = tt
  front_within c (m ∷ ms) [] e h = absurd e
  front_within c (m ∷ ms) (n ∷ ns) (same, cost, e) (a, h) = (subst IsOf (sym same) a, front_within c ms ns e h)

  covered_is : (a b : Outcome) → Covers a b → Parses places layouts ty a → Parses places layouts ty b
  covered_is a b k h =
      parses_from 0 b (λ e. fine_ending places layouts ty a h (k.end (stuck_not_deep b e) ∙ e)) (front_is (marks 0 b) (marks 0 a) k.events (marks_are 0 a h))

  followed_is : (c : ℕ) (a b : Outcome) → Follows c a b → Parses places layouts ty b → Parses places layouts ty a
  followed_is c a b k h =
      parses_from 0 a (λ e. fine_ending places layouts ty b h (k.end (stuck_not_deep a e) ∙ e))
      (front_within c (marks 0 a) (marks 0 b) k.events (marks_are 0 b h))

pub sound_on : SoundOn
sound_on places layouts ty c a b k h m = let found = k.second m in covered_is places layouts ty (a found.0) (b m) found.1 (h found.0)

pub sound_back : SoundBack
sound_back places layouts ty c a b k h n = let found = k.first n in followed_is places layouts ty c (a n) (b found.0) found.1 (h found.0)

cut_choice : (places : List Place) (layouts : List Layout) (ty : Ty) (b : Bool) (name : Span) (o : Outcome) → Parses places layouts ty o →
    Parses places layouts ty (if b then ends (Faulted DeepResult name) else o)
cut_choice places layouts ty true name o h = tt
cut_choice places layouts ty false name o h = h

pub sound_cut : SoundCut
sound_cut places layouts ty too_deep name (ends e) h = h
sound_cut places layouts ty too_deep name (tick o) h = sound_cut places layouts ty too_deep name o h
sound_cut places layouts ty too_deep name (miss why source at span o) h = sound_cut places layouts ty too_deep name o h
sound_cut places layouts ty too_deep name (parse v s o) (a, b, h) =
    cut_choice places layouts ty (too_deep v) name (parse v s (cut_by too_deep name o)) (a, b, sound_cut places layouts ty too_deep name o h)
