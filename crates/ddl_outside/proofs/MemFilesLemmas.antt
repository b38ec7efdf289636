-- Facts of files in memory.
use Rattle.std.proofs.Common.{◌≡◌, ℕ, ◌+◌, List, [], ◌∷◌, length, refl, ap, ◌∙◌, Bool, true, false, arith}
use Rattle.std.specs.Prelude.{Some, None, Option, IsSome, unwrap_or, ◌≤◌, max, min, option_map, option_and_then, if◌then◌else◌, ◌==◌}
use Rattle.std.specs.List.{list_any}
use Rattle.std.specs.Str.{bytes_eq}
use Rattle.std.proofs.Math.Path.{fun_ext}
use Rattle.ddl_outside.specs.Files.{IsTold, Later, TouchesOnly}
use Rattle.ddl_outside.specs.Named.{at_name, change_at}
use Rattle.ddl_outside.specs.MemFiles.{Entry, MemState, told_entry, asked_entry, held_in, told_in, reach_in, reach_of, length_told, files_state, some_failing}
use Rattle.ddl_outside.specs.MemFiles.{fails}
use Rattle.ddl_outside.proofs.NamedLemmas.{at_name-change_at, at_name-change_at-same, at_name-change_at-other, at_name-change_at-kept}

-- telling a length keeps what is held and how far reads have asked
pub held_in-told : (es : List (List ℕ × Entry)) (name : List ℕ) → held_in (change_at told_entry es name) ≡ held_in es
held_in-told es name = fun_ext (at_name-change_at-kept told_entry (λ o. option_map (λ f. f.bytes) o) keeps es name) where
  keeps : (o : Option Entry) → option_map (λ f. f.bytes) (option_map told_entry o) ≡ option_map (λ f. f.bytes) o
  keeps None = refl
  keeps (Some f) = refl

pub reach_in-told : (es : List (List ℕ × Entry)) (name : List ℕ) → reach_in (change_at told_entry es name) ≡ reach_in es
reach_in-told es name = fun_ext (at_name-change_at-kept told_entry reach_of keeps es name) where
  keeps : (o : Option Entry) → reach_of (option_map told_entry o) ≡ reach_of o
  keeps None = refl
  keeps (Some f) = refl

pub told_in-told : (es : List (List ℕ × Entry)) (name : List ℕ)
    → told_in (change_at told_entry es name) name ≡ option_map (λ f. length f.bytes) (at_name es name)
told_in-told es name = rw (at_name-change_at-same told_entry es name) (lengths (at_name es name)) where
  lengths : (o : Option Entry) → option_and_then length_told (option_map told_entry o) ≡ option_map (λ f. length f.bytes) o
  lengths None = refl
  lengths (Some f) = refl

pub told_in-told_later : (es : List (List ℕ × Entry)) (name other : List ℕ) (n : ℕ) → told_in es other ≡ Some n
    → told_in (change_at told_entry es name) other ≡ Some n
told_in-told_later es name other n h = rw (at_name-change_at told_entry es name other) (by_case (bytes_eq name other) (at_name es other) h) where
  by_told : (f : Entry) → length_told f ≡ Some n → Some (length f.bytes) ≡ Some n
  by_told f = elim f.told as (λ t. (if t then Some (length f.bytes) else None) ≡ Some n → Some (length f.bytes) ≡ Some n) [
    | true ↦ λ h. h
    | false ↦ λ h.
        absurd (cc)
  ]

  by_case : (d : Bool) (o : Option Entry) → option_and_then length_told o ≡ Some n
      → option_and_then length_told (if d then option_map told_entry o else o) ≡ Some n
  by_case true None h = h
  by_case true (Some f) h = by_told f h
  by_case false o h = h

-- asking for bytes keeps what is held and what is told
pub held_in-asked : (at count : ℕ) (es : List (List ℕ × Entry)) (name : List ℕ) → held_in (change_at (asked_entry at count) es name) ≡ held_in es
held_in-asked at count es name = fun_ext (at_name-change_at-kept (asked_entry at count) (λ o. option_map (λ f. f.bytes) o) keeps es name) where
  keeps : (o : Option Entry) → option_map (λ f. f.bytes) (option_map (asked_entry at count) o) ≡ option_map (λ f. f.bytes) o
  keeps None = refl
  keeps (Some f) = refl

pub told_in-asked : (at count : ℕ) (es : List (List ℕ × Entry)) (name : List ℕ) → told_in (change_at (asked_entry at count) es name) ≡ told_in es
told_in-asked at count es name = fun_ext (at_name-change_at-kept (asked_entry at count) (option_and_then length_told) keeps es name) where
  keeps : (o : Option Entry) → option_and_then length_told (option_map (asked_entry at count) o) ≡ option_and_then length_told o
  keeps None = refl
  keeps (Some f) = refl

pub reach_in-asked : (at count : ℕ) (es : List (List ℕ × Entry)) (name : List ℕ) → IsSome (told_in es name)
    → reach_in (change_at (asked_entry at count) es name) name ≡ max (reach_in es name) (min (at + count) (unwrap_or (told_in es name) 0))
reach_in-asked at count es name told = rw (at_name-change_at-same (asked_entry at count) es name) (by_file (at_name es name) told) where
  by_told : (f : Entry) → IsSome (length_told f) → max f.reach (min (at + count) (length f.bytes))
      ≡ max f.reach (min (at + count) (unwrap_or (length_told f) 0))
  by_told f = elim f.told as (λ t. IsSome (if t then Some (length f.bytes) else None)
      → max f.reach (min (at + count) (length f.bytes)) ≡ max f.reach (min (at + count) (unwrap_or (if t then Some (length f.bytes) else None) 0))) [
        | true ↦ λ h. refl
        | false ↦ λ h. absurd (cc)
      ]

  by_file : (o : Option Entry) → IsSome (option_and_then length_told o)
      → reach_of (option_map (asked_entry at count) o) ≡ max (reach_of o) (min (at + count) (unwrap_or (option_and_then length_told o) 0))
  by_file None h = absurd (cc)
  by_file (Some f) h = by_told f h

pub reach_in-asked_later : (at count : ℕ) (es : List (List ℕ × Entry)) (name other : List ℕ)
    → reach_in es other ≤ reach_in (change_at (asked_entry at count) es name) other
reach_in-asked_later at count es name other = rw (at_name-change_at (asked_entry at count) es name other)
    (by_test (bytes_eq name other) (at_name es other)) where
      by_test : (b : Bool) (o : Option Entry) → reach_of o ≤ reach_of (if b then option_map (asked_entry at count) o else o)
      by_test true None = omega arith
      by_test true (Some f) = omega arith
      by_test false o = omega arith

-- what a told length, and an asking for bytes, leave as it was
pub Later-told : (a b : MemState) (name : List ℕ) → b.files ≡ change_at told_entry a.files name → b.failing ≡ a.failing → b.faults ≡ a.faults
    → a.misses ≤ b.misses
    → Later (files_state a) (files_state b)
Later-told a b name files failing faults misses = record {
  held = ap Some (ap held_in files ∙ held_in-told a.files name);
  told = λ other n h. rw files (told_in-told_later a.files name other n h);
  reach = λ other. rw files (let same : reach_in (change_at told_entry a.files name) other ≡ reach_in a.files other =
      ap (λ (r : List ℕ → ℕ). r other) (reach_in-told a.files name) in omega arith);
  may_fail = ap some_failing failing;
  calm = λ h. faults;
  faults = omega arith;
  misses = misses;
}

pub Later-asked : (a b : MemState) (at count : ℕ) (name : List ℕ) → b ≡ record a { files = change_at (asked_entry at count) a.files name }
    → Later (files_state a) (files_state b)
Later-asked a b at count name is = rw is (record {
  held = ap Some (held_in-asked at count a.files name);
  told = λ other n h. ap (λ (t : List ℕ → Option ℕ). t other) (told_in-asked at count a.files name) ∙ h;
  reach = reach_in-asked_later at count a.files name;
  may_fail = refl;
  calm = λ h. refl;
  faults = omega arith;
  misses = omega arith;
})

pub IsTold-asked : (a b : MemState) (at count : ℕ) (name : List ℕ) → b ≡ record a { files = change_at (asked_entry at count) a.files name }
    → IsTold (files_state a) name → IsTold (files_state b) name
IsTold-asked a b at count name is told = rw is (rw (ap (λ (t : List ℕ → Option ℕ). t name) (told_in-asked at count a.files name)) told)

pub TouchesOnly-told : (a b : MemState) (name : List ℕ) → b.files ≡ change_at told_entry a.files name → TouchesOnly name (files_state a) (files_state b)
TouchesOnly-told a b name files = record {
  told = λ other h. rw files (ap (option_and_then length_told) (at_name-change_at-other told_entry a.files name other h));
  reach = λ other h. rw files (ap reach_of (at_name-change_at-other told_entry a.files name other h));
}

pub TouchesOnly-asked : (a b : MemState) (at count : ℕ) (name : List ℕ) → b.files ≡ change_at (asked_entry at count) a.files name
    → TouchesOnly name (files_state a) (files_state b)
TouchesOnly-asked a b at count name files = record {
  told = λ other h. rw files (ap (option_and_then length_told) (at_name-change_at-other (asked_entry at count) a.files name other h));
  reach = λ other h. rw files (ap reach_of (at_name-change_at-other (asked_entry at count) a.files name other h));
}

-- with no call that is to fail none fails
pub none_fails : (m : MemState) → some_failing m.failing ≡ false → fails m ≡ false
none_fails m h = by_list m.failing h where
  by_list : (xs : List ℕ) → some_failing xs ≡ false → list_any (λ call. call == m.calls) xs ≡ false
  by_list [] h = refl
  by_list (x ∷ xs) h = absurd (cc)

-- a call that fails is one of those that are to fail
pub fails-some : (m : MemState) → fails m ≡ true → some_failing m.failing ≡ true
fails-some m h = by_test (some_failing m.failing) refl where
  by_test : (b : Bool) → some_failing m.failing ≡ b → b ≡ true
  by_test true e = refl
  by_test false e = absurd (let f = none_fails m e in cc)

-- a file without a length is not there, also once its length was asked
pub absent_told : (a b : MemState) (name : List ℕ) → b.files ≡ change_at told_entry a.files name
    → option_map (λ f. length f.bytes) (at_name a.files name) ≡ None → held_in b.files name ≡ None
absent_told a b name files none = rw files (ap (λ (h : List ℕ → Option (List ℕ)). h name) (held_in-told a.files name)
    ∙ by_file (at_name a.files name) none) where
      by_file : (o : Option Entry) → option_map (λ f. length f.bytes) o ≡ None → option_map (λ f. f.bytes) o ≡ None
      by_file None h = refl
      by_file (Some f) h = absurd (cc)

pub reach_told : (a b : MemState) (name : List ℕ) → b.files ≡ change_at told_entry a.files name → reach_in b.files ≡ reach_in a.files
reach_told a b name files = ap reach_in files ∙ reach_in-told a.files name

pub ruleset changes = (held_in-told, reach_in-told, told_in-told, held_in-asked, told_in-asked, reach_in-asked, none_fails, fails-some)
