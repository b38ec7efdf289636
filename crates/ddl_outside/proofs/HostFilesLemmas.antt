-- Facts of what was told of real files.
use Rattle.std.proofs.Common.{◌≡◌, ℕ, ◌+◌, ◌≤◌, List, [], ◌∷◌, ◌++◌, refl, ap, sym, ◌∙◌, Bool, true, false, arith, inl, inr}
use Rattle.std.specs.Prelude.{Some, None, Option, IsSome, option_map, unwrap_or, max, min, ◌⊎◌, if◌then◌else◌}
use Rattle.std.specs.Str.{bytes_eq}
use Rattle.std.proofs.Math.Path.{fun_ext}
use Rattle.std.proofs.lemmas.Slice.Eq.{bytes_eq-Decides}
use Rattle.ddl_outside.specs.Files.{IsTold, Later, TouchesOnly}
use Rattle.ddl_outside.specs.Named.{at_name, change_at}
use Rattle.ddl_outside.specs.HostFiles.{HostState, host_files_state, lengths_of, reaches_of, seen_reach, asked_seen}
use Rattle.ddl_outside.specs.declared.host_files.Seen.{Seen}
use Rattle.ddl_outside.proofs.NamedLemmas.{at_name-change_at, at_name-change_at-same, at_name-change_at-other, at_name-change_at-kept, at_name-push_same}
use Rattle.ddl_outside.proofs.NamedLemmas.{at_name-push_other}

-- a file of which nothing was asked
abbrev told_first : ℕ → Seen
told_first n = record { length = n; reach = 0 }

-- a length that is told anew
pub lengths_of-push : (es : List (List ℕ × Seen)) (name : List ℕ) (n : ℕ) → at_name es name ≡ None
    → lengths_of (es ++ (name, record { length = n; reach = 0 }) ∷ []) name ≡ Some n
lengths_of-push es name n none = ap (option_map (λ f. f.length)) (at_name-push_same es name (told_first n) none)

-- under any other name nothing changes, and under this one nothing was asked
at_name-push : (es : List (List ℕ × Seen)) (name other : List ℕ) (s : Seen) → at_name es name ≡ None → (at_name (es ++ (name, s) ∷ []) other ≡ at_name es other)
    ⊎ ((at_name es other ≡ None) × (at_name (es ++ (name, s) ∷ []) other ≡ Some s))
at_name-push es name other s none = by_test (bytes_eq name other) refl where
  by_test : (b : Bool) → bytes_eq name other ≡ b → (at_name (es ++ (name, s) ∷ []) other ≡ at_name es other)
      ⊎ ((at_name es other ≡ None) × (at_name (es ++ (name, s) ∷ []) other ≡ Some s))
  by_test false h = inl (at_name-push_other es name other s h)
  by_test true h = let same : name ≡ other = (bytes_eq-Decides name other).0 h in inr (rw same at none, rw (← same) (at_name-push_same es name s none))

pub reaches_of-push : (es : List (List ℕ × Seen)) (name : List ℕ) (n : ℕ) → at_name es name ≡ None
    → reaches_of (es ++ (name, record { length = n; reach = 0 }) ∷ []) ≡ reaches_of es
reaches_of-push es name n none = fun_ext (λ other. elim (at_name-push es name other (told_first n) none) [
  | inl same ↦ ap seen_reach same
  | inr anew ↦ ap seen_reach anew.1 ∙ sym (ap seen_reach anew.0)
])

pub lengths_of-push_later : (es : List (List ℕ × Seen)) (name other : List ℕ) (n m : ℕ) → at_name es name ≡ None → lengths_of es other ≡ Some m
    → lengths_of (es ++ (name, record { length = n; reach = 0 }) ∷ []) other ≡ Some m
lengths_of-push_later es name other n m none told = elim (at_name-push es name other (told_first n) none) [
  | inl same ↦ ap (option_map (λ f. f.length)) same ∙ told
  | inr anew ↦ absurd (let h : option_map (λ (f : Seen). f.length) None ≡ Some m = rw anew.0 at told in cc)
]

pub Later-kept : (a b : HostState) (name : List ℕ) (n : ℕ) → at_name a.seen name ≡ None
    → b ≡ record a { seen = a.seen ++ (name, record { length = n; reach = 0 }) ∷ [] } → Later (host_files_state a) (host_files_state b)
Later-kept a b name n none is = rw is (record {
  held = refl;
  told = λ other m h. lengths_of-push_later a.seen name other n m none h;
  reach = λ other. let same = ap (λ (r : List ℕ → ℕ). r other) (reaches_of-push a.seen name n none) in omega arith;
  may_fail = refl;
  calm = λ h. refl;
  faults = omega arith;
  misses = omega arith;
})

pub reaches_kept : (a b : HostState) (name : List ℕ) (n : ℕ) → at_name a.seen name ≡ None
    → b ≡ record a { seen = a.seen ++ (name, record { length = n; reach = 0 }) ∷ [] } → reaches_of b.seen ≡ reaches_of a.seen
reaches_kept a b name n none is = rw is (reaches_of-push a.seen name n none)

pub TouchesOnly-kept : (a b : HostState) (name : List ℕ) (n : ℕ) → b ≡ record a { seen = a.seen ++ (name, record { length = n; reach = 0 }) ∷ [] }
    → TouchesOnly name (host_files_state a) (host_files_state b)
TouchesOnly-kept a b name n is = rw is (record {
  told = λ other h. ap (option_map (λ f. f.length)) (at_name-push_other a.seen name other (told_first n) h);
  reach = λ other h. ap seen_reach (at_name-push_other a.seen name other (told_first n) h);
})

-- asking for bytes keeps what is told
pub lengths_of-asked : (at count : ℕ) (es : List (List ℕ × Seen)) (name : List ℕ) → lengths_of (change_at (asked_seen at count) es name) ≡ lengths_of es
lengths_of-asked at count es name = fun_ext (at_name-change_at-kept (asked_seen at count) (λ o. option_map (λ f. f.length) o) keeps es name) where
  keeps : (o : Option Seen) → option_map (λ f. f.length) (option_map (asked_seen at count) o) ≡ option_map (λ f. f.length) o
  keeps None = refl
  keeps (Some f) = refl

pub reaches_of-asked : (at count : ℕ) (es : List (List ℕ × Seen)) (name : List ℕ) → IsSome (lengths_of es name)
    → reaches_of (change_at (asked_seen at count) es name) name ≡ max (reaches_of es name) (min (at + count) (unwrap_or (lengths_of es name) 0))
reaches_of-asked at count es name told = rw (at_name-change_at-same (asked_seen at count) es name) (by_file (at_name es name) told) where
  by_file : (o : Option Seen) → IsSome (option_map (λ f. f.length) o)
      → seen_reach (option_map (asked_seen at count) o) ≡ max (seen_reach o) (min (at + count) (unwrap_or (option_map (λ f. f.length) o) 0))
  by_file None h = absurd (cc)
  by_file (Some f) h = refl

reaches_of-asked_later : (at count : ℕ) (es : List (List ℕ × Seen)) (name other : List ℕ)
    → reaches_of es other ≤ reaches_of (change_at (asked_seen at count) es name) other
reaches_of-asked_later at count es name other = rw (at_name-change_at (asked_seen at count) es name other)
    (by_test (bytes_eq name other) (at_name es other)) where
      by_test : (b : Bool) (o : Option Seen) → seen_reach o ≤ seen_reach (if b then option_map (asked_seen at count) o else o)
      by_test true None = omega arith
      by_test true (Some f) = omega arith
      by_test false o = omega arith

pub Later-asked : (a b : HostState) (at count : ℕ) (name : List ℕ) → b ≡ record a { seen = change_at (asked_seen at count) a.seen name }
    → Later (host_files_state a) (host_files_state b)
Later-asked a b at count name is = rw is (record {
  held = refl;
  told = λ other n h. ap (λ (t : List ℕ → Option ℕ). t other) (lengths_of-asked at count a.seen name) ∙ h;
  reach = reaches_of-asked_later at count a.seen name;
  may_fail = refl;
  calm = λ h. refl;
  faults = omega arith;
  misses = omega arith;
})

pub TouchesOnly-asked : (a b : HostState) (at count : ℕ) (name : List ℕ) → b.seen ≡ change_at (asked_seen at count) a.seen name
    → TouchesOnly name (host_files_state a) (host_files_state b)
TouchesOnly-asked a b at count name seen = record {
  told = λ other h. rw seen (ap (option_map (λ f. f.length)) (at_name-change_at-other (asked_seen at count) a.seen name other h));
  reach = λ other h. rw seen (ap seen_reach (at_name-change_at-other (asked_seen at count) a.seen name other h));
}

pub IsTold-asked : (a b : HostState) (at count : ℕ) (name : List ℕ) → b ≡ record a { seen = change_at (asked_seen at count) a.seen name }
    → IsTold (host_files_state a) name → IsTold (host_files_state b) name
IsTold-asked a b at count name is told = rw is (rw (ap (λ (t : List ℕ → Option ℕ). t name) (lengths_of-asked at count a.seen name)) told)

-- what a kept length changes
pub ruleset kept = (lengths_of-push, reaches_of-push)
