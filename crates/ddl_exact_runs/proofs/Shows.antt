-- What is answered where a module is to be shown.
use Rattle.std.proofs.Common.{◌≡◌, ◌≢◌, ◌≤◌, ◌<◌, ◌^◌, ◌⊎◌, inl, inr, ℕ, List, [], ◌∷◌, length, Option, Some, None, Result, Ok, Err, refl, sym, ap, ◌∙◌, subst}
use Rattle.std.proofs.Common.{arith}
use Rattle.ddl_outside.specs.Files.{Contents, FilesState}
use Rattle.ddl_front.specs.Reasons.{IsSourceReason, Reason, long_reason}
use Rattle.ddl_modules.specs.Files.{module_name}
use Rattle.ddl_report.specs.declared.closing.Closing.TheVariants as closing_is
use Rattle.ddl_show.specs.Show.{show_text}
use Rattle.ddl_source.specs.declared.error.SourceError.{SourceError}
use Rattle.ddl_source.specs.declared.error.SourceError.TheVariants as source_is
use Rattle.ddl_tree.specs.ModuleTree.{Module}
use Rattle.ddl_top.specs.Answered.{closing_only}
use Rattle.ddl_top.specs.Loaded.{IsUnshown}
use Rattle.ddl_top.specs.Refusals.{reason_lines}
use Rattle.ddl_top.specs.Run.{IsShowAnswer}
use Rattle.ddl_top.specs.Words.{file_of}
use Rattle.ddl_top.specs.declared.status.Status.{Status}
use Rattle.ddl_top.specs.declared.status.Status.TheVariants as status_is
use Rattle.ddl_exact.specs.OneSource.{HasSource}
use Rattle.ddl_exact.proofs.Sources.{one_source}
use Rattle.ddl_exact_runs.specs.Known.{IsKnown}
use Rattle.ddl_exact_runs.specs.OneRun.{IsInside}
use Rattle.ddl_exact_runs.proofs.Causes.{AreOne, Lines, one_source_reason}
use Rattle.ddl_exact_runs.proofs.Loadings.{held_bytes, not_held, told_bytes}

-- what a text with this tree, or with which this is wrong, is answered
abbrev TextAnswer : List ℕ → Result Module SourceError → Status → Lines → Type 0
TextAnswer name (Ok tree) a lines = (a ≡ status_is.Parses) × (lines ≡ show_text tree ∷ [])
TextAnswer name (Err error) a lines = (a ≡ status_is.Refused) × (p : Reason) × IsSourceReason name error p × (lines ≡ reason_lines p)

one_text_answer : (name : List ℕ) (x : Result Module SourceError) (a b : Status) (lines more : Lines) → TextAnswer name x a lines → TextAnswer name x b more
    → AreOne a lines b more
one_text_answer name (Ok tree) a b lines more h k = (h.0 ∙ sym k.0, h.1 ∙ sym k.1)
one_text_answer name (Err error) a b lines more h k =
    (h.0 ∙ sym k.0, h.3 ∙ ap reason_lines (one_source_reason name error h.1 k.1 h.2 k.2) ∙ sym k.3)

-- the file is not there; it is too large; or its text is answered so
data FileAnswer (text : Option (List ℕ)) (file name : List ℕ) (a : Status) (lines : Lines) : Type 0 where
  absent : text ≡ None → a ≡ status_is.Missing → lines ≡ closing_only (closing_is.Missing file) → FileAnswer text file name a lines
  large : (bytes : List ℕ) → text ≡ Some bytes → 2 ^ 22 < length bytes → a ≡ status_is.Refused → lines ≡ reason_lines (long_reason name (length bytes))
      → FileAnswer text file name a lines
  parsed : (bytes : List ℕ) (x : Result Module SourceError) → text ≡ Some bytes → length bytes ≤ 2 ^ 22 → HasSource 0 bytes x → TextAnswer name x a lines
      → FileAnswer text file name a lines

no_bytes : (text : Option (List ℕ)) (bytes : List ℕ) → text ≡ None → text ≡ Some bytes → ⊥
no_bytes text bytes h k = cc

same_bytes : (text : Option (List ℕ)) (bytes others : List ℕ) → text ≡ Some bytes → text ≡ Some others → bytes ≡ others
same_bytes text bytes others h k = cc

not_larger : (text : Option (List ℕ)) (most : ℕ) (bytes others : List ℕ) → text ≡ Some bytes → text ≡ Some others → most < length bytes → length others ≤ most
    → ⊥
not_larger text most bytes others h k more less = let long : length bytes ≡ length others = ap length (same_bytes text bytes others h k) in omega arith

one_file_answer : (text : Option (List ℕ)) (file name : List ℕ) (a b : Status) (lines more : Lines) → FileAnswer text file name a lines
    → FileAnswer text file name b more
    → AreOne a lines b more
one_file_answer text file name a b lines more (absent n s l) (absent m t k) = (s ∙ sym t, l ∙ sym k)
one_file_answer text file name a b lines more (absent n s l) (large bytes m g t k) = absurd (no_bytes text bytes n m)
one_file_answer text file name a b lines more (absent n s l) (parsed bytes x m g t k) = absurd (no_bytes text bytes n m)
one_file_answer text file name a b lines more (large bytes m g t k) (absent n s l) = absurd (no_bytes text bytes n m)
one_file_answer text file name a b lines more (parsed bytes x m g t k) (absent n s l) = absurd (no_bytes text bytes n m)
one_file_answer text file name a b lines more (large bytes m g t k) (large others n f s l) =
    (t ∙ sym s, k ∙ ap (λ z. reason_lines (long_reason name (length z))) (same_bytes text bytes others m n) ∙ sym l)
one_file_answer text file name a b lines more (large bytes m g t k) (parsed others x n f s l) = absurd (not_larger text (2 ^ 22) bytes others m n g f)
one_file_answer text file name a b lines more (parsed others x n f s l) (large bytes m g t k) = absurd (not_larger text (2 ^ 22) bytes others m n g f)
one_file_answer text file name a b lines more (parsed bytes x m g t k) (parsed others y n f s l) =
    let here : HasSource 0 bytes y = subst (λ z. HasSource 0 z y) (same_bytes text others bytes n m) s in
    one_text_answer name x a b lines more k (subst (λ z. TextAnswer name z b more) (one_source 0 bytes y x here t) l)

-- ---- an answer of `show` is one of these

no_memory : (name : List ℕ) (error : SourceError) (p : Reason) → IsSourceReason name error p → error ≢ source_is.NoMemory
no_memory name (source_is.Lex f) p h = λ same. cc
no_memory name (source_is.Unexpected j s t) p h = λ same. cc
no_memory name (source_is.TooNested j s t) p h = λ same. cc
no_memory name source_is.NoMemory p h = λ same. h

abbrev Shows : Contents → List ℕ → Status → Lines → Type 0
Shows contents root a lines = FileAnswer (contents (file_of root)) (file_of root) (module_name root) a lines

shows_not : (contents : Contents) (root : List ℕ) (old new : FilesState) (p : Reason) (lines : Lines) → IsKnown contents new
    → IsUnshown old new (file_of root) (module_name root) p
    → lines ≡ reason_lines p → Shows contents root status_is.Refused lines
shows_not contents root old new p lines k (inl h) l =
    let b = told_bytes contents new (file_of root) h.0 k h.1 in
    large b.0 b.1 (subst (λ n. 2 ^ 22 < n) b.2 h.2) refl (l ∙ ap reason_lines h.4 ∙ ap (λ n. reason_lines (long_reason (module_name root) n)) b.2)
shows_not contents root old new p lines k (inr h) l =
    parsed h.0 (Err h.1) (held_bytes contents new (file_of root) h.0 k h.2) h.3 (no_memory (module_name root) h.1 p h.5, h.4) (refl, p, h.5, l)

shows : (contents : Contents) (root : List ℕ) (old new : FilesState) (a : Status) (lines : Lines) → IsKnown contents new → IsInside a
    → IsShowAnswer root old new a lines
    → Shows contents root a lines
shows contents root old new status_is.Parses lines k i h =
    parsed h.1.0 (Ok h.0) (held_bytes contents new (file_of root) h.1.0 k h.1.1) h.1.2 h.1.3 (refl, h.2)
shows contents root old new status_is.Refused lines k i h = shows_not contents root old new h.0 lines k h.1 h.2
shows contents root old new status_is.Missing lines k i h = absent (not_held contents new (file_of root) k h.0.1) refl h.1
shows contents root old new status_is.ReadFault lines k i h = absurd i
shows contents root old new _ lines k i h = absurd h

pub one_show : (contents : Contents) (root : List ℕ) (old new old' new' : FilesState) (a b : Status) (lines more : Lines) → IsKnown contents new
    → IsKnown contents new'
    → IsInside a → IsInside b → IsShowAnswer root old new a lines → IsShowAnswer root old' new' b more → AreOne a lines b more
one_show contents root old new old' new' a b lines more k l i j h g =
    one_file_answer (contents (file_of root)) (file_of root) (module_name root) a b lines more
    (shows contents root old new a lines k i h) (shows contents root old' new' b more l j g)
