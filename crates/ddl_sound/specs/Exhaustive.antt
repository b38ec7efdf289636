-- Patterns of a `case` of values that leave no value out.
use Rattle.std.specs.Prelude.{◌≡◌, ℕ, Bool, true, false, if◌then◌else◌, List, [], ◌∷◌, bytes_eq, Some}
use Rattle.ddl_types.specs.Layout.{Layout, named_con, no_cons, one_of}
use Rattle.ddl_types.specs.Types.{Ty, Tys, con, bool, maybe_of, bits, place}
use Rattle.ddl_ops.specs.declared.pattern.Pattern.{Pattern}
use Rattle.ddl_ops.specs.declared.pattern.Pattern.TheVariants.{Any, Truth, Nothing, Just, Tag}
use Rattle.ddl_ops.specs.Bitdata.{layout_at}
use Rattle.ddl_typed.specs.Specification.{Place}
use Rattle.ddl_typed.specs.Tree.{Cases, no_cases, when}
use Rattle.ddl_sound.specs.HasType.{place_at}

-- an alternative has a pattern that passes a test
abbrev pub has_pattern : (Pattern → Bool) → Cases → Bool
has_pattern test no_cases = false
has_pattern test (when p e cs) = if test p then true else has_pattern test cs

abbrev pub is_any : Pattern → Bool
is_any Any = true
is_any p = false

abbrev pub is_truth : Bool → Pattern → Bool
is_truth true (Truth true) = true
is_truth false (Truth false) = true
is_truth b p = false

abbrev pub is_nothing : Pattern → Bool
is_nothing Nothing = true
is_nothing p = false

abbrev pub is_just : Pattern → Bool
is_just (Just x) = true
is_just p = false

abbrev pub is_tag : List ℕ → Pattern → Bool
is_tag label (Tag other x) = bytes_eq other label
is_tag label p = false

-- each of these tags is a pattern
abbrev pub HasTags : List (List ℕ) → Cases → Type 0
HasTags [] cs = Unit {0}
HasTags (x ∷ xs) cs = (has_pattern (is_tag x) cs ≡ true) × HasTags xs cs

-- the names of a bitdata's constructors
abbrev pub constructors_of : Layout → List (List ℕ)
constructors_of no_cons = []
constructors_of (one_of (named_con label ps) cs) = label ∷ constructors_of cs

module _ (places : List Place) (layouts : List Layout) where
  -- a pattern for any value, both truth values, `nothing` and `just`, or each tag of the subject's type
  pub data Exhaustive (cs : Cases) : Ty → Type 0 where
    by_any : {ty : Ty} → has_pattern is_any cs ≡ true → Exhaustive cs ty
    by_truths : {ts : Tys} → has_pattern (is_truth true) cs ≡ true → has_pattern (is_truth false) cs ≡ true →
        Exhaustive cs (con bool ts)
    by_maybe : {ts : Tys} → has_pattern is_nothing cs ≡ true → has_pattern is_just cs ≡ true →
        Exhaustive cs (con maybe_of ts)
    by_tags : {m : ℕ} {ts : Tys} {p : Place} → place_at places m ≡ Some p → p.tagged ≡ true → HasTags p.names cs →
        Exhaustive cs (con (place m) ts)
    by_constructors : {m : ℕ} {ts : Tys} {l : Layout} → layout_at layouts m ≡ Some l →
        HasTags (constructors_of l) cs → Exhaustive cs (con (bits m) ts)
