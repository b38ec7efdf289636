-- Single steps of the machine.
use Rattle.std.proofs.Common.{◌≡◌, ℕ, suc, ◌+◌, ◌≤◌, List, [], ◌∷◌, ◌++◌, Option, Some, sym, ap, ◌∙◌, subst, arith}
use Rattle.std.specs.Prelude.{slice_get}
use Rattle.ddl_base.specs.declared.span.Span.{Span}
use Rattle.ddl_base.specs.declared.why.Why.{Why}
use Rattle.ddl_types.specs.Value.{Value, Stream, Source}
use Rattle.ddl_types.specs.Outcome.{Outcome, tick, parsed}
use Rattle.ddl_ops.specs.Valued.{Given, gives, given, then_parse}
use Rattle.ddl_blocks.specs.Code.{Instr, build, Exit, jump, Block}
use Rattle.ddl_blocks.specs.State.{Frame, Thread, Waiting, State, live, Stepped, on, misses}
use Rattle.ddl_blocks.specs.Machine.{picks, built, with_given, block_at, enter, resume, step}
use Rattle.ddl_emission.proofs.Arrays.{IsArray, built_is}
use Rattle.ddl_emission.proofs.Runs.{Blocks, goes, Cont, Leads, Misses, Runs, stays}

-- the thread of this number, in a function
abbrev pub here : ℕ → ℕ → List Value → Stream → List Frame → Thread
here q fn vals s frames = record { number = q; function = fn; values = vals; at = s; frames = frames }

-- at the beginning of a block, where it is there
abbrev pub starts : Option Block → Thread → List Waiting → ℕ → Stepped
starts o h ws n = with_given o (λ (k : Block). on (live k.body k.exit h ws n))

module _ (code : Blocks) where
  -- a parse goes on at a block
  abbrev pub goes_to : ℕ → ℕ → List Value → List Frame → Cont
  goes_to fn to kv frames q v s ws n = enter code to (here q fn (kv ++ v ∷ []) s frames) ws n

  pub one : (x : State) (y : Stepped) → step code x ≡ y → Leads code 1 (on x) y
  one x y h = record { by = λ k. let e : 1 + k ≡ suc k = omega arith in ap (λ n. goes code n (on x)) e ∙ ap (λ z. tick (goes code k z)) h }

  pub one_miss : (why : Why) (source : Source) (at : ℕ) (span : Span) (x : State) (y : Stepped) → step code x ≡ misses why source at span y
      → Misses code 1 why source at span (on x) y
  one_miss why source at span x y h = record {
    by = λ k. let e : 1 + k ≡ suc k = omega arith in ap (λ n. goes code n (on x)) e ∙ ap (λ z. tick (goes code k z)) h;
  }

  -- a parse and no more
  pub parse_only : (K : Cont) (b c a d j q : ℕ) (v : Value) (s : Stream) (x : Stepped) (S : List Waiting) → j + 1 ≤ a → Leads code j x (K q v s S c)
      → Runs code K b c a d (parsed v s) x S
  parse_only K b c a d j q v s x S le l = record {
    j = j;
    a' = 0;
    d' = d;
    n = c;
    who = q;
    inner = [];
    fits = omega arith;
    long = omega arith;
    above = omega arith;
    fresh = tt;
    leads = l;
    after = λ S' n' le'. record { j = 0; n = n'; fits = omega arith; above = omega arith; leads = stays code (resume code S' n') };
  }

  -- with the block that stands there
  pub with_block : (K : Cont) (b c a d at : ℕ) (blk : Block) (o : Outcome) (h : Thread) (ws S : List Waiting) → block_at code h.function at ≡ Some blk
      → Runs code K b c a d o (on (live blk.body blk.exit h ws c)) S → Runs code K b c a d o (enter code at h ws c) S
  with_block K b c a d at blk o h ws S e r = subst (λ x. Runs code K b c a d o (starts x h ws c) S) (sym e) r

  pub at_block : (j at : ℕ) (blk : Block) (x : Stepped) (h : Thread) (ws : List Waiting) (n : ℕ) → block_at code h.function at ≡ Some blk
      → Leads code j x (enter code at h ws n) → Leads code j x (on (live blk.body blk.exit h ws n))
  at_block j at blk x h ws n e l = subst (λ o. Leads code j x (starts o h ws n)) e l

  pub parses_is : {A : Type 0} (o : Given A) (v : A) (k : A → Outcome) → o ≡ gives v → then_parse o k ≡ k v
  parses_is o v k e = ap (λ x. then_parse x k) e

  pub parse_is : {A : Type 0} (o : Option A) (v : A) (k : A → Outcome) → o ≡ Some v → then_parse (given o) k ≡ k v
  parse_is o v k e = ap (λ x. then_parse (given x) k) e

  -- what is given goes on
  pub given_is : {A : Type 0} (o : Option A) (v : A) (k : A → Stepped) → o ≡ Some v → with_given o k ≡ k v
  given_is o v k e = ap (λ x. with_given x k) e

  -- a jump with these values
  pub jumps : (q fn to : ℕ) (args : List ℕ) (vals vs : List Value) (s : Stream) (frames : List Frame) (ws : List Waiting) (n : ℕ) → picks args vals ≡ Some vs
      → Leads code 1 (on (live [] (jump to args) (here q fn vals s frames) ws n)) (enter code to (here q fn vs s frames) ws n)
  jumps q fn to args vals vs s frames ws n e = one _ _ (given_is (picks args vals) vs (λ l. enter code to (here q fn l s frames) ws n) e)

  -- the array of what grows
  pub build_leads : (is : List Instr) (e : Exit) (q fn : ℕ) (vals : List Value) (s : Stream) (frames : List Frame) (i : ℕ) (v : Value) (ws : List Waiting)
      (n : ℕ)
      → slice_get vals i ≡ Some v → IsArray v
      → Leads code 1 (on (live (build i ∷ is) e (here q fn vals s frames) ws n)) (on (live is e (here q fn (vals ++ v ∷ []) s frames) ws n))
  build_leads is e q fn vals s frames i v ws n ev a =
      let to = λ (w : Value). on (live is e (here q fn (vals ++ w ∷ []) s frames) ws n) in
      one _ _ (given_is (slice_get vals i) v (λ w. with_given (built w) to) ev ∙ given_is (built v) v to (built_is v a))

  -- an outcome that is another
  pub runs_as : (K : Cont) (b c a d : ℕ) (o p : Outcome) (x : Stepped) (S : List Waiting) → o ≡ p → Runs code K b c a d p x S → Runs code K b c a d o x S
  runs_as K b c a d o p x S e r = subst (λ y. Runs code K b c a d y x S) (sym e) r
