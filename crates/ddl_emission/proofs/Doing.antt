-- Operations: the form `perform`, and what the others that begin with one operation need of it.
use Rattle.std.proofs.Common.{◌≡◌, ℕ, ◌+◌, ◌<◌, List, [], ◌∷◌, ◌++◌, length, Option, Some, Bool, true, false, if◌then◌else◌, inl, inr, refl, sym, ap, ◌∙◌}
use Rattle.std.proofs.Common.{subst, arith}
use Rattle.std.specs.Prelude.{slice_get}
use Rattle.ddl_base.specs.declared.span.Span.{Span}
use Rattle.ddl_types.specs.declared.fault.Fault.{Fault}
use Rattle.ddl_types.specs.declared.fault.Fault.TheVariants.{Overflow, DivZero, Shift, DeepResult}
use Rattle.ddl_types.specs.Value.{Value, Stream}
use Rattle.ddl_types.specs.Outcome.{Outcome, End, Faulted, Deep, Stuck, ends, tick, miss, parse, parsed}
use Rattle.ddl_types.specs.Joining.{Both, Bind, leave}
use Rattle.ddl_types.proofs.Joins.{both_end}
use Rattle.ddl_ops.specs.Valued.{then_parse}
use Rattle.ddl_core.specs.Attempt.{Attempt}
use Rattle.ddl_core.specs.Core.{Operation, Function, perform}
use Rattle.ddl_core.specs.Operations.{performed}
use Rattle.ddl_core.specs.Meaning.{Lower, all_at, listed}
use Rattle.ddl_blocks.specs.Code.{ValueType, Targets, Block, Instr, Exit, fail_, halt}
use Rattle.ddl_blocks.specs.State.{Waiting, State, live, doing, on, misses}
use Rattle.ddl_blocks.specs.Machine.{same_fault, target_of, picks, block_at, enter, enter_named, resume, went, step}
use Rattle.ddl_blocks.specs.Failing.{may_fail, faults_of, IsAmong, May}
use Rattle.ddl_blocks.proofs.Allowed.{allowed}
use Rattle.ddl_emission.specs.Growing.{takes_array}
use Rattle.ddl_emission.specs.Lone.{lone}
use Rattle.ddl_emission.specs.Pieces.{Piece, next_of, doing_at, renumber, number_of, array_type, second, built_types, built_front, built_arguments}
use Rattle.ddl_emission.specs.Pieces.{ending_block, exit_of}
use Rattle.ddl_emission.specs.Pieces.{halts, fault_targets, fail_blocks, fail_count, fail_target, stops, stop_targets}
use Rattle.ddl_emission.specs.Emission.{built_first, operation_at}
use Rattle.ddl_emission.specs.Scope.{Below}
use Rattle.ddl_emission.proofs.Arrays.{arrays_length, takes_second, Gives, gives_any}
use Rattle.ddl_emission.proofs.Runs.{Blocks, goes, Runs, lead, stays}
use Rattle.ddl_emission.proofs.Picks.{there_array, Holds, holds_more, holds_one, holds_var, value_at, AllThere, there, second_picked, append-none, longer}
use Rattle.ddl_emission.proofs.Lengths.{HasAt, has_back, length-fail}
use Rattle.ddl_emission.proofs.Steps.{here, starts, one, one_miss, parse_only, with_block, build_leads, given_is, parses_is, runs_as}
use Rattle.ddl_emission.proofs.Context.{Site, site_at, piece, StandsAt, all_here, Simulates, goes_out, exits}

-- ---- the block of a fault

same_self : (f : Fault) → same_fault f f ≡ true
same_self Overflow = refl
same_self DivZero = refl
same_self Shift = refl
same_self DeepResult = refl

same_is : (f g : Fault) → same_fault f g ≡ true → f ≡ g
same_is Overflow Overflow e = refl
same_is DivZero DivZero e = refl
same_is Shift Shift e = refl
same_is DeepResult DeepResult e = refl
same_is f g e = absurd (cc)

-- a fault goes on at a block that halts with it
abbrev pub Halts : Blocks → ℕ → Option ℕ → Fault → Span → Type 0
Halts code fn target f span = (b : ℕ) × (types : List ValueType) × (target ≡ Some b) × (block_at code fn b ≡ Some (ending_block types (halt f span)))

pub fault_named : (code : Blocks) (fn : ℕ) (fs : List Fault) (types : List ValueType) (span : Span) (at : ℕ) (f : Fault) → IsAmong f fs
    → HasAt code fn at (halts fs types span) → Halts code fn (target_of (fault_targets fs at) f) f span
fault_named code fn [] types span at f l has = absurd l
fault_named code fn (g ∷ fs) types span at f l has = by_same (same_fault g f) refl l (λ q. fault_named code fn fs types span (at + 1) f q has.1)
  where
    later : Option ℕ
    later = target_of (fault_targets fs (at + 1)) f

    by_same : (t : Bool) → same_fault g f ≡ t → IsAmong f (g ∷ fs) → (IsAmong f fs → Halts code fn later f span)
        → Halts code fn (target_of (fault_targets (g ∷ fs) at) f) f span
    by_same true e q rec = (
      at,
      types,
      ap (λ t. if t then Some at else later) e,
      subst (λ x. block_at code fn at ≡ Some (ending_block types (halt x span))) (same_is g f e) has.0,
    )
    by_same false e (inl q) rec = let r : same_fault g f ≡ true = subst (λ x. same_fault g x ≡ true) q (same_self g) in let c : true ≡ false = sym r
        ∙ e in absurd (cc)
    by_same false e (inr q) rec = let r = rec q in (r.0, r.1, ap (λ t. if t then Some at else later) e ∙ r.2, r.3)

fail_there : (code : Blocks) (fn at : ℕ) (b : Bool) (types : List ValueType) (bs : List Block) → HasAt code fn at (fail_blocks b types ++ bs) → b ≡ true
    → block_at code fn at ≡ Some (ending_block types fail_)
fail_there code fn at true types bs has e = has.0
fail_there code fn at false types bs has e = absurd (cc)

pub stop_named : (code : Blocks) (fn at : ℕ) (op : Operation) (types : List ValueType) (span : Span) (f : Fault) → HasAt code fn at (stops op types span)
    → IsAmong f (faults_of op) → Halts code fn (target_of (stop_targets op at).faults f) f span
stop_named code fn at op types span f has l =
    fault_named code fn (faults_of op) types span (at + fail_count (may_fail op)) f l
    (has_back code fn at (at + fail_count (may_fail op)) (fail_blocks (may_fail op) types) (halts (faults_of op) types span)
    (ap (λ i. at + i) (length-fail (may_fail op) types)) has)

-- ---- an operation, and what comes after it

-- where it gave a value, and where it failed
abbrev pub after_prim : Outcome → (Value → Stream → Outcome) → Outcome → Outcome
after_prim (ends e) k r = ends e
after_prim (tick o) k r = tick (after_prim o k r)
after_prim (miss why source place span o) k r = miss why source place span r
after_prim (parse v s o) k r = k v s

module _ (can : Bool) (fl : List Fault) (span : Span) where
  pub alone_is : (o : Outcome) → May can fl span o → o ≡ after_prim o parsed (ends End)
  alone_is (ends e) p = refl
  alone_is (tick o) p = ap tick (alone_is o p)
  alone_is (miss why source place sp o) p = ap (miss why source place sp) p.1
  alone_is (parse v s o) p = ap (parse v s) p

  pub bound_is : (o : Outcome) (k : Value → Stream → Outcome) → May can fl span o → Bind o k ≡ after_prim o k (ends End)
  bound_is (ends e) k p = refl
  bound_is (tick o) k p = ap tick (bound_is o k p)
  bound_is (miss why source place sp o) k p = ap (λ x. miss why source place sp (Bind x k)) p.1
  bound_is (parse v s o) k p = ap (λ x. Both (k v s) (Bind x k)) p ∙ both_end (k v s)

  pub chosen_is : (o : Outcome) (k : Value → Stream → Outcome) (r : Outcome) → May can fl span o → Attempt (leave o) k r ≡ after_prim o (λ v s. tick (k v s)) r
  chosen_is (ends (Faulted fault sp)) k r p = refl
  chosen_is (ends Stuck) k r p = refl
  chosen_is (ends Deep) k r p = absurd p
  chosen_is (ends End) k r p = absurd p
  chosen_is (tick o) k r p = ap tick (chosen_is o k r p)
  chosen_is (miss why source place sp o) k r p = ap (λ x. miss why source place sp (Attempt (leave x) k r)) p.1
  chosen_is (parse v s o) k r p = ap (λ x. tick (Both (k v s) (Bind (leave x) k))) p ∙ ap tick (both_end (k v s))

module _ (code : Blocks) (fs : List Function) (lower : Lower) (d : ℕ) where
  -- where an operation fails at these values it goes on at a block
  abbrev pub FailRuns : Site → List Value → ℕ → Stream → Option ℕ → Outcome → ℕ → ℕ → List Waiting → Type 0
  FailRuns z vals q s target r b n ws =
      (to : ℕ) × (target ≡ Some to) × Runs code (goes_out code fs lower d z) b n 6 (d + 1) r (enter code to (here q z.fn vals s z.frames) ws n) ws

  module _ (P : Value → Type 0) (can : Bool) (fl : List Fault) (span : Span) (z : Site) (vals : List Value) (q : ℕ) (s : Stream) (t : Targets) (is : List Instr)
      (e : Exit) (k : Value → Stream → Outcome) (r : Outcome) (b n : ℕ) (ws : List Waiting)
      (hk : (v : Value) (s' : Stream) → P v → Runs code (goes_out code fs lower d z) b n 6 (d + 1) (k v s')
      (on (live is e (here q z.fn (vals ++ v ∷ []) s' z.frames) ws n)) ws)
      (hr : can ≡ true → FailRuns z vals q s t.fail r b n ws)
      (hf : (f : Fault) → IsAmong f fl → Halts code z.fn (target_of t.faults f) f span) where
    -- from the step that begins it, or from the middle of it
    prim_runs : (o : Outcome) (x : State) → May can fl span o → Gives P o → step code x ≡ went code o t is e (here q z.fn vals s z.frames) ws n
        → Runs code (goes_out code fs lower d z) b n 7 (d + 1) (after_prim o k r) (on x) ws
    prim_runs (tick o) x p g by =
        let y = doing o t is e (here q z.fn vals s z.frames) ws n in
        lead code (goes_out code fs lower d z) b 1 n n 7 15 (d + 1) (d + 1) (after_prim o k r) (on x) (on y) ws (one code x (on y) by) (omega arith)
        (omega arith) (omega arith) (prim_runs o y p g refl)
    prim_runs (parse v s' o) x p g by =
        lead code (goes_out code fs lower d z) b 1 n n 6 7 (d + 1) (d + 1) (k v s') (on x) _ ws
        (one code x (on (live is e (here q z.fn (vals ++ v ∷ []) s' z.frames) ws n)) by)
        (omega arith) (omega arith) (omega arith) (hk v s' g)
    prim_runs (miss why source place sp o) x p g by =
        let f = hr p.0 in
        record {
          j = 1;
          a' = 6;
          d' = d + 1;
          st' = enter code f.0 (here q z.fn vals s z.frames) ws n;
          fits = omega arith;
          long = omega arith;
          leads = one_miss code why source place sp x _ (by ∙ ap (λ y. misses why source place sp (enter_named code y (here q z.fn vals s z.frames) ws n)) f.1);
          after = f.2;
        }
    prim_runs (ends (Faulted f sp)) x p g by =
        let h = hf f p.0 in
        record {
          j = 2;
          fits = omega arith;
          by = ap (λ y. tick (goes code 1 y)) (by ∙ ap (λ y. enter_named code y (here q z.fn vals s z.frames) ws n) h.2
              ∙ ap (λ y. starts y (here q z.fn vals s z.frames) ws n) h.3) ∙ ap (λ y. tick (tick (ends (Faulted f y)))) (sym p.1);
        }
    prim_runs (ends Stuck) x p g by = record { j = 1; fits = omega arith; by = ap (λ y. tick (goes code 0 y)) by }
    prim_runs (ends Deep) x p g by = absurd p
    prim_runs (ends End) x p g by = absurd p

  -- an operation at the front of a piece
  pub op_runs : (P : Value → Type 0) (op : Operation) (of : ValueType) (ys : List ℕ) (span : Span) (z : Site) (vals : List Value) (q : ℕ) (s : Stream)
      (t : Targets) (is : List Instr) (e : Exit) (k : Value → Stream → Outcome) (r : Outcome) (b n : ℕ) (ws : List Waiting) (values : List Value)
      → picks ys vals ≡ Some values → Gives P (performed op (listed values) span s)
      → ((v : Value) (s' : Stream) → P v → Runs code (goes_out code fs lower d z) b n 6 (d + 1) (k v s')
      (on (live is e (here q z.fn (vals ++ v ∷ []) s' z.frames) ws n)) ws)
      → (may_fail op ≡ true → FailRuns z vals q s t.fail r b n ws)
      → ((f : Fault) → IsAmong f (faults_of op) → Halts code z.fn (target_of t.faults f) f span)
      → Runs code (goes_out code fs lower d z) b n 7 (d + 1) (after_prim (performed op (listed values) span s) k r)
      (on (live (doing_at z.place of op ys span t ∷ is) e (here q z.fn vals s z.frames) ws n)) ws
  op_runs P op of ys span z vals q s t is e k r b n ws values picked g hk hr hf =
      prim_runs P (may_fail op) (faults_of op) span z vals q s t is e k r b n ws hk hr hf (performed op (listed values) span s) _
      (allowed op (listed values) span s) g
      (given_is code (picks ys vals) values (λ l. went code (performed op (listed l) span s) t is e (here q z.fn vals s z.frames) ws n) picked)

  -- the values at an operation: where its array is built first, that is there, too
  pub record Built (z : Site) (types : List ValueType) (vals : List Value) : Type 0 where
    pub more : List Value
    pub are : vals ≡ z.vals ++ more
    pub long : length vals ≡ length types
    pub vars : Holds z.place.variables vals z.env
    pub kept : Holds z.place.out.keep vals z.kv

  -- an operation, behind the array that it takes
  module _ (P : Value → Type 0) (op : Operation) (of : ValueType) (xs : List ℕ) (span : Span) (p : Piece) (z : Site) (q : ℕ) (s : Stream) (t : Targets)
      (is : List Instr) (e : Exit) (k : Value → Stream → Outcome) (r : Outcome) (b n : ℕ) (ws : List Waiting)
      (h : StandsAt code fs lower d p z) (below : Below (length z.place.grow) xs) (vs : AllThere z.env xs)
      (g : Gives P (performed op (listed vs.values) span s))
      (hk : (vals : List Value) → Built z (built_first (lone op xs span) z.place).types vals → (v : Value) (s' : Stream) → P v
      → Runs code (goes_out code fs lower d z) b n 6 (d + 1) (k v s') (on (live is e (here q z.fn (vals ++ v ∷ []) s' z.frames) ws n)) ws)
      (hr : (vals : List Value) → Built z (built_first (lone op xs span) z.place).types vals → may_fail op ≡ true → FailRuns z vals q s t.fail r b n ws)
      (hf : (f : Fault) → IsAmong f (faults_of op) → Halts code z.fn (target_of t.faults f) f span) where
    built_by : (c : Bool) → takes_array z.place.grow op xs ≡ c
        → Runs code (goes_out code fs lower d z) b n 8 (d + 1) (after_prim (performed op (listed vs.values) span s) k r)
        (on (live (built_front c z.place xs ++ doing_at z.place of op (built_arguments c z.place xs) span t ∷ is) e (here q z.fn z.vals s z.frames) ws n)) ws
    built_by true c =
        let m = z.place.variables in
        let f = takes_second z.place.grow (length z.place.grow) op xs c below in
        let le : second xs < length z.env = subst (λ i. second xs < i) (arrays_length z.place.grow z.env h.arrays) f.0 in
        let v = there z.env (second xs) le in
        let a = there_array z.place.grow z.env h.arrays (second xs) le f.1 in
        let vals = z.vals ++ v.0 ∷ [] in
        let vars = holds_more m z.vals z.env (v.0 ∷ []) h.vars in
        let ty = array_type (slice_get z.place.types (number_of z.place (second xs))) in
        let built : Built z (built_first (lone op xs span) z.place).types vals = record {
          more = v.0 ∷ [];
          are = refl;
          long = subst (λ i. length vals ≡ length (built_types i z.place xs)) (sym c) (longer z.vals z.place.types v.0 ty h.long);
          vars = vars;
          kept = holds_more z.place.out.keep z.vals z.kv (v.0 ∷ []) h.kept;
        } in
        let there_too = value_at vals (next_of z.place) v.0 (holds_one z.vals _ v.0 h.long) in
        let args = second_picked xs m vals vs.values (next_of z.place) (there_too
        ∙ sym (holds_var m vals z.env (second xs) vars le ∙ v.1)) (vs.picked m vals vars) in
        lead code (goes_out code fs lower d z) b 1 n n 7 8 (d + 1) (d + 1) (after_prim (performed op (listed vs.values) span s) k r) _ _ ws
        (build_leads code _ e q z.fn z.vals s z.frames (number_of z.place (second xs)) v.0 ws n (holds_var m z.vals z.env (second xs) h.vars le ∙ v.1) a)
        (omega arith) (omega arith) (omega arith)
        (op_runs P op of (built_arguments true z.place xs) span z vals q s t is e k r b n ws vs.values args g (hk vals built) (hr vals built) hf)
    built_by false c =
        let m = z.place.variables in
        let built : Built z (built_first (lone op xs span) z.place).types z.vals = record {
          more = [];
          are = sym (append-none z.vals);
          long = subst (λ i. length z.vals ≡ length (built_types i z.place xs)) (sym c) h.long;
          vars = h.vars;
          kept = h.kept;
        } in
        lead code (goes_out code fs lower d z) b 0 n n 7 8 (d + 1) (d + 1) (after_prim (performed op (listed vs.values) span s) k r) _ _ ws (stays code _)
        (omega arith) (omega arith) (omega arith)
        (op_runs P op of (renumber xs m) span z z.vals q s t is e k r b n ws vs.values (vs.picked m z.vals h.vars) g (hk z.vals built) (hr z.vals built) hf)

    pub built_runs : Runs code (goes_out code fs lower d z) b n 8 (d + 1) (after_prim (performed op (listed vs.values) span s) k r)
        (on (live (operation_at z.place of op xs span t is) e (here q z.fn z.vals s z.frames) ws n)) ws
    built_runs = built_by (takes_array z.place.grow op xs) refl

  -- it ends where an operation fails
  pub fails_there : (op : Operation) (types : List ValueType) (span : Span) (z : Site) (vals : List Value) (q : ℕ) (s : Stream) (at : ℕ)
      → HasAt code z.fn at (stops op types span) → (b n : ℕ) (ws : List Waiting)
      → may_fail op ≡ true → FailRuns z vals q s (stop_targets op at).fail (ends End) b n ws
  fails_there op types span z vals q s at has b n ws e = (
    at,
    ap (λ x. fail_target x at) e,
    with_block code (goes_out code fs lower d z) b n 6 (d + 1) at (ending_block types fail_) (ends End) (here q z.fn vals s z.frames) ws ws
        (fail_there code z.fn at (may_fail op) types (halts (faults_of op) types span) has e)
        (record { j = 1; n = n; fits = omega arith; above = omega arith; leads = one code _ (resume code ws n) refl }),
  )

  pub perform_runs : (op : Operation) (xs : List ℕ) (span : Span) → Simulates code fs lower d (perform op xs span)
  perform_runs op xs span cur L z q s h t sc b n ws le =
      let vs = (all_here z xs h.arrays sc).all in
      let K = goes_out code fs lower d z in
      let o = performed op (listed vs.values) span s in
      let p1 = built_first (lone op xs span) z.place in
      let w = next_of p1 in
      runs_as code K b n 8 (d + 1) (then_parse (all_at z.env xs) (λ l. performed op (listed l) span s)) (after_prim o parsed (ends End)) _ ws
      (parses_is code (all_at z.env xs) vs.values (λ l. performed op (listed l) span s) vs.are
      ∙ alone_is (may_fail op) (faults_of op) span o (allowed op (listed vs.values) span s))
      (built_runs (λ v. Unit {0}) op z.place.of xs span (piece (perform op xs span) z) z q s (stop_targets op z.at) [] (exit_of z.place.out w) parsed (ends End)
      b n ws h sc vs (gives_any o)
      (λ vals built v s' g.
      let y : Site = site_at z z.at z.place (vals ++ v ∷ []) z.env in
      let x = exits code fs lower d y w q v s' ws n (holds_more z.place.out.keep vals z.kv (v ∷ []) built.kept) h.ends_so
      (value_at (vals ++ v ∷ []) w v (holds_one vals w v built.long)) in
      parse_only code K b n 6 (d + 1) x.j q v s' _ ws (omega (arith, x.short)) x.leads)
      (λ vals built. fails_there op p1.types span z vals q s z.at h.has b n ws)
      (λ f l. stop_named code z.fn z.at op p1.types span f h.has l))
