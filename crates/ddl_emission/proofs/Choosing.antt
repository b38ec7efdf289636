-- The choices: `both` and `attempt`.
use Rattle.std.proofs.Common.{◌≡◌, ℕ, suc, ◌+◌, List, [], ◌∷◌, ◌++◌, length, Some, None, Bool, true, false, refl, sym, ap, ◌∙◌, subst, arith, append_assoc}
use Rattle.std.specs.Prelude.{slice_get}
use Rattle.ddl_base.specs.declared.span.Span.{Span}
use Rattle.ddl_types.specs.Types.{Ty}
use Rattle.ddl_types.specs.Value.{Value, Stream, unit}
use Rattle.ddl_types.specs.Outcome.{tick}
use Rattle.ddl_types.specs.Joining.{Both, leave}
use Rattle.ddl_ops.specs.Valued.{then_parse}
use Rattle.ddl_core.specs.Attempt.{Attempt}
use Rattle.ddl_core.specs.Core.{Operation, Form, Function, perform, both, attempt}
use Rattle.ddl_core.specs.Operations.{performed}
use Rattle.ddl_core.specs.Meaning.{outside, Lower, core, all_at, listed}
use Rattle.ddl_blocks.specs.Code.{ValueType, of_type, thread, Instr, spawn, notify, Exit}
use Rattle.ddl_blocks.specs.State.{Frame, Thread, Waiting, live, on}
use Rattle.ddl_blocks.specs.Machine.{picks, with_given, block_at, mark, number_in, number_value, spawned, waiting, spawn_result}
use Rattle.ddl_blocks.specs.Failing.{may_fail, faults_of}
use Rattle.ddl_blocks.specs.OperationTypes as types
use Rattle.ddl_blocks.proofs.Allowed.{allowed}
use Rattle.ddl_emission.specs.Pieces.{renumber, all_of, next_of, wider, bound, before, Piece, entry_of, fail_target, halts, choice_targets}
use Rattle.ddl_emission.specs.Lone.{Lone, lone, several}
use Rattle.ddl_emission.specs.Sizes.{before_right, size}
use Rattle.ddl_emission.specs.Emission.{held, choice_piece, emit}
use Rattle.ddl_emission.proofs.Arrays.{gives_any}
use Rattle.ddl_emission.proofs.Runs.{Blocks, Leads, lead, stays, both_runs, attempt_runs}
use Rattle.ddl_emission.proofs.Picks.{append-none, holds_now, holds_more, holds_all, holds_cons, holds_one, value_at, longer}
use Rattle.ddl_emission.proofs.Lengths.{HasAt, has_to, has_front, has_back, length-emit, length-halts}
use Rattle.ddl_emission.proofs.Steps.{here, starts, goes_to, one, with_block, given_is, parses_is, runs_as}
use Rattle.ddl_emission.proofs.Context.{Site, site_at, all_here, Follows, Simulates, goes_out, top_more}
use Rattle.ddl_emission.proofs.Doing.{after_prim, chosen_is, op_runs, fault_named}

module _ (code : Blocks) (fs : List Function) (lower : Lower) (d : ℕ) where
  -- a suspended thread with all values
  abbrev pub waits : ℕ → ℕ → Thread → Waiting
  waits n block h = waiting block (spawned h n h.values)

  pub spawn_leads : (biased : Bool) (is : List Instr) (e : Exit) (z : Site) (q : ℕ) (s : Stream) (at : ℕ) (ws : List Waiting) (n : ℕ)
      → length z.vals ≡ length z.place.types
      → Leads code 1 (on (live (spawn at (all_of z.place) biased ∷ is) e (here q z.fn z.vals s z.frames) ws n))
      (on (live is e (here q z.fn (z.vals ++ spawn_result biased n ∷ []) s z.frames) (waits n at (here q z.fn z.vals s z.frames) ∷ ws) (suc n)))
  spawn_leads biased is e z q s at ws n el =
      one code _ _ (given_is code (picks (all_of z.place) z.vals) z.vals
      (λ vs. on (live is e (here q z.fn (z.vals ++ spawn_result biased n ∷ []) s z.frames) (waiting at (spawned (here q z.fn z.vals s z.frames) n vs) ∷ ws)
      (suc n)))
      (holds_now (all_of z.place) z.vals z.vals (holds_all z.vals _ el)))

  pub both_form : (l r : Form) → Simulates code fs lower d l → Simulates code fs lower d r → Simulates code fs lower d (both l r)
  both_form l r siml simr cur L z q s h t sc b n ws le =
      let K = goes_out code fs lower d z in
      let at = z.at in
      let p = z.place in
      let p1 = wider p (of_type types.unit) in
      let pr = emit r p (at + 1) in
      let pl = emit l p1 (at + 1 + size r) in
      let hr = has_front code z.fn (at + 1) pr.more pl.more h.has.1 in
      let hl = has_back code z.fn (at + 1) (at + 1 + size r) pr.more pl.more (ap (λ i. at + 1 + i) (length-emit r p (at + 1))) h.has.1 in
      let wt = waits n at (here q z.fn z.vals s z.frames) in
      let lo = core lower l cur z.env s in
      let ro = core lower r cur z.env s in
      lead code K b 1 (suc n) n 0 8 (d + 1) (d + 1) (Both lo ro) _ _ ws (spawn_leads false pl.body pl.exit z q s at ws n h.long) (omega arith) (omega arith)
      (omega arith)
      (both_runs code K b n (suc n) 0 0 0 (d + 1) (d + 1) (d + 1) lo ro _ (wt ∷ []) ws (omega arith) (omega arith) (omega arith) (omega arith) (le, tt)
      (λ S' n' le'. with_block code K b n' 0 (d + 1) at (entry_of p.types pr) ro (here n z.fn z.vals s z.frames) S' S' h.has.0
      (simr cur L (site_at z (at + 1) p z.vals z.env) n s
      (record { has = hr; long = h.long; vars = h.vars; kept = h.kept; arrays = h.arrays; ends_so = h.ends_so })
      (top_more code fs lower d cur L z _ [] refl refl refl refl refl (sym (append-none z.vals)) t) sc.1 b n' S' (omega arith)))
      (siml cur L (site_at z (at + 1 + size r) p1 (z.vals ++ unit ∷ []) z.env) q s
      (record {
        has = hl;
        long = longer z.vals p.types unit (of_type types.unit) h.long;
        vars = holds_more p.variables z.vals z.env (unit ∷ []) h.vars;
        kept =
            holds_more p.out.keep z.vals z.kv (unit ∷ []) h.kept;
        arrays = h.arrays;
        ends_so = h.ends_so;
      })
      (top_more code fs lower d cur L z _ (unit ∷ []) refl refl refl refl refl refl t) sc.0 b (suc n) (wt ∷ ws) (omega arith)))

  -- the block between the left side and what follows it
  pub notify_leads : (tys : List ValueType) (is : List Instr) (e : Exit) (fn at w : ℕ) (vals : List Value) (frames : List Frame) (n : ℕ) → length vals ≡ w
      → block_at code fn at ≡ Some (record { params = tys; body = notify w ∷ is; exit = e })
      → (q : ℕ) (v : Value) (s : Stream) (ws : List Waiting) (n' : ℕ)
      → Leads code 1 (goes_to code fn at (vals ++ number_value n ∷ []) frames q v s ws n')
      (on (live is e (here q fn ((vals ++ number_value n ∷ []) ++ v ∷ []) s frames) (mark n ws) n'))
  notify_leads tys is e fn at w vals frames n el has q v s ws n' =
      let here1 = here q fn ((vals ++ number_value n ∷ []) ++ v ∷ []) s frames in
      let p : slice_get ((vals ++ number_value n ∷ []) ++ v ∷ []) w ≡ Some (number_value n) =
      value_at _ w (number_value n) (holds_more (w ∷ []) (vals ++ number_value n ∷ []) (number_value n ∷ []) (v ∷ []) (holds_one vals w (number_value n) el)) in
      subst (λ o. Leads code 1 (starts o here1 ws n') (on (live is e here1 (mark n ws) n'))) (sym has)
      (one code _ _ (given_is code (slice_get ((vals ++ number_value n ∷ []) ++ v ∷ []) w) (number_value n) (λ x.
      with_given (number_in x) (λ j. on (live is e here1 (mark j ws) n'))) p))

  abbrev pub choice_at : Lone → Ty → Form → Form → Form → Site → Piece
  choice_at x ty l k r z =
      let h = held x z.place in
      let i = z.at + before_right x in
      choice_piece x z.place ty z.at (emit r z.place i) (emit k (bound h ty) (i + size r)) (emit l (before h ty (z.at + 1)) (i + size r + size k))

  -- an operation and no more on the left: no thread
  pub attempt_lone : (ty : Ty) (op : Operation) (xs : List ℕ) (span : Span) (k r : Form) → Simulates code fs lower d k → Simulates code fs lower d r
      → Follows code fs lower d (attempt ty (perform op xs span) k r) (choice_at (lone op xs span) ty (perform op xs span) k r)
  attempt_lone ty op xs span k r simk simr cur L z q s h t sc b n ws le =
      let K = goes_out code fs lower d z in
      let p = z.place in
      let i = z.at + (1 + length (faults_of op)) in
      let pr = emit r p i in
      let pk = emit k (bound p ty) (i + size r) in
      let hh = has_front code z.fn (z.at + 1) (halts (faults_of op) p.types span) (pr.more ++ pk.more) h.has.1 in
      let h2 = has_back code z.fn (z.at + 1) i (halts (faults_of op) p.types span) (pr.more ++ pk.more)
      (omega (arith, length-halts (faults_of op) p.types span)) h.has.1 in
      let hr = has_front code z.fn i pr.more pk.more h2 in
      let hk = has_back code z.fn i (i + size r) pr.more pk.more (ap (λ j. i + j) (length-emit r p i)) h2 in
      let vs = (all_here z xs h.arrays sc.0).all in
      let o = performed op (listed vs.values) span s in
      let kk = λ (v : Value) (s' : Stream). core lower k cur (v ∷ z.env) s' in
      let ro = core lower r cur z.env s in
      runs_as code K b n 16 (d + 1) (Attempt (leave (then_parse (all_at z.env xs) (λ l. performed op (listed l) span s))) kk ro)
      (after_prim o (λ v s'. tick (kk v s')) ro) _ ws
      (ap (λ x. Attempt (leave x) kk ro) (parses_is code (all_at z.env xs) vs.values (λ l. performed op (listed l) span s) vs.are)
      ∙ chosen_is (may_fail op) (faults_of op) span o kk ro (allowed op (listed vs.values) span s))
      (lead code K b 0 n n 7 16 (d + 1) (d + 1) (after_prim o (λ v s'. tick (kk v s')) ro) _ _ ws (stays code _) (omega arith) (omega arith) (omega arith)
      (op_runs code fs lower d (λ v. Unit {0}) op (of_type ty) (renumber xs p.variables) span z z.vals q s (choice_targets op z.at) pk.body pk.exit (λ v s'.
      tick (kk v s')) ro b n ws
      vs.values (vs.picked p.variables z.vals h.vars) (gives_any o)
      (λ v s' g. lead code K b 0 n n 0 14 (d + 1) (d + 1) (kk v s') _ _ ws (stays code _) (omega arith) (omega arith) (omega arith)
      (simk cur L (site_at z (i + size r) (bound p ty) (z.vals ++ v ∷ []) (v ∷ z.env)) q s'
      (record {
        has = hk;
        long = longer z.vals p.types v (of_type ty) h.long;
        vars = holds_cons p.variables z.vals z.env _ v h.long h.vars;
        kept =
            holds_more p.out.keep z.vals z.kv (v ∷ []) h.kept;
        arrays = (λ e. absurd (cc), h.arrays);
        ends_so = h.ends_so;
      })
      (top_more code fs lower d cur L z _ (v ∷ []) refl refl refl refl refl refl t) sc.1 b n ws le))
      (λ e. (
        z.at,
        ap (λ x. fail_target x z.at) e,
        with_block code K b n 6 (d + 1) z.at (entry_of p.types pr) ro (here q z.fn z.vals s z.frames) ws ws h.has.0
            (lead code K b 0 n n 0 6 (d + 1) (d + 1) ro _ _ ws (stays code _) (omega arith) (omega arith) (omega arith)
            (simr cur L (site_at z i p z.vals z.env) q s
            (record { has = hr; long = h.long; vars = h.vars; kept = h.kept; arrays = h.arrays; ends_so = h.ends_so })
            (top_more code fs lower d cur L z _ [] refl refl refl refl refl (sym (append-none z.vals)) t) sc.2 b n ws le)),
      ))
      (λ f l. fault_named code z.fn (faults_of op) p.types span (z.at + 1) f l hh)))

  pub attempt_several : (ty : Ty) (l k r : Form) → Simulates code fs lower d l → Simulates code fs lower d k → Simulates code fs lower d r
      → Follows code fs lower d (attempt ty l k r) (choice_at several ty l k r)
  attempt_several ty l k r siml simk simr cur L z q s h t sc b n ws le =
      let K = goes_out code fs lower d z in
      let at = z.at in
      let p = z.place in
      let p1 = wider p thread in
      let p2 = bound p1 ty in
      let p3 = before p1 ty (at + 1) in
      let pr = emit r p (at + 2) in
      let pk = emit k p2 (at + 2 + size r) in
      let pl = emit l p3 (at + 2 + size r + size k) in
      let h2 : HasAt code z.fn (at + 2) (pr.more ++ (pk.more ++ pl.more)) =
      has_to code z.fn (at + 1 + 1) (at + 2) (pr.more ++ (pk.more ++ pl.more)) (omega arith) h.has.1.1 in
      let hr = has_front code z.fn (at + 2) pr.more (pk.more ++ pl.more) h2 in
      let h3 = has_back code z.fn (at + 2) (at + 2 + size r) pr.more (pk.more ++ pl.more) (ap (λ i. at + 2 + i) (length-emit r p (at + 2))) h2 in
      let hk = has_front code z.fn (at + 2 + size r) pk.more pl.more h3 in
      let hl = has_back code z.fn (at + 2 + size r) (at + 2 + size r + size k) pk.more pl.more
      (ap (λ i. at + 2 + size r + i) (length-emit k p2 (at + 2 + size r))) h3 in
      let id = number_value n in
      let v1 = z.vals ++ id ∷ [] in
      let e1 : length v1 ≡ length p1.types = longer z.vals p.types id thread h.long in
      let wt = waits n at (here q z.fn z.vals s z.frames) in
      let lo = core lower l outside z.env s in
      let ro = core lower r cur z.env s in
      let kk = λ (v : Value) (s' : Stream). core lower k cur (v ∷ z.env) s' in
      lead code K b 1 (suc n) n 0 8 (d + 1) (d + 1) (Attempt (leave lo) kk ro) _ _ ws (spawn_leads true pl.body pl.exit z q s at ws n h.long) (omega arith)
      (omega arith) (omega arith)
      (attempt_runs code (goes_to code z.fn (at + 1) v1 z.frames) (λ q' v s' ws' n'. on (live pk.body pk.exit (here q' z.fn (v1 ++ v ∷ []) s' z.frames) ws' n'))
      K b 1 (suc n) 0 (d + 1) (d + 1) (d + 1) wt lo ro kk _ ws (omega arith) le (omega arith) (omega arith) (omega arith) refl
      (notify_leads (p1.types ++ of_type ty ∷ []) pk.body pk.exit z.fn (at + 1) (next_of p) z.vals z.frames n h.long h.has.1.0)
      (λ q' v s' ws' n' le'. simk cur L (site_at z (at + 2 + size r) p2 (v1 ++ v ∷ []) (v ∷ z.env)) q' s'
      (record {
        has = hk;
        long = longer v1 p1.types v (of_type ty) e1;
        vars = holds_cons p.variables v1 z.env _ v e1 (holds_more p.variables z.vals z.env (id ∷ []) h.vars);
        kept = holds_more p.out.keep v1 z.kv (v ∷ []) (holds_more p.out.keep z.vals z.kv (id ∷ []) h.kept);
        arrays = (λ e. absurd (cc), h.arrays);
        ends_so = h.ends_so;
      })
      (top_more code fs lower d cur L z _ (id ∷ v ∷ []) refl refl refl refl refl (append_assoc z.vals (id ∷ []) (v ∷ [])) t) sc.1 b n' ws' le')
      (λ S' n' le'. with_block code K b n' 0 (d + 1) at (entry_of p.types pr) ro (here n z.fn z.vals s z.frames) S' S' h.has.0
      (simr cur L (site_at z (at + 2) p z.vals z.env) n s
      (record { has = hr; long = h.long; vars = h.vars; kept = h.kept; arrays = h.arrays; ends_so = h.ends_so })
      (top_more code fs lower d cur L z _ [] refl refl refl refl refl (sym (append-none z.vals)) t) sc.2 b n' S' le'))
      (siml outside None (record { fn = z.fn; at = at + 2 + size r + size k; place = p3; vals = v1; env = z.env; kv = v1; frames = z.frames }) q s
      (record {
        has = hl;
        long = e1;
        vars = holds_more p.variables z.vals z.env (id ∷ []) h.vars;
        kept = holds_all v1 _ e1;
        arrays = h.arrays;
        ends_so =
            λ e. absurd (cc);
      }) tt
      sc.0 (suc n) (suc n) (wt ∷ ws) (omega arith)))

  pub attempt_form : (ty : Ty) (l k r : Form) → Simulates code fs lower d l → Simulates code fs lower d k → Simulates code fs lower d r
      → Simulates code fs lower d (attempt ty l k r)
  attempt_form ty (perform op xs span) k r siml simk simr = attempt_lone ty op xs span k r simk simr
  attempt_form ty l k r siml simk simr = attempt_several ty l k r siml simk simr
