-- The machine follows calls and turns, by the depth.
use Rattle.std.proofs.Common.{false, ◌≡◌, ℕ, zero, suc, ◌+◌, ◌≤◌, List, [], ◌∷◌, ◌++◌, map, length, Some, None, refl, sym, ap, ◌∙◌, subst, arith, length-append}
use Rattle.std.proofs.lemmas.List.{length-map}
use Rattle.ddl_types.specs.Value.{Value, Stream}
use Rattle.ddl_types.specs.Outcome.{Deep, ends, tick}
use Rattle.ddl_ops.specs.Valued.{given, then_parse}
use Rattle.ddl_core.specs.Core.{Function}
use Rattle.ddl_core.specs.Meaning.{outside, turning, core, function_at, level}
use Rattle.ddl_blocks.specs.Code.{of_type, Block}
use Rattle.ddl_blocks.specs.State.{Frame, Thread, Waiting}
use Rattle.ddl_blocks.specs.Machine.{block_at, enter}
use Rattle.ddl_emission.specs.Pieces.{Piece, all_of, entry_of}
use Rattle.ddl_emission.specs.Growing.{flags_at, grown_types}
use Rattle.ddl_emission.specs.Emission.{emit}
use Rattle.ddl_emission.specs.Emission as emission
use Rattle.ddl_emission.specs.Program.{function_of, body_place, return_block}
use Rattle.ddl_emission.specs.Scope.{IsScoped}
use Rattle.ddl_emission.proofs.Arrays.{arrays_length, arrays_append, none_grows, length-flags, length-grown}
use Rattle.ddl_emission.proofs.Runs.{Blocks, goes, Leads, Runs, lead, stays, leave_runs}
use Rattle.ddl_emission.proofs.Picks.{holds_all, holds_none, holds_more, holds_states}
use Rattle.ddl_emission.proofs.Lengths.{has_all, function_there}
use Rattle.ddl_emission.proofs.Steps.{here, starts, goes_to, one, with_block, at_block}
use Rattle.ddl_emission.proofs.Context.{Site, CallRuns, TurnRuns, goes_out}
use Rattle.ddl_emission.proofs.AllForms.{form_runs}

module _ (fs : List Function) (well : (f : ℕ) (d : Function) → function_at fs f ≡ Some d → IsScoped fs None (map (λ ty. false) d.params) d.body) where
  abbrev pub code : Blocks
  code = map function_of fs

  -- a block that is there has done nothing without a budget
  none_yet : (at : ℕ) (blk : Block) (h : Thread) (ws : List Waiting) (n : ℕ) → block_at code h.function at ≡ Some blk
      → goes code 0 (enter code at h ws n) ≡ ends Deep
  none_yet at blk h ws n e = ap (λ o. goes code 0 (starts o h ws n)) e

  abbrev pub body_piece : Function → Piece
  body_piece fn = emit fn.body (body_place fn) 2

  pub entry_at : (f : ℕ) (fn : Function) → function_at fs f ≡ Some fn → block_at code f 0 ≡ Some (entry_of (map of_type fn.params) (body_piece fn))
  entry_at f fn e = (has_all code f (function_of fn) (function_there fs f fn e)).0

  pub return_at : (f : ℕ) (fn : Function) → function_at fs f ≡ Some fn → block_at code f 1 ≡ Some (return_block (of_type fn.result))
  return_at f fn e = (has_all code f (function_of fn) (function_there fs f fn e)).1.0

  -- what the code of a function's body does
  abbrev pub BodyRuns : ℕ → Type 0
  BodyRuns n = (f : ℕ) (fn : Function) (xs : List Value) (q : ℕ) (s : Stream) (frames : List Frame) (b c : ℕ) (ws : List Waiting) → function_at fs f ≡ Some fn
      → length xs ≡ length fn.params → b ≤ c
      → Runs code (goes_to code f 1 [] frames) b c 0 n ((level fs n).call f xs s) (enter code 0 (here q f xs s frames) ws c) ws

  return_leads : (f : ℕ) (fn : Function) (fr : Frame) (frames : List Frame) → function_at fs f ≡ Some fn
      → (q : ℕ) (v : Value) (s : Stream) (ws : List Waiting) (n : ℕ)
      → Leads code 1 (goes_to code f 1 [] (fr ∷ frames) q v s ws n) (goes_to code fr.function fr.block fr.values frames q v s ws n)
  return_leads f fn fr frames e q v s ws n =
      subst (λ o. Leads code 1 (starts o (here q f (v ∷ []) s (fr ∷ frames)) ws n) (goes_to code fr.function fr.block fr.values frames q v s ws n))
      (sym (return_at f fn e))
      (one code _ _ refl)

  calls_run : (n : ℕ) → BodyRuns n → CallRuns code fs (level fs n) n
  calls_run n hb f xs q fn' to s frames kv b c ws ok le =
      let fr : Frame = record { function = fn'; block = to; values = kv } in
      leave_runs code (goes_to code f 1 [] (fr ∷ frames)) (goes_to code fn' to kv frames) b 1 c 0 n ((level fs n).call f xs s) _ ws (omega arith)
      (return_leads f ok.0 fr frames ok.1)
      (hb f ok.0 xs q s (fr ∷ frames) b c ws ok.1 ok.2 le)

  body_step : (n : ℕ) → BodyRuns n → TurnRuns code fs (level fs n) n → BodyRuns (suc n)
  body_step n hb ht f fn xs q s frames b c ws e el le =
      let p = body_piece fn in
      let z : Site = record { fn = f; at = 2; place = body_place fn; vals = xs; env = xs; kv = []; frames = frames } in
      let long : length xs ≡ length (map of_type fn.params) = el ∙ sym (length-map fn.params of_type) in
      subst (λ o. Runs code (goes_to code f 1 [] frames) b c 0 (suc n) (then_parse (given o) (λ d. core (level fs n) d.body outside xs s))
      (enter code 0 (here q f xs s frames) ws c) ws) (sym e)
      (with_block code (goes_to code f 1 [] frames) b c 0 (suc n) 0 (entry_of (map of_type fn.params) p) (core (level fs n) fn.body outside xs s)
      (here q f xs s frames) ws ws (entry_at f fn e)
      (lead code (goes_to code f 1 [] frames) b 0 c c 0 0 (n + 1) (suc n) (core (level fs n) fn.body outside xs s) _ _ ws (stays code _) (omega arith)
      (omega arith) (omega arith)
      (form_runs code fs (level fs n) n (calls_run n hb) ht fn.body outside None z q s
      (record {
        has = (has_all code f (function_of fn) (function_there fs f fn e)).1.1;
        long = long;
        vars = holds_all xs (length fn.params) el;
        kept = holds_none xs;
        arrays = none_grows fn.params xs el;
        ends_so = λ r. ((of_type fn.result, return_at f fn e), refl);
      })
      tt (well f fn e) b c ws le)))

  turn_step : (n : ℕ) → BodyRuns n → TurnRuns code fs (level fs n) n → TurnRuns code fs (level fs (suc n)) (suc n)
  turn_step n hb ht tys inits g z h en sc xs q s b c ws x ha le go =
      let k = length tys in
      let p = z.place in
      let bs = flags_at p.grow inits in
      let p1 = emission.turning p tys inits z.at in
      let el : length xs ≡ length tys = sym (arrays_length bs xs ha) ∙ length-flags p.grow inits ∙ en in
      let pg = emit g p1 (z.at + 1) in
      let y : Site = record { fn = z.fn; at = z.at + 1; place = p1; vals = z.vals ++ xs; env = xs ++ z.env; kv = z.kv; frames = z.frames } in
      let K = goes_out code fs (level fs n) n z in
      let o = core (level fs n) g (turning g z.env) (xs ++ z.env) s in
      let el2 : length (z.vals ++ xs) ≡ length (p.types ++ grown_types bs tys) =
      omega (arith, length-append z.vals xs, length-append p.types (grown_types bs tys), length-grown bs tys, h.long, el) in
      lead code K b 1 c c 0 8 (n + 1) (suc n + 1) o x _ ws (at_block code 1 z.at (entry_of (p.types ++ grown_types bs tys) pg) x
      (here q z.fn (z.vals ++ xs) s z.frames) ws c h.has.0 go) (omega arith) (omega arith) (omega arith)
      (form_runs code fs (level fs n) n (calls_run n hb) ht g (turning g z.env) (Some bs) y q s
      (record {
        has = h.has.1;
        long = el2;
        vars = holds_states p.variables z.vals z.env xs _ k h.long el h.vars;
        kept = holds_more p.out.keep z.vals z.kv xs h.kept;
        arrays = arrays_append bs p.grow xs z.env ha h.arrays;
        ends_so = h.ends_so;
      })
      (record {
        tv = z.vals;
        kept = holds_more (all_of p) z.vals z.vals xs (holds_all z.vals _ h.long);
        runs = λ xs' q' s' b' n' ws' x' el' le' go'. ht tys inits g z (record {
          has = h.has;
          long = h.long;
          vars = h.vars;
          kept = h.kept;
          arrays =
              h.arrays;
          ends_so = h.ends_so;
        })
            en sc xs' q' s' b' n' ws' x' el' le' go';
      })
      sc b c ws le)

  pub record DepthRuns (n : ℕ) : Type 0 where
    pub bodies : BodyRuns n
    pub turns : TurnRuns code fs (level fs n) n

  pub depth_runs : (n : ℕ) → DepthRuns n
  depth_runs zero = record {
    bodies = λ f fn xs q s frames b c ws e el le. record { j = 0; long = omega arith; by = none_yet 0 _ (here q f xs s frames) ws c (entry_at f fn e) };
    turns = λ tys inits g z h en sc xs q s b c ws x ha le go.
        record { j = 1; long = omega arith; by = go.by 0 ∙ ap tick (none_yet z.at _ (here q z.fn (z.vals ++ xs) s z.frames) ws c h.has.0) };
  }
  depth_runs (suc n) = let r = depth_runs n in record { bodies = body_step n r.bodies r.turns; turns = turn_step n r.bodies r.turns }
