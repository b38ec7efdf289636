-- The forms without parts: `give`, `none`, `again`, `call`.
use Rattle.std.proofs.Common.{◌≡◌, ℕ, ◌+◌, ◌<◌, List, [], ◌∷◌, ◌++◌, length, Bool, true, false, Some, None, refl, sym, ◌∙◌, subst, arith}
use Rattle.std.specs.Prelude.{slice_get}
use Rattle.ddl_types.specs.Value.{Value, Stream}
use Rattle.ddl_types.specs.Outcome.{parsed}
use Rattle.ddl_types.specs.Joining.{leave}
use Rattle.ddl_ops.specs.Valued.{given, then_parse}
use Rattle.ddl_core.specs.Core.{Function, give, none, again, call}
use Rattle.ddl_core.specs.Meaning.{Lower, next_turn, all_at}
use Rattle.ddl_core.specs.Meaning as core
use Rattle.ddl_blocks.specs.State.{Waiting, live, on}
use Rattle.ddl_blocks.specs.Machine.{picks, with_given, enter, resume}
use Rattle.ddl_emission.specs.Growing.{flag_at}
use Rattle.ddl_emission.specs.Pieces.{renumber, exit_of, next_of, number_of}
use Rattle.ddl_emission.specs.Emission.{giving}
use Rattle.ddl_emission.specs.Scope.{Callable}
use Rattle.ddl_emission.proofs.Arrays.{IsArray, AreArrays, arrays_length}
use Rattle.ddl_emission.proofs.Runs.{Blocks, Runs, lead, leads_on}
use Rattle.ddl_emission.proofs.Picks.{there_array, Holds, holds_now, holds_more, holds_one, value_at, holds_var, there, picks-append}
use Rattle.ddl_emission.proofs.Steps.{here, one, parse_only, build_leads, jumps, given_is, parse_is, parses_is, runs_as}
use Rattle.ddl_emission.proofs.Context.{Site, site_at, Returns, all_here, Simulates, CallRuns, goes_out, exits}

module _ (code : Blocks) (fs : List Function) (lower : Lower) (d : ℕ) where
  give_by : (t : Bool) (x : ℕ) (z : Site) (q : ℕ) (s : Stream) (v : Value) (b n : ℕ) (ws : List Waiting) → length z.vals ≡ length z.place.types
      → Holds z.place.out.keep z.vals z.kv
      → Returns code z.fn z.place.out z.kv → slice_get z.vals (number_of z.place x) ≡ Some v → (t ≡ true → IsArray v)
      → Runs code (goes_out code fs lower d z) b n 8 (d + 1) (parsed v s)
      (on (live (giving t z.place x).body (giving t z.place x).exit (here q z.fn z.vals s z.frames) ws n)) ws
  give_by true i z q s v b n ws el hk hr ev a =
      let w = next_of z.place in
      let y : Site = site_at z z.at z.place (z.vals ++ v ∷ []) z.env in
      let x = exits code fs lower d y w q v s ws n (holds_more z.place.out.keep z.vals z.kv (v ∷ []) hk) hr
      (value_at (z.vals ++ v ∷ []) w v (holds_one z.vals w v el)) in
      parse_only code (goes_out code fs lower d z) b n 8 (d + 1) (1 + x.j) q v s _ ws (omega (arith, x.short))
      (leads_on code 1 x.j _ _ _ (build_leads code [] (exit_of z.place.out w) q z.fn z.vals s z.frames (number_of z.place i) v ws n ev (a refl)) x.leads)
  give_by false i z q s v b n ws el hk hr ev a =
      let x = exits code fs lower d z (number_of z.place i) q v s ws n hk hr ev in
      parse_only code (goes_out code fs lower d z) b n 8 (d + 1) x.j q v s _ ws (omega (arith, x.short)) x.leads

  pub give_runs : (x : ℕ) → Simulates code fs lower d (give x)
  give_runs i cur L z q s h t sc b n ws le =
      let le1 : i < length z.env = subst (λ k. i < k) (arrays_length z.place.grow z.env h.arrays) sc in
      let v = there z.env i le1 in
      runs_as code (goes_out code fs lower d z) b n 8 (d + 1) (then_parse (given (core.at z.env i)) (λ w. parsed w s)) (parsed v.0 s) _ ws
      (parse_is code (core.at z.env i) v.0 (λ w. parsed w s) v.1)
      (give_by (flag_at z.place.grow i) i z q s v.0 b n ws h.long h.kept h.ends_so (holds_var z.place.variables z.vals z.env i h.vars le1
      ∙ v.1) (there_array z.place.grow z.env h.arrays i le1))

  pub none_runs : Simulates code fs lower d none
  none_runs cur L z q s h t sc b n ws le = record { j = 1; n = n; fits = omega arith; above = omega arith; leads = one code _ (resume code ws n) refl }

  pub again_runs : (xs : List ℕ) → Simulates code fs lower d (again xs)
  again_runs args cur None z q s h t sc b n ws le = absurd (sc.1)
  again_runs args cur (Some u) z q s h t sc b n ws le =
      let hs = all_here z args h.arrays sc.0 in
      let xs = hs.all in
      let p = picks-append z.place.top.keep (renumber args z.place.variables) z.vals t.tv xs.values (holds_now z.place.top.keep z.vals t.tv t.kept)
      (xs.picked z.place.variables z.vals h.vars) in
      runs_as code (goes_out code fs lower d z) b n 0 (d + 1) (then_parse (all_at z.env args) (λ l. next_turn lower cur l s)) (next_turn lower cur xs.values s)
      _ ws
      (parses_is code (all_at z.env args) xs.values (λ l. next_turn lower cur l s) xs.are)
      (t.runs xs.values q s b n ws _ (subst (λ bs. AreArrays bs xs.values) sc.1 hs.arrays) le
      (jumps code q z.fn z.place.top.block _ z.vals (t.tv ++ xs.values) s z.frames ws n p))

  pub call_runs : CallRuns code fs lower d → (f : ℕ) (xs : List ℕ) → Simulates code fs lower d (call f xs)
  call_runs hc f args cur L z q s h t sc b n ws le =
      let hs = all_here z args h.arrays sc.0 in
      let xs = hs.all in
      let e1 = xs.picked z.place.variables z.vals h.vars in
      let e2 : picks z.place.out.keep z.vals ≡ Some z.kv = holds_now z.place.out.keep z.vals z.kv h.kept in
      let to = λ (vs ks : List Value). enter code 0 (here q f vs s (record { function = z.fn; block = z.place.out.block; values = ks } ∷ z.frames)) ws n in
      runs_as code (goes_out code fs lower d z) b n 8 (d + 1) (then_parse (all_at z.env args) (λ l. leave (lower.call f l s)))
      (leave (lower.call f xs.values s)) _ ws
      (parses_is code (all_at z.env args) xs.values (λ l. leave (lower.call f l s)) xs.are)
      (lead code (goes_out code fs lower d z) b 1 n n 0 8 d (d + 1) (leave (lower.call f xs.values s)) _ (to xs.values z.kv) ws
      (one code _ (to xs.values z.kv)
      (given_is code (picks (renumber args z.place.variables) z.vals) xs.values (λ vs. with_given (picks z.place.out.keep z.vals) (λ ks. to vs ks)) e1
      ∙ given_is code (picks z.place.out.keep z.vals) z.kv (λ ks. to xs.values ks) e2))
      (omega arith) (omega arith) (omega arith) (hc f xs.values q z.fn z.place.out.block s z.frames z.kv b n ws
      (subst (λ c. Callable fs f c) (sym xs.long) sc.1) le))
