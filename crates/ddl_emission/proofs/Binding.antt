-- The forms `bind` and `inside`.
use Rattle.std.proofs.Common.{◌≡◌, ℕ, ◌+◌, List, [], ◌∷◌, ◌++◌, Bool, true, false, Option, Some, None, refl, ap, ◌∙◌, subst, arith, append_assoc}
use Rattle.ddl_base.specs.declared.span.Span.{Span}
use Rattle.ddl_types.specs.Types.{Ty}
use Rattle.ddl_types.specs.Value.{Value, Stream}
use Rattle.ddl_types.specs.Outcome.{End, ends}
use Rattle.ddl_types.specs.Joining.{Bind}
use Rattle.ddl_ops.specs.Valued.{then_parse}
use Rattle.ddl_core.specs.Core.{Operation, Form, Function, perform, bind, inside}
use Rattle.ddl_core.specs.Operations.{performed}
use Rattle.ddl_core.specs.Meaning.{Current, outside, Lower, core, all_at, listed}
use Rattle.ddl_blocks.specs.Code.{of_type}
use Rattle.ddl_blocks.specs.Failing.{may_fail, faults_of}
use Rattle.ddl_blocks.proofs.Allowed.{allowed}
use Rattle.ddl_emission.specs.Growing.{result_grows, first_grows, grown_type}
use Rattle.ddl_emission.specs.Lone.{Lone, lone, several, lone_of}
use Rattle.ddl_emission.specs.Scope.{IsScoped}
use Rattle.ddl_emission.specs.Pieces.{Piece, bound_as, bound, before, opened_in, entry_of, stops, stop_count, stop_targets}
use Rattle.ddl_emission.specs.Sizes.{before_rest, size}
use Rattle.ddl_emission.specs.Emission.{built_first, bind_piece, emit}
use Rattle.ddl_emission.proofs.Arrays.{IsArray, result_array}
use Rattle.ddl_emission.proofs.Runs.{Blocks, lead, stays, bind_runs}
use Rattle.ddl_emission.proofs.Picks.{holds_more, holds_all, holds_cons, longer}
use Rattle.ddl_emission.proofs.Lengths.{has_front, has_back, length-emit, length-stops}
use Rattle.ddl_emission.proofs.Steps.{here, goes_to, with_block, parses_is, runs_as}
use Rattle.ddl_emission.proofs.Context.{Site, site_at, all_here, Follows, Simulates, Top, goes_out, top_more}
use Rattle.ddl_emission.proofs.Doing.{after_prim, bound_is, built_runs, fails_there, stop_named}

module _ (code : Blocks) (fs : List Function) (lower : Lower) (d : ℕ) where
  abbrev pub bound_at : Lone → Ty → Form → Form → Site → Piece
  bound_at x ty g k z =
      let b = first_grows x k in
      bind_piece x b z.place ty z.at (emit g (before z.place ty z.at) (z.at + 1))
      (emit k (bound_as b (built_first x z.place) ty) (z.at + before_rest x (size g)))

  -- after an operation
  pub bind_lone : (ty : Ty) (op : Operation) (xs : List ℕ) (span : Span) (k : Form) → Simulates code fs lower d k
      → Follows code fs lower d (bind ty (perform op xs span) k) (bound_at (lone op xs span) ty (perform op xs span) k)
  bind_lone ty op xs span k simk cur L z q s h t sc b n ws le =
      let K = goes_out code fs lower d z in
      let c = result_grows op xs k in
      let p = z.place in
      let p1 = built_first (lone op xs span) p in
      let to = z.at + stop_count op in
      let pk = emit k (bound_as c p1 ty) to in
      let hs = has_front code z.fn z.at (stops op p1.types span) pk.more h.has in
      let hk = has_back code z.fn z.at to (stops op p1.types span) pk.more (ap (λ i. z.at + i) (length-stops op p1.types span)) h.has in
      let vs = (all_here z xs h.arrays sc.0).all in
      let o = performed op (listed vs.values) span s in
      let kk = λ (v : Value) (s' : Stream). core lower k cur (v ∷ z.env) s' in
      runs_as code K b n 8 (d + 1) (Bind (then_parse (all_at z.env xs) (λ l. performed op (listed l) span s)) kk) (after_prim o kk (ends End)) _ ws
      (ap (λ x. Bind x kk) (parses_is code (all_at z.env xs) vs.values (λ l. performed op (listed l) span s) vs.are)
      ∙ bound_is (may_fail op) (faults_of op) span o kk (allowed op (listed vs.values) span s))
      (built_runs code fs lower d (λ v. c ≡ true → IsArray v) op (grown_type c ty) xs span (bound_at (lone op xs span) ty (perform op xs span) k z) z q s
      (stop_targets op z.at) pk.body pk.exit kk (ends End) b n ws h sc.0 vs
      (result_array op xs k (listed vs.values) span s)
      (λ vals built v s' g. lead code K b 0 n n 0 6 (d + 1) (d + 1) (kk v s') _ _ ws (stays code _) (omega arith) (omega arith) (omega arith)
      (simk cur L (site_at z to (bound_as c p1 ty) (vals ++ v ∷ []) (v ∷ z.env)) q s'
      (record {
        has = hk;
        long = longer vals p1.types v (grown_type c ty) built.long;
        vars = holds_cons p.variables vals z.env _ v built.long built.vars;
        kept = holds_more p.out.keep vals z.kv (v ∷ []) built.kept;
        arrays = (g, h.arrays);
        ends_so = h.ends_so;
      })
      (top_more code fs lower d cur L z _ (built.more ++ v ∷ []) refl refl refl refl refl (ap (λ l. l ++ v ∷ []) built.are
      ∙ append_assoc z.vals built.more (v ∷ [])) t) sc.1 b n ws le))
      (λ vals built. fails_there code fs lower d op p1.types span z vals q s z.at hs b n ws)
      (λ f l. stop_named code z.fn z.at op p1.types span f hs l))

  pub bind_several : (ty : Ty) (g k : Form) → first_grows (lone_of g) k ≡ false → Simulates code fs lower d g → Simulates code fs lower d k
      → Follows code fs lower d (bind ty g k) (bound_at several ty g k)
  bind_several ty g k plain simg simk cur L z q s h t sc b n ws le =
      let at = z.at in
      let p = z.place in
      let to = z.at + (1 + size g) in
      let pg = emit g (before p ty at) (at + 1) in
      let pk = emit k (bound p ty) to in
      let hg = has_front code z.fn (at + 1) pg.more pk.more h.has.1 in
      let hk = has_back code z.fn (at + 1) to pg.more pk.more (omega (arith, length-emit g (before p ty at) (at + 1))) h.has.1 in
      bind_runs code (goes_to code z.fn at z.vals z.frames) (goes_out code fs lower d z) b n 0 (d + 1) (d + 1) (core lower g outside z.env s) (λ v s'.
      core lower k cur (v ∷ z.env) s') _ ws le (omega arith)
      (λ q' v s' ws' n' le'. with_block code (goes_out code fs lower d z) b n' 0 (d + 1) at (entry_of (p.types ++ of_type ty ∷ []) pk)
      (core lower k cur (v ∷ z.env) s') (here q' z.fn (z.vals ++ v ∷ []) s' z.frames) ws' ws' h.has.0
      (simk cur L (site_at z to (bound p ty) (z.vals ++ v ∷ []) (v ∷ z.env)) q' s'
      (record {
        has = hk;
        long = longer z.vals p.types v (of_type ty) h.long;
        vars = holds_cons p.variables z.vals z.env _ v h.long h.vars;
        kept = holds_more p.out.keep z.vals z.kv (v ∷ []) h.kept;
        arrays = (λ e. absurd (cc), h.arrays);
        ends_so = h.ends_so;
      })
      (top_more code fs lower d cur L z _ (v ∷ []) refl refl refl refl refl refl t) (subst (λ c. IsScoped fs L (c ∷ p.grow) k) plain sc.1) b n' ws' le'))
      (simg outside None (record { fn = z.fn; at = at + 1; place = before p ty at; vals = z.vals; env = z.env; kv = z.vals; frames = z.frames }) q s
      (record { has = hg; long = h.long; vars = h.vars; kept = holds_all z.vals _ h.long; arrays = h.arrays; ends_so = λ e. absurd (cc) }) tt sc.0 b n ws le)

  pub bind_form : (ty : Ty) (g k : Form) → Simulates code fs lower d g → Simulates code fs lower d k → Simulates code fs lower d (bind ty g k)
  bind_form ty (perform op xs span) k simg simk = bind_lone ty op xs span k simk
  bind_form ty g k simg simk = bind_several ty g k refl simg simk

  pub inside_form : (name : ℕ) (g : Form) → Simulates code fs lower d g → Simulates code fs lower d (inside name g)
  inside_form name g simg cur L z q s h t sc b n ws le =
      simg cur L (site_at z z.at (opened_in z.place name) z.vals z.env) q s
      (record { has = h.has; long = h.long; vars = h.vars; kept = h.kept; arrays = h.arrays; ends_so = h.ends_so }) (same_top cur L z name t) sc b n ws le
    where
      same_top : (cur : Current) (L : Option (List Bool)) (z : Site) (name : ℕ) → Top code fs lower d cur L z
          → Top code fs lower d cur L (site_at z z.at (opened_in z.place name) z.vals z.env)
      same_top cur None z name t = tt
      same_top cur (Some u) z name t = record { tv = t.tv; kept = t.kept; runs = t.runs }
