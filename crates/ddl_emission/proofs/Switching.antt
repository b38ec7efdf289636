-- The form `case_`.
use Rattle.std.proofs.Common.{Bool, true, false, ◌≡◌, ℕ, zero, suc, ◌+◌, ◌<◌, ◌≤◌, List, [], ◌∷◌, ◌++◌, length, Option, Some, None, refl, sym, ap, ◌∙◌, subst}
use Rattle.std.proofs.Common.{arith}
use Rattle.std.proofs.Common.{append_assoc}
use Rattle.std.specs.Prelude.{slice_get, slice_index}
use Rattle.ddl_types.specs.Types.{Ty}
use Rattle.ddl_types.specs.Value.{Value, Stream, unit}
use Rattle.ddl_types.specs.Outcome.{Outcome, Stuck, ends, tick}
use Rattle.ddl_ops.specs.declared.pattern.Pattern.{Pattern}
use Rattle.ddl_ops.specs.Valued.{given, then_parse}
use Rattle.ddl_ops.specs.Patterns.{Matched, has_it, has_another, has_none, matched, outcome_at}
use Rattle.ddl_core.specs.Core.{Form, Alternatives, Function, case_, none_left, when}
use Rattle.ddl_core.specs.Meaning.{Current, Lower, core_case}
use Rattle.ddl_core.specs.Meaning as core
use Rattle.ddl_blocks.specs.Code.{of_type, Block, Instr, content, choose, Exit, switch_to}
use Rattle.ddl_blocks.specs.State.{Thread, Waiting, State, live, Stepped, on}
use Rattle.ddl_blocks.specs.Machine.{with_given, enter, number_in, number_value, one_more, choice_at, choice_of, met, step}
use Rattle.ddl_blocks.specs.OperationTypes.{count}
use Rattle.ddl_emission.specs.Pieces.{Place, next_of, wider, bound, Piece, entry_of}
use Rattle.ddl_emission.specs.Sizes.{if_left, size}
use Rattle.ddl_emission.specs.Emission.{patterns, case_blocks, answered, case_piece, emit, emit_cases, emit_chain}
use Rattle.ddl_emission.specs.Scope.{IsScoped, AreScoped}
use Rattle.ddl_emission.proofs.Arrays.{arrays_length}
use Rattle.ddl_emission.proofs.Runs.{Blocks, goes, Leads, Runs, lead, stays, leads_on}
use Rattle.ddl_emission.proofs.Picks.{append-none, holds_more, holds_cons, holds_one, value_at, holds_var, there, longer}
use Rattle.ddl_emission.proofs.Lengths.{HasAt, has_front, has_back, length-emit}
use Rattle.ddl_emission.proofs.Steps.{here, one, with_block, at_block, given_is, parse_is, runs_as}
use Rattle.ddl_emission.proofs.Context.{Site, site_at, Follows, StandsAt, Top, Simulates, SimulatesAll, goes_out, top_more}

-- the block that a choice leads to
abbrev pub block_for : Option ℕ → List ℕ → Option ℕ
block_for None bs = None
block_for (Some k) bs = slice_get bs k

block_later : (o : Option ℕ) (a : ℕ) (bs : List ℕ) → block_for (one_more o) (a ∷ bs) ≡ block_for o bs
block_later None a bs = refl
block_later (Some k) a bs = refl

-- it stays where it is
more_at : (a : List Value) (i : ℕ) (v : Value) (b : List Value) → slice_get a i ≡ Some v → slice_get (a ++ b) i ≡ Some v
more_at [] i v b e = absurd (cc)
more_at (x ∷ a) zero v b e = e
more_at (x ∷ a) (suc i) v b e = more_at a i v b e

-- a piece without blocks
abbrev pub no_piece : Piece
no_piece = record { body = []; exit = switch_to 0 []; more = [] }

module _ (code : Blocks) (fs : List Function) (lower : Lower) (d : ℕ) where
  -- ---- by a table

  -- the values after the answer, and a form's place there
  abbrev pub chosen : Site → Value → List Value
  chosen z c = z.vals ++ c ∷ []

  abbrev pub table_place : Site → Place
  table_place z = wider z.place (of_type count)

  -- an alternative begins with its content
  content_leads : (is : List Instr) (e : Exit) (z : Site) (q : ℕ) (s : Stream) (i : ℕ) (p : Pattern) (ty : Ty) (other : ℕ) (v c w : Value) (ws : List Waiting)
      (n : ℕ)
      → slice_get z.vals i ≡ Some v → matched p v ≡ has_it w
      → Leads code 1 (on (live (content i p ty other ∷ is) e (here q z.fn (chosen z c) s z.frames) ws n))
      (on (live is e (here q z.fn (chosen z c ++ w ∷ []) s z.frames) ws n))
  content_leads is e z q s i p ty other v c w ws n ev em =
      let hh = here q z.fn (chosen z c) s z.frames in
      one code _ _ (given_is code (slice_get (chosen z c) i) v (λ x. met code (matched p x) other is e hh ws n) (more_at z.vals i v (c ∷ []) ev)
      ∙ ap (λ m. met code m other is e hh ws n) em)

  -- the blocks of an alternative that begins at a place
  abbrev pub alternative_at : Site → Pattern → Ty → Form → ℕ → ℕ → ℕ → List Block
  alternative_at z p ty g i ob at =
      let pg = emit g (bound (table_place z) ty) (at + 1) in
      record { params = (table_place z).types; body = content i p ty ob ∷ pg.body; exit = pg.exit } ∷ pg.more

  -- what an alternative has to do: its choice was made, and it begins at a place
  alternative_runs : (mm : Matched) (p : Pattern) (ty : Ty) (g : Form) (later : Option ℕ) (bs : List ℕ) (rest : Outcome) → Simulates code fs lower d g
      → (cur : Current) (L : Option (List Bool)) (z : Site) (ob at q : ℕ) (s : Stream) (i : ℕ) (v c : Value) (x : Stepped) (b n : ℕ) (ws : List Waiting)
      → (h : StandsAt code fs lower d no_piece z) → HasAt code z.fn at (alternative_at z p ty g i ob at)
      → Top code fs lower d cur L z → IsScoped fs L (false ∷ z.place.grow) g → slice_get z.vals i ≡ Some v → b ≤ n → matched p v ≡ mm
      → ((to : ℕ) → block_for (choice_at mm later) (at ∷ bs) ≡ Some to → Leads code 2 x (enter code to (here q z.fn (chosen z c) s z.frames) ws n))
      → (choice_at mm later ≡ None → goes code 1 x ≡ tick (ends Stuck))
      → (((to : ℕ) → block_for later bs ≡ Some to → Leads code 2 x (enter code to (here q z.fn (chosen z c) s z.frames) ws n))
      → (later ≡ None → goes code 1 x ≡ tick (ends Stuck))
      → Runs code (goes_out code fs lower d z) b n 8 (d + 1) rest x ws)
      → Runs code (goes_out code fs lower d z) b n 8 (d + 1) (outcome_at mm (λ w. core.core lower g cur (w ∷ z.env) s) rest) x ws
  alternative_runs (has_it w) p ty g later bs rest simg cur L z ob at q s i v c x b n ws h has t sc ev le em go lost hr =
      let K = goes_out code fs lower d z in
      let p1 = table_place z in
      let pg = emit g (bound p1 ty) (at + 1) in
      let e1 : length (chosen z c) ≡ length p1.types = longer z.vals z.place.types c (of_type count) h.long in
      let y : Site = site_at z (at + 1) (bound p1 ty) (chosen z c ++ w ∷ []) (w ∷ z.env) in
      lead code K b 3 n n 0 8 (d + 1) (d + 1) (core.core lower g cur (w ∷ z.env) s) x _ ws
      (leads_on code 2 1 x _ _ (at_block code 2 at (record { params = p1.types; body = content i p ty ob ∷ pg.body; exit = pg.exit }) x
      (here q z.fn (chosen z c) s z.frames) ws n has.0 (go at refl))
      (content_leads pg.body pg.exit z q s i p ty ob v c w ws n ev em))
      (omega arith) (omega arith) (omega arith)
      (simg cur L y q s
      (record {
        has = has.1;
        long = longer (chosen z c) p1.types w (of_type ty) e1;
        vars = holds_cons z.place.variables (chosen z c) z.env _ w e1 (holds_more z.place.variables z.vals z.env (c ∷ []) h.vars);
        kept = holds_more z.place.out.keep (chosen z c) z.kv (w ∷ []) (holds_more z.place.out.keep z.vals z.kv (c ∷ []) h.kept);
        arrays = (λ e. absurd (cc), h.arrays);
        ends_so = h.ends_so;
      })
      (top_more code fs lower d cur L z y (c ∷ w ∷ []) refl refl refl refl refl (append_assoc z.vals (c ∷ []) (w ∷ [])) t) sc b n ws le)
  alternative_runs has_another p ty g later bs rest simg cur L z ob at q s i v c x b n ws h has t sc ev le em go lost hr =
      hr (λ to e. go to (block_later later at bs ∙ e)) (λ e. lost (ap one_more e))
  alternative_runs has_none p ty g later bs rest simg cur L z ob at q s i v c x b n ws h has t sc ev le em go lost hr =
      record { j = 1; fits = omega arith; by = lost refl }

  -- the alternatives, which begin at a place, and the other form
  cases_run : (as_ : Alternatives) → SimulatesAll code fs lower d as_
      → (other : Outcome) (cur : Current) (L : Option (List Bool)) (z : Site) (at ob q : ℕ) (s : Stream) (i : ℕ) (v c : Value) (x : Stepped) (b n : ℕ)
      (ws : List Waiting)
      → (h : StandsAt code fs lower d no_piece z)
      → HasAt code z.fn at (emit_cases as_ i (table_place z) ob at)
      → Top code fs lower d cur L z → AreScoped fs L z.place.grow as_ → slice_get z.vals i ≡ Some v → b ≤ n
      → ((to : ℕ) → block_for (choice_of (patterns as_) v) (case_blocks as_ ob at) ≡ Some to
      → Leads code 2 x (enter code to (here q z.fn (chosen z c) s z.frames) ws n))
      → (choice_of (patterns as_) v ≡ None → goes code 1 x ≡ tick (ends Stuck))
      → Runs code (goes_out code fs lower d z) b n 0 (d + 1) other (enter code ob (here q z.fn (chosen z c) s z.frames) ws n) ws
      → Runs code (goes_out code fs lower d z) b n 8 (d + 1) (core_case lower as_ v cur z.env s other) x ws
  cases_run none_left sims other cur L z at ob q s i v c x b n ws h has t sc ev le go lost ho =
      lead code (goes_out code fs lower d z) b 2 n n 0 8 (d + 1) (d + 1) other x _ ws (go ob refl) (omega arith) (omega arith) (omega arith) ho
  cases_run (when p ty g as_) sims other cur L z at ob q s i v c x b n ws h has t sc ev le go lost ho =
      let p1 = table_place z in
      let pg = emit g (bound p1 ty) (at + 1) in
      let to = at + 1 + size g in
      let rest = emit_cases as_ i p1 ob to in
      alternative_runs (matched p v) p ty g (choice_of (patterns as_) v) (case_blocks as_ ob to) (core_case lower as_ v cur z.env s other) sims.0 cur L z ob at
      q s i v c x b n ws h
      (has.0, has_front code z.fn (at + 1) pg.more rest has.1) t sc.0 ev le refl go lost
      (λ go' lost'. cases_run as_ sims.1 other cur L z to ob q s i v c x b n ws h
      (has_back code z.fn (at + 1) to pg.more rest (ap (λ j. at + 1 + j) (length-emit g (bound p1 ty) (at + 1))) has.1)
      t sc.1 ev le go' lost' ho)

  abbrev pub case_at : Bool → ℕ → Alternatives → Form → Site → Piece
  case_at t x as_ other z =
      let i = slice_index z.place.variables x in
      let to = z.at + 1 + size other in
      case_piece t i as_ z.place z.at to (emit other (answered t z.place) (z.at + 1)) (emit_chain as_ i z.place z.at to)
      (emit_cases as_ i (table_place z) z.at to)

  -- the choice, and where it leads
  by_choice : (o : Option ℕ) (x : ℕ) (as_ : Alternatives) (other : Form) → SimulatesAll code fs lower d as_ → Simulates code fs lower d other
      → (cur : Current) (L : Option (List Bool)) (z : Site) (q : ℕ) (s : Stream) (v : Value)
      → StandsAt code fs lower d (case_at false x as_ other z) z → Top code fs lower d cur L z → AreScoped fs L z.place.grow as_
      → IsScoped fs L z.place.grow other
      → slice_get z.vals (slice_index z.place.variables x) ≡ Some v → (b n : ℕ) (ws : List Waiting) → b ≤ n
      → choice_of (patterns as_) v ≡ o
      → Runs code (goes_out code fs lower d z) b n 8 (d + 1) (core_case lower as_ v cur z.env s (core.core lower other cur z.env s))
      (on (live (choose (slice_index z.place.variables x) (patterns as_) ∷ []) (switch_to (next_of z.place) (case_blocks as_ z.at (z.at + 1 + size other)))
      (here q z.fn z.vals s z.frames) ws n)) ws
  by_choice o x as_ other sims simo cur L z q s v h t sc so ev b n ws le eo = answers o eo
    where
      i : ℕ
      i = slice_index z.place.variables x

      to : ℕ
      to = z.at + 1 + size other

      bs : List ℕ
      bs = case_blocks as_ z.at to

      p1 : Place
      p1 = table_place z

      x0 : State
      x0 = live (choose i (patterns as_) ∷ []) (switch_to (next_of z.place) bs) (here q z.fn z.vals s z.frames) ws n

      po : Piece
      po = emit other p1 (z.at + 1)

      rest : List Block
      rest = emit_cases as_ i p1 z.at to

      others_run : (c : Value) → Runs code (goes_out code fs lower d z) b n 0 (d + 1) (core.core lower other cur z.env s)
          (enter code z.at (here q z.fn (chosen z c) s z.frames) ws n) ws
      others_run c = with_block code (goes_out code fs lower d z) b n 0 (d + 1) z.at (entry_of p1.types po) (core.core lower other cur z.env s)
          (here q z.fn (chosen z c) s z.frames) ws ws h.has.0
          (simo cur L (site_at z (z.at + 1) p1 (chosen z c) z.env) q s
          (record {
            has = has_front code z.fn (z.at + 1) po.more rest h.has.1;
            long = longer z.vals z.place.types c (of_type count) h.long;
            vars = holds_more z.place.variables z.vals z.env (c ∷ []) h.vars;
            kept = holds_more z.place.out.keep z.vals z.kv (c ∷ []) h.kept;
            arrays = h.arrays;
            ends_so = h.ends_so;
          })
          (top_more code fs lower d cur L z _ (c ∷ []) refl refl refl refl refl refl t) so b n ws le)

      all : (c : Value)
          → ((k : ℕ) → block_for (choice_of (patterns as_) v) bs ≡ Some k → Leads code 2 (on x0) (enter code k (here q z.fn (chosen z c) s z.frames) ws n))
          → (choice_of (patterns as_) v ≡ None → goes code 1 (on x0) ≡ tick (ends Stuck))
          → Runs code (goes_out code fs lower d z) b n 8 (d + 1) (core_case lower as_ v cur z.env s (core.core lower other cur z.env s)) (on x0) ws
      all c go lost = cases_run as_ sims (core.core lower other cur z.env s) cur L z to z.at q s i v c (on x0) b n ws
          (record { has = tt; long = h.long; vars = h.vars; kept = h.kept; arrays = h.arrays; ends_so = h.ends_so })
          (has_back code z.fn (z.at + 1) to po.more rest (ap (λ j. z.at + 1 + j) (length-emit other p1 (z.at + 1))) h.has.1) t sc ev le go lost (others_run c)

      switches : ℕ → Stepped
      switches k = on (live [] (switch_to (next_of z.place) bs) (here q z.fn (chosen z (number_value k)) s z.frames) ws n)

      first : (m : Option ℕ) → choice_of (patterns as_) v ≡ m → step code x0 ≡ with_given m switches
      first m e = given_is code (slice_get z.vals i) v (λ y. with_given (choice_of (patterns as_) y) switches) ev ∙ ap (λ y. with_given y switches) e

      answers : (m : Option ℕ) → choice_of (patterns as_) v ≡ m
          → Runs code (goes_out code fs lower d z) b n 8 (d + 1) (core_case lower as_ v cur z.env s (core.core lower other cur z.env s)) (on x0) ws
      answers None e = all unit
          (λ k f. let g : None ≡ Some k = ap (λ y. block_for y bs) (sym e) ∙ f in absurd (cc))
          (λ f. ap (λ y. tick (goes code 0 y)) (first None e))
      answers (Some k) e = all c
          (λ k' f. leads_on code 1 1 (on x0) (switches k) _ (one code x0 (switches k) (first (Some k) e))
          (one code _ _ (given_is code (slice_get (chosen z c) (next_of z.place)) c (λ y.
          with_given (number_in y) (λ j. with_given (slice_get bs j) (λ l. enter code l (here q z.fn (chosen z c) s z.frames) ws n)))
          (value_at (chosen z c) (next_of z.place) c (holds_one z.vals _ c h.long))
          ∙ given_is code (slice_get bs k) k' (λ l. enter code l (here q z.fn (chosen z c) s z.frames) ws n) (ap (λ y. block_for y bs) (sym e) ∙ f))))
          (λ f. let g : Some k ≡ None = sym e ∙ f in absurd (cc))
        where
          c : Value
          c = number_value k

  pub case_table : (x : ℕ) (as_ : Alternatives) (other : Form) → SimulatesAll code fs lower d as_ → Simulates code fs lower d other
      → Follows code fs lower d (case_ x as_ other) (case_at false x as_ other)
  case_table x as_ other sims simo cur L z q s h t sc b n ws le =
      let le1 : x < length z.env = subst (λ k. x < k) (arrays_length z.place.grow z.env h.arrays) sc.0 in
      let v = there z.env x le1 in
      let oo = core.core lower other cur z.env s in
      runs_as code (goes_out code fs lower d z) b n 8 (d + 1) (then_parse (given (core.at z.env x)) (λ y. core_case lower as_ y cur z.env s oo))
      (core_case lower as_ v.0 cur z.env s oo) _ ws
      (parse_is code (core.at z.env x) v.0 (λ y. core_case lower as_ y cur z.env s oo) v.1)
      (by_choice (choice_of (patterns as_) v.0) x as_ other sims simo cur L z q s v.0 h t sc.1 sc.2 (holds_var z.place.variables z.vals z.env x h.vars le1
      ∙ v.1) b n ws le refl)

  -- ---- one after the other

  -- a test, and the rest where the value has another pattern
  test_runs : (mm : Matched) (p : Pattern) (ty : Ty) (is : List Instr) (e : Exit) (to a : ℕ) (z : Site) (q : ℕ) (s : Stream) (i : ℕ) (v : Value) (k : Value
      → Outcome) (rest : Outcome) (b n : ℕ) (ws : List Waiting)
      → slice_get z.vals i ≡ Some v → matched p v ≡ mm
      → ((w : Value) → Runs code (goes_out code fs lower d z) b n 0 (d + 1) (k w) (on (live is e (here q z.fn (z.vals ++ w ∷ []) s z.frames) ws n)) ws)
      → Runs code (goes_out code fs lower d z) b n a (d + 1) rest (enter code to (here q z.fn z.vals s z.frames) ws n) ws
      → Runs code (goes_out code fs lower d z) b n (suc a) (d + 1) (outcome_at mm k rest)
      (on (live (content i p ty to ∷ is) e (here q z.fn z.vals s z.frames) ws n)) ws
  test_runs mm p ty is e to a z q s i v k rest b n ws ev em hk hr =
      found mm (given_is code (slice_get z.vals i) v (λ x. met code (matched p x) to is e hh ws n) ev ∙ ap (λ m. met code m to is e hh ws n) em)
    where
      hh : Thread
      hh = here q z.fn z.vals s z.frames

      x0 : State
      x0 = live (content i p ty to ∷ is) e hh ws n

      found : (m : Matched) → step code x0 ≡ met code m to is e hh ws n
          → Runs code (goes_out code fs lower d z) b n (suc a) (d + 1) (outcome_at m k rest) (on x0) ws
      found (has_it w) by = lead code (goes_out code fs lower d z) b 1 n n 0 (suc a) (d + 1) (d + 1) (k w) (on x0) _ ws
          (one code x0 (on (live is e (here q z.fn (z.vals ++ w ∷ []) s z.frames) ws n)) by) (omega arith) (omega arith) (omega arith) (hk w)
      found has_another by = lead code (goes_out code fs lower d z) b 1 n n a (suc a) (d + 1) (d + 1) rest (on x0) _ ws (one code x0 (enter code to hh ws n) by)
          (omega arith) (omega arith) (omega arith) hr
      found has_none by = record { j = 1; fits = omega arith; by = ap (λ y. tick (goes code 0 y)) by }

  abbrev pub how_many : Alternatives → ℕ
  how_many none_left = 0
  how_many (when p ty g as_) = suc (how_many as_)

  -- the blocks of the tests that are left
  abbrev pub left_at : Site → Alternatives → ℕ → ℕ → ℕ → List Block
  left_at z as_ i ob at =
      let pr = emit_chain as_ i z.place ob (at + 1) in
      if_left as_ (entry_of z.place.types pr ∷ pr.more) []

  -- the first test of a chain
  chain_runs : (p : Pattern) (ty : Ty) (g : Form) (as_ : Alternatives) → SimulatesAll code fs lower d (when p ty g as_)
      → (other : Outcome) (cur : Current) (L : Option (List Bool)) (z : Site) (ob at q : ℕ) (s : Stream) (i : ℕ) (v : Value) (b n : ℕ) (ws : List Waiting)
      → StandsAt code fs lower d no_piece z
      → HasAt code z.fn at (emit_chain (when p ty g as_) i z.place ob at).more
      → Top code fs lower d cur L z → AreScoped fs L z.place.grow (when p ty g as_) → slice_get z.vals i ≡ Some v → b ≤ n
      → (HasAt code z.fn (at + size g) (left_at z as_ i ob (at + size g))
      → Runs code (goes_out code fs lower d z) b n (how_many as_) (d + 1) (core_case lower as_ v cur z.env s other)
      (enter code (if_left as_ (at + size g) ob) (here q z.fn z.vals s z.frames) ws n) ws)
      → Runs code (goes_out code fs lower d z) b n (suc (how_many as_)) (d + 1) (core_case lower (when p ty g as_) v cur z.env s other)
      (on (live (emit_chain (when p ty g as_) i z.place ob at).body (emit_chain (when p ty g as_) i z.place ob at).exit (here q z.fn z.vals s z.frames) ws n))
      ws
  chain_runs p ty g as_ sims other cur L z ob at q s i v b n ws h has t sc ev le hr =
      let p1 = z.place in
      let pg = emit g (bound p1 ty) at in
      let left = left_at z as_ i ob (at + size g) in
      let hb = has_back code z.fn at (at + size g) pg.more left (ap (λ j. at + j) (length-emit g (bound p1 ty) at)) has in
      test_runs (matched p v) p ty pg.body pg.exit (if_left as_ (at + size g) ob) (how_many as_) z q s i v (λ w. core.core lower g cur (w ∷ z.env) s)
      (core_case lower as_ v cur z.env s other) b n ws ev refl
      (λ w. sims.0 cur L (site_at z at (bound p1 ty) (z.vals ++ w ∷ []) (w ∷ z.env)) q s
      (record {
        has = has_front code z.fn at pg.more left has;
        long = longer z.vals p1.types w (of_type ty) h.long;
        vars = holds_cons p1.variables z.vals z.env _ w h.long h.vars;
        kept = holds_more p1.out.keep z.vals z.kv (w ∷ []) h.kept;
        arrays = (λ e. absurd (cc), h.arrays);
        ends_so = h.ends_so;
      })
      (top_more code fs lower d cur L z _ (w ∷ []) refl refl refl refl refl refl t) sc.0 b n ws le)
      (hr hb)

  -- the rest of a chain, from its block on
  rest_runs : (as_ : Alternatives) → SimulatesAll code fs lower d as_
      → (other : Outcome) (cur : Current) (L : Option (List Bool)) (z : Site) (ob at q : ℕ) (s : Stream) (i : ℕ) (v : Value) (b n : ℕ) (ws : List Waiting)
      → StandsAt code fs lower d no_piece z
      → HasAt code z.fn at (left_at z as_ i ob at)
      → Top code fs lower d cur L z → AreScoped fs L z.place.grow as_ → slice_get z.vals i ≡ Some v → b ≤ n
      → Runs code (goes_out code fs lower d z) b n 0 (d + 1) other (enter code ob (here q z.fn z.vals s z.frames) ws n) ws
      → Runs code (goes_out code fs lower d z) b n (how_many as_) (d + 1) (core_case lower as_ v cur z.env s other)
      (enter code (if_left as_ at ob) (here q z.fn z.vals s z.frames) ws n) ws
  rest_runs none_left sims other cur L z ob at q s i v b n ws h has t sc ev le ho = ho
  rest_runs (when p ty g as_) sims other cur L z ob at q s i v b n ws h has t sc ev le ho =
      with_block code (goes_out code fs lower d z) b n (suc (how_many as_)) (d + 1) at
      (entry_of z.place.types (emit_chain (when p ty g as_) i z.place ob (at + 1))) (core_case lower (when p ty g as_) v cur z.env s other)
      (here q z.fn z.vals s z.frames) ws ws has.0
      (chain_runs p ty g as_ sims other cur L z ob (at + 1) q s i v b n ws h has.1 t sc ev le
      (λ hb. rest_runs as_ sims.1 other cur L z ob (at + 1 + size g) q s i v b n ws h hb t sc.1 ev le ho))

  pub case_chain : (x : ℕ) (p : Pattern) (ty : Ty) (g : Form) (as_ : Alternatives) (other : Form) → suc (how_many as_) ≤ 8
      → SimulatesAll code fs lower d (when p ty g as_) → Simulates code fs lower d other
      → Follows code fs lower d (case_ x (when p ty g as_) other) (case_at true x (when p ty g as_) other)
  case_chain x p ty g as_ other short sims simo cur L z q s h t sc b n ws le =
      let le1 : x < length z.env = subst (λ k. x < k) (arrays_length z.place.grow z.env h.arrays) sc.0 in
      let v = there z.env x le1 in
      let i = slice_index z.place.variables x in
      let K = goes_out code fs lower d z in
      let all = when p ty g as_ in
      let to = z.at + 1 + size other in
      let ev = holds_var z.place.variables z.vals z.env x h.vars le1 ∙ v.1 in
      let oo = core.core lower other cur z.env s in
      let po = emit other z.place (z.at + 1) in
      let pc = emit_chain all i z.place z.at to in
      let here_too : StandsAt code fs lower d no_piece z = record {
        has = tt;
        long = h.long;
        vars = h.vars;
        kept = h.kept;
        arrays = h.arrays;
        ends_so =
            h.ends_so;
      } in
      runs_as code K b n 8 (d + 1) (then_parse (given (core.at z.env x)) (λ y. core_case lower all y cur z.env s oo)) (core_case lower all v.0 cur z.env s oo) _
      ws
      (parse_is code (core.at z.env x) v.0 (λ y. core_case lower all y cur z.env s oo) v.1)
      (lead code K b 0 n n (suc (how_many as_)) 8 (d + 1) (d + 1) (core_case lower all v.0 cur z.env s oo) _ _ ws (stays code _) (omega arith)
      (omega (arith, short)) (omega arith)
      (chain_runs p ty g as_ sims oo cur L z z.at to q s i v.0 b n ws here_too
      (has_back code z.fn (z.at + 1) to po.more pc.more (ap (λ j. z.at + 1 + j) (length-emit other z.place (z.at + 1))) h.has.1)
      t sc.1 ev le
      (λ hb. rest_runs as_ sims.1 oo cur L z z.at (to + size g) q s i v.0 b n ws here_too hb t sc.1.1 ev le
      (with_block code K b n 0 (d + 1) z.at (entry_of z.place.types po) oo (here q z.fn z.vals s z.frames) ws ws h.has.0
      (simo cur L (site_at z (z.at + 1) z.place z.vals z.env) q s
      (record {
        has = has_front code z.fn (z.at + 1) po.more pc.more h.has.1;
        long = h.long;
        vars = h.vars;
        kept = h.kept;
        arrays = h.arrays;
        ends_so =
            h.ends_so;
      })
      (top_more code fs lower d cur L z _ [] refl refl refl refl refl (sym (append-none z.vals)) t) sc.2 b n ws le)))))

  pub case_form : (x : ℕ) (as_ : Alternatives) (other : Form) → SimulatesAll code fs lower d as_ → Simulates code fs lower d other
      → Simulates code fs lower d (case_ x as_ other)
  case_form x none_left other sims simo = case_table x none_left other sims simo
  case_form x (when p ty g none_left) other sims simo = case_chain x p ty g none_left other (omega arith) sims simo
  case_form x (when p ty g (when q tz h none_left)) other sims simo = case_chain x p ty g (when q tz h none_left) other (omega arith) sims simo
  case_form x (when p ty g (when q tz h (when r tw k as_))) other sims simo = case_table x (when p ty g (when q tz h (when r tw k as_))) other sims simo
