-- What the machine does from a step on, up to where each parse goes on.
use Rattle.std.proofs.Common.{◌≡◌, ℕ, zero, suc, ◌+◌, ◌-◌, ◌<◌, ◌≤◌, List, [], ◌∷◌, ◌++◌, refl, sym, ap, ◌∙◌, subst, true, false, if◌then◌else◌}
use Rattle.std.proofs.Common.{eq-eqb, ne_eqb, arith, append_assoc}
use Rattle.std.specs.Prelude.{nat_eq}
use Rattle.ddl_base.specs.declared.span.Span.{Span}
use Rattle.ddl_base.specs.declared.why.Why.{Why}
use Rattle.ddl_types.specs.Value.{Value, Stream, Source}
use Rattle.ddl_types.specs.Outcome.{Outcome, End, Faulted, Deep, Stuck, ends, tick, miss, parse}
use Rattle.ddl_types.specs.Joining.{Both, Bind, leave}
use Rattle.ddl_core.specs.Attempt.{Attempt}
use Rattle.ddl_blocks.specs.Code.{Function}
use Rattle.ddl_blocks.specs.State.{Waiting, Stepped, and_then}
use Rattle.ddl_blocks.specs.Machine.{resume, enter, flag, mark}
use Rattle.ddl_blocks.specs.Run.{run}

-- the functions of a code
abbrev pub Blocks : Type 0
Blocks = List Function

-- what follows a step, with a budget
abbrev pub goes : Blocks → ℕ → Stepped → Outcome
goes code k x = and_then x (run code k)

-- so many ticks before an outcome
abbrev pub ticks_before : ℕ → Outcome → Outcome
ticks_before zero o = o
ticks_before (suc c) o = tick (ticks_before c o)

-- all numbers are b or more
abbrev pub Fresh : ℕ → List Waiting → Type 0
Fresh b [] = Unit {0}
Fresh b (w ∷ ws) = (b ≤ w.thread.number) × Fresh b ws

-- where a parse goes on, by the number of its thread
abbrev pub Cont : Type 0
Cont = ℕ → Value → Stream → List Waiting → ℕ → Stepped

module _ (code : Blocks) where
  -- j steps with no event
  pub record Leads (j : ℕ) (a b : Stepped) : Type 0 where
    pub by : (k : ℕ) → goes code (j + k) a ≡ ticks_before j (goes code k b)

  -- j steps with a miss
  pub record Misses (j : ℕ) (why : Why) (source : Source) (at : ℕ) (span : Span) (a b : Stepped) : Type 0 where
    pub by : (k : ℕ) → goes code (j + k) a ≡ ticks_before j (miss why source at span (goes code k b))

  pub record RunsEnd (c a : ℕ) (st : Stepped) (S : List Waiting) : Type 0 where
    pub j : ℕ
    pub n : ℕ
    pub fits : j ≤ a
    pub above : c ≤ n
    pub leads : Leads j st (resume code S n)

  pub record RunsStop (a : ℕ) (o : Outcome) (st : Stepped) : Type 0 where
    pub j : ℕ
    pub fits : j ≤ a
    pub by : goes code j st ≡ ticks_before j o

  pub record RunsDeep (d : ℕ) (st : Stepped) : Type 0 where
    pub j : ℕ
    pub long : d ≤ j
    pub by : goes code j st ≡ ticks_before j (ends Deep)

  pub record RunsMiss (a d : ℕ) (why : Why) (source : Source) (at : ℕ) (span : Span) (st : Stepped) (After : ℕ → ℕ → Stepped → Type 0) : Type 0 where
    pub j : ℕ
    pub a' : ℕ
    pub d' : ℕ
    pub st' : Stepped
    pub fits : j + a' ≤ a
    pub long : d ≤ j + d'
    pub leads : Misses j why source at span st st'
    pub after : After a' d' st'

  pub record RunsParse (K : Cont) (b c a d : ℕ) (v : Value) (s : Stream) (st : Stepped) (S : List Waiting) (After : ℕ → ℕ → ℕ → Stepped → List Waiting
      → Type 0) : Type 0 where
    pub j : ℕ
    pub a' : ℕ
    pub d' : ℕ
    pub n : ℕ
    pub who : ℕ
    pub inner : List Waiting
    pub fits : j + 1 + a' ≤ a
    pub long : d ≤ j + d'
    pub above : c ≤ n
    pub fresh : Fresh b inner
    pub leads : Leads j st (K who v s (inner ++ S) n)
    pub after : (S' : List Waiting) (n' : ℕ) → n ≤ n' → After n' a' d' (resume code (inner ++ S') n') S'

  -- from st the machine gives these events, with S suspended below. New threads have numbers from b on, and the next
  -- one's number is c or more; a counts the steps that are paid for, d the steps that are owed before Deep
  abbrev pub Runs : Cont → ℕ → ℕ → ℕ → ℕ → Outcome → Stepped → List Waiting → Type 0
  Runs K b c a d (ends End) st S = RunsEnd c a st S
  Runs K b c a d (ends (Faulted fault span)) st S = RunsStop a (ends (Faulted fault span)) st
  Runs K b c a d (ends Deep) st S = RunsDeep d st
  Runs K b c a d (ends Stuck) st S = RunsStop a (ends Stuck) st
  Runs K b c a d (tick o) st S = Runs K b c (a + 8) d o st S
  Runs K b c a d (miss why source at span o) st S = RunsMiss a d why source at span st (λ a' d' st'. Runs K b c a' d' o st' S)
  Runs K b c a d (parse v s o) st S = RunsParse K b c a d v s st S (λ c' a' d' st' S'. Runs K b c' a' d' o st' S')

  pub ticks_more : (i j : ℕ) (o : Outcome) → ticks_before (i + j) o ≡ ticks_before i (ticks_before j o)
  ticks_more zero j o = let e : 0 + j ≡ j = omega arith in ap (λ n. ticks_before n o) e
  ticks_more (suc i) j o = let e : suc i + j ≡ suc (i + j) = omega arith in ap (λ n. ticks_before n o) e ∙ ap tick (ticks_more i j o)

  pub leads_on : (i j : ℕ) (x y z : Stepped) → Leads i x y → Leads j y z → Leads (i + j) x z
  leads_on i j x y z p q = record {
    by = λ k. let e : i + j + k ≡ i + (j + k) = omega arith in
        ap (λ n. goes code n x) e ∙ p.by (j + k) ∙ ap (ticks_before i) (q.by k) ∙ sym (ticks_more i j (goes code k z));
  }

  pub misses_on : (i j : ℕ) (why : Why) (source : Source) (at : ℕ) (span : Span) (x y z : Stepped) → Leads i x y → Misses j why source at span y z
      → Misses (i + j) why source at span x z
  misses_on i j why source at span x y z p q = record {
    by = λ k. let e : i + j + k ≡ i + (j + k) = omega arith in
        ap (λ n. goes code n x) e ∙ p.by (j + k) ∙ ap (ticks_before i) (q.by k) ∙ sym (ticks_more i j (miss why source at span (goes code k z)));
  }

  pub stays : (x : Stepped) → Leads 0 x x
  stays x = record { by = λ k. let e : 0 + k ≡ k = omega arith in ap (λ n. goes code n x) e }

  pub fresh_append : (b : ℕ) (xs ys : List Waiting) → Fresh b xs → Fresh b ys → Fresh b (xs ++ ys)
  fresh_append b [] ys p q = q
  fresh_append b (x ∷ xs) ys p q = (p.0, fresh_append b xs ys p.1 q)

  pub fresh_less : (b b2 : ℕ) (xs : List Waiting) → b2 ≤ b → Fresh b xs → Fresh b2 xs
  fresh_less b b2 [] le p = tt
  fresh_less b b2 (x ∷ xs) le p = (omega (arith, p.0), fresh_less b b2 xs le p.1)

  -- some steps before
  pub lead : (K : Cont) (b i c c2 a a2 d d2 : ℕ) (o : Outcome) (x y : Stepped) (S : List Waiting) → Leads i x y → c2 ≤ c → i + a ≤ a2 → d2 ≤ i + d
      → Runs K b c a d o y S → Runs K b c2 a2 d2 o x S
  lead K b i c c2 a a2 d d2 (ends End) x y S l fc fa fd r =
      record { j = i + r.j; n = r.n; fits = omega (arith, r.fits); above = omega (arith, r.above); leads = leads_on i r.j x y _ l r.leads }
  lead K b i c c2 a a2 d d2 (ends (Faulted fault span)) x y S l fc fa fd r =
      record { j = i + r.j; fits = omega (arith, r.fits); by = l.by r.j ∙ ap (ticks_before i) r.by ∙ sym (ticks_more i r.j (ends (Faulted fault span))) }
  lead K b i c c2 a a2 d d2 (ends Stuck) x y S l fc fa fd r =
      record { j = i + r.j; fits = omega (arith, r.fits); by = l.by r.j ∙ ap (ticks_before i) r.by ∙ sym (ticks_more i r.j (ends Stuck)) }
  lead K b i c c2 a a2 d d2 (ends Deep) x y S l fc fa fd r =
      record { j = i + r.j; long = omega (arith, r.long); by = l.by r.j ∙ ap (ticks_before i) r.by ∙ sym (ticks_more i r.j (ends Deep)) }
  lead K b i c c2 a a2 d d2 (tick o) x y S l fc fa fd r = lead K b i c c2 (a + 8) (a2 + 8) d d2 o x y S l fc (omega arith) fd r
  lead K b i c c2 a a2 d d2 (miss why source at span o) x y S l fc fa fd r = record {
    j = i + r.j;
    a' = r.a';
    d' = r.d';
    st' = r.st';
    fits = omega (arith, r.fits);
    long = omega (arith, r.long);
    leads = misses_on i r.j why source at span x y _ l r.leads;
    after = lead K b 0 c c2 r.a' r.a' r.d' r.d' o r.st' r.st' S (stays r.st') fc (omega arith) (omega arith) r.after;
  }
  lead K b i c c2 a a2 d d2 (parse v s o) x y S l fc fa fd r =
      record {
        j = i + r.j;
        a' = r.a';
        d' = r.d';
        n = r.n;
        who = r.who;
        inner = r.inner;
        fits = omega (arith, r.fits);
        long = omega (arith, r.long);
        above =
            omega (arith, r.above);
        fresh = r.fresh;
        leads = leads_on i r.j x y _ l r.leads;
        after = r.after;
      }

  -- p, and where it ends what the inner threads give
  pub both_runs : (K : Cont) (b c0 c x a y dp dq d : ℕ) (p q : Outcome) (st : Stepped) (inner S : List Waiting) → c0 ≤ c → x + a ≤ y → d ≤ dp → d ≤ dq
      → Fresh b inner → ((S' : List Waiting) (n : ℕ) → c0 ≤ n → Runs K b n a dq q (resume code (inner ++ S') n) S') → Runs K b c x dp p st (inner ++ S)
      → Runs K b c y d (Both p q) st S
  both_runs K b c0 c x a y dp dq d (ends End) q st inner S fc fy fp fq fresh after r =
      lead K b r.j r.n c a y dq d q st _ S r.leads r.above (omega (arith, r.fits)) (omega arith) (after S r.n (omega (arith, r.above)))
  both_runs K b c0 c x a y dp dq d (ends (Faulted fault span)) q st inner S fc fy fp fq fresh after r =
      record { j = r.j; fits = omega (arith, r.fits); by = r.by }
  both_runs K b c0 c x a y dp dq d (ends Stuck) q st inner S fc fy fp fq fresh after r = record { j = r.j; fits = omega (arith, r.fits); by = r.by }
  both_runs K b c0 c x a y dp dq d (ends Deep) q st inner S fc fy fp fq fresh after r = record { j = r.j; long = omega (arith, r.long); by = r.by }
  both_runs K b c0 c x a y dp dq d (tick p) q st inner S fc fy fp fq fresh after r =
      both_runs K b c0 c (x + 8) a (y + 8) dp dq d p q st inner S fc (omega arith) fp fq fresh after r
  both_runs K b c0 c x a y dp dq d (miss why source at span p) q st inner S fc fy fp fq fresh after r =
      record {
        j = r.j;
        a' = r.a' + a;
        d' = d - r.j;
        st' = r.st';
        fits = omega (arith, r.fits);
        long = omega arith;
        leads = r.leads;
        after = both_runs K b c0 c r.a' a (r.a' + a) r.d' dq (d - r.j) p q r.st' inner S fc (omega arith) (omega (arith, r.long)) (omega arith) fresh after
            r.after;
      }
  both_runs K b c0 c x a y dp dq d (parse v s p) q st inner S fc fy fp fq fresh after r =
      record {
        j = r.j;
        a' = r.a' + a;
        d' = d - r.j;
        n = r.n;
        who = r.who;
        inner = r.inner ++ inner;
        fits = omega (arith, r.fits);
        long = omega arith;
        above = r.above;
        fresh = fresh_append b r.inner inner r.fresh fresh;
        leads = subst (λ ws. Leads r.j st (K r.who v s ws r.n)) (sym (append_assoc r.inner inner S)) r.leads;
        after = λ S' n' le. subst (λ ws. Runs K b n' (r.a' + a) (d - r.j) (Both p q) (resume code ws n') S') (sym (append_assoc r.inner inner S'))
            (both_runs K b c0 n' r.a' a (r.a' + a) r.d' dq (d - r.j) p q (resume code (r.inner ++ (inner ++ S')) n') inner S' (omega (arith, r.above))
            (omega arith) (omega (arith, r.long)) (omega arith) fresh after (r.after (inner ++ S') n' le));
      }

  pub bind_runs : (K1 K2 : Cont) (b c a d dk : ℕ) (o : Outcome) (k : Value → Stream → Outcome) (st : Stepped) (S : List Waiting) → b ≤ c → d ≤ dk
      → ((q : ℕ) (v : Value) (s : Stream) (ws : List Waiting) (n : ℕ) → b ≤ n → Runs K2 b n 0 dk (k v s) (K1 q v s ws n) ws) → Runs K1 b c a d o st S
      → Runs K2 b c a d (Bind o k) st S
  bind_runs K1 K2 b c a d dk (ends End) k st S fb fd hk r = r
  bind_runs K1 K2 b c a d dk (ends (Faulted fault span)) k st S fb fd hk r = r
  bind_runs K1 K2 b c a d dk (ends Stuck) k st S fb fd hk r = r
  bind_runs K1 K2 b c a d dk (ends Deep) k st S fb fd hk r = r
  bind_runs K1 K2 b c a d dk (tick o) k st S fb fd hk r = bind_runs K1 K2 b c (a + 8) d dk o k st S fb fd hk r
  bind_runs K1 K2 b c a d dk (miss why source at span o) k st S fb fd hk r =
      record {
        j = r.j;
        a' = r.a';
        d' = d - r.j;
        st' = r.st';
        fits = r.fits;
        long = omega arith;
        leads = r.leads;
        after = bind_runs K1 K2 b c r.a' (d - r.j) dk o k r.st' S fb (omega arith) hk
            (lead K1 b 0 c c r.a' r.a' r.d' (d - r.j) o r.st' r.st' S (stays r.st') (omega arith) (omega arith) (omega (arith, r.long)) r.after);
      }
  bind_runs K1 K2 b c a d dk (parse v s o) k st S fb fd hk r =
      lead K2 b r.j r.n c r.a' a (d - r.j) d (Both (k v s) (Bind o k)) st _ S r.leads r.above (omega (arith, r.fits)) (omega arith)
      (both_runs K2 b r.n r.n 0 r.a' r.a' dk (d - r.j) (d - r.j) (k v s) (Bind o k) (K1 r.who v s (r.inner ++ S) r.n) r.inner S (omega arith) (omega arith)
      (omega arith) (omega arith) r.fresh
      (λ S' n' le. bind_runs K1 K2 b n' r.a' (d - r.j) dk o k _ S' (omega (arith, r.above)) (omega arith) hk
      (lead K1 b 0 n' n' r.a' r.a' r.d' (d - r.j) o _ _ S' (stays _) (omega arith) (omega arith) (omega (arith, r.long)) (r.after S' n' le)))
      (hk r.who v s (r.inner ++ S) r.n (omega (arith, r.above))))

  -- each parse goes on for i steps before it goes on elsewhere
  pub leave_runs : (K1 K2 : Cont) (b i c a d : ℕ) (o : Outcome) (st : Stepped) (S : List Waiting) → i ≤ 8
      → ((q : ℕ) (v : Value) (s : Stream) (ws : List Waiting) (n : ℕ) → Leads i (K1 q v s ws n) (K2 q v s ws n)) → Runs K1 b c a d o st S
      → Runs K2 b c a d (leave o) st S
  leave_runs K1 K2 b i c a d (ends End) st S fi hk r = r
  leave_runs K1 K2 b i c a d (ends (Faulted fault span)) st S fi hk r = r
  leave_runs K1 K2 b i c a d (ends Stuck) st S fi hk r = r
  leave_runs K1 K2 b i c a d (ends Deep) st S fi hk r = r
  leave_runs K1 K2 b i c a d (tick o) st S fi hk r = leave_runs K1 K2 b i c (a + 8) d o st S fi hk r
  leave_runs K1 K2 b i c a d (miss why source at span o) st S fi hk r =
      record {
        j = r.j;
        a' = r.a';
        d' = r.d';
        st' = r.st';
        fits = r.fits;
        long = r.long;
        leads = r.leads;
        after =
            leave_runs K1 K2 b i c r.a' r.d' o r.st' S fi hk r.after;
      }
  leave_runs K1 K2 b i c a d (parse v s o) st S fi hk r =
      record {
        j = r.j + i;
        a' = r.a';
        d' = r.d';
        n = r.n;
        who = r.who;
        inner = r.inner;
        fits = omega (arith, r.fits);
        long = omega (arith, r.long);
        above = r.above;
        fresh = r.fresh;
        leads = leads_on r.j i st _ _ r.leads (hk r.who v s (r.inner ++ S) r.n);
        after = λ S' n' le. leave_runs K1 K2 b i n' r.a' r.d' o _ S' fi hk (r.after S' n' le);
      }

  -- Notify reaches the thread below the inner ones
  pub mark_below : (k : ℕ) (inner : List Waiting) (w : Waiting) (S : List Waiting) → w.thread.number ≡ k → Fresh (suc k) inner
      → mark k (inner ++ w ∷ S) ≡ inner ++ flag w ∷ S
  mark_below k [] w S e p = let h : nat_eq w.thread.number k ≡ true = eq-eqb _ _ e in ap (λ x. if x then flag w ∷ S else w ∷ mark k S) h
  mark_below k (x ∷ inner) w S e p =
      let h : nat_eq x.thread.number k ≡ false = ne_eqb _ _ (λ q. absurd (omega (arith, p.0, q))) in
      ap (λ y. if y then flag x ∷ (inner ++ w ∷ S) else x ∷ mark k (inner ++ w ∷ S)) h ∙ ap (λ l. x ∷ l) (mark_below k inner w S e p.1)

  pub one_fresh : (b : ℕ) (w : Waiting) → b ≤ w.thread.number → Fresh b (w ∷ [])
  one_fresh b w le = (le, tt)

  pub shift : (inner S : List Waiting) (w : Waiting) → (inner ++ w ∷ []) ++ S ≡ inner ++ w ∷ S
  shift inner S w = append_assoc inner (w ∷ []) S

  -- the left side of a biased choice, once its right side is flagged
  pub kept_runs : (K1 K2 : Cont) (b i c a d : ℕ) (w : Waiting) (o : Outcome) (st : Stepped) (S : List Waiting) → i ≤ 8 → b ≤ w.thread.number → w.flagged ≡ true
      → ((q : ℕ) (v : Value) (s : Stream) (ws : List Waiting) (n : ℕ) → Leads i (K1 q v s ws n) (K2 q v s (mark w.thread.number ws) n))
      → Runs K1 (suc w.thread.number) c a d o st (w ∷ S) → Runs K2 b c a d (leave o) st S
  kept_runs K1 K2 b i c a d w (ends End) st S fi fb fl hk r = record {
    j = r.j;
    n = r.n;
    fits = r.fits;
    above = r.above;
    leads = subst (λ x. Leads r.j st x) (ap (λ f. if f then resume code S r.n else enter code w.block w.thread S r.n) fl) r.leads;
  }
  kept_runs K1 K2 b i c a d w (ends (Faulted fault span)) st S fi fb fl hk r = r
  kept_runs K1 K2 b i c a d w (ends Stuck) st S fi fb fl hk r = r
  kept_runs K1 K2 b i c a d w (ends Deep) st S fi fb fl hk r = r
  kept_runs K1 K2 b i c a d w (tick o) st S fi fb fl hk r = kept_runs K1 K2 b i c (a + 8) d w o st S fi fb fl hk r
  kept_runs K1 K2 b i c a d w (miss why source at span o) st S fi fb fl hk r =
      record {
        j = r.j;
        a' = r.a';
        d' = r.d';
        st' = r.st';
        fits = r.fits;
        long = r.long;
        leads = r.leads;
        after =
            kept_runs K1 K2 b i c r.a' r.d' w o r.st' S fi fb fl hk r.after;
      }
  kept_runs K1 K2 b i c a d w (parse v s o) st S fi fb fl hk r =
      record {
        j = r.j + i;
        a' = r.a';
        d' = r.d';
        n = r.n;
        who = r.who;
        inner = r.inner ++ flag w ∷ [];
        fits = omega (arith, r.fits);
        long = omega (arith, r.long);
        above = r.above;
        fresh = fresh_append b r.inner (flag w ∷ []) (fresh_less (suc w.thread.number) b r.inner (omega arith) r.fresh) (fb, tt);
        leads = leads_on r.j i st _ _ r.leads (subst (λ ws. Leads i (K1 r.who v s (r.inner ++ w ∷ S) r.n) (K2 r.who v s ws r.n))
            (mark_below w.thread.number r.inner w S refl r.fresh ∙ sym (shift r.inner S (flag w))) (hk r.who v s (r.inner ++ w ∷ S) r.n));
        after = λ S' n' le. subst (λ ws. Runs K2 b n' r.a' r.d' (leave o) (resume code ws n') S') (sym (shift r.inner S' (flag w)))
            (kept_runs K1 K2 b i n' r.a' r.d' (flag w) o _ S' fi fb refl hk (r.after (flag w ∷ S') n' le));
      }

  -- the first parse of the left side flags the right one
  pub first_kept : (K1 K2 : Cont) (b i c a d : ℕ) (w : Waiting) (v : Value) (s : Stream) (o : Outcome) (st : Stepped) (S : List Waiting) → i ≤ 8
      → b ≤ w.thread.number → ((q : ℕ) (v : Value) (s : Stream) (ws : List Waiting) (n : ℕ) → Leads i (K1 q v s ws n) (K2 q v s (mark w.thread.number ws) n))
      → Runs K1 (suc w.thread.number) c a d (parse v s o) st (w ∷ S) → Runs K2 b c (a + 8) d (parse v s (leave o)) st S
  first_kept K1 K2 b i c a d w v s o st S fi fb hk r =
      record {
        j = r.j + i;
        a' = r.a';
        d' = r.d';
        n = r.n;
        who = r.who;
        inner = r.inner ++ flag w ∷ [];
        fits = omega (arith, r.fits);
        long = omega (arith, r.long);
        above = r.above;
        fresh = fresh_append b r.inner (flag w ∷ []) (fresh_less (suc w.thread.number) b r.inner (omega arith) r.fresh) (fb, tt);
        leads = leads_on r.j i st _ _ r.leads (subst (λ ws. Leads i (K1 r.who v s (r.inner ++ w ∷ S) r.n) (K2 r.who v s ws r.n))
            (mark_below w.thread.number r.inner w S refl r.fresh ∙ sym (shift r.inner S (flag w))) (hk r.who v s (r.inner ++ w ∷ S) r.n));
        after = λ S' n' le. subst (λ ws. Runs K2 b n' r.a' r.d' (leave o) (resume code ws n') S') (sym (shift r.inner S' (flag w)))
            (kept_runs K1 K2 b i n' r.a' r.d' (flag w) o _ S' fi fb refl hk (r.after (flag w ∷ S') n' le));
      }

  -- the left side of a biased choice, while its right side is not flagged: each of its parses goes on with k
  pub attempt_runs : (K1 K2 K : Cont) (b i c a d dk dr : ℕ) (w : Waiting) (o p : Outcome) (k : Value → Stream → Outcome) (st : Stepped) (S : List Waiting)
      → i ≤ 8 → b ≤ w.thread.number → w.thread.number < c → d ≤ dr → d ≤ dk → w.flagged ≡ false
      → ((q : ℕ) (v : Value) (s : Stream) (ws : List Waiting) (n : ℕ) → Leads i (K1 q v s ws n) (K2 q v s (mark w.thread.number ws) n))
      → ((q : ℕ) (v : Value) (s : Stream) (ws : List Waiting) (n : ℕ) → b ≤ n → Runs K b n 0 dk (k v s) (K2 q v s ws n) ws)
      → ((S' : List Waiting) (n : ℕ) → b ≤ n → Runs K b n 0 dr p (enter code w.block w.thread S' n) S') → Runs K1 (suc w.thread.number) c a d o st (w ∷ S)
      → Runs K b c a d (Attempt (leave o) k p) st S
  attempt_runs K1 K2 K b i c a d dk dr w (ends End) p k st S fi fb fc fd fk fl hk hb hp r =
      lead K b r.j r.n c 0 a dr d p st _ S (subst (λ x. Leads r.j st x) (ap (λ f. if f then resume code S r.n else enter code w.block w.thread S r.n) fl)
      r.leads) r.above (omega (arith, r.fits)) (omega arith) (hp S r.n (omega (arith, r.above)))
  attempt_runs K1 K2 K b i c a d dk dr w (ends (Faulted fault span)) p k st S fi fb fc fd fk fl hk hb hp r = r
  attempt_runs K1 K2 K b i c a d dk dr w (ends Stuck) p k st S fi fb fc fd fk fl hk hb hp r = r
  attempt_runs K1 K2 K b i c a d dk dr w (ends Deep) p k st S fi fb fc fd fk fl hk hb hp r = r
  attempt_runs K1 K2 K b i c a d dk dr w (tick o) p k st S fi fb fc fd fk fl hk hb hp r =
      attempt_runs K1 K2 K b i c (a + 8) d dk dr w o p k st S fi fb fc fd fk fl hk hb hp r
  attempt_runs K1 K2 K b i c a d dk dr w (miss why source at span o) p k st S fi fb fc fd fk fl hk hb hp r =
      record {
        j = r.j;
        a' = r.a';
        d' = d - r.j;
        st' = r.st';
        fits = r.fits;
        long = omega arith;
        leads = r.leads;
        after = attempt_runs K1 K2 K b i c r.a' (d - r.j) dk dr w o p k r.st' S fi fb fc (omega arith) (omega arith) fl hk hb hp
            (lead K1 (suc w.thread.number) 0 c c r.a' r.a' r.d' (d - r.j) o r.st' r.st' (w ∷ S) (stays r.st') (omega arith) (omega arith)
            (omega (arith, r.long)) r.after);
      }
  attempt_runs K1 K2 K b i c a d dk dr w (parse v s o) p k st S fi fb fc fd fk fl hk hb hp r =
      bind_runs K2 K b c (a + 8) d dk (parse v s (leave o)) k st S (omega arith) fk hb (first_kept K1 K2 b i c a d w v s o st S fi fb hk r)
