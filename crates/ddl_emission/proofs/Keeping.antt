-- Both halves.
use Rattle.std.proofs.Common.{◌≡◌, ◌≢◌, ℕ, zero, suc, ◌+◌, ◌*◌, ◌<◌, ◌≤◌, List, [], ◌∷◌, ◌++◌, refl, sym, ap, ◌∙◌, subst, ⊎_elim, ◌⊎◌, inl, inr, arith}
use Rattle.std.proofs.lemmas.Bool.{cases_lt}
use Rattle.ddl_types.specs.Growth.{Grows, at_deep, at_end, at_fault, at_stuck, at_tick, at_miss, at_parse}
use Rattle.ddl_types.specs.Keeping.{Mark, marks, StartsWith, StartsWithin, Follows, Covers}
use Rattle.ddl_types.specs.Outcome.{Ending, End, Faulted, Deep, Stuck, Outcome, ends, tick, miss, parse, ending, ticks}
use Rattle.ddl_types.specs.Value.{Value, Stream}
use Rattle.ddl_types.proofs.Growing.{grown_is_same}
use Rattle.ddl_core.specs.Core.{Core}
use Rattle.ddl_core.specs.Meaning.{level}
use Rattle.ddl_core.specs.Meaning as meaning
use Rattle.ddl_blocks.specs.Code.{Code}
use Rattle.ddl_blocks.specs.Machine.{resume}
use Rattle.ddl_blocks.specs.Run.{first, Run}
use Rattle.ddl_blocks.specs.State.{Waiting, Stepped}
use Rattle.ddl_blocks.proofs.Law.{run_law}
use Rattle.ddl_emission.specs.Laws.{CodeKeeps}
use Rattle.ddl_emission.specs.Program.{Beside, code_of}
use Rattle.ddl_emission.specs.Scope.{IsWellScoped}
use Rattle.ddl_emission.proofs.Runs.{Blocks, goes, ticks_before, Cont, Runs, lead, stays}
use Rattle.ddl_emission.proofs.Steps.{here, starts, goes_to}
use Rattle.ddl_emission.proofs.Depths.{return_at, depth_runs}

-- what grows begins with the same events
grown_marks : (x : ℕ) {p q : Outcome} → Grows p q → StartsWith (marks x p) (marks x q)
grown_marks x at_deep = tt
grown_marks x at_end = tt
grown_marks x at_fault = tt
grown_marks x at_stuck = tt
grown_marks x (at_tick g) = grown_marks (x + 1) g
grown_marks x (at_miss g) = (refl, grown_marks x g)
grown_marks x (at_parse g) = (refl, grown_marks x g)

starts_trans : (a b c : List Mark) → StartsWith a b → StartsWith b c → StartsWith a c
starts_trans [] b c p q = tt
starts_trans (x ∷ a) [] c p q = absurd p
starts_trans (x ∷ a) (y ∷ b) [] p q = absurd q
starts_trans (x ∷ a) (y ∷ b) (z ∷ c) p q = (p.0 ∙ q.0, starts_trans a b c p.1 q.1)

within_starts : (c : ℕ) (a b : List Mark) → StartsWithin c a b → StartsWith a b
within_starts c [] b p = tt
within_starts c (x ∷ a) [] p = absurd p
within_starts c (x ∷ a) (y ∷ b) p = (p.0, within_starts c a b p.2)

-- r is what o says, within the ticks that are paid for
record Fits (x y d m : ℕ) (o r : Outcome) : Type 0 where
  events : StartsWithin 8 (marks x o) (marks y r)
  no_more : StartsWith (marks y r) (marks x o)
  end : ending r ≡ ending o
  cost : ending o ≢ Deep → y + ticks r ≤ 8 * (x + ticks o)
  long : ending o ≡ Deep → d ≤ m

marks-ticks : (j y : ℕ) (o : Outcome) → marks y (ticks_before j o) ≡ marks (y + j) o
marks-ticks zero y o = let e : y ≡ y + 0 = omega arith in ap (λ n. marks n o) e
marks-ticks (suc j) y o = let e : y + 1 + j ≡ y + suc j = omega arith in marks-ticks j (y + 1) o ∙ ap (λ n. marks n o) e

count-ticks : (j : ℕ) (o : Outcome) → ticks (ticks_before j o) ≡ ticks o + j
count-ticks zero o = omega arith
count-ticks (suc j) o = omega (arith, count-ticks j o)

ending-ticks : (j : ℕ) (o : Outcome) → ending (ticks_before j o) ≡ ending o
ending-ticks zero o = refl
ending-ticks (suc j) o = ending-ticks j o

fits_ticks : (x y d d' j m : ℕ) (o r : Outcome) → d ≤ j + d' → Fits x (y + j) d' m o r → Fits x y d (j + m) o (ticks_before j r)
fits_ticks x y d d' j m o r le f = record {
  events = subst (λ l. StartsWithin 8 (marks x o) l) (sym (marks-ticks j y r)) f.events;
  no_more = subst (λ l. StartsWith l (marks x o)) (sym (marks-ticks j y r)) f.no_more;
  end = ending-ticks j r ∙ f.end;
  cost = λ h. omega (arith, f.cost h, count-ticks j r);
  long = λ h. omega (arith, f.long h);
}

module _ (code : Blocks) (K : Cont) (hK : (q : ℕ) (v : Value) (s : Stream) (ws : List Waiting) (n k : ℕ)
    → goes code (suc k) (K q v s ws n) ≡ tick (parse v s (goes code k (resume code ws n)))) where
  record Meets (x y d : ℕ) (o : Outcome) (st : Stepped) : Type 0 where
    m : ℕ
    fits : Fits x y d m o (goes code m st)

  stops : (x y a d : ℕ) (e : Ending) (st : Stepped) (j : ℕ) → e ≢ Deep → y + a ≤ 8 * x → j ≤ a → goes code j st ≡ ticks_before j (ends e)
      → Meets x y d (ends e) st
  stops x y a d e st j ne le f by = record {
    m = j + 0;
    fits = let e' : j + 0 ≡ j = omega arith in subst (λ q. Fits x y d (j + 0) (ends e) q) (sym (ap (λ i. goes code i st) e' ∙ by))
        (fits_ticks x y d d j 0 (ends e) (ends e) (omega arith) (record {
          events = tt;
          no_more = tt;
          end = refl;
          cost = λ h. omega arith;
          long =
              λ h. absurd (ne h);
        }));
  }

  meets : (x y b c a d : ℕ) (o : Outcome) (st : Stepped) → y + a ≤ 8 * x → Runs code K b c a d o st [] → Meets x y d o st
  meets x y b c a d (ends End) st le r = record {
    m = r.j + 0;
    fits = subst (λ q. Fits x y d (r.j + 0) (ends End) q) (sym (r.leads.by 0))
        (fits_ticks x y d d r.j 0 (ends End) (ends End) (omega arith) (record {
          events = tt;
          no_more = tt;
          end = refl;
          cost = λ h. omega (arith, r.fits);
          long =
              λ h. cc;
        }));
  }
  meets x y b c a d (ends (Faulted fault span)) st le r = stops x y a d (Faulted fault span) st r.j (λ h. cc) le r.fits r.by
  meets x y b c a d (ends Stuck) st le r = stops x y a d Stuck st r.j (λ h. cc) le r.fits r.by
  meets x y b c a d (ends Deep) st le r = record {
    m = r.j + 0;
    fits = let e : r.j + 0 ≡ r.j = omega arith in subst (λ q. Fits x y d (r.j + 0) (ends Deep) q) (sym (ap (λ i. goes code i st) e ∙ r.by))
        (fits_ticks x y d 0 r.j 0 (ends Deep) (ends Deep) (omega (arith, r.long))
        (record { events = tt; no_more = tt; end = refl; cost = λ h. absurd (h refl); long = λ h. omega arith }));
  }
  meets x y b c a d (tick o) st le r =
      let i = meets (x + 1) y b c (a + 8) d o st (omega arith) r in
      record {
        m = i.m;
        fits = record {
          events = i.fits.events;
          no_more = i.fits.no_more;
          end = i.fits.end;
          cost = λ h. omega (arith, i.fits.cost h);
          long =
              i.fits.long;
        };
      }
  meets x y b c a d (miss why source at span o) st le r =
      let i = meets x (y + r.j) b c r.a' r.d' o r.st' (omega (arith, r.fits)) r.after in
      record {
        m = r.j + i.m;
        fits = subst (λ q. Fits x y d (r.j + i.m) (miss why source at span o) q) (sym (r.leads.by i.m))
            (fits_ticks x y d r.d' r.j i.m (miss why source at span o) (miss why source at span (goes code i.m r.st')) r.long
            (record {
              events = (refl, omega (arith, r.fits), i.fits.events);
              no_more = (refl, i.fits.no_more);
              end = i.fits.end;
              cost = i.fits.cost;
              long =
                  i.fits.long;
            }));
      }
  meets x y b c a d (parse v s o) st le r =
      let st' = resume code (r.inner ++ []) r.n in
      let i = meets x (y + (r.j + 1)) b r.n r.a' r.d' o st' (omega (arith, r.fits)) (r.after [] r.n (omega arith)) in
      let e : r.j + 1 + i.m ≡ r.j + suc i.m = omega arith in
      let run_is : goes code (r.j + 1 + i.m) st ≡ ticks_before (r.j + 1) (parse v s (goes code i.m st')) =
      ap (λ k. goes code k st) e ∙ r.leads.by (suc i.m) ∙ ap (ticks_before r.j) (hK r.who v s (r.inner ++ []) r.n i.m)
      ∙ sym (ticks_one r.j (parse v s (goes code i.m st'))) in
      record {
        m = r.j + 1 + i.m;
        fits = subst (λ q. Fits x y d (r.j + 1 + i.m) (parse v s o) q) (sym run_is)
            (fits_ticks x y d r.d' (r.j + 1) i.m (parse v s o) (parse v s (goes code i.m st')) (omega (arith, r.long))
            (record {
              events = (refl, omega (arith, r.fits), i.fits.events);
              no_more = (refl, i.fits.no_more);
              end = i.fits.end;
              cost = i.fits.cost;
              long =
                  i.fits.long;
            }));
      }
    where
      ticks_one : (j : ℕ) (q : Outcome) → ticks_before (j + 1) q ≡ ticks_before j (tick q)
      ticks_one zero q = refl
      ticks_one (suc j) q = let e' : suc j + 1 ≡ suc (j + 1) = omega arith in ap (λ n. ticks_before n q) e' ∙ ap tick (ticks_one j q)

module _ (beside : Beside) (program : Core) (s : Stream) (well : IsWellScoped program) where
  abbrev code : Code
  code = code_of beside program

  abbrev meant : ℕ → Outcome
  meant n = meaning.Run n program s

  -- what depth n says, the machine does with some budget
  follows : (n : ℕ) → (m : ℕ) × Fits 0 0 n m (meant n) (Run m code s)
  follows n =
      let fs = program.functions in
      let f = program.entry in
      let bs : Blocks = code.functions in
      let K = goes_to bs f 1 [] [] in
      let hK : (q : ℕ) (v : Value) (s' : Stream) (ws : List Waiting) (k n' : ℕ)
      → goes bs (suc n') (K q v s' ws k) ≡ tick (parse v s' (goes bs n' (resume bs ws k))) =
      λ q v s' ws k n'. ap (λ o. goes bs (suc n') (starts o (here q f (v ∷ []) s' []) ws k)) (return_at fs well.each f well.entry.0 well.entry.1) in
      let st = first code s in
      let r = lead bs K 0 0 1 1 0 8 n n ((level fs n).call f [] s) st st [] (stays bs st) (omega arith) (omega arith) (omega arith)
      ((depth_runs fs well.each n).bodies f well.entry.0 [] 0 s [] 0 1 [] well.entry.1 well.entry.2 (omega arith)) in
      let i = meets bs K hK 0 0 0 1 0 n (meant n) st (omega arith) r in
      (i.m, i.fits)

  first_half : (n : ℕ) → (m : ℕ) × Follows 8 (meant n) (Run m code s)
  first_half n =
      let a = follows n in
      (a.0, record { events = a.1.events; no_more = λ h. a.1.no_more; end = λ h. a.1.end; cost = λ h. omega (arith, a.1.cost h) })

  deep_or_not : (e : Ending) → (e ≡ Deep) ⊎ (e ≢ Deep)
  deep_or_not Deep = inl refl
  deep_or_not End = inr (λ h. cc)
  deep_or_not (Faulted fault span) = inr (λ h. cc)
  deep_or_not Stuck = inr (λ h. cc)

  -- a budget m shows no more than depth m says
  second_half : (m : ℕ) → Covers (meant m) (Run m code s)
  second_half m = ⊎_elim shorter longer (cases_lt m (follows m).0)
    where
      k : ℕ
      k = (follows m).0

      fits : Fits 0 0 m k (meant m) (Run k code s)
      fits = (follows m).1

      up_to : m ≤ k → Covers (meant m) (Run m code s)
      up_to le =
          let u = run_law m k code s le in
          record {
            events = starts_trans _ _ _ (grown_marks 0 u) fits.no_more;
            no_more = λ h. subst (λ r. StartsWith (marks 0 (meant m)) (marks 0 r)) (grown_is_same u h) (within_starts 8 _ _ fits.events);
            end = λ h. sym fits.end ∙ ap ending (grown_is_same u h);
          }

      shorter : m < k → Covers (meant m) (Run m code s)
      shorter lt = up_to (omega arith)

      past : k ≤ m → (ending (meant m) ≢ Deep) → Covers (meant m) (Run m code s)
      past le h =
          let e : Run m code s ≡ Run k code s = grown_is_same (run_law k m code s le) (λ d. h (sym fits.end ∙ d)) in
          record {
            events = subst (λ r. StartsWith (marks 0 r) (marks 0 (meant m))) (sym e) fits.no_more;
            no_more = λ d. subst (λ r. StartsWith (marks 0 (meant m)) (marks 0 r)) (sym e) (within_starts 8 _ _ fits.events);
            end = λ d. sym fits.end ∙ ap ending (sym e);
          }

      longer : k ≤ m → Covers (meant m) (Run m code s)
      longer le = ⊎_elim (λ d. up_to (fits.long d)) (λ h. past le h) (deep_or_not (ending (meant m)))

pub code_keeps : CodeKeeps
code_keeps beside program well s = record { first = λ n. first_half beside program s well n; second = λ m. (m, second_half beside program s well m) }
