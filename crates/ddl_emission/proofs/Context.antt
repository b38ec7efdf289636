-- What is to be shown of each form: the agreement between all of them.
use Rattle.std.proofs.Common.{◌≡◌, ℕ, zero, suc, ◌+◌, ◌≤◌, List, [], ◌∷◌, ◌++◌, length, Option, Some, None, Bool, true, false, if◌then◌else◌, refl, sym, ap}
use Rattle.std.proofs.Common.{◌∙◌, subst, arith}
use Rattle.std.specs.Prelude.{slice_get}
use Rattle.ddl_types.specs.Types.{Ty}
use Rattle.ddl_types.specs.Value.{Value, Stream}
use Rattle.ddl_types.specs.Joining.{leave}
use Rattle.ddl_types.specs.Outcome.{tick}
use Rattle.ddl_core.specs.Core.{Form, Alternatives, Function, none_left, when, loop}
use Rattle.ddl_core.specs.Meaning.{Current, Lower, next_turn, core}
use Rattle.ddl_blocks.specs.Code.{ValueType, jump, return}
use Rattle.ddl_blocks.specs.State.{Frame, Waiting, live, Stepped, on}
use Rattle.ddl_blocks.specs.Machine.{with_first, block_at, enter, back}
use Rattle.ddl_emission.specs.Pieces.{Out, exit_of, Place, Piece}
use Rattle.ddl_emission.specs.Growing.{flags_at}
use Rattle.ddl_emission.specs.Emission.{emit}
use Rattle.ddl_emission.specs.Program.{return_block}
use Rattle.ddl_emission.specs.Scope.{Below, IsScoped, Callable}
use Rattle.ddl_emission.proofs.Arrays.{AreArrays, arrays_length}
use Rattle.ddl_emission.proofs.Runs.{Blocks, goes, Cont, Leads, Runs}
use Rattle.ddl_emission.proofs.Picks.{all_arrays, AllThere, all_there, Holds, picks-append, holds_now, holds_more}
use Rattle.ddl_emission.proofs.Lengths.{HasAt}
use Rattle.ddl_emission.proofs.Steps.{here, starts, goes_to, jumps, given_is}

-- where a form stands: its function, its further blocks, its place, the values that are there with those of its variables
-- among them, and those that are handed on with each parse
pub record Site : Type 0 where
  pub fn : ℕ
  pub at : ℕ
  pub place : Place
  pub vals : List Value
  pub env : List Value
  pub kv : List Value
  pub frames : List Frame

-- the same function, at another place
abbrev pub site_at : Site → ℕ → Place → List Value → List Value → Site
site_at z at place vals env = record { fn = z.fn; at = at; place = place; vals = vals; env = env; kv = z.kv; frames = z.frames }

abbrev pub piece : Form → Site → Piece
piece g z = emit g z.place z.at

-- a block that only returns its value
abbrev pub HasReturn : Blocks → ℕ → ℕ → Type 0
HasReturn code fn at = (ty : ValueType) × (block_at code fn at ≡ Some (return_block ty))

-- where a parse may be returned at once, its block only returns it
abbrev pub Returns : Blocks → ℕ → Out → List Value → Type 0
Returns code fn out kv = out.returns ≡ true → HasReturn code fn out.block × (kv ≡ [])

-- the values of variables, which are arrays where these grow
pub record AllHere (z : Site) (xs : List ℕ) : Type 0 where
  pub all : AllThere z.env xs
  pub arrays : AreArrays (flags_at z.place.grow xs) all.values

-- the values of variables
pub all_here : (z : Site) (xs : List ℕ) → AreArrays z.place.grow z.env → Below (length z.place.grow) xs → AllHere z xs
all_here z xs h b =
    let b1 : Below (length z.env) xs = subst (λ k. Below k xs) (arrays_length z.place.grow z.env h) b in
    record { all = all_there z.env xs b1; arrays = all_arrays z.place.grow z.env h xs b1 }

module _ (code : Blocks) (fs : List Function) (lower : Lower) (d : ℕ) where
  -- the form's further blocks are there, and the numbers name what they are to name
  pub record StandsAt (p : Piece) (z : Site) : Type 0 where
    pub has : HasAt code z.fn z.at p.more
    pub long : length z.vals ≡ length z.place.types
    pub vars : Holds z.place.variables z.vals z.env
    pub kept : Holds z.place.out.keep z.vals z.kv
    pub arrays : AreArrays z.place.grow z.env
    pub ends_so : Returns code z.fn z.place.out z.kv

  abbrev pub Stands : Form → Site → Type 0
  Stands g z = StandsAt (piece g z) z

  abbrev pub goes_out : Site → Cont
  goes_out z = goes_to code z.fn z.place.out.block z.kv z.frames

  -- the loop in which a form stands: its next turn is followed, from a jump to it on
  pub record TopRuns (cur : Current) (states : List Bool) (z : Site) : Type 0 where
    pub tv : List Value
    pub kept : Holds z.place.top.keep z.vals tv
    pub runs : (xs : List Value) (q : ℕ) (s : Stream) (b n : ℕ) (ws : List Waiting) (x : Stepped) → AreArrays states xs → b ≤ n
        → Leads code 1 x (enter code z.place.top.block (here q z.fn (tv ++ xs) s z.frames) ws n)
        → Runs code (goes_out z) b n 0 (d + 1) (next_turn lower cur xs s) x ws

  abbrev pub Top : Current → Option (List Bool) → Site → Type 0
  Top cur None z = Unit {0}
  Top cur (Some states) z = TopRuns cur states z

  -- the machine does at a piece what a form means
  abbrev pub Follows : Form → (Site → Piece) → Type 0
  Follows g p = (cur : Current) (L : Option (List Bool)) (z : Site) (q : ℕ) (s : Stream) → StandsAt (p z) z → Top cur L z → IsScoped fs L z.place.grow g
      → (b n : ℕ) (ws : List Waiting) → b ≤ n
      → Runs code (goes_out z) b n 0 (d + 1) (core lower g cur z.env s) (on (live (p z).body (p z).exit (here q z.fn z.vals s z.frames) ws n)) ws

  -- at its own: one lemma a form
  abbrev pub Simulates : Form → Type 0
  Simulates g = Follows g (piece g)

  abbrev pub SimulatesAll : Alternatives → Type 0
  SimulatesAll none_left = Unit {0}
  SimulatesAll (when p ty g as_) = Simulates g × SimulatesAll as_

  -- what the code of a call has to do
  abbrev pub CallRuns : Type 0
  CallRuns = (f : ℕ) (xs : List Value) (q fn to : ℕ) (s : Stream) (frames : List Frame) (kv : List Value) (b n : ℕ) (ws : List Waiting)
      → Callable fs f (length xs) → b ≤ n
      → Runs code (goes_to code fn to kv frames) b n 0 d (leave (lower.call f xs s))
      (enter code 0 (here q f xs s (record { function = fn; block = to; values = kv } ∷ frames)) ws n) ws

  -- what the code of a loop has to do, from a jump to a turn on
  abbrev pub TurnRuns : Type 0
  TurnRuns = (tys : List Ty) (inits : List ℕ) (g : Form) (z : Site) → Stands (loop tys inits g) z
      → (length inits ≡ length tys) → IsScoped fs (Some (flags_at z.place.grow inits)) (flags_at z.place.grow inits ++ z.place.grow) g
      → (xs : List Value) (q : ℕ) (s : Stream) (b n : ℕ) (ws : List Waiting) (x : Stepped) → AreArrays (flags_at z.place.grow inits) xs → b ≤ n
      → Leads code 1 x (enter code z.at (here q z.fn (z.vals ++ xs) s z.frames) ws n)
      → Runs code (goes_out z) b n 0 (d + 1) (lower.turn g z.env xs s) x ws

  -- the same loop, where more values are there
  pub top_more : (cur : Current) (L : Option (List Bool)) (z y : Site) (ys : List Value) → y.fn ≡ z.fn → y.place.out.block ≡ z.place.out.block → y.kv ≡ z.kv
      → y.frames ≡ z.frames → y.place.top ≡ z.place.top → y.vals ≡ z.vals ++ ys → Top cur L z → Top cur L y
  top_more cur None z y ys ef eo ek er et ev t = tt
  top_more cur (Some u) z y ys ef eo ek er et ev t = record {
    tv = t.tv;
    kept = subst (λ v. Holds y.place.top.keep v t.tv) (sym ev)
        (subst (λ (o : Out). Holds o.keep (z.vals ++ ys) t.tv) (sym et) (holds_more z.place.top.keep z.vals t.tv ys t.kept));
    runs =
        subst (λ (o : Out). Next y.fn y.place.out.block y.kv y.frames o) (sym et)
        (subst (λ f. Next f y.place.out.block y.kv y.frames z.place.top) (sym ef)
        (subst (λ q. Next z.fn q y.kv y.frames z.place.top) (sym eo)
        (subst (λ l. Next z.fn z.place.out.block l y.frames z.place.top) (sym ek)
        (subst (λ r. Next z.fn z.place.out.block z.kv r z.place.top) (sym er)
        t.runs))));
  }
    where
      Next : ℕ → ℕ → List Value → List Frame → Out → Type 0
      Next fn to kv frames top = (xs : List Value) (q : ℕ) (s : Stream) (b n : ℕ) (ws : List Waiting) (x : Stepped) → AreArrays u xs → b ≤ n
          → Leads code 1 x (enter code top.block (here q fn (t.tv ++ xs) s frames) ws n)
          → Runs code (goes_to code fn to kv frames) b n 0 (d + 1) (next_turn lower cur xs s) x ws

  -- a value goes out: by a jump, or returned at once
  pub record Exits (z : Site) (i q : ℕ) (v : Value) (s : Stream) (ws : List Waiting) (n : ℕ) : Type 0 where
    pub j : ℕ
    pub short : j ≤ 1
    pub leads : Leads code j (on (live [] (exit_of z.place.out i) (here q z.fn z.vals s z.frames) ws n)) (goes_out z q v s ws n)

  -- what a value goes back to does not look at the thread's other values
  back_same : (q fn : ℕ) (xs ys : List Value) (s : Stream) (fr frames : List Frame) (v : Value) (ws : List Waiting) (n : ℕ)
      → back code (here q fn xs s fr) frames v ws n ≡ back code (here q fn ys s fr) frames v ws n
  back_same q fn xs ys s fr [] v ws n = refl
  back_same q fn xs ys s fr (f ∷ frames) v ws n = refl

  exits_by : (r : Bool) (z : Site) (i q : ℕ) (v : Value) (s : Stream) (ws : List Waiting) (n : ℕ) → Holds z.place.out.keep z.vals z.kv
      → (r ≡ true → HasReturn code z.fn z.place.out.block × (z.kv ≡ [])) → slice_get z.vals i ≡ Some v
      → (j : ℕ) × (j ≤ 1) × Leads code j (on (live [] (if r then return i else jump z.place.out.block (z.place.out.keep ++ i ∷ []))
      (here q z.fn z.vals s z.frames) ws n)) (goes_out z q v s ws n)
  exits_by true z i q v s ws n h p e = (
    0,
    omega arith,
    subst (λ o. Leads code 0 st (starts o (here q z.fn (z.kv ++ v ∷ []) s z.frames) ws n)) (sym (p refl).0.1)
        (subst (λ l. Leads code 0 st (on (live [] (return 0) (here q z.fn (l ++ v ∷ []) s z.frames) ws n))) (sym (p refl).1)
        (record { by = λ k. let e0 : 0 + k ≡ k = omega arith in ap (λ m. goes code m st) e0 ∙ same k })),
  )
    where
      st : Stepped
      st = on (live [] (return i) (here q z.fn z.vals s z.frames) ws n)

      same : (k : ℕ) → goes code k st ≡ goes code k (on (live [] (return 0) (here q z.fn (v ∷ []) s z.frames) ws n))
      same zero = refl
      same (suc k) = ap (λ x. tick (goes code k x))
          (given_is code (slice_get z.vals i) v (λ x. back code (here q z.fn z.vals s z.frames) z.frames x ws n) e
          ∙ back_same q z.fn z.vals (v ∷ []) s z.frames z.frames v ws n)
  exits_by false z i q v s ws n h p e = (
    1,
    omega arith,
    jumps code q z.fn z.place.out.block _ z.vals _ s z.frames ws n
        (picks-append z.place.out.keep (i ∷ []) z.vals z.kv (v ∷ []) (holds_now z.place.out.keep z.vals z.kv h) (ap (λ o. with_first o (Some [])) e)),
  )

  pub exits : (z : Site) (i q : ℕ) (v : Value) (s : Stream) (ws : List Waiting) (n : ℕ) → Holds z.place.out.keep z.vals z.kv
      → Returns code z.fn z.place.out z.kv
      → slice_get z.vals i ≡ Some v → Exits z i q v s ws n
  exits z i q v s ws n h p e = let r = exits_by z.place.out.returns z i q v s ws n h p e in record { j = r.0; short = r.1; leads = r.2 }
