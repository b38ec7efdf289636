-- What a loop over parts or constructors has done to the marks, where one bit is read.
use Rattle.std.proofs.Common.{◌≡◌, ◌≢◌, ℕ, ◌+◌, ◌-◌, ◌<◌, ◌≤◌, ◌⊎◌, Bool, true, false, ◌||◌, List, ◌++◌, get_or, drop, take, length, refl, ap, subst, sym, ◌∙◌}
use Rattle.std.proofs.Common.{inl, inr, arith}
use Rattle.std.proofs.Math.Seq.{drop-append_seam, take-append_seam}
use Rattle.std.proofs.lemmas.List.{length-drop, length-take-le, take-take, drop-drop, drop-take}
use Rattle.std.proofs.lemmas.Slice.{take-put_mid, take-put_mid_below, drop-put_mid}
use borrow.Rule.Slice.PartMut.{put_mid}
use Rattle.ddl_bits.specs.declared.stepping.Bit.{Bit}
use Rattle.ddl_bits.specs.Flows.{part_leaves, parts_leaves, HasBit, IsStep, RunsCons, RunsLeaf, RunsPart, RunsParts}
use Rattle.ddl_bits.specs.Tree.{Part, Parts, part, Cons, con, part_width, parts_width}

-- what is still to be said of a number that ran with the old marks: the marks before `start` are done
pub record PartsLeft (all rest : Parts) (low place : ℕ) (marks : List Bool) (start left : ℕ) (done : Bool) (n : ℕ) : Type 0 where
  pub ahead : RunsParts rest low (drop start marks) (place + 1) n
  pub behind : (m : List Bool) → take start m ≡ take start marks → RunsParts rest low (drop start m) place n → RunsParts all low m place n
  pub entered : place ≡ low + left → done ≡ true

abbrev pub PartsSteps : Parts → Parts → ℕ → ℕ → Bit → Bool → List Bool → List Bool → ℕ → ℕ → Bool → Type 0
PartsSteps all rest low width bit entered old marks start left done = (n : ℕ) → HasBit bit n → RunsParts all low old (bit.place + 1) n
    → (bit.place ≡ low + width → entered ≡ true) → PartsLeft all rest low bit.place marks start left done n

-- a number that is done runs whatever becomes of the marks ahead
pub record ConsDone (all : Cons) (low place : ℕ) (marks : List Bool) (start : ℕ) (done : Bool) (n : ℕ) : Type 0 where
  pub runs : (m : List Bool) → take start m ≡ take start marks → RunsCons all low m place n
  pub read : place ≡ low → done ≡ true

-- each number runs by a constructor that is still ahead, or is done
pub record ConsLeft (all rest : Cons) (low place : ℕ) (marks : List Bool) (start : ℕ) (done : Bool) (n : ℕ) : Type 0 where
  pub up : (m : List Bool) → RunsCons rest low (drop start m) place n → RunsCons all low m place n
  pub either : RunsCons rest low (drop start marks) (place + 1) n ⊎ ConsDone all low place marks start done n

abbrev pub ConsSteps : Cons → Cons → ℕ → ℕ → Bit → Bool → List Bool → List Bool → ℕ → Bool → Type 0
ConsSteps all rest low width bit entered old marks start done = (n : ℕ) → HasBit bit n → RunsCons all low old (bit.place + 1) n
    → (bit.place ≡ low + width → entered ≡ true) → ConsLeft all rest low bit.place marks start done n

-- a part of the marks was written: what is before it, in it and behind it
before_same : (start end count : ℕ) (marks new m : List Bool) → start ≤ end → start ≤ length marks → take end m ≡ take end (put_mid start count marks new)
    → take start m ≡ take start marks
before_same start end count marks new m order inside same =
    sym (take-take start end m order)
    ∙ ap (take start) same
    ∙ take-take start end (put_mid start count marks new) order
    ∙ take-put_mid_below start count marks new start (omega arith) inside

here_same : (start end count k : ℕ) (marks new m : List Bool) → end ≡ start + k → length new ≡ k → start ≤ length marks
    → take end m ≡ take end (put_mid start count marks new) → take k (drop start m) ≡ new
here_same start end count k marks new m e size inside same =
    let whole : take (start + k) m ≡ take start marks ++ new = ap (λ i. take i m) (sym e) ∙ same ∙ take-put_mid start count marks new end (omega arith) inside
    in
    let front : length (take start marks) ≡ start = length-take-le start marks inside in
    sym (drop-take start k m)
    ∙ ap (drop start) whole
    ∙ ap (λ i. drop i (take start marks ++ new)) (sym front)
    ∙ drop-append_seam (take start marks) new

behind_same : (start end count k : ℕ) (marks new : List Bool) → end ≡ start + k → count ≡ k → length new ≡ k → start ≤ length marks
    → drop k (drop start marks) ≡ drop end (put_mid start count marks new)
behind_same start end count k marks new e is size inside =
    drop-drop k start marks
    ∙ ap (λ i. drop i marks) (sym e)
    ∙ sym (drop-put_mid start count marks new end (omega arith) inside (omega arith))

pub length_part : (marks : List Bool) (start end k : ℕ) → end ≡ start + k → end ≤ length marks → length (take (end - start) (drop start marks)) ≡ k
length_part marks start end k e inside =
    let count : end - start ≡ k = omega arith in
    ap (λ i. length (take i (drop start marks))) count ∙ length-take-le k (drop start marks) (omega (arith, length-drop start marks))

-- marks that were lent whole
pub written_back : (len : ℕ) (new old : List Bool) → len ≡ length new → take len (new ++ drop (length new) old) ≡ new
written_back len new old e = ap (λ k. take k (new ++ drop (length new) old)) e ∙ take-append_seam new (drop (length new) old)

pub or_left : (a b : Bool) → a ≡ true → (a || b) ≡ true
or_left true b h = refl
or_left false b h = absurd cc

pub or_right : (a b : Bool) → b ≡ true → (a || b) ≡ true
or_right true b h = refl
or_right false b h = h

-- a leaf that is not gone on with runs on, since none of its bits is being read
pub leaf_left : (p : Part) (low place : ℕ) (marks new : List Bool) (n : ℕ) (goes : Bool) → 1 ≤ part_width p → RunsLeaf p low marks (place + 1) n
    → place ≢ low + part_width p → (get_or marks 0 false ≡ true → low ≤ place → place < low + part_width p → goes ≡ true) → goes ≡ false
    → RunsLeaf p low new place n × (place ≡ low → goes ≡ true)
leaf_left p low place marks new n goes some runs past goes_on none =
    let not_inside : low ≤ place → place < low + part_width p → ⊥ = λ over under.
    let no : false ≡ true = sym none ∙ goes_on (runs.1 (omega arith) (omega arith)) over under in
    cc in
    ((runs.0, λ over under. absurd (not_inside (omega arith) (omega arith))), λ at. absurd (not_inside (omega arith) (omega arith)))

-- one part more
pub part_stepped : (all : Parts) (p : Part) (rest : Parts) (low width left start end count : ℕ) (bit : Bit) (entered done here : Bool)
    (old marks new : List Bool) → end ≡ start + part_leaves p → count ≡ part_leaves p → length new ≡ part_leaves p → end ≤ length marks
    → left ≡ part_width p + parts_width rest → PartsSteps all (part p rest) low width bit entered old marks start left done
    → IsStep (RunsPart p (low + parts_width rest)) (low + parts_width rest) (part_width p) bit done (take count (drop start marks)) new here
    → PartsSteps all rest low width bit entered old (put_mid start count marks new) end (parts_width rest) here
part_stepped all p rest low width left start end count bit entered done here old marks new e is size inside width_is steps step =
    λ n has runs before.
    let before_here = steps n has runs before in
    let k = part_leaves p in
    let Here : List Bool → Type 0 = λ m. RunsPart p (low + parts_width rest) m (bit.place + 1) n in
    let There : List Bool → Type 0 = λ m. RunsPart p (low + parts_width rest) m bit.place n in
    let Ahead : List Bool → Type 0 = λ m. RunsParts rest low m (bit.place + 1) n in
    let Behind : List Bool → Type 0 = λ m. RunsParts rest low m bit.place n in
    let stepped = step n has (subst Here (ap (λ i. take i (drop start marks)) (sym is)) before_here.ahead.0) (λ at. before_here.entered (omega arith)) in
    record {
      ahead = subst Ahead (behind_same start end count k marks new e is size (omega arith)) before_here.ahead.1;
      behind = λ m same after. before_here.behind m (before_same start end count marks new m (omega arith) (omega arith) same) (
        subst There (sym (here_same start end count k marks new m e size (omega arith) same)) stepped.0,
        subst Behind (ap (λ i. drop i m) e ∙ sym (drop-drop k start m)) after,
      );
      entered = stepped.1;
    }

-- one constructor more
pub con_stepped : (all : Cons) (ps : Parts) (rest : Cons) (low width start end count : ℕ) (bit : Bit) (entered done here : Bool) (old marks new : List Bool)
    → end ≡ start + parts_leaves ps → count ≡ parts_leaves ps → length new ≡ parts_leaves ps → end ≤ length marks
    → ConsSteps all (con ps rest) low width bit entered old marks start done
    → IsStep (RunsParts ps low) low width bit entered (take count (drop start marks)) new here
    → ConsSteps all rest low width bit entered old (put_mid start count marks new) end (done || here)
con_stepped all ps rest low width start end count bit entered done here old marks new e is size inside steps step =
    λ n has runs before.
    let before_here = steps n has runs before in
    let k = parts_leaves ps in
    let Here : List Bool → Type 0 = λ m. RunsParts ps low m (bit.place + 1) n in
    let There : List Bool → Type 0 = λ m. RunsParts ps low m bit.place n in
    let Ahead : List Bool → Type 0 = λ m. RunsCons rest low m (bit.place + 1) n in
    let Behind : List Bool → Type 0 = λ m. RunsCons rest low m bit.place n in
    record {
      up = λ m after. before_here.up m (inr (subst Behind (ap (λ i. drop i m) e ∙ sym (drop-drop k start m)) after));
      either =
          elim before_here.either [
            | inl ahead ↦
                elim ahead [
                  | inl by_this ↦
                      let stepped = step n has (subst Here (ap (λ i. take i (drop start marks)) (sym is)) by_this) before in
                      inr (record {
                        runs = λ m same. before_here.up m (inl
                            (subst There (sym (here_same start end count k marks new m e size (omega arith) same)) stepped.0));
                        read =
                            λ at. or_right done here (stepped.1 at);
                      })
                  | inr by_other ↦ inl (subst Ahead (behind_same start end count k marks new e is size (omega arith)) by_other)
                ]
            | inr is_done ↦
                inr (record {
                  runs = λ m same. is_done.runs m (before_same start end count marks new m (omega arith) (omega arith) same);
                  read =
                      λ at. or_left done here (is_done.read at);
                })
          ];
    }
