-- No group is placed, and all are in hand.
use Rattle.std.proofs.Common.{◌≡◌, ℕ, ◌<◌, ◌≤◌, Bool, false, List, [], length, get_or, slice_index, replicate, sym, ◌∙◌, ◌⊎◌, inl, inr, arith}
use Rattle.std.specs.List.{All}
use Rattle.std.proofs.Math.ListN.{get_or-eq_default}
use Rattle.std.proofs.lemmas.Bool.{cases_lt}
use Rattle.std.proofs.lemmas.List.{get_or-replicate, get_or_default, length-replicate}
use Rattle.ddl_groups.specs.Groups.{group_at}
use Rattle.ddl_groups.specs.Placing.{AreLengths, AreNumbers, IsOpen, IsPlaced, IsPlacing, IsWaiting}
use Rattle.ddl_groups.proofs.Rising.{none_in_empty}

all_open : (n x : ℕ) → IsOpen (replicate n false) x
all_open n x = by (cases_lt x n)
  where
    by : (x < n) ⊎ (n ≤ x) → IsOpen (replicate n false) x
    by (inl l) = get_or-replicate n x false false l
    by (inr l) = let e : length (replicate n false) ≡ n = length-replicate n false in get_or-eq_default (replicate n false) false (omega arith)

none_placed : (n x : ℕ) → IsPlaced (replicate n false) x → ⊥
none_placed n x p = let o : IsOpen (replicate n false) x = all_open n x in cc

module _ (needs : List (List ℕ)) (n : ℕ) (firsts labels : List ℕ) (placed : List Bool) (long : length needs ≡ n) (none : placed ≡ replicate n false) where
  pub start_placing : IsPlacing needs firsts placed []
  start_placing = rw none (record {
    marks = length-replicate n false ∙ sym long;
    known = λ k l. absurd (omega (arith, l));
    once = λ j k l m e. absurd (omega (arith, l));
    ready = λ k l. absurd (omega (arith, l));
    least = λ j k l m b. absurd (omega (arith, m));
    standing = λ l p. absurd (none_placed n l p);
    stood = λ l c. absurd (none_in_empty l c);
    later = λ j l m l_in o b. absurd (omega (arith, m));
  })

  module _ (left hand : List ℕ) (lengths : AreLengths needs left) (numbers : AreNumbers n hand) where
    pub start_waiting : IsWaiting needs firsts labels placed left [] hand 0
    start_waiting = record {
      long = lengths.0;
      within = λ l. let e : slice_index left l ≡ length (group_at needs l) = lengths.1 l in omega arith;
      kept = λ l k m o. let e : slice_index left l ≡ length (group_at needs l) = lengths.1 l in absurd (omega arith);
      bound = λ d c. absurd (none_in_empty d c);
      own = λ d c. absurd (none_in_empty d c);
      unplaced = λ d c. absurd (none_in_empty d c);
      met = λ d h c m. absurd (none_in_empty d c);
      others = λ l l_in o. let e : length hand ≡ n = numbers.0 in inr (inr (l, omega arith, omega arith, numbers.1 l (omega arith)));
    }

    pub start_hand : All (λ l. (l < length needs) × IsOpen placed l) hand
    start_hand k d l =
        let e : length hand ≡ n = numbers.0 in
        let f : get_or hand k d ≡ k = get_or_default hand k d 0 l ∙ numbers.1 k (omega arith) in
        rw (f, none) (omega arith, all_open n k)
