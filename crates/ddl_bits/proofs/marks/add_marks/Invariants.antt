use Rattle.std.proofs.Common.{◌≡◌, ℕ, ◌<◌, ◌≤◌, ◌||◌, false, slice_index_or}
use Rattle.ddl_bits.proofs.marks.add_marks.Given as goal

abbrev pub invariant-loop-place : goal.invariant-loop-place
invariant-loop-place l =
    record {
      done : (i : ℕ) → i < l.place → slice_index_or l.marks i false ≡ (slice_index_or l.fn.marks i false || slice_index_or l.other i false);
      ahead : (i : ℕ) → l.place ≤ i → slice_index_or l.marks i false ≡ slice_index_or l.fn.marks i false;
    }
