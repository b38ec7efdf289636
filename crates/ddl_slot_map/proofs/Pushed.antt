-- A node with a word more, in its cell.
use Rattle.std.proofs.Common.{◌≡◌, ◌∙◌, sym, ap, refl, ℕ, Some, None, arith}
use Rattle.std.specs.Prelude.{OnOk, Result, Ok, Err, slice_index_or, slice_set}
use Rattle.ddl_slots.specs.declared.node.Node.{Node}
use Rattle.ddl_slots.specs.declared.word.Word.{Word}
use Rattle.ddl_slots.specs.Slots.{Slots, entry, put}
use Rattle.ddl_slot_map.specs.declared.cell.Cell.{Cell}
use Rattle.ddl_slot_map.specs.declared.cell.State.{State}
use Rattle.ddl_slot_map.specs.declared.cell.State.TheVariants.{Live, Gone}
use Rattle.ddl_slot_map.specs.Pushed.{with_word, pushed_entry}
use Rattle.ddl_slot_map.specs.View.{Cells, view_state, view_cell, shown, gone_cell, gone}
use Rattle.ddl_slot_map.proofs.Cells.{cell_in, gone_at, gone_set, shown_at, shown_set}

-- a cell of the same state
pub same_gone : (cs : Cells) (x : ℕ) (c : Cell) (n : Node) → slice_index_or cs x None ≡ Some c → gone cs ≡ 0
    → gone (slice_set cs x (Some (record { state = c.state; node = n }))) ≡ 0
same_gone cs x c n h g =
    let a : gone_cell (slice_index_or cs x None) ≡ 0 = gone_at cs x g in
    let b : gone_cell (slice_index_or cs x None) ≡ gone_cell (Some (record { state = c.state; node = n })) = ap gone_cell h in
    omega (arith, gone_set cs x (Some (record { state = c.state; node = n })) (cell_in cs x c h))

pushed_view : (s : State) (n : Node) (w : Word) → view_state s (with_word n w) ≡ pushed_entry (view_state s n) w
pushed_view (Live k) n w = refl
pushed_view (Gone next) n w = refl

pub pushed_shown : (cs : Cells) (x : ℕ) (c : Cell) (n : Node) (w : Word) (m : Slots) → slice_index_or cs x None ≡ Some c → shown cs ≡ m → n ≡ with_word c.node w
    → shown (slice_set cs x (Some (record { state = c.state; node = n }))) ≡ put m x (pushed_entry (entry m x) w)
pushed_shown cs x c n w m h s e =
    shown_set cs x (Some (record { state = c.state; node = n })) (cell_in cs x c h)
    ∙ ap (λ z. put (shown cs) x (view_state c.state z)) e
    ∙ ap (put (shown cs) x) (pushed_view c.state c.node w ∙ ap (λ o. pushed_entry o w) (sym (shown_at cs x ∙ ap view_cell h)))
    ∙ ap (λ z. put z x (pushed_entry (entry z x) w)) s

pub then_ok : {A E : Type 0} {P Q : Type 0} (r : Result A E) → (P → Q) → OnOk r P → OnOk r Q
then_ok (Ok x) f p = f p
then_ok (Err e) f p = p
