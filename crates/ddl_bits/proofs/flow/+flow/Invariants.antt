use Rattle.std.proofs.Common.{◌≡◌, ℕ, ◌+◌, ◌≤◌, ◌⊎◌, drop}
use Rattle.ddl_bits.specs.Flows.{IsIn, ReadsCons, ReadsParts, RunsWhole}
use Rattle.ddl_bits.specs.Tree.{cons_width, parts_width, ConsSized, PartsSized}
use Rattle.ddl_bits.specs.View.{cons_view, layout_view, parts_view}
use Rattle.ddl_bits.proofs.flow.+flow.Given as goal

abbrev pub invariant-parts_flow-loop-part : goal.invariant-parts_flow-loop-part
invariant-parts_flow-loop-part l =
    record {
      sized : PartsSized (parts_view (drop l.part-index l.parts));
      bits : parts_width (parts_view (drop l.part-index l.parts)) ≡ l.left;
      few : l.left ≤ parts_width (parts_view l.parts);
      flow : (n : ℕ) → IsIn l.range.from l.range.bits n → ReadsParts (parts_view l.parts) l.low n
          → RunsWhole (parts_view l.other) l.fn.marks (l.low + parts_width (parts_view l.parts)) n → ReadsParts (parts_view (drop l.part-index l.parts)) l.low n
          × RunsWhole (parts_view l.other) l.marks (l.low + l.left) n;
    }

abbrev pub invariant-layout_flow-loop-con : goal.invariant-layout_flow-loop-con
invariant-layout_flow-loop-con l =
    record {
      sized : ConsSized (cons_view (drop l.con-index l.con-items)) (cons_width (layout_view l.layout));
      flow : (n : ℕ) → IsIn l.range.from l.range.bits n → ReadsCons (layout_view l.layout) l.low n
          → RunsWhole (parts_view l.other) l.fn.marks (l.low + cons_width (layout_view l.layout)) n → RunsWhole (parts_view l.other) l.marks l.low n
          ⊎ ReadsCons (cons_view (drop l.con-index l.con-items)) l.low n;
    }
