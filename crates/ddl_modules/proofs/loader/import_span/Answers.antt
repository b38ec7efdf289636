use Rattle.std.proofs.Common.{◌≡◌, ◌<◌, ◌≤◌, ◌∙◌, ℕ, List, ap, sym, add-one, drop, get_or, length}
use Rattle.ddl_modules.specs.Cycles.{import_span}
use Rattle.ddl_modules.proofs.LoadLemmas.{has_step, none_left, span_step}
use Rattle.ddl_modules.proofs.loader.import_span.Goals as goal

pub loop-at-preserved : goal.loop-at-preserved
loop-at-preserved c =
    let i : ℕ = c.loop-at.at in
    let units : List ℕ = c.args.unit.now.imports.items in
    let within : c.loop-at.at < length c.args.unit.now.imports.items = rw c.deref-place-items.ensures.value at c.loop-at-test.true in
    let other : get_or c.args.unit.now.imports.items c.loop-at.at 0 ≡ c.args.other → ⊥ = rw c.deref-place-items.ensures.value at c.if-place-other.false in
    record {
      span = c.loop-at.invariant.span ∙ (span_step units c.args.unit.now.tree.imports.items c.args.other i c.requires.places within other
          ∙ ap (λ (k : ℕ). import_span (drop k units) (drop k c.args.unit.now.tree.imports.items) c.args.other) (sym (add-one i)));
      there = c.loop-at.invariant.there ∙ has_step units c.args.other i within other;
    }

pub unreachable-requires : goal.unreachable-requires
unreachable-requires c =
    let all : length c.args.unit.now.imports.items ≤ c.loop-at.at = rw c.deref-place-items.ensures.value at c.loop-at-test.false in
    none_left c.args.unit.now.imports.items c.args.other c.loop-at.at all c.requires.there c.loop-at.invariant.there
