use Rattle.std.proofs.Common.{ap, ◌∙◌, sym, subst, Some, None, ◌≡◌}
use Rattle.std.specs.Prelude.{IfOk}
use Rattle.slab.specs.Slab.{Updates, get}
use Rattle.ddl_slots.specs.Slots.{entry, made}
use Rattle.ddl_slot_map.specs.View.{shown}
use Rattle.ddl_slots.specs.declared.word.SlotId.{SlotId}
use Rattle.ddl_slot_map.specs.declared.cell.State.TheVariants.{Live}
use Rattle.ddl_slot_map.proofs.Cells.{make_gone, insert_made, vacant_entry}
use Rattle.ddl_slot_map.proofs.slots.Slots.make.Goals as goal
use Rattle.ddl_slot_map.proofs.slots.Slots.make.Goals.{in-Ok, in-Err}

pub invariant_of-self : goal.invariant_of-self
invariant_of-self c = make_gone c.self.inside.slab c.insert.new.self c.insert.result c.args.node c.insert.ensures.updates c.insert.ensures.err c.self.invariant

pub returns-clause-vacant : goal.returns-clause-vacant
returns-clause-vacant c =
    elim c.match-insert.branch [
      | in-Ok w ↦ subst (λ r. IfOk r (λ (id : SlotId). entry c.args.self.now id.key ≡ None)) (sym w.result-is)
          (ap (λ m. entry m w.in-Ok.key) (sym c.self.view_is) ∙ vacant_entry c.self.inside.slab.slots w.in-Ok.key
          (subst (λ r. IfOk r (λ key. get c.self.inside.slab key ≡ None)) w.in-Ok.is c.insert.ensures.was_vacant))
      | in-Err w ↦ subst (λ r. IfOk r (λ (id : SlotId). entry c.args.self.now id.key ≡ None)) (sym w.result-is) tt
    ]

pub returns-clause-made : goal.returns-clause-made
returns-clause-made c =
    elim c.match-insert.branch [
      | in-Ok w ↦ subst (λ r. IfOk r (λ (id : SlotId). shown c.insert.new.self.slots ≡ made id.key c.args.node c.args.self.now)) (sym w.result-is)
          (insert_made c.self.inside.slab c.insert.new.self w.in-Ok.key c.args.node
          (subst (λ r. IfOk r (λ key. Updates c.self.inside.slab c.insert.new.self key (Some (record { state = Live 1; node = c.args.node })))) w.in-Ok.is
          c.insert.ensures.updates)
          ∙ ap (made w.in-Ok.key c.args.node) c.self.view_is)
      | in-Err w ↦ subst (λ r. IfOk r (λ (id : SlotId). shown c.insert.new.self.slots ≡ made id.key c.args.node c.args.self.now)) (sym w.result-is) tt
    ]
