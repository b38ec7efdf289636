use Rattle.std.proofs.Common.{◌≡◌, [], ◌∷◌, ◌∙◌, sym, subst, false}
use Rattle.std.specs.Prelude.{IfSome, IfOk, nat_eq}
use Rattle.ddl_slots.specs.declared.node.NodeKind.TheVariants.{Builder}
use Rattle.ddl_slots.specs.declared.word.SlotId.{SlotId}
use Rattle.ddl_slots.specs.declared.word.Word.{Word}
use Rattle.ddl_slots.specs.declared.word.Word.TheVariants.{Ref}
use Rattle.ddl_slots.specs.Slots.{Entry, entry}
use Rattle.ddl_blocks.specs.Placing.{node_of}
use Rattle.ddl_value.specs.Builders.{GivesNode}
use Rattle.ddl_value.proofs.InPlace.{placed_beside, beside_pushed, one_ref, not_one}
use Rattle.ddl_value.proofs.builders.array_push.Goals as goal
use Rattle.ddl_value.proofs.builders.array_push.Goals.{in-Ref+else-alone, in_default}

shared : (c : goal.After-push_beside) (id : SlotId) → c.args.builder ≡ Ref id → IfSome (entry c.args.slots.now id.key) (λ (e : Entry). nat_eq e.count 1 ≡ false)
shared c id is =
    elim c.match-builder.branch [
      | in-Ref+else-alone w ↦ subst (λ (z : SlotId). IfSome (entry c.args.slots.now z.key) (λ (e : Entry). nat_eq e.count 1 ≡ false))
          (one_ref w.in-Ref.id id (sym w.in-Ref.is ∙ is))
          (not_one (entry c.args.slots.now w.in-Ref.id.key) w.alone.result w.if-alone.false w.alone.ensures)
      | in_default w ↦ absurd (w.in_default.not-Ref id is)
    ]

kept : (c : goal.After-push_beside) → c.args.builder ≡ c.match-builder.builder
kept c =
    elim c.match-builder.branch [
      | in-Ref+else-alone w ↦ w.in-Ref.is ∙ sym w.builder-is
      | in_default w ↦ sym w.builder-is
    ]

pub returns-clause-pushed : goal.returns-clause-pushed
returns-clause-pushed c =
    beside_pushed c.args.slots.now c.push_beside.new.slots c.args.builder c.args.item c.push_beside.result
    (placed_beside c.args.slots.now c.args.builder c.args.item c.requires.builder (shared c))
    (subst (λ (b : Word). IfOk c.push_beside.result (λ w.
    GivesNode c.args.slots.now (b ∷ c.args.item ∷ []) (node_of Builder (b ∷ c.args.item ∷ [])) w c.push_beside.new.slots)) (sym (kept c))
    c.push_beside.ensures.gives)
