use Rattle.std.proofs.Common.{[], ◌∷◌, ◌∙◌, sym, subst}
use Rattle.std.specs.Prelude.{IfOk}
use Rattle.ddl_slots.specs.declared.node.NodeKind.TheVariants.{Builder}
use Rattle.ddl_slots.specs.declared.word.Word.{Word}
use Rattle.ddl_blocks.specs.Placing.{node_of}
use Rattle.ddl_value.specs.Builders.{GivesNode}
use Rattle.ddl_value.proofs.InPlace.{gives_made}
use Rattle.ddl_value.proofs.builders.push_beside.Goals as goal
use Rattle.ddl_value.proofs.builders.push_beside.Goals.{in-Ok-exchange, in-Err}

pub returns-clause-gives : goal.returns-clause-gives
returns-clause-gives c =
    elim c.match-exchange.branch [
      | in-Ok-exchange w ↦ subst (λ r. IfOk r (λ (v : Word).
          GivesNode c.args.slots.now (c.args.builder ∷ c.args.item ∷ []) (node_of Builder (c.args.builder ∷ c.args.item ∷ [])) v c.exchange.new.self))
          (sym w.result-is)
          (gives_made c.args.slots.now c.exchange.new.self c.new-node.result Builder (c.args.builder ∷ c.args.item ∷ [])
          (c.args.builder ∷ c.args.item ∷ []) w.in-Ok-exchange.id
          c.new-node.ensures.kind (c.new-node.ensures.words ∙ c.in-Ok.ensures.items) (c.new-node.ensures.bytes ∙ c.from.ensures ∙ c.new.ensures.items)
          w.in-Ok-exchange.ensures.vacant w.in-Ok-exchange.ensures.made)
      | in-Err w ↦ subst (λ r. IfOk r (λ (v : Word).
          GivesNode c.args.slots.now (c.args.builder ∷ c.args.item ∷ []) (node_of Builder (c.args.builder ∷ c.args.item ∷ [])) v c.exchange.new.self))
          (sym w.result-is) tt
    ]
