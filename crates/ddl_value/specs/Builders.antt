-- Arrays that grow, as the machine's slot reading says.
use Rattle.std.specs.Prelude.{◌≡◌, ℕ, ◌+◌, List, [], Some, IsSome, IfSome}
use Rattle.ddl_slots.specs.declared.node.Node.{Node}
use Rattle.ddl_slots.specs.declared.node.NodeKind.TheVariants as K
use Rattle.ddl_slots.specs.declared.word.Word.{Word}
use Rattle.ddl_slots.specs.declared.word.Word.TheVariants as W
use Rattle.ddl_slots.specs.Counted.{Counted, refs}
use Rattle.ddl_slots.specs.Slots.{Slots, entry}
use Rattle.ddl_blocks.specs.Placing.{as_node, pushed_to}
use Rattle.ddl_blocks.specs.SlotMachine.{settled}

-- a builder: none yet, or a live node of this kind, which has no bytes
abbrev pub IsBuilder : Slots → Word → Type 0
IsBuilder m W.Unit = Unit {0}
IsBuilder m (W.Ref id) = IsSome (entry m id.key) × IfSome (entry m id.key) (λ e. (e.node.kind ≡ K.Builder) × (e.node.bytes ≡ []))
IsBuilder m w = ⊥

-- counts are references, and these words are among them
abbrev pub HasCounts : Slots → List Word → Type 0
HasCounts m ws = (outer : ℕ → ℕ) × Counted m (λ x. refs x ws + outer x)

-- the word and the slots are those of the machine once an operation that took over these arguments has made a node, at a number
-- that it was offered
abbrev pub GivesNode : Slots → List Word → Node → Word → Slots → Type 0
GivesNode old args n w new = (x : ℕ) × (settled x old args (as_node n) ≡ record { word = w; map = new })

-- the node is the one that the machine's push places
pub record Pushed (old : Slots) (args : List Word) (w : Word) (new : Slots) : Type 0 where
  pub node : Node
  pub placed : pushed_to old args ≡ Some (as_node node)
  pub gives : GivesNode old args node w new
