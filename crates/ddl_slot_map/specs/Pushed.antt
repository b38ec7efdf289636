-- A node with a word more.
use Rattle.std.specs.Prelude.{[], ◌∷◌, ◌++◌, Option, Some, None}
use Rattle.ddl_slots.specs.declared.node.Node.{Node}
use Rattle.ddl_slots.specs.declared.word.Word.{Word}
use Rattle.ddl_slots.specs.Slots.{Entry}

-- the word stands at the end
abbrev pub with_word : Node → Word → Node
with_word n w = record { kind = n.kind; words = n.words ++ w ∷ []; bytes = n.bytes }

-- a slot with such a node, and as many references
abbrev pub pushed_entry : Option Entry → Word → Option Entry
pushed_entry None w = None
pushed_entry (Some e) w = Some (record { count = e.count; node = with_word e.node w })
