use Rattle.std.proofs.Common.{◌≡◌, ℕ, List, map, take}
use Rattle.ddl_tree.specs.ViewModule.{decl_view}
use Rattle.ddl_uses.specs.Bindings.{meaning_among}
use Rattle.ddl_uses.specs.Held.{at_text}
use Rattle.ddl_uses.specs.Walks.{meaning_of_numbered}
use Rattle.ddl_uses.proofs.module_names.ModuleNames.of.Given as goal

abbrev pub invariant-loop-place : goal.invariant-loop-place
invariant-loop-place l = (q : List ℕ) → meaning_of_numbered (at_text l.by_name q) ≡ meaning_among l.first (map decl_view (take l.place l.decls)) q
