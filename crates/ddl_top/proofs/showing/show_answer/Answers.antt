use Rattle.std.proofs.Common.{◌≡◌, ◌∙◌}
use Rattle.ddl_tree.specs.ViewModule.{module_view}
use Rattle.ddl_top.specs.Loaded.{HasShownTree}
use Rattle.ddl_top.specs.Words.{file_of}
use Rattle.ddl_top.proofs.ShowLemmas.{IfOk-show}
use Rattle.ddl_top.proofs.showing.show_answer.Goals as goal

pub returns-in-Tree-clause-answer : goal.returns-in-Tree-clause-answer
returns-in-Tree-clause-answer g c =
    let file : c.as_str.result.now ≡ file_of c.args.root.now = c.as_str.ensures.value ∙ c.in_ok-file.ensures in
    let has : HasShownTree (g.F.Files.state c.load.new.files) (file_of c.args.root.now) (module_view c.in-Tree.tree) =
    rw file at (rw c.in-Tree.is at c.in_ok-tree.ensures.answer) in
    IfOk-show c.args.root.now (g.F.Files.state c.args.files.now) (g.F.Files.state c.load.new.files) (module_view c.in-Tree.tree) c.text_answer.result has
    c.text_answer.ensures
