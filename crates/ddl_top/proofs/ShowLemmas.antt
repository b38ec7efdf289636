-- What `show` answers, put together from what its parts answer.
use Rattle.std.proofs.Common.{◌≡◌, ℕ, List, [], ◌∷◌, refl, sym, subst}
use Rattle.std.specs.Prelude.{Result, Ok, Err, IfOk}
use Rattle.ddl_base.specs.declared.memory.NoMemory.{NoMemory}
use Rattle.ddl_front.specs.Reasons.{Reason}
use Rattle.ddl_modules.specs.Files.{module_name}
use Rattle.ddl_outside.specs.Files.{FilesState}
use Rattle.ddl_show.specs.Show.{show_text}
use Rattle.ddl_tree.specs.ModuleTree.{Module}
use Rattle.ddl_top.specs.Loaded.{HasShownTree, IsUnshown}
use Rattle.ddl_top.specs.Refusals.{reason_lines}
use Rattle.ddl_top.specs.Run.{IsShowAnswer}
use Rattle.ddl_top.specs.Words.{file_of}
use Rattle.ddl_top.specs.declared.answer.Answer.{Answer}
use Rattle.ddl_top.specs.declared.status.Status.TheVariants as status_is

-- a module that is printed
pub IfOk-show : (root : List ℕ) (old new : FilesState) (tree : Module) (r : Result Answer NoMemory) → HasShownTree new (file_of root) tree
    → IfOk r (λ a. (a.status ≡ status_is.Parses) × (a.lines.items ≡ show_text tree ∷ [])) → IfOk r (λ a. IsShowAnswer root old new a.status a.lines.items)
IfOk-show root old new tree (Ok a) has h = subst (λ s. IsShowAnswer root old new s a.lines.items) (sym h.0) (tree, has, h.1)
IfOk-show root old new tree (Err e) has h = h

-- a module that is refused
pub IfOk-unshown : (root : List ℕ) (old new : FilesState) (reason : Reason) (r : Result Answer NoMemory)
    → IsUnshown old new (file_of root) (module_name root) reason
    → IfOk r (λ a. (a.status ≡ status_is.Refused) × (a.lines.items ≡ reason_lines reason)) → IfOk r (λ a. IsShowAnswer root old new a.status a.lines.items)
IfOk-unshown root old new reason (Ok a) unshown h = subst (λ s. IsShowAnswer root old new s a.lines.items) (sym h.0) (reason, unshown, h.1)
IfOk-unshown root old new reason (Err e) unshown h = h
