-- The reading as it begins, with the prelude.
use Rattle.std.proofs.Common.{◌≡◌, ℕ, List, [], ◌∷◌, ◌++◌, ap, sym, subst, ◌∙◌}
use Rattle.ddl_source.specs.Source.{HasTree}
use Rattle.ddl_tree.specs.declared.module.Module.{Module}
use Rattle.ddl_tree.specs.declared.module.SourceUnit.{SourceUnit}
use Rattle.ddl_tree.specs.ViewModule.{module_view}
use Rattle.ddl_modules.specs.Files.{module_name}
use Rattle.ddl_modules.specs.Loading.{Adds, IsBegun}
use Rattle.ddl_modules.specs.Queue.{imported, prelude_name, queue, with_names}
use Rattle.ddl_modules.specs.Reading.{HasImports, prelude_text}
use Rattle.ddl_modules.specs.declared.reading.Loading.{Loading}

-- the prelude put into an empty list of units
pub begun : (root name : List ℕ) (old new : Loading) (tree : Module) (u : SourceUnit) → name ≡ prelude_name → old.units.items ≡ []
    → old.names.items ≡ prelude_name ∷ module_name root ∷ [] → old.length ≡ 0
    → HasTree 0 prelude_text (module_view tree) → Adds old name tree u new → new.length ≡ old.length → IsBegun root new
begun root name old new tree u named no_units first none has a l =
    let first_queue : List (List ℕ) = prelude_name ∷ module_name root ∷ [] in
    let T : Module → Type 0 = λ t. HasTree 0 prelude_text (module_view t) in
    let I : List (List ℕ) → Type 0 = λ q. HasImports q u in
    let units : new.units.items ≡ u ∷ [] = a.units ∙ ap (λ (us : List SourceUnit). us ++ u ∷ []) no_units in (
      u,
      (a.name_of ∙ named, subst T (sym a.tree_of) has, subst I first a.imports),
      units,
      a.names ∙ (ap (λ (q : List (List ℕ)). with_names q (imported tree.imports.items)) first
          ∙ (ap (λ (t : Module). with_names first_queue (imported t.imports.items)) (sym a.tree_of) ∙ ap (queue root) (sym units))),
      a.few,
      l ∙ none,
    )
