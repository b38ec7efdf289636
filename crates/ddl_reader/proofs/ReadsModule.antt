-- The machine reads each module of the grammar, and so no two that differ have one print.
use Rattle.std.proofs.Common.{◌≡◌, ℕ, max, List, [], ◌∷◌, ◌++◌, Some, refl, sym, ap, ◌∙◌, append_assoc}
use Rattle.ddl_base.specs.declared.span.Span.{Span}
use Rattle.ddl_tree.specs.declared.module.Import.{Import}
use Rattle.ddl_tree.specs.ModuleTree as mo
use Rattle.ddl_tree.specs.PrintModule.{print_decls, print_imports, print_module}
use Rattle.ddl_tree.specs.GrammarModule.{AreDecls, IsModule}
use Rattle.ddl_tree.specs.Depth.{decl_depth}
use Rattle.ddl_tree.specs.Spans.{Places, nowhere}
use Rattle.ddl_tree.specs.SpansModule.{place_decl, place_decls, place_import, place_imports, placed, SameButSpans}
use Rattle.ddl_reader.specs.Frames.{Frame, State}
use Rattle.ddl_reader.specs.Frames as frame
use Rattle.ddl_reader.specs.Step.{run, parsed}
use Rattle.ddl_reader.proofs.Tokens.{seen}
use Rattle.ddl_reader.proofs.ReadsDecl.{StartsDecl, append_none, reads_decl}

decls_start : (ds : List mo.Decl) → StartsDecl (print_decls ds [])
decls_start [] = tt
decls_start (mo.Grammar x ps t e s ∷ ds) = tt
decls_start (mo.Value x ps t e s ∷ ds) = tt
decls_start (mo.ClassDef x c s ∷ ds) = tt
decls_start (mo.BitsDef x b s ∷ ds) = tt
decls_start (mo.BitsUnion x cs s ∷ ds) = tt

abbrev module_of : List Import → List mo.Decl → mo.Module
module_of is ds = record { imports = is; decls = ds }

reads_decls : (ds : List mo.Decl) → AreDecls ds → (is : List Import) (before : List mo.Decl) (n : ℕ) (p : Places)
    → run (seen (print_decls ds []) p) (frame.in_module (module_of is before) n ∷ [], frame.at_decl) ≡ Some (module_of is (before ++ (place_decls ds p).0))
reads_decls [] i is before n p = ap (λ ds. Some (module_of is ds)) (append_none before)
reads_decls (d ∷ ds) i is before n p =
    let x = place_decl d p in
    let y = place_decls ds x.1 in
    reads_decl d i.0 (frame.in_module (module_of is before) n ∷ []) (print_decls ds []) p (decls_start ds)
    ∙ reads_decls ds i.1 is (before ++ x.0 ∷ []) (max n (decl_depth d)) x.1
    ∙ ap (λ ds'. Some (module_of is ds')) (append_assoc before (x.0 ∷ []) y.0)

-- the first declaration ends the imports
imports_end : (ds : List mo.Decl) (fs : List Frame) (p : Places)
    → run (seen (print_decls ds []) p) (fs, frame.at_import) ≡ run (seen (print_decls ds []) p) (fs, frame.at_decl)
imports_end [] fs p = refl
imports_end (mo.Grammar x ps t e s ∷ ds) fs p = refl
imports_end (mo.Value x ps t e s ∷ ds) fs p = refl
imports_end (mo.ClassDef x c s ∷ ds) fs p = refl
imports_end (mo.BitsDef x b s ∷ ds) fs p = refl
imports_end (mo.BitsUnion x cs s ∷ ds) fs p = refl

reads_imports : (is : List Import) (ds : List mo.Decl) → AreDecls ds → (before : List Import) (p : Places)
    → let x = place_imports is p in
    run (seen (print_imports is (print_decls ds [])) p) (frame.in_module (module_of before []) 0 ∷ [], frame.at_import)
    ≡ Some (module_of (before ++ x.0) (place_decls ds x.1).0)
reads_imports [] ds i before p =
    imports_end ds (frame.in_module (module_of before []) 0 ∷ []) p
    ∙ reads_decls ds i before [] 0 p
    ∙ ap (λ is. Some (module_of is (place_decls ds p).0)) (append_none before)
reads_imports (a ∷ is) ds i before p =
    let x = place_import a p in
    let y = place_imports is x.1 in
    reads_imports is ds i (before ++ x.0 ∷ []) x.1
    ∙ ap (λ is'. Some (module_of is' (place_decls ds y.1).0)) (append_assoc before (x.0 ∷ []) y.0)

-- the machine reads each module of the grammar, each part where its tokens stand
pub reads_module : (a : mo.Module) → IsModule a → (spans : List Span)
    → parsed (seen (print_module a) (record { last = nowhere; rest = spans })) ≡ Some (placed a spans)
reads_module a i spans = reads_imports a.imports a.decls i [] (record { last = nowhere; rest = spans })

some_one : (a b : mo.Module) → Some a ≡ Some b → a ≡ b
some_one a b e = cc

-- two modules of the grammar with the same print differ in nothing but spans
pub one_module : (a b : mo.Module) → IsModule a → IsModule b → print_module a ≡ print_module b → SameButSpans a b
one_module a b i j e = λ spans. some_one (placed a spans) (placed b spans) (sym (reads_module a i spans)
    ∙ ap (λ xs. parsed (seen xs (record { last = nowhere; rest = spans }))) e ∙ reads_module b j spans)
