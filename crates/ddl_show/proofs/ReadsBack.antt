-- The text of a module is read back as its tokens.
use Rattle.std.proofs.Common.{◌≡◌, ◌≤◌, ◌^◌, [], length, None, true, refl, ap, sym, subst, ◌∙◌, arith}
use Rattle.ddl_tree.specs.ModuleTree as mo
use Rattle.ddl_tree.specs.PrintModule.{print_module}
use Rattle.ddl_lex.specs.Tokens.{begin}
use Rattle.ddl_show.specs.Show.{show_text}
use Rattle.ddl_show.specs.ReadBack.{AreTokenForms, kinds, ReadsBack}
use Rattle.ddl_show.proofs.Prints.{braced}
use Rattle.ddl_show.proofs.Inked.{inked_module, module_braced}
use Rattle.ddl_show.proofs.Laid.{laid}
use Rattle.ddl_show.proofs.CutBack.{cut_on}

pub reads_back : (x : mo.Module) → AreTokenForms (print_module x) → length (print_module x) ≤ 2 ^ 20 → ReadsBack x
reads_back x forms few =
    let cut = cut_on (show_text x) (inked_module x) [] 0 forms (omega arith) refl (omega (arith, few)) begin in
    let well : braced (kinds cut.0) ≡ true = subst (λ ts. braced ts ≡ true) (sym cut.2) (module_braced x) in
    (cut.0, cut.1, ap kinds (laid None [] cut.0 tt refl well) ∙ cut.2)
