-- One more declaration, whose name is new.
use Rattle.std.proofs.Common.{◌≡◌, None, ap, sym, ◌∙◌, arith}
use Rattle.ddl_tree.specs.ViewModule.{decl_view}
use Rattle.ddl_kinds.specs.Meanings.{decl_name}
use Rattle.ddl_uses.specs.Held.{at_text}
use Rattle.ddl_names.proofs.Refusing.{differs, place_more}
use Rattle.ddl_names.proofs.twice.decls_differ.Goals as goal

pub loop-decl-preserved : goal.loop-decl-preserved
loop-decl-preserved c =
    let text : c.get.result.now ≡ (decl_name (decl_view c.decl-item.result)).text = c.get.ensures ∙ ap (λ n. n.text) c.name_of-name.ensures in
    let none : at_text c.loop-decl.places (decl_name (decl_view c.decl-item.result)).text ≡ None = ap (at_text c.loop-decl.places) (sym text)
    ∙ sym c.in_ok-first.ensures.before ∙ c.in-None.is in
    record {
      kept = place_more c.args.decls.now c.loop-decl.decl-index c.decl-item.result c.get.result.now c.name_of-name.result.now.span c.loop-decl.places
          c.before-in-loop-decl.new.places (omega arith)
          c.decl-item.is text (ap (λ n. n.span) c.name_of-name.ensures) (c.in_ok-first.ensures.kept c.in-None.is) c.loop-decl.invariant.kept;
      rest = differs c.args.decls.now c.loop-decl.decl-index c.decl-item.result c.loop-decl.places (omega arith) c.decl-item.is c.loop-decl.invariant.kept
          c.loop-decl.invariant.rest none;
    }
