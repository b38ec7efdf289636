-- One declaration more, and none left.
use Rattle.std.proofs.Common.{◌≡◌, [], ◌∷◌, ◌++◌, length, map, ap, sym, ◌∙◌, arith}
use Rattle.std.specs.Vec.Iter.{into_iter_items}
use Rattle.ddl_tree.specs.ViewModule.{decl_view}
use Rattle.ddl_names.specs.Resolves.{info, info_view}
use Rattle.ddl_names.proofs.Firsts.{more_kept}
use Rattle.ddl_names.proofs.Keeping.{decl_kept, decls_kept, none_left}
use Rattle.ddl_names.proofs.kept_decls.keep_decls.Goals as goal

pub loop-decl-preserved : goal.loop-decl-preserved
loop-decl-preserved c =
    let steps : into_iter_items c.loop-decl.decl-iterator ≡ c.in-Some.decl ∷ into_iter_items c.next.new.self = c.in-Some.ensures.steps.0 in
    record {
      sized = (let was = c.loop-decl.invariant.sized in let gone = c.in-Some.ensures.steps.1 in let short = ap length steps in omega arith);
      rest = decl_kept c.args.unit c.in-Some.decl (into_iter_items c.next.new.self) (into_iter_items c.loop-decl.decl-iterator)
          (map info_view c.loop-decl.kept.items)
          (map info_view c.keep_decl.new.kept.items) _ steps c.in_ok-keep_decl.ensures.decl c.loop-decl.invariant.rest;
      room = (let was = c.loop-decl.invariant.room in
          let short = ap length steps in
          let long = more_kept c.loop-decl.kept.items c.keep_decl.new.kept.items (info c.args.unit (decl_view c.in-Some.decl) ∷ [])
          c.in_ok-keep_decl.ensures.decl in omega arith);
      firsts = c.in_ok-keep_decl.ensures.firsts;
    }

pub returns : goal.returns
returns c =
    let none = c.in-None.ensures.steps in
    let empty : into_iter_items c.loop-decl.decl-iterator ≡ [] = none_left _ (sym c.loop-decl.invariant.sized ∙ none.0) in
    record {
      decls = decls_kept c.args.unit (into_iter_items c.loop-decl.decl-iterator) (map info_view c.loop-decl.kept.items) _ empty c.loop-decl.invariant.rest
          ∙ ap (λ ds. map info_view c.args.kept.now.items ++ map (info c.args.unit) (map decl_view ds)) c.into_iter-decl-iterator.ensures.into_iter_gives.0;
      firsts = c.loop-decl.invariant.firsts;
    }
