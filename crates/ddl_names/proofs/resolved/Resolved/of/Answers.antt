-- One module more, and none left.
use Rattle.std.proofs.Common.{◌≡◌, ℕ, List, [], ◌∷◌, ◌++◌, length, map, refl, ap, sym, subst, ◌∙◌, arith}
use Rattle.std.specs.Vec.Iter.{into_iter_items}
use Rattle.ddl_tree.specs.declared.module.SourceUnit.{SourceUnit}
use Rattle.ddl_names.specs.Resolves.{AreFirst, info_view, infos_from}
use Rattle.ddl_uses.specs.Walks.{loaded}
use Rattle.ddl_names.proofs.Firsts.{all_first, room_left}
use Rattle.ddl_names.proofs.Keeping.{name_kept, names_kept, none_left, unit_kept, units_kept}
use Rattle.ddl_names.proofs.resolved.Resolved.of.Goals as goal

pub loop-unit-preserved : goal.loop-unit-preserved
loop-unit-preserved c =
    let steps : into_iter_items c.loop-unit.unit-iterator ≡ c.in-Some.unit ∷ into_iter_items c.next.new.self = c.in-Some.ensures.steps.0 in
    record {
      sized = (let was = c.loop-unit.invariant.sized in let gone = c.in-Some.ensures.steps.1 in let short = ap length steps in omega arith);
      names = name_kept c.in-Some.unit (into_iter_items c.next.new.self) (into_iter_items c.loop-unit.unit-iterator) c.loop-unit.names.items
          c.keep_unit.new.names.items _ steps
          c.in_ok-keep_unit.ensures.name c.loop-unit.invariant.names;
      decls = ap (λ n. map info_view c.keep_unit.new.decls.items ++ infos_from n (loaded (into_iter_items c.next.new.self))) c.in_ok-place.ensures
          ∙ unit_kept c.loop-unit.place c.in-Some.unit (into_iter_items c.next.new.self) (into_iter_items c.loop-unit.unit-iterator)
          (map info_view c.loop-unit.decls.items)
          (map info_view c.keep_unit.new.decls.items) _ steps c.in_ok-keep_unit.ensures.decls c.loop-unit.invariant.decls;
      room = room_left c.loop-unit.place c.in-Some.unit (into_iter_items c.next.new.self) (into_iter_items c.loop-unit.unit-iterator) c.loop-unit.decls.items
          c.keep_unit.new.decls.items _
          steps c.in_ok-keep_unit.ensures.decls c.loop-unit.invariant.room;
      firsts = subst (λ (fs : List ℕ). AreFirst fs c.keep_unit.new.decls.items) c.deref.ensures.value c.in_ok-keep_unit.ensures.firsts;
    }

pub returns : goal.returns
returns c =
    let none = c.in-None.ensures.steps in
    let empty : into_iter_items c.loop-unit.unit-iterator ≡ [] = none_left _ (sym c.loop-unit.invariant.sized ∙ none.0) in (
      names_kept (into_iter_items c.loop-unit.unit-iterator) c.loop-unit.names.items _ empty c.loop-unit.invariant.names
          ∙ ap (map (λ (u : SourceUnit). u.name)) c.into_iter-unit-iterator.ensures.into_iter_gives.0,
      units_kept c.loop-unit.place (into_iter_items c.loop-unit.unit-iterator) (map info_view c.loop-unit.decls.items) _ empty c.loop-unit.invariant.decls
          ∙ ap (λ us. infos_from 0 (loaded us)) c.into_iter-unit-iterator.ensures.into_iter_gives.0,
      refl,
      all_first _ (into_iter_items c.loop-unit.unit-iterator) c.loop-unit.decls.items empty c.loop-unit.invariant.room c.loop-unit.invariant.firsts,
    )
