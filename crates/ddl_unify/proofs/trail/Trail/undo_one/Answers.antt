use Rattle.std.proofs.Common.{◌<◌, ◌∷◌, [], length, rules, set}
use Rattle.std.proofs.lemmas.List.{length-set}
use Rattle.ddl_unify.specs.declared.store.Bound.{Bound}
use Rattle.ddl_unify.proofs.Naming.{named_front}
use Rattle.ddl_unify.proofs.Undoing.{undo_within, undo_kept}
use Rattle.ddl_unify.proofs.trail.Trail.undo_one.Goals as goal

pub index_mut-requires : goal.index_mut-requires
index_mut-requires c =
    let x : Bound = record { from = c.in-Some.v; to = c.in-Some.ensures.to } in
    let h : c.in-Some.v < length c.self.inside.place.items =
    undo_within c.self.inside.place.items c.self.inside.bindings.items c.pop_last.new.bindings.items x c.in-Some.ensures.is c.self.invariant.0 in
    search rules

pub invariant_of-self : goal.invariant_of-self
invariant_of-self c =
    let x : Bound = record { from = c.in-Some.v; to = c.in-Some.ensures.to } in (
      undo_kept c.self.inside.place.items c.self.inside.bindings.items c.pop_last.new.bindings.items x c.in-Some.ensures.is c.self.invariant.0,
      named_front c.self.inside.named.items c.self.inside.place.items (set c.self.inside.place.items c.in-Some.v 0) c.self.inside.bindings.items
          c.pop_last.new.bindings.items (record { more = x ∷ []; is = c.in-Some.ensures.is }) (length-set c.self.inside.place.items c.in-Some.v 0)
          c.self.invariant.1,
    )
