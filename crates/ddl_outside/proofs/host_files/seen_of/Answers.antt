use Rattle.std.proofs.Common.{Some, ap, sym, ◌∙◌, rules}
use Rattle.ddl_outside.specs.HostFiles.{named_seen, asked_seen}
use Rattle.ddl_outside.specs.declared.host_files.Seen.{Seen}
use Rattle.ddl_outside.specs.declared.named.Named.{Named}
use Rattle.ddl_outside.proofs.NamedLemmas.{place_none, place_within, place_thing}
use Rattle.ddl_outside.proofs.host_files.seen_of.Goals as goal

pub returns-in_err-at : goal.returns-in_err-at
returns-in_err-at c = rw c.from_residual.ensures (sym (place_none (λ f. f.thing) (asked_seen 0 0) c.args.seen.now c.args.name.now (sym c.place.ensures
    ∙ c.in_err-at.was)).0)

pub offset_bounds-seen-at : goal.offset_bounds-seen-at
offset_bounds-seen-at c = let within = place_within named_seen c.args.seen.now c.args.name.now c.in_ok-at.at (sym c.place.ensures ∙ c.in_ok-at.was)
    in search rules

pub bounds-seen-at-in_ok-at : goal.bounds-seen-at-in_ok-at
bounds-seen-at-in_ok-at c = place_within named_seen c.args.seen.now c.args.name.now c.in_ok-at.at (sym c.place.ensures ∙ c.in_ok-at.was)

pub returns : goal.returns
returns c =
    ap (λ (f : Named Seen). Some (f.thing)) (sym c.index-seen-at.is)
    ∙ sym (place_thing (λ f. f.thing) c.args.seen.now c.args.name.now c.in_ok-at.at c.index-seen-at.result (sym c.place.ensures
    ∙ c.in_ok-at.was) c.index-seen-at.is)

pub bounds-seen-at : goal.bounds-seen-at
bounds-seen-at c = place_within named_seen c.args.seen.now c.args.name.now c.in_ok-at.at (sym c.place.ensures ∙ c.in_ok-at.was)
