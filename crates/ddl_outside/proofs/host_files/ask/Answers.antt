use Rattle.std.proofs.Common.{◌≡◌, ◌+◌, get_or, min, max, ℕ, ap, refl, sym, ◌∙◌, arith, rules}
use Rattle.ddl_outside.specs.HostFiles.{named_seen, asked_seen}
use Rattle.ddl_outside.specs.declared.host_files.Seen.{Seen}
use Rattle.ddl_outside.specs.declared.named.Named.{Named}
use Rattle.ddl_outside.proofs.NamedLemmas.{place_none, place_within, place_change}
use Rattle.ddl_outside.proofs.host_files.ask.Goals as goal

pub returns-in-Some : goal.returns-in-Some
returns-in-Some c =
    let file : Named Seen = get_or c.args.seen.now c.in-Some.found c.index-seen-found.result in
    let reach : c.max-file.result ≡ max file.thing.reach (min (c.args.at + c.args.count) (file.thing.length)) =
    omega (arith, c.max-file.ensures, c.min-end.ensures, c.saturating_add.ensures) in
    place_change (λ f. f.thing) (asked_seen c.args.at c.args.count) c.args.seen.now c.args.name.now c.in-Some.found file _ (sym c.place.ensures ∙ c.in-Some.is)
    (ap (λ (f : Named Seen). get_or c.args.seen.now c.in-Some.found f) c.index-seen-found.is)
    refl
    (ap (λ (n : ℕ). let seen : Seen = record { length = file.thing.length; reach = n } in seen) reach)

pub returns-in_default : goal.returns-in_default
returns-in_default c = sym (place_none (λ f. f.thing) (asked_seen c.args.at c.args.count) c.args.seen.now c.args.name.now (sym c.place.ensures
    ∙ c.in_default.is)).1

pub offset_bounds-seen-found : goal.offset_bounds-seen-found
offset_bounds-seen-found c = let within = place_within named_seen c.args.seen.now c.args.name.now c.in-Some.found (sym c.place.ensures ∙ c.in-Some.is)
    in search rules

pub bounds-seen-found : goal.bounds-seen-found
bounds-seen-found c = place_within named_seen c.args.seen.now c.args.name.now c.in-Some.found (sym c.place.ensures ∙ c.in-Some.is)
