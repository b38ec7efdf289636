use Rattle.std.proofs.Common.{◌≡◌, ◌<◌, ◌∙◌, List, ℕ, ap, arith, length, vec_len}
use Rattle.std.proofs.lemmas.Result.{on_ok_weaker}
use Rattle.ddl_modules.specs.Files.{module_file}
use Rattle.ddl_modules.specs.Queue.{IsNext}
use Rattle.ddl_modules.proofs.TurnLemmas.{IfErr-turn, is_next, turn_from}
use Rattle.ddl_modules.proofs.reading.load_next.Goals as goal

pub returns-clause-taken : goal.returns-clause-taken
returns-clause-taken g c =
    let number : c.len.result ≡ length c.args.loading.now.units.items = c.len.ensures ∙ c.args.loading.now.units.ok.0 in
    let within : c.len.result < vec_len c.args.loading.now.names = omega (arith, c.len.ensures, c.requires.unread) in
    let next : IsNext c.args.root.now c.args.loading.now.units.items c.in_ok-name.name =
    is_next c.args.root.now c.args.loading.now c.len.result c.index.result.now c.in_ok-name.name c.requires.queued number c.index.ensures within
    (c.in_ok-name.ensures ∙ c.get.ensures) in
    let file : c.as_str.result.now ≡ module_file c.args.root.now c.in_ok-name.name =
    c.as_str.ensures.value ∙ (c.in_ok-file.ensures ∙ (ap (λ (r : List ℕ). module_file r c.get-2.result.now) c.as_bytes.ensures.value
    ∙ ap (module_file c.args.root.now) c.get-2.ensures)) in
    on_ok_weaker c.load_file.result
    (turn_from (g.F.Files.state c.args.files.now) (g.F.Files.state c.load_file.new.files) c.args.root.now c.as_str.result.now c.in_ok-name.name
    c.args.loading.now c.load_file.new.loading
    file next c.requires.queued c.load_file.ensures.only)
    c.load_file.ensures.taken

pub returns-clause-none : goal.returns-clause-none
returns-clause-none g c =
    let number : c.len.result ≡ length c.args.loading.now.units.items = c.len.ensures ∙ c.args.loading.now.units.ok.0 in
    let within : c.len.result < vec_len c.args.loading.now.names = omega (arith, c.len.ensures, c.requires.unread) in
    let next : IsNext c.args.root.now c.args.loading.now.units.items c.in_ok-name.name =
    is_next c.args.root.now c.args.loading.now c.len.result c.index.result.now c.in_ok-name.name c.requires.queued number c.index.ensures within
    (c.in_ok-name.ensures ∙ c.get.ensures) in
    let file : c.as_str.result.now ≡ module_file c.args.root.now c.in_ok-name.name =
    c.as_str.ensures.value ∙ (c.in_ok-file.ensures ∙ (ap (λ (r : List ℕ). module_file r c.get-2.result.now) c.as_bytes.ensures.value
    ∙ ap (module_file c.args.root.now) c.get-2.ensures)) in
    IfErr-turn (g.F.Files.state c.args.files.now) (g.F.Files.state c.load_file.new.files) c.args.root.now c.as_str.result.now c.in_ok-name.name
    c.args.loading.now c.load_file.result
    file next c.requires.queued c.load_file.ensures.only c.load_file.ensures.none
