use Rattle.std.proofs.Common.{◌<◌, ◌≤◌, inl, refl, arith, vec_len}
use Rattle.std.proofs.lemmas.Result.{err_from_is_err_and}
use Rattle.ddl_modules.proofs.ProgressLemmas.{progress-begun, progress-more, progress-smaller, progress-done, progress-failed}
use Rattle.ddl_modules.proofs.reading.load_all.Goals as goal

pub turns-init : goal.turns-init
turns-init g c = progress-begun (g.F.Files.state c.args.files.now) c.args.root.now c.in_ok-loading.loading c.in_ok-loading.ensures.begun

pub turns-preserved : goal.turns-preserved
turns-preserved g c =
    let unread : vec_len c.turns.loading.units < vec_len c.turns.loading.names = omega (arith, c.turns-test.true) in
    progress-more (g.F.Files.state c.args.files.now) (g.F.Files.state c.turns.files) (g.F.Files.state c.load_next.new.files) c.args.root.now c.turns.loading
    c.load_next.new.loading
    c.turns.invariant unread c.in_ok-load_next.ensures.later c.in_ok-load_next.ensures.taken

pub turns-smaller : goal.turns-smaller
turns-smaller g c =
    let unread : vec_len c.turns.loading.units < vec_len c.turns.loading.names = omega (arith, c.turns-test.true) in
    progress-smaller (g.F.Files.state c.turns.files) (g.F.Files.state c.load_next.new.files) c.args.root.now c.turns.loading c.load_next.new.loading
    c.in_ok-load_next.ensures.taken unread c.turns.invariant.queued

pub returns-in_err-loading-clause-none : goal.returns-in_err-loading-clause-none
returns-in_err-loading-clause-none g c =
    let p = err_from_is_err_and c.from_residual.result c.from_residual.ensures.1 in
    rw (p.1, p.2) (inl (refl, c.in_err-loading.ensures.none))

pub returns-in_err-load_next-clause-none : goal.returns-in_err-load_next-clause-none
returns-in_err-load_next-clause-none g c =
    let p = err_from_is_err_and c.from_residual-in_err-load_next.result c.from_residual-in_err-load_next.ensures.1 in
    rw (p.1, p.2) (progress-failed (g.F.Files.state c.args.files.now) (g.F.Files.state c.turns.files) (g.F.Files.state c.load_next.new.files) c.args.root.now
    c.turns.loading c.in_err-load_next.field-0.0
    c.turns.invariant c.in_err-load_next.ensures.later c.in_err-load_next.ensures.none)

pub returns-clause-read : goal.returns-clause-read
returns-clause-read g c =
    let none : vec_len c.turns.loading.names ≤ vec_len c.turns.loading.units = omega (arith, c.turns-test.false) in
    progress-done (g.F.Files.state c.args.files.now) (g.F.Files.state c.turns.files) c.args.root.now c.turns.loading c.turns.invariant none

pub returns-clause-few : goal.returns-clause-few
returns-clause-few g c =
    let none : vec_len c.turns.loading.names ≤ vec_len c.turns.loading.units = omega (arith, c.turns-test.false) in
    let few : vec_len c.turns.loading.names ≤ 257 = c.turns.invariant.queued.1 in
    let within : vec_len c.turns.loading.units ≤ vec_len c.turns.loading.names = c.turns.invariant.within in
    omega arith
