use Rattle.std.proofs.Common.{ap, sym, ◌∙◌}
use Rattle.ddl_types.specs.PlainOf.{cut}
use Rattle.ddl_typed.specs.Evaluated.{meant, scope_view}
use Rattle.ddl_typed.specs.Told.{told}
use Rattle.ddl_typed.specs.View.{view}
use Rattle.ddl_typed.proofs.Answering.{gives_failed, gives_unsaid}
use Rattle.ddl_typed.proofs.entry.told_at.Goals as goal

pub returns-in-Err-Failed-clause-told : goal.returns-in-Err-Failed-clause-told
returns-in-Err-Failed-clause-told c =
    let name = c.args.entry.now.span in
    ap (λ scope. told (cut name (meant c.args.input.now (view c.args.entry.now.body) (scope_view scope) 0))) (sym c.new-scope.ensures.items)
    ∙ ap (λ o. told (cut name o)) (gives_failed c.args.input.now (meant c.args.input.now (view c.args.entry.now.body) (scope_view c.new-scope.result.items) 0)
    c.in-Err-Failed.field-0 c.in-Err-Failed.failure c.in-Err-Failed.field-0-is c.in-Err-Failed.ensures.gives)
    ∙ c.no_parse.ensures.told name

pub no_parse-requires : goal.no_parse-requires
no_parse-requires c =
    gives_unsaid c.args.input.now (meant c.args.input.now (view c.args.entry.now.body) (scope_view c.new-scope.result.items) 0) c.in-Err-Failed.field-0
    c.in-Err-Failed.failure c.in-Err-Failed.field-0-is c.in-Err-Failed.ensures.gives
