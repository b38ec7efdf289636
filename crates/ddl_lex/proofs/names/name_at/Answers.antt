use Rattle.ddl_lex.proofs.Named.{no_sign}
use Rattle.ddl_lex.proofs.names.name_at.Goals as goal

pub returns-in_ok-tok-in-None-clause-value : goal.returns-in_ok-tok-in-None-clause-value
returns-in_ok-tok-in-None-clause-value c =
    no_sign c.name_len-n.result c.args.text.now _ c.in_ok-tok-in-None.tok c.name_len-n.ensures.value c.in-None.ensures.value c.split_at.ensures.front
    c.in_ok-tok-in-None.ensures
