use Rattle.ddl_lex.proofs.Answered.{tokens_or_error}
use Rattle.ddl_lex.proofs.Reached.{one_list, no_tokens_with_error, one_error}
use Rattle.ddl_lex.proofs.laws.lex_law.Goals as goal

pub returns-clause-one_list : goal.returns-clause-one_list
returns-clause-one_list c = one_list

pub returns-clause-no_tokens_with_error : goal.returns-clause-no_tokens_with_error
returns-clause-no_tokens_with_error c = no_tokens_with_error

pub returns-clause-one_error : goal.returns-clause-one_error
returns-clause-one_error c = one_error

pub returns-clause-tokens_or_error : goal.returns-clause-tokens_or_error
returns-clause-tokens_or_error c = tokens_or_error
