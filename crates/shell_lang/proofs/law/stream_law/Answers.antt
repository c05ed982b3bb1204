use Rattle.shell_lang.proofs.StreamLemmas.{answers_in_pieces, answers_of, line_in_pieces, rest_of}
use Rattle.shell_lang.proofs.law.stream_law.Goals as goal

pub returns-clause-lines : goal.returns-clause-lines
returns-clause-lines c = answers_of

pub returns-clause-rest : goal.returns-clause-rest
returns-clause-rest c = rest_of

pub returns-clause-pieces : goal.returns-clause-pieces
returns-clause-pieces c = answers_in_pieces

pub returns-clause-kept : goal.returns-clause-kept
returns-clause-kept c = line_in_pieces
