use Rattle.host_io.proofs.PieceLemmas.{errs_all, errs_prefix, outs_all, outs_prefix}
use Rattle.host_io.proofs.law.pieces_law.Goals as goal

pub returns-clause-all_of_out : goal.returns-clause-all_of_out
returns-clause-all_of_out c = outs_all

pub returns-clause-all_of_err : goal.returns-clause-all_of_err
returns-clause-all_of_err c = errs_all

pub returns-clause-prefix_of_out : goal.returns-clause-prefix_of_out
returns-clause-prefix_of_out c = outs_prefix

pub returns-clause-prefix_of_err : goal.returns-clause-prefix_of_err
returns-clause-prefix_of_err c = errs_prefix
