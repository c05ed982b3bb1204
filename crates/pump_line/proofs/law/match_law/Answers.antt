use Rattle.std.proofs.Common.{refl}
use Rattle.pump_line.specs.Line.{faults_of}
use Rattle.pump_line.proofs.AskedLemmas.{match_asks}
use Rattle.pump_line.proofs.ReadLemmas.{asks_nothing, request_matched}
use Rattle.pump_line.proofs.law.match_law.Goals as goal

pub returns-clause-matched : goal.returns-clause-matched
returns-clause-matched c = λ words fine. rw (request_matched words fine) (match_asks words fine)

pub returns-clause-faulty : goal.returns-clause-faulty
returns-clause-faulty c = λ words faulty. asks_nothing words (faults_of words) refl faulty
