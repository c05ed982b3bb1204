use Rattle.workload.proofs.LengthLemmas.{source_fits}
use Rattle.workload.proofs.law.length_law.Goals as goal

pub returns : goal.returns
returns c = source_fits
