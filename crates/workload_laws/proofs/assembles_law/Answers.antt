use Rattle.std.proofs.Common.{◌∙◌, ap}
use Rattle.std.specs.Prelude.{Ok}
use Rattle.workload_laws.proofs.DraftLemmas.{workload_pictured}
use Rattle.workload_laws.proofs.WorkloadLemmas.{workload_assembled}
use Rattle.workload_laws.proofs.assembles_law.Goals as goal

pub returns : goal.returns
returns c = λ count few. workload_assembled count few ∙ ap (λ picture. Ok picture) (workload_pictured count)
