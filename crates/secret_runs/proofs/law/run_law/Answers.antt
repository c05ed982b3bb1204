use Rattle.policy_product.specs.Both.{both}
use Rattle.secrecy_policy.specs.Secrecy.{is_open, secrecy}
use Rattle.secret_runs.specs.Pairs.{AnyTwo, SameBeside, shows}
use Rattle.secret_runs.proofs.BothLemmas.{AlikePairs, both_hides}
use Rattle.secret_runs.proofs.RunLemmas.{run_alike}
use Rattle.secret_runs.proofs.SecrecyLemmas.{AlikeSecrecyPlans, secrecy_hides}
use Rattle.secret_runs.proofs.law.run_law.Goals as goal

pub returns : goal.returns
returns g c items s t feed alike =
    run_alike shows (both g.P.Policy.model secrecy) SameBeside (AlikePairs g.P.Policy.model secrecy g.P.Policy.holds g.met.P.Policy.lawful is_open AnyTwo AlikeSecrecyPlans secrecy_hides)
    (both_hides g.P.Policy.model secrecy g.P.Policy.holds g.met.P.Policy.lawful is_open AnyTwo AlikeSecrecyPlans secrecy_hides) items s t feed alike
