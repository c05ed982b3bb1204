use Rattle.policy_product.specs.Both.{both}
use Rattle.secrecy_policy.specs.Secrecy.{is_open, secrecy}
use Rattle.secret_runs.specs.Pairs.{AnyTwo, SameBeside, shows}
use Rattle.secret_runs.proofs.BothLemmas.{AlikePairs, both_hides}
use Rattle.secret_runs.proofs.RoundsLemmas.{rounds_alike}
use Rattle.secret_runs.proofs.SecrecyLemmas.{AlikeSecrecyPlans, secrecy_hides}
use Rattle.secret_runs.proofs.law.rounds_law.Goals as goal

pub returns : goal.returns
returns g c eq limit from e d feed alike =
    rounds_alike shows (both g.P.Policy.model secrecy) SameBeside (AlikePairs g.P.Policy.model secrecy g.P.Policy.holds g.met.P.Policy.lawful is_open AnyTwo AlikeSecrecyPlans secrecy_hides)
    (both_hides g.P.Policy.model secrecy g.P.Policy.holds g.met.P.Policy.lawful is_open AnyTwo AlikeSecrecyPlans secrecy_hides) eq limit from e d feed alike
