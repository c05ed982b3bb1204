-- The four policies with secrecy beside them hide what secrecy calls secret.
use Rattle.policy_trait.specs.declared.services.Plan.{Plan}
use Rattle.secrecy_policy.specs.Secrecy.{is_open, secrecy}
use Rattle.policy_choice.specs.All.{all}
use Rattle.policy_choice.specs.AllLaws.{AllHold, all_laws}
use Rattle.secret_runs.specs.Hides.{Hides}
use Rattle.secret_runs.specs.Pairs.{AnyTwo, SameBeside, shows}
use Rattle.secret_runs.proofs.BothLemmas.{AlikePairs, both_hides}
use Rattle.secret_runs.proofs.SecrecyLemmas.{AlikeSecrecyPlans, secrecy_hides}
use Rattle.pump_loader.specs.Wholes.{HiddenState, HiddenTag, hidden}

-- two plans of them that differ in a secret value alone
abbrev pub AlikeHiddenPlans : HiddenState → Plan HiddenTag → Plan HiddenTag → Type 0
AlikeHiddenPlans = AlikePairs all secrecy AllHold all_laws is_open AnyTwo AlikeSecrecyPlans secrecy_hides

pub hidden_hides : Hides shows hidden SameBeside AlikeHiddenPlans
hidden_hides = both_hides all secrecy AllHold all_laws is_open AnyTwo AlikeSecrecyPlans secrecy_hides
