use Rattle.secret_runs.specs.Pairs.{SameBeside, shows}
use Rattle.secret_runs.proofs.RoundsLemmas.{rounds_alike}
use Rattle.pump_loader.specs.Wholes.{hidden}
use Rattle.secret_props.specs.Hidden.{asked_start, kept_start}
use Rattle.secret_props.proofs.HiddenLemmas.{AlikeHiddenPlans, hidden_hides}
use Rattle.secret_props.proofs.StartLemmas.{asked_alike, kept_alike}
use Rattle.secret_props.proofs.law.told_law.Goals as goal

pub returns-clause-asked : goal.returns-clause-asked
returns-clause-asked c = λ eq basis image one other limit feed is.
    rounds_alike shows hidden SameBeside AlikeHiddenPlans hidden_hides eq limit 0 (asked_start basis one image) (asked_start basis other image) feed
    (asked_alike basis image is one other)

pub returns-clause-kept : goal.returns-clause-kept
returns-clause-kept c = λ eq basis image one other sets ways tags limit feed is.
    rounds_alike shows hidden SameBeside AlikeHiddenPlans hidden_hides eq limit 0
    (kept_start eq basis one sets ways tags image) (kept_start eq basis other sets ways tags image) feed
    (kept_alike basis image is one other eq sets ways tags)
