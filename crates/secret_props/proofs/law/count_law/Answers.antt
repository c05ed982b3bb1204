use Rattle.secret_runs.specs.Pairs.{SameBeside, shows}
use Rattle.pump_loader.specs.Wholes.{hidden}
use Rattle.secret_props.specs.Hidden.{kept_start}
use Rattle.secret_props.proofs.AccountLemmas.{accounts_same}
use Rattle.secret_props.proofs.HiddenLemmas.{AlikeHiddenPlans, hidden_hides}
use Rattle.secret_props.proofs.StartLemmas.{kept_alike}
use Rattle.secret_props.proofs.law.count_law.Goals as goal

pub returns : goal.returns
returns c = λ eq basis image one other sets ways tags feed items is.
    accounts_same shows hidden SameBeside AlikeHiddenPlans hidden_hides eq items
    (kept_start eq basis one sets ways tags image) (kept_start eq basis other sets ways tags image) feed
    (kept_alike basis image is one other eq sets ways tags)
