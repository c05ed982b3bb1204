use Rattle.secret_runs.specs.Pairs.{SameBeside, shows}
use Rattle.secret_runs.proofs.RunLemmas.{run_alike}
use Rattle.pump_loader.specs.Wholes.{hidden}
use Rattle.secret_props.specs.Hidden.{hidden_start}
use Rattle.secret_props.proofs.HiddenLemmas.{AlikeHiddenPlans, hidden_hides}
use Rattle.secret_props.proofs.StartLemmas.{starts_alike}
use Rattle.secret_props.proofs.law.secret_law.Goals as goal

pub returns : goal.returns
returns c = λ basis image one other feed items is.
    run_alike shows hidden SameBeside AlikeHiddenPlans hidden_hides items (hidden_start basis one image) (hidden_start basis other image) feed
    (starts_alike basis image is one other)
