use Rattle.std.proofs.Common.{arith}
use Rattle.secrecy_policy.specs.Secrecy.{IsLeft, secrecy}
use Rattle.secrecy_policy.specs.SecrecyLaws.{secrecy_laws}
use Rattle.run_props.proofs.RunLemmas.{beside_is_safe}
use Rattle.pump_loader.specs.Wholes.{unanswered}
use Rattle.secret_props.proofs.law.safe_law.Goals as goal

pub returns : goal.returns
returns c = λ basis image bytes feed items is.
    beside_is_safe secrecy IsLeft secrecy_laws basis image (unanswered bytes) feed items is (omega arith) (omega arith)
