use Rattle.compartment_policy.proofs.TextLemmas.{text_apart}
use Rattle.compartment_policy.proofs.law.text_law.Goals as goal

pub returns : goal.returns
returns c = text_apart
