use Rattle.secrecy_policy.proofs.TextLemmas.{texts_tell}
use Rattle.secrecy_policy.proofs.law.text_law.Goals as goal

pub returns : goal.returns
returns c = texts_tell
