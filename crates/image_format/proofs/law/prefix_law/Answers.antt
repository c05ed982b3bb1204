use Rattle.image_format.proofs.PrefixLemmas.{prefix_is_short}
use Rattle.image_format.proofs.law.prefix_law.Goals as goal

pub returns : goal.returns
returns c = prefix_is_short
