-- The set that is made of the edges has each of them and no other.
use Rattle.std.proofs.lemmas.Iterator.{YieldsList-from_slice}
use Rattle.std.proofs.lemmas.Iterator.Adapters.{fact_from_collect}
use Rattle.std.proofs.lemmas.Iterator.Consumers.{YieldsList-at, YieldsList-from_copied}
use Rattle.flow_policy.specs.Sorted.{AreSorted}
use Rattle.flow_policy.proofs.policy.sorted.Goals as goal

pub returns : goal.returns
returns c =
    fact_from_collect AreSorted c.collect.result c.collect.ensures.ran
    (YieldsList-from_copied (YieldsList-at c.copied.ensures.source (YieldsList-from_slice c.args.edges.now c.iter.ensures.rest)))
