use Rattle.tag_loader.proofs.SortedLemmas.{compartments_ascend}
use Rattle.tag_loader.proofs.births.owner_of.Goals as goal

pub owner_at-requires : goal.owner_at-requires
owner_at-requires c = compartments_ascend _ _ _ c.compartments.ensures.rows
