use Rattle.tag_loader.proofs.SortedLemmas.{code_ascends, compartments_ascend, labels_ascend}
use Rattle.tag_loader.proofs.births.BirthWalk.new.Goals as goal

pub new-requires : goal.new-requires
new-requires c = compartments_ascend _ _ _ c.compartments.ensures.rows

pub new-requires-2 : goal.new-requires-2
new-requires-2 c = code_ascends _ _ c.code.ensures.rows

pub new-requires-3 : goal.new-requires-3
new-requires-3 c = labels_ascend _ _ c.labels.ensures.rows
