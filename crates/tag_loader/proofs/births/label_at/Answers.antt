use Rattle.tag_loader.proofs.SortedLemmas.{labels_ascend}
use Rattle.tag_loader.proofs.births.label_at.Goals as goal

pub row_at-requires : goal.row_at-requires
row_at-requires c = labels_ascend _ _ c.labels.ensures.rows
