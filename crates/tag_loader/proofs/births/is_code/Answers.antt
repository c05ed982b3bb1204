use Rattle.tag_loader.proofs.SortedLemmas.{code_ascends}
use Rattle.tag_loader.proofs.births.is_code.Goals as goal

pub row_at-requires : goal.row_at-requires
row_at-requires c = code_ascends _ _ c.code.ensures.rows
