-- The files that are left grow fewer.
use Rattle.std.proofs.Common.{length}
use Rattle.row_lang.proofs.outcome.+are_same_files.Given as goal

abbrev pub decreases-are_same_files : goal.decreases-are_same_files
decreases-are_same_files l = length l.due.now
