use Rattle.std.proofs.Common.{◌≡◌, ◌++◌, drop, map, slice_index, take}
use Rattle.undo_log.specs.Past.{replaced_by}
use Rattle.undo_log.proofs.word_log.renumber_range.Given as goal

-- so many words have their numbers
abbrev pub invariant-loop-old : goal.invariant-loop-old
invariant-loop-old l =
    l.old-items ≡ map (replaced_by (slice_index l.numbers)) (take l.old-index l.fn.range) ++ drop l.old-index l.fn.range
