use Rattle.std.proofs.Common.{◌≡◌, ◌++◌, drop, map, slice_index, take}
use Rattle.undo_log.specs.Past.{past_of, record_with}
use Rattle.undo_log.proofs.word_log.UndoLogU32WordLog.renumber.Given as goal

-- the words of so many records, the oldest, have their numbers
abbrev pub invariant-loop-i : goal.invariant-loop-i
invariant-loop-i g l =
    l.self ≡ past_of (map (record_with (slice_index l.numbers)) (take l.i l.fn.self.kept) ++ drop l.i l.fn.self.kept) l.fn.self.most
