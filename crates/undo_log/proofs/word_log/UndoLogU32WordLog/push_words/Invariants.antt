use Rattle.std.proofs.Common.{◌≡◌, ◌++◌, take}
use Rattle.std.specs.List.{flat_map}
use Rattle.undo_log.specs.Past.{record_tags}
use Rattle.undo_log.proofs.word_log.UndoLogU32WordLog.push_words.Given as goal

-- the words of so many records, the oldest, stand in the list
abbrev pub invariant-loop-i : goal.invariant-loop-i
invariant-loop-i g l = l.words.items ≡ l.fn.words.items ++ flat_map record_tags (take l.i l.self.kept)
