use Rattle.std.proofs.Common.{◌≡◌, ◌++◌, ℕ, map, take}
use Rattle.undo_log.specs.declared.record.Replaced.{Replaced}
use Rattle.undo_log.proofs.word_log.push_record.Given as goal

-- the words of so many places of the range stand behind those of the pc and of the two places
abbrev pub invariant-loop-old : goal.invariant-loop-old
invariant-loop-old g l = l.words.items ≡ l.initial.words.items ++ map (λ (old : Replaced ℕ). old.tag) (take l.old-index l.old-items)
