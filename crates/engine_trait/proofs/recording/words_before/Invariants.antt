use Rattle.std.proofs.Common.{◌≡◌, take}
use Rattle.engine_trait.specs.History.{words_before}
use Rattle.engine_trait.proofs.recording.words_before.Given as goal

-- what stood in so many words was found
abbrev pub invariant-loop-word : goal.invariant-loop-word
invariant-loop-word g l = l.found.items ≡ words_before l.ram (take l.word-index l.words)
