use Rattle.std.proofs.Common.{◌≡◌, drop}
use Rattle.tag_memory.specs.Ram.{ram_bytes}
use Rattle.engine_trait.specs.History.{with_old_words}
use Rattle.engine_trait.proofs.recording.restore_words.Given as goal

-- the words that are left complete what was put back
abbrev pub invariant-loop-word : goal.invariant-loop-word
invariant-loop-word g l = record {
  whole : with_old_words l.ram (drop l.word-index l.range) ≡ with_old_words l.fn.ram l.range;
  bytes : ram_bytes l.ram ≡ ram_bytes l.fn.ram;
}
