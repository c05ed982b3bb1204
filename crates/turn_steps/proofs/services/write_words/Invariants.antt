use Rattle.std.proofs.Common.{◌≡◌, drop}
use Rattle.tag_memory.specs.Ram.{ram_bytes}
use Rattle.turn_steps.specs.Services.{with_words}
use Rattle.turn_steps.proofs.services.write_words.Given as goal

abbrev pub invariant-loop-word : goal.invariant-loop-word
invariant-loop-word g l = record {
  whole : with_words l.ram (drop l.word-index l.words) ≡ with_words l.fn.ram l.words;
  bytes : ram_bytes l.ram ≡ ram_bytes l.fn.ram;
}
