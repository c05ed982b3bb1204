use Rattle.std.proofs.Common.{◌≡◌}
use Rattle.tag_memory.specs.Ram.{ram_bytes, with_ram_filled}
use Rattle.tag_memory.proofs.ram.Ram.fill.Given as goal

-- so many words have the tag
abbrev pub invariant-loop-n : goal.invariant-loop-n
invariant-loop-n g l = record {
  filled : l.self ≡ with_ram_filled l.fn.self l.address l.n l.tag;
  bytes : ram_bytes l.self ≡ ram_bytes l.fn.self;
}
