use Rattle.std.proofs.Common.{◌≡◌, ◌+◌, ◌-◌, ◌*◌, replicate}
use Rattle.asm_emit.specs.Draft.{with_words}
use Rattle.asm_emit.specs.Kept.{IsProtected}
use Rattle.asm_emit.specs.Seen.{draft_of}
use Rattle.asm_emit.proofs.builder.Builder.put_zeros.Given as goal

-- the zeros that are left, from the address on
abbrev pub invariant-loop : goal.invariant-loop
invariant-loop l = record {
  left : with_words (draft_of l.self) l.address (replicate (l.count - l.counter) 0) ≡ with_words (draft_of l.fn.self) l.place (replicate l.count 0);
  protected : IsProtected (draft_of l.self);
  reached : l.address + 4 * (l.count - l.counter) ≡ l.place + 4 * l.count;
}
