use Rattle.std.proofs.Common.{◌≡◌, ◌+◌, ◌≤◌, length}
use Rattle.std.specs.Str.Lines.{lines}
use Rattle.asm_read.specs.Source.{lines_of, source_of}
use Rattle.asm_read.proofs.SourceLemmas.{with_prefix}
use Rattle.asm_read.proofs.source.read_source.Given as goal

-- what was read and what is still read are the whole, and there are no more lines than bytes
abbrev pub invariant-loop-rest : goal.invariant-loop-rest
invariant-loop-rest l = record {
  so_far : with_prefix l.read.items (lines_of l.number (lines l.rest)) ≡ source_of l.fn.source;
  count : l.number + length l.rest ≤ length l.fn.source + 1;
}

abbrev pub decreases-loop-rest : goal.decreases-loop-rest
decreases-loop-rest l = length l.rest
