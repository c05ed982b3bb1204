-- What came so far is within the limit, and was the prefix of what was left.
use Rattle.std.proofs.Common.{◌≡◌, ◌+◌, ◌-◌, ◌≤◌, vec_len}
use Rattle.std.specs.Io.KnownBytes.{prepend_known}
use Rattle.host_io.proofs.whole_input.read_to_end.Given as goal

abbrev pub invariant-loop-bytes : goal.invariant-loop-bytes
invariant-loop-bytes g l = record {
  within : vec_len l.bytes ≤ l.limit;
  moved : g.S.Source.left l.fn.source ≡ prepend_known l.bytes.items (g.S.Source.left l.source);
  closed : g.S.Source.closed l.source ≡ g.S.Source.closed l.fn.source;
  faults : g.S.Source.faults l.source ≡ g.S.Source.faults l.fn.source;
}

abbrev pub decreases-loop-bytes : goal.decreases-loop-bytes
decreases-loop-bytes g l = l.limit + 1 - vec_len l.bytes
