-- Fewer bytes came than were let through, so they are all.
use Rattle.std.proofs.Common.{arith}
use Rattle.host_io.proofs.ReadingLemmas.{whole_prefix}
use Rattle.host_io.proofs.system.std_files.read_within.Goals as goal

pub returns-clause-ok : goal.returns-clause-ok
returns-clause-ok g c =
    let bytes = c.read_to_end.new.buf in
    let taken = c.take-prefix.ensures in
    let empty = c.new-bytes.ensures.items in
    let prefix = rw (taken.limit, taken.inner, empty) at c.in_default.ensures.bytes in
    whole_prefix _ _ c.saturating_add.result
    (omega (arith, bytes.ok.0, bytes.ok.1, bytes.small)) prefix
