-- The bytes that are copied out are the first of those left.
use Rattle.std.proofs.Common.{rules, sym, ap, ◌∙◌}
use Rattle.host_io.specs.Supply.{left_in}
use Rattle.host_io.proofs.SupplyLemmas.{slice_to_end, read_moves}
use Rattle.host_io.proofs.memory.sure_source.SureSourceSource.read.Goals as goal

pub returns-clause-moved : goal.returns-clause-moved
returns-clause-moved c =
    let was_open = sym (ap left_in (rw c.if-self.false at c.self.view_is)) in
    let count = rw (c.deref.ensures.value, slice_to_end) at c.copy_prefix-count.ensures.count in
    let copied = rw (c.deref.ensures.value, slice_to_end) at c.copy_prefix-count.ensures.copied in
    was_open ∙ read_moves _ _ _ _ _ (search rules) count copied
