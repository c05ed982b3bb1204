use Rattle.run_examples.proofs.CountedLemmas.{counts_are, is_never_over, one_less, out_counts, out_halt, swept_counts, swept_events}
use Rattle.run_examples.proofs.law.counted_law.Goals as goal

pub returns-clause-room : goal.returns-clause-room
returns-clause-room g = is_never_over

pub returns-clause-unswept : goal.returns-clause-unswept
returns-clause-unswept g = counts_are

pub returns-clause-less : goal.returns-clause-less
returns-clause-less g = one_less

pub returns-clause-swept : goal.returns-clause-swept
returns-clause-swept g = swept_counts

pub returns-clause-same : goal.returns-clause-same
returns-clause-same g = swept_events

pub returns-clause-few : goal.returns-clause-few
returns-clause-few g = out_counts

pub returns-clause-out : goal.returns-clause-out
returns-clause-out g = out_halt
