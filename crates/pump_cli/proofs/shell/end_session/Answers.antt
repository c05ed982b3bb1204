use Rattle.std.proofs.Common.{None}
use Rattle.pump_cli.proofs.SessionLemmas.{out_ends}
use Rattle.pump_cli.proofs.shell.end_session.Goals as goal

pub returns-in-TooLong-clause-does : goal.returns-in-TooLong-clause-does
returns-in-TooLong-clause-does g c out = rw c.in-TooLong.is (c.refuse.ensures.does out)

pub returns-in-TagsOut-clause-does : goal.returns-in-TagsOut-clause-does
returns-in-TagsOut-clause-does g c out = rw c.in-TagsOut.is (c.end_at_start.ensures.does out)

pub returns-in-TagsOut-clause-kind : goal.returns-in-TagsOut-clause-kind
returns-in-TagsOut-clause-kind g c = out_ends c.end_at_start.result (c.end_at_start.ensures.does None).ends
