use Rattle.shell_run.proofs.GainLemmas.{gains_told, start_kept}
use Rattle.shell_run.proofs.RunLemmas.{begins, goes_on}
use Rattle.shell_run.proofs.law.session_law.Goals as goal

pub returns-clause-begins : goal.returns-clause-begins
returns-clause-begins g c = begins g.P.Tag.PartialEq.eq g.P.Policy.model g.P.Policy.holds

pub returns-clause-goes_on : goal.returns-clause-goes_on
returns-clause-goes_on g c s items command start along =
    goes_on g.P.Tag.PartialEq.eq g.P.Policy.model g.P.Policy.holds g.met.P.Policy.lawful s items start along command

pub returns-clause-tells : goal.returns-clause-tells
returns-clause-tells g c s items command along = gains_told g.P.Tag.PartialEq.eq g.P.Policy.model s items along command

pub returns-clause-stays : goal.returns-clause-stays
returns-clause-stays g c = start_kept g.P.Tag.PartialEq.eq g.P.Policy.model
