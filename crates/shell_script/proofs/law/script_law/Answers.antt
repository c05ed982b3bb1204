use Rattle.shell_script.proofs.GainLemmas.{closed_by, next_told, script_start, shell_is_told}
use Rattle.shell_script.proofs.RunLemmas.{script_goes}
use Rattle.shell_script.proofs.law.script_law.Goals as goal

pub returns-clause-along : goal.returns-clause-along
returns-clause-along g c = script_goes g.P.Tag.PartialEq.eq g.P.Policy.model g.P.Policy.holds g.met.P.Policy.lawful

pub returns-clause-stays : goal.returns-clause-stays
returns-clause-stays g c = script_start g.P.Tag.PartialEq.eq g.P.Policy.model

pub returns-clause-tells : goal.returns-clause-tells
returns-clause-tells g c s items prefix line =
    next_told g.P.Tag.PartialEq.eq g.P.Policy.model s items prefix line g.P.Policy.holds g.met.P.Policy.lawful

pub returns-clause-closed : goal.returns-clause-closed
returns-clause-closed g c s items prefix line quits = closed_by g.P.Tag.PartialEq.eq g.P.Policy.model s items prefix line quits

pub returns-clause-input : goal.returns-clause-input
returns-clause-input g c = shell_is_told g.P.Tag.PartialEq.eq g.P.Policy.model
