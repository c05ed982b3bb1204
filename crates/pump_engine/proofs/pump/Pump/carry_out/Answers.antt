use Rattle.std.proofs.Common.{Err, subst}
use Rattle.monitor_calls.specs.Ends.{job_by}
use Rattle.pump_engine.specs.Steps.{TriesOut}
use Rattle.pump_engine.proofs.OutLemmas.{tried_carried, wanting_carried}
use Rattle.pump_engine.proofs.pump.Pump.carry_out.Goals as goal

pub returns-in-Ok-clause-ends : goal.returns-in-Ok-clause-ends
returns-in-Ok-clause-ends g c =
    tried_carried g.P.Tag.PartialEq.eq g.P.Policy.model c.args.self.now c.args.h c.args.look.now c.args.outs (job_by c.args.job.now.plan c.args.job.now.words.items) c.try_out.new.self c.in-Ok.end c.in-Ok.ensures.tries

pub returns-in-Err-Memory-clause-ends : goal.returns-in-Err-Memory-clause-ends
returns-in-Err-Memory-clause-ends g c =
    let tried = subst (λ end. TriesOut g.P.Tag.PartialEq.eq g.P.Policy.model c.args.self.now c.args.h c.args.look.now c.args.outs (job_by c.args.job.now.plan c.args.job.now.words.items) c.try_out.new.self (Err end)) c.in-Err-Memory.field-0-is c.in-Err-Memory.ensures.tries in
    wanting_carried g.P.Tag.PartialEq.eq g.P.Policy.model c.args.self.now c.args.h c.args.look.now c.args.outs (job_by c.args.job.now.plan c.args.job.now.words.items) c.try_out.new.self c.give_up.new.self tried.0 c.give_up.ensures.state c.give_up.result c.give_up.ensures.end
