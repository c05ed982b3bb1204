use Rattle.std.proofs.Common.{◌≡◌, ◌≤◌, ◌∙◌, Err, ap, length, refl, subst}
use Rattle.policy_trait.specs.declared.services.PlanEnd.TheVariants as plan_end
use Rattle.monitor_calls.specs.Ends.{EndsAs, job_by}
use Rattle.engine_trait.specs.Machine.{hart_at}
use Rattle.engine_trait.specs.Turn.{violation}
use Rattle.pump_engine.specs.Pump.{PumpState}
use Rattle.pump_engine.specs.Steps.{service_in}
use Rattle.pump_engine.proofs.EndLemmas.{stopped_bytes, stopped_count}
use Rattle.pump_engine.proofs.ServiceLemmas.{ends_carried, ends_stopped, plan_wants}
use Rattle.pump_engine.proofs.pump.Pump.service.Goals as goal

pub plan-requires-clause-hart : goal.plan-requires-clause-hart
plan-requires-clause-hart g c = c.requires.hart

pub plan-requires-clause-known : goal.plan-requires-clause-known
plan-requires-clause-known g c = c.requires.known

pub carry_out-requires-clause-hart : goal.carry_out-requires-clause-hart
carry_out-requires-clause-hart g c = c.requires.hart

pub carry_out-requires-clause-given : goal.carry_out-requires-clause-given
carry_out-requires-clause-given g c = c.in-Ok.ensures.given

pub carry_out-requires-clause-places : goal.carry_out-requires-clause-places
carry_out-requires-clause-places g c = c.in-Ok.ensures.places

pub returns-in-Ok-clause-ends : goal.returns-in-Ok-clause-ends
returns-in-Ok-clause-ends g c =
    ends_carried g.P.Tag.PartialEq.eq g.P.Policy.model c.args.self.now c.args.h c.args.look.now c.args.outs c.carry_out.new.self c.carry_out.result
    (job_by c.in-Ok.job.plan c.in-Ok.job.words.items) c.in-Ok.ensures.ok c.carry_out.ensures.ends

pub returns-in-Ok-clause-harts : goal.returns-in-Ok-clause-harts
returns-in-Ok-clause-harts g c = c.carry_out.ensures.harts

pub returns-in-Ok-clause-bytes : goal.returns-in-Ok-clause-bytes
returns-in-Ok-clause-bytes g c = c.carry_out.ensures.bytes

pub returns-in-Err-Refused-clause-ends : goal.returns-in-Err-Refused-clause-ends
returns-in-Err-Refused-clause-ends g c =
    ends_stopped g.P.Tag.PartialEq.eq g.P.Policy.model c.args.self.now c.args.h c.args.look.now c.args.outs c.stop_hart.new.self c.stop_hart.result
    (plan_end.Refused c.in-Err-Refused.refused) c.violation-why.result
    (subst (λ end. EndsAs end (service_in g.P.Tag.PartialEq.eq g.P.Policy.model c.args.self.now c.args.h c.args.look.now c.args.outs)) c.in-Err-Refused.field-0-is c.in-Err-Refused.ensures.err)
    (subst (λ (q : PumpState g.row.P.Denot g.row.P-Tag.Denot). c.violation-why.result ≡ violation (hart_at q.core c.args.h).pc c.in-Err-Refused.refused) c.self.view_is (c.violation-why.ensures ∙ ap (violation (hart_at c.self.inside.core c.args.h).pc) c.in-Err-Refused.refused-is))
    c.stop_hart.ensures.state c.stop_hart.ensures.end

pub returns-in-Err-Refused-clause-harts : goal.returns-in-Err-Refused-clause-harts
returns-in-Err-Refused-clause-harts g c =
    stopped_count c.args.self.now c.stop_hart.new.self c.args.h c.violation-why.result c.stop_hart.ensures.state

pub returns-in-Err-Refused-clause-bytes : goal.returns-in-Err-Refused-clause-bytes
returns-in-Err-Refused-clause-bytes g c =
    stopped_bytes c.args.self.now c.stop_hart.new.self c.args.h c.violation-why.result c.stop_hart.ensures.state

pub returns-in-Err-Spent-clause-ends : goal.returns-in-Err-Spent-clause-ends
returns-in-Err-Spent-clause-ends g c =
    ends_stopped g.P.Tag.PartialEq.eq g.P.Policy.model c.args.self.now c.args.h c.args.look.now c.args.outs c.stop_hart-in-Err-Spent.new.self c.stop_hart-in-Err-Spent.result
    plan_end.Spent _
    (subst (λ end. EndsAs end (service_in g.P.Tag.PartialEq.eq g.P.Policy.model c.args.self.now c.args.h c.args.look.now c.args.outs)) c.in-Err-Spent.field-0-is c.in-Err-Spent.ensures.err) refl c.stop_hart-in-Err-Spent.ensures.state c.stop_hart-in-Err-Spent.ensures.end

pub returns-in-Err-Spent-clause-harts : goal.returns-in-Err-Spent-clause-harts
returns-in-Err-Spent-clause-harts g c =
    stopped_count c.args.self.now c.stop_hart-in-Err-Spent.new.self c.args.h _ c.stop_hart-in-Err-Spent.ensures.state

pub returns-in-Err-Spent-clause-bytes : goal.returns-in-Err-Spent-clause-bytes
returns-in-Err-Spent-clause-bytes g c =
    stopped_bytes c.args.self.now c.stop_hart-in-Err-Spent.new.self c.args.h _ c.stop_hart-in-Err-Spent.ensures.state

pub returns-in-Err-Memory-clause-ends : goal.returns-in-Err-Memory-clause-ends
returns-in-Err-Memory-clause-ends g c =
    plan_wants g.P.Tag.PartialEq.eq g.P.Policy.model c.args.self.now c.args.h c.args.look.now c.args.outs c.give_up.new.self c.give_up.result (λ job. 1 ≤ length job.words)
    (c.plan.ensures.memory (c.in-Err-Memory.is ∙ ap (λ end. Err end) c.in-Err-Memory.field-0-is)) c.give_up.ensures.state c.give_up.ensures.end
