use Rattle.std.proofs.Common.{◌≡◌, ◌≤◌, ℕ, All, Ok, IfErr, IfOk, IsOkAnd, length, sym, subst}
use Rattle.policy_trait.specs.Model.{IsGiven}
use Rattle.tag_memory.specs.Ram.{IsPlace, RamState, ram_bytes}
use Rattle.monitor_calls.specs.Ends.{EndsAs, job_by}
use Rattle.pump_engine.proofs.ServiceLemmas.{service_as}
use Rattle.pump_engine.proofs.pump.Pump.plan.Goals as goal
use Rattle.pump_engine.specs.Pump.{PumpState, pump_of}
use Rattle.pump_engine.specs.Steps.{service_in}

pub returns-clause-ok : goal.returns-clause-ok
returns-clause-ok g c =
    let p : PumpState g.row.P.Denot g.row.P-Tag.Denot =
    pump_of c.self.inside.policy c.self.inside.core (g.T.TagTable.state c.self.inside.tags) (g.C.RuleStore.state c.self.inside.store) c.self.inside.turns c.self.inside.sweeps c.self.inside.halt (g.H.WordLog.past c.self.inside.log) in
    let same = service_as g.P.Tag.PartialEq.eq g.P.Policy.model p c.args.h c.args.look.now c.args.outs c.args.self.now
    c.service_call-call.result.memory.decoder.plain (g.T.TagTable.state c.service_call-call.result.memory.decoder.tags.now) c.service_call-call.result.memory.ram.now
    c.service_call-call.result.arguments c.service_call-call.result.pc c.self.view_is (c.service_call-call.ensures.service c.args.look.now) in
    subst (λ (q : PumpState g.row.P.Denot g.row.P-Tag.Denot). IfOk c.serve.result (λ job. service_in g.P.Tag.PartialEq.eq g.P.Policy.model q c.args.h c.args.look.now c.args.outs ≡ Ok (job_by job.plan job.words.items))) c.self.view_is
    (subst (λ defined. IfOk c.serve.result (λ job. defined ≡ Ok (job_by job.plan job.words.items))) (sym same) c.serve.ensures.ok)

pub returns-clause-err : goal.returns-clause-err
returns-clause-err g c =
    let p : PumpState g.row.P.Denot g.row.P-Tag.Denot =
    pump_of c.self.inside.policy c.self.inside.core (g.T.TagTable.state c.self.inside.tags) (g.C.RuleStore.state c.self.inside.store) c.self.inside.turns c.self.inside.sweeps c.self.inside.halt (g.H.WordLog.past c.self.inside.log) in
    let same = service_as g.P.Tag.PartialEq.eq g.P.Policy.model p c.args.h c.args.look.now c.args.outs c.args.self.now
    c.service_call-call.result.memory.decoder.plain (g.T.TagTable.state c.service_call-call.result.memory.decoder.tags.now) c.service_call-call.result.memory.ram.now
    c.service_call-call.result.arguments c.service_call-call.result.pc c.self.view_is (c.service_call-call.ensures.service c.args.look.now) in
    subst (λ (q : PumpState g.row.P.Denot g.row.P-Tag.Denot). IfErr c.serve.result (λ end. EndsAs end (service_in g.P.Tag.PartialEq.eq g.P.Policy.model q c.args.h c.args.look.now c.args.outs))) c.self.view_is
    (subst (λ defined. IfErr c.serve.result (λ end. EndsAs end defined)) (sym same) c.serve.ensures.err)

pub returns-clause-memory : goal.returns-clause-memory
returns-clause-memory g c out =
    let p : PumpState g.row.P.Denot g.row.P-Tag.Denot =
    pump_of c.self.inside.policy c.self.inside.core (g.T.TagTable.state c.self.inside.tags) (g.C.RuleStore.state c.self.inside.store) c.self.inside.turns c.self.inside.sweeps c.self.inside.halt (g.H.WordLog.past c.self.inside.log) in
    let same = service_as g.P.Tag.PartialEq.eq g.P.Policy.model p c.args.h c.args.look.now c.args.outs c.args.self.now
    c.service_call-call.result.memory.decoder.plain (g.T.TagTable.state c.service_call-call.result.memory.decoder.tags.now) c.service_call-call.result.memory.ram.now
    c.service_call-call.result.arguments c.service_call-call.result.pc c.self.view_is (c.service_call-call.ensures.service c.args.look.now) in
    subst (λ (q : PumpState g.row.P.Denot g.row.P-Tag.Denot). IsOkAnd (service_in g.P.Tag.PartialEq.eq g.P.Policy.model q c.args.h c.args.look.now c.args.outs) (λ job. 1 ≤ length job.words)) c.self.view_is
    (subst (λ defined. IsOkAnd defined (λ job. 1 ≤ length job.words)) (sym same) (c.serve.ensures.memory out))

pub returns-clause-places : goal.returns-clause-places
returns-clause-places g c =
    subst (λ (ram : RamState ℕ). IfOk c.serve.result (λ job. All (λ word. IsPlace (ram_bytes ram) word.0) job.words.items)) c.service_call-call.ensures.memory c.serve.ensures.places

pub returns-clause-given : goal.returns-clause-given
returns-clause-given g c =
    subst (λ (q : PumpState g.row.P.Denot g.row.P-Tag.Denot). IfOk c.serve.result (λ job. IsGiven g.P.Policy.model q.policy job.plan)) c.self.view_is c.serve.ensures.given
