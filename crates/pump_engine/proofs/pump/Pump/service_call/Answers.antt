use Rattle.std.proofs.Common.{◌≡◌, ◌∙◌, ap, sym, subst}
use Rattle.policy_trait.specs.Maps.{args_by}
use Rattle.tag_intern.specs.Words.{tag_at}
use Rattle.pump_engine.proofs.ServiceLemmas.{service_by}
use Rattle.pump_engine.proofs.pump.Pump.service_call.Goals as goal
use Rattle.pump_engine.specs.Pump.{PumpState, pump_of}
use Rattle.pump_engine.specs.Steps.{job_over, service_in}

pub returns-clause-service : goal.returns-clause-service
returns-clause-service g c look =
    let p : PumpState g.row.P.Denot g.row.P-Tag.Denot =
    pump_of c.self.inside.policy c.self.inside.core (g.T.TagTable.state c.self.inside.tags) (g.C.RuleStore.state c.self.inside.store) c.self.inside.turns c.self.inside.sweeps c.self.inside.halt (g.H.WordLog.past c.self.inside.log) in
    let same = service_by g.P.Tag.PartialEq.eq g.P.Policy.model p c.args.h look c.args.outs c.decoder-decoder.result.plain (g.T.TagTable.state c.decoder-decoder.result.tags.now)
    c.ram.result.now c.map-arguments.result c.image-pc.result
    (c.decoder-decoder.ensures.tags ∙ ap (λ (q : PumpState g.row.P.Denot g.row.P-Tag.Denot). q.table) (sym c.self.view_is))
    (c.decoder-decoder.ensures.plain ∙ ap (λ (q : PumpState g.row.P.Denot g.row.P-Tag.Denot). g.P.Policy.model.plain q.policy) (sym c.self.view_is))
    c.ram.ensures
    (c.map-arguments.ensures ∙ ap (args_by (tag_at c.decoder-decoder.result.plain (g.T.TagTable.state c.decoder-decoder.result.tags.now).tags)) c.arguments.ensures) c.image-pc.ensures in
    subst (λ (q : PumpState g.row.P.Denot g.row.P-Tag.Denot). service_in g.P.Tag.PartialEq.eq g.P.Policy.model q c.args.h look c.args.outs
    ≡ job_over g.P.Policy.model q.policy c.decoder-decoder.result.plain (g.T.TagTable.state c.decoder-decoder.result.tags.now) c.ram.result.now look.service c.map-arguments.result c.image-pc.result)
    c.self.view_is same
