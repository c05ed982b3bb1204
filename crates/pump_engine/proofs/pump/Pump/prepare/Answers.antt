use Rattle.std.proofs.Common.{true, false, Err, ap, sym, ◌∙◌}
use Rattle.turn_steps.specs.Looks.{look_result}
use Rattle.engine_trait.specs.Machine.{hart_at}
use Rattle.pump_engine.specs.Pump.{PumpState}
use Rattle.pump_engine.proofs.CountLemmas.{offered_by_words, prepared_by_words, unseen_by_words}
use Rattle.pump_engine.proofs.pump.Pump.prepare.Goals as goal

pub returns-in-Err-clause-value : goal.returns-in-Err-clause-value
returns-in-Err-clause-value g c =
    ap (λ why. Err why) c.violation.ensures
    ∙ sym (unseen_by_words g.P.Policy.model c.args.self.now c.args.h c.in-Err.refused (sym c.peeked.ensures ∙ c.in-Err.is))

pub returns-in-Err-look-clause-value : goal.returns-in-Err-look-clause-value
returns-in-Err-look-clause-value g c =
    sym (prepared_by_words g.P.Policy.model c.args.self.now c.args.h (Err c.in-Err-look.fault) (sym c.peeked.ensures ∙ c.in_default.is)
    (ap (λ (q : PumpState g.row.P.Denot g.row.P-Tag.Denot). look_result (hart_at q.core c.args.h) q.core.ram) (sym c.self.view_is) ∙ sym c.look.ensures.value ∙ c.in-Err-look.is))

pub returns-then-not-is_offered-clause-value : goal.returns-then-not-is_offered-clause-value
returns-then-not-is_offered-clause-value g c =
    sym (offered_by_words g.P.Policy.model c.args.self.now c.args.h c.in-Ok.look false (sym c.peeked.ensures ∙ c.in_default.is)
    (ap (λ (q : PumpState g.row.P.Denot g.row.P-Tag.Denot). look_result (hart_at q.core c.args.h) q.core.ram) (sym c.self.view_is) ∙ sym c.look.ensures.value ∙ c.in-Ok.is)
    (sym c.is_offered.ensures ∙ c.if-not-is_offered.true))

pub returns-clause-value : goal.returns-clause-value
returns-clause-value g c =
    sym (offered_by_words g.P.Policy.model c.args.self.now c.args.h c.in-Ok.look true (sym c.peeked.ensures ∙ c.in_default.is)
    (ap (λ (q : PumpState g.row.P.Denot g.row.P-Tag.Denot). look_result (hart_at q.core c.args.h) q.core.ram) (sym c.self.view_is) ∙ sym c.look.ensures.value ∙ c.in-Ok.is)
    (sym c.is_offered.ensures ∙ c.if-not-is_offered.false))
