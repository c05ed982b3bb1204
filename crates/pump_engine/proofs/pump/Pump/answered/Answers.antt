use Rattle.std.proofs.Common.{subst}
use Rattle.pump_engine.specs.Steps.{Unanswered}
use Rattle.pump_engine.proofs.SettleLemmas.{answered_by, unruled_by}
use Rattle.pump_engine.proofs.pump.Pump.answered.Goals as goal

pub returns-in-Err-TagsOut-clause-allowed : goal.returns-in-Err-TagsOut-clause-allowed
returns-in-Err-TagsOut-clause-allowed g c =
    answered_by g.P.Tag.PartialEq.eq g.P.Policy.model c.args.self.now c.ask.new.self c.ask_anew.new.self c.args.h c.args.look.now
    (subst (Unanswered g.P.Tag.PartialEq.eq g.P.Policy.model c.args.self.now c.args.h c.args.look.now c.ask.new.self) c.in-Err-TagsOut.field-0-is c.in-Err-TagsOut.ensures.unanswered)
    c.ask_anew.result c.ask_anew.ensures.settled

pub returns-in-Err-TagsOut-clause-unruled : goal.returns-in-Err-TagsOut-clause-unruled
returns-in-Err-TagsOut-clause-unruled g c =
    unruled_by g.P.Tag.PartialEq.eq g.P.Policy.model c.args.self.now c.ask.new.self c.ask_anew.new.self c.args.h c.args.look.now
    (subst (Unanswered g.P.Tag.PartialEq.eq g.P.Policy.model c.args.self.now c.args.h c.args.look.now c.ask.new.self) c.in-Err-TagsOut.field-0-is c.in-Err-TagsOut.ensures.unanswered)
    c.ask_anew.result c.ask_anew.ensures.settled
