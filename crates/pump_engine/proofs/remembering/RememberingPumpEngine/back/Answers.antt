use Rattle.std.proofs.Common.{◌≡◌, ◌∙◌, is_some, refl, subst, sym}
use Rattle.undo_log.specs.Past.{newest}
use Rattle.engine_trait.specs.Back.{back}
use Rattle.pump_engine.specs.Back.{HasPast}
use Rattle.pump_engine.specs.Pump.{PumpState, account_by_words, standing_by_words}
use Rattle.pump_engine.proofs.BackLemmas.{back_by_words, can_take_back, past_taken, some_told}
use Rattle.pump_engine.proofs.remembering.RememberingPumpEngine.back.Goals as goal

pub take_back-requires : goal.take_back-requires
take_back-requires g c = record { can = can_take_back g.P.Policy.model g.P.Policy.holds g.met.P.Policy.lawful c.self.inside.pump c.self.invariant }

pub invariant_of-self : goal.invariant_of-self
invariant_of-self g c =
    let m = g.P.Policy.model in
    subst (λ (q : PumpState g.row.P.Denot g.row.P-Tag.Denot). HasPast m q g.P.Policy.holds) (sym c.take_back.ensures.state)
    (past_taken m g.P.Policy.holds g.met.P.Policy.lawful c.self.inside.pump c.self.invariant)

pub returns-clause-back : goal.returns-clause-back
returns-clause-back g c =
    let m = g.P.Policy.model in
    let p = c.self.inside.pump in
    let can = can_take_back m g.P.Policy.holds g.met.P.Policy.lawful p c.self.invariant in
    subst (λ (q : PumpState g.row.P.Denot g.row.P-Tag.Denot). back m (standing_by_words m q) c.args.feed.now
    ≡ record { standing = standing_by_words m c.take_back.new.self; feed = c.take_back.new.feed }) c.self.view_is
    (back_by_words m g.P.Policy.holds g.met.P.Policy.lawful p (newest p.past) refl can c.args.feed.now
    ∙ λ j. record { standing = standing_by_words m (sym c.take_back.ensures.state j); feed = sym c.take_back.ensures.feed j })

pub returns-clause-some : goal.returns-clause-some
returns-clause-some g c =
    let m = g.P.Policy.model in
    subst (λ (q : PumpState g.row.P.Denot g.row.P-Tag.Denot). c.take_back.result ≡ is_some (newest (account_by_words m q).past)) c.self.view_is
    (c.take_back.ensures.some ∙ some_told m g.P.Policy.holds g.met.P.Policy.lawful c.self.inside.pump)
