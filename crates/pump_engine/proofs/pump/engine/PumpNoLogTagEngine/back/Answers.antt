use Rattle.std.proofs.Common.{◌≡◌, [], false, is_some, refl, subst}
use Rattle.undo_log.specs.Past.{newest, past_of}
use Rattle.engine_trait.specs.Back.{back}
use Rattle.engine_trait.proofs.PastLemmas.{back_none}
use Rattle.pump_engine.specs.Pump.{PumpState, account_by_words, pump_of, standing_by_words}
use Rattle.pump_engine.proofs.pump.engine.PumpNoLogTagEngine.back.Goals as goal

-- no record is kept
pub returns-clause-back : goal.returns-clause-back
returns-clause-back g c =
    let m = g.P.Policy.model in
    let p : PumpState g.row.P.Denot g.row.P-Tag.Denot =
    pump_of c.self.inside.policy c.self.inside.core (g.T.TagTable.state c.self.inside.tags) (g.C.RuleStore.state c.self.inside.store) c.self.inside.turns c.self.inside.sweeps c.self.inside.halt (past_of [] 0) in
    subst (λ (q : PumpState g.row.P.Denot g.row.P-Tag.Denot). back m (standing_by_words m q) c.args._feed.now ≡ record { standing = standing_by_words m q; feed = c.args._feed.now }) c.self.view_is
    (back_none m (standing_by_words m p) c.args._feed.now refl)

pub returns-clause-some : goal.returns-clause-some
returns-clause-some g c =
    subst (λ (q : PumpState g.row.P.Denot g.row.P-Tag.Denot). false ≡ is_some (newest (account_by_words g.P.Policy.model q).past)) c.self.view_is refl
