use Rattle.open_words.proofs.OpenLemmas.{known_after}
use Rattle.pump_engine.proofs.pump.Pump.learn.Goals as goal

pub invariant_of-self : goal.invariant_of-self
invariant_of-self g c = record {
  pump = c.self.invariant.pump;
  masks_are = c.self.invariant.masks_are;
  open_are = known_after g.P.Policy.model c.self.inside.policy (g.T.TagTable.state c.self.inside.tags).tags c.self.inside.open_words c.learn-learned.new.self
      c.learn-learned.result c.self.invariant.open_are c.learn-learned.ensures.ok c.learn-learned.ensures.err;
}
