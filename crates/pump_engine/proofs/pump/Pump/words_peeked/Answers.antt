use Rattle.std.proofs.Common.{◌∙◌}
use Rattle.engine_trait.specs.Machine.{hart_at}
use Rattle.pump_engine.proofs.CountLemmas.{seen_by_words}
use Rattle.tag_intern.specs.Words.{tag_at}
use Rattle.turn_steps.specs.Peeks.{peek_by, peeked}
use Rattle.pump_engine.proofs.pump.Pump.words_peeked.Goals as goal

pub returns : goal.returns
returns g c =
    c.peeked.ensures
    ∙ (λ j. peeked (peek_by (tag_at (c.decoder.ensures.plain j) (c.decoder.ensures.tags j).tags) (g.P.Policy.model.peek (c.self.view_is j).policy))
    (hart_at (c.self.view_is j).core c.args.h) (c.self.view_is j).core.ram)
    ∙ seen_by_words g.P.Policy.model c.args.self.now c.args.h
