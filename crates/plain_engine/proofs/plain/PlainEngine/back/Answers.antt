use Rattle.std.proofs.Common.{ap, sym}
use Rattle.undo_log.specs.Past.{newest}
use Rattle.engine_trait.specs.Standing.{Standing}
use Rattle.engine_trait.proofs.PastLemmas.{back_none}
use Rattle.plain_engine.proofs.plain.PlainEngine.back.Goals as goal

-- no record is kept
pub returns-clause-back : goal.returns-clause-back
returns-clause-back g c =
    back_none g.P.Policy.model c.args.self.now c.args._feed.now (ap (λ (e : Standing g.row.P.Denot g.row.P-Tag.Denot). newest e.account.past) (sym c.self.view_is))
