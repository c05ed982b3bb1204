use Rattle.std.proofs.Common.{◌≡◌, None, subst, ◌∙◌}
use Rattle.engine_trait.specs.History.{record_by}
use Rattle.engine_trait.specs.Standing.{Standing}
use Rattle.engine_trait.proofs.PastLemmas.{next_unused}
use Rattle.plain_engine.proofs.plain.Plain.step_record.Goals as goal

-- what is fed has no part in it
pub returns : goal.returns
returns g c next =
    let look = c.args.look.now in
    subst (λ (e : Standing g.row.P.Denot g.row.P-Tag.Denot). c.step_record.result ≡ record_by look.group e.machine.core next c.args.h look) c.self.view_is
    (c.step_record.ensures ∙ next_unused look.group c.self.inside.core None next c.args.h look c.requires.plain)
