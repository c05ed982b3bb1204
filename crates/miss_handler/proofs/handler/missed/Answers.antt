use Rattle.std.proofs.Common.{ap, sym, ◌∙◌}
use Rattle.miss_handler.specs.Asked.{answer_on}
use Rattle.miss_handler.proofs.handler.missed.Goals as goal

pub returns-clause-stopped : goal.returns-clause-stopped
returns-clause-stopped g c refused =
    let stopped = c.answered_anew-end.ensures.stopped refused in
    let same = ap (λ book. answer_on book (g.T.TagTable.state c.args.tags.now).tags c.args.key.group c.args.key.words) c.again-asked.ensures.book in
    (λ end. sym same ∙ stopped.0 end, λ refuses. stopped.1 (same ∙ refuses))
