use Rattle.monitor_calls.proofs.RangeLemmas.{each_retagged, first_refused, never_spent, refused_first, retags_each}
use Rattle.monitor_calls.proofs.law.retag_law.Goals as goal

pub returns-clause-each : goal.returns-clause-each
returns-clause-each g c s word_at tag_at plan base count words =
    let m = g.P.Policy.model in
    (retags_each m s word_at tag_at plan base count words, each_retagged m s word_at tag_at plan base count words)

pub returns-clause-lowest : goal.returns-clause-lowest
returns-clause-lowest g c s word_at tag_at plan base count refused =
    let m = g.P.Policy.model in
    (refused_first m s word_at tag_at plan base count refused, first_refused m s word_at tag_at plan base count refused)

pub returns-clause-unspent : goal.returns-clause-unspent
returns-clause-unspent g c = never_spent g.P.Policy.model
