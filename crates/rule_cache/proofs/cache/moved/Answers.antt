use Rattle.rule_cache.proofs.RuleLemmas.{moved_hit, moved_miss}
use Rattle.rule_cache.proofs.cache.moved.Goals as goal

pub returns-clause-hit : goal.returns-clause-hit
returns-clause-hit c =
    let rules = c.args.rules.now in
    rw c.get.ensures.moved (moved_hit c.args.key.now rules.cap rules.entries c.are_valid.ensures c.get.result c.get.ensures.found)

pub returns-clause-miss : goal.returns-clause-miss
returns-clause-miss c =
    let rules = c.args.rules.now in
    rw c.get.ensures.moved (moved_miss c.args.key.now rules.cap rules.entries c.get.result c.get.ensures.found)
