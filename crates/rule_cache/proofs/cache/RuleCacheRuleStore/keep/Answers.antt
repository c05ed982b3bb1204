use Rattle.std.proofs.Common.{sym, ap, ◌∙◌}
use Rattle.rule_cache.specs.Stores.{Rules}
use Rattle.rule_cache.proofs.OneSetLemmas.{one, one_kept}
use Rattle.rule_cache.proofs.RuleLemmas.{put_kept}
use Rattle.rule_cache.proofs.cache.RuleCacheRuleStore.keep.Goals as goal

pub returns-clause-kept : goal.returns-clause-kept
returns-clause-kept c =
    let before = c.args.self.now in
    let put = put_kept c.args.key before.rules.cap before.rules.entries c.are_valid.ensures c.args.words in
    rw c.in_ok-put.ensures.put (
    ap (λ (kept : Rules). one kept before.rules.cap before.hits before.misses) put
    ∙ sym (one_kept c.args.key before.rules.entries before.rules.cap before.hits before.misses c.args.words)
    )
