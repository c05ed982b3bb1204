use Rattle.std.proofs.Common.{subst}
use Rattle.lru.specs.LruCache.{IsValid}
use Rattle.rule_cache.specs.Keys.{key_eq}
use Rattle.rule_cache.proofs.FrontLemmas.{replayed_valid}
use Rattle.rule_cache.proofs.front.FrontedRules.are_valid.Goals as goal

pub returns : goal.returns
returns c =
    let fields = c.self.inside in
    subst (IsValid key_eq) c.self.view_is
    (replayed_valid fields.slots.items fields.log.items fields.rules.cap fields.rules.entries c.len-length.ensures.valid)
