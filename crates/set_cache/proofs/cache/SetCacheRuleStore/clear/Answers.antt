use Rattle.set_cache.proofs.cache.SetCacheRuleStore.clear.Goals as goal

pub invariant_of-self : goal.invariant_of-self
invariant_of-self c = c.empty_all.ensures.held c.self.inside.ways c.self.inside.numbers c.self.invariant
