use Rattle.std.proofs.Common.{ap, ◌∙◌}
use Rattle.rule_cache.specs.Fronts.{replayed}
use Rattle.rule_cache.proofs.FrontLemmas.{asked_front, caught_front}
use Rattle.rule_cache.proofs.front.FrontedRules.get_listed.Goals as goal

pub invariant_of-self : goal.invariant_of-self
invariant_of-self c =
    let fields = c.self.inside in
    let rules = c.catch_up.new.rules.entries in
    let caught = ap (λ cache. cache.entries) c.catch_up.ensures.rules
    ∙ ap (λ slots. replayed slots fields.log.items fields.rules.entries) c.deref.ensures.value in
    let is = caught_front fields.slots.items fields.rules.entries c.self.invariant fields.log.items rules caught in
    rw (c.fill.ensures, c.moved-found.ensures.moved)
    (asked_front fields.slots.items rules is c.args.key c.moved-found.result c.moved-found.ensures.found)
