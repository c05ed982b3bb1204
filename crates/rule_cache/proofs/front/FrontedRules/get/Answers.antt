use Rattle.std.proofs.Common.{sym, ap, ◌∙◌}
use Rattle.std.specs.Map.{lookup}
use Rattle.rule_cache.specs.Fronts.{slot_at}
use Rattle.rule_cache.specs.Keys.{key_eq}
use Rattle.rule_cache.proofs.FrontLemmas.{found_replayed}
use Rattle.rule_cache.proofs.front.FrontedRules.get.Goals as goal

pub returns-in-Some-clause-found : goal.returns-in-Some-clause-found
returns-in-Some-clause-found c =
    let fields = c.self.inside in
    let key = c.args.key in
    let number = c.slot_number-number.result in
    let there = ap (λ slots. slot_at slots number) (sym c.deref.ensures.value) ∙ c.in-Some.ensures in
    sym (
    ap (λ rules. lookup (key_eq key) rules.entries) (sym c.self.view_is)
    ∙ found_replayed fields.slots.items key fields.log.items fields.rules.entries
    ∙ (c.self.invariant.stands number key c.in-Some.words there).1
    )
