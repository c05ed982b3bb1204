use Rattle.std.proofs.Common.{◌≤◌, length, ap, ◌∙◌, arith}
use Rattle.rule_cache.specs.Fronts.{emptied}
use Rattle.rule_cache.proofs.FrontLemmas.{last_displaced}
use Rattle.rule_cache.proofs.front.empty_displaced.Goals as goal

pub returns-clause-slots : goal.returns-clause-slots
returns-clause-slots c =
    let cache = c.args.rules.now in
    let full : cache.cap ≤ length cache.entries = omega arith in
    let last = c.in-Some.ensures ∙ last_displaced cache.entries cache.cap c.len.ensures.valid full in
    c.empty_slot_of.ensures ∙ ap (λ gone. emptied gone c.args.slots.now.items) last
