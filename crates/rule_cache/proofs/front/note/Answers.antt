use Rattle.std.proofs.Common.{◌≡◌, ◌+◌, ◌<◌, ap, arith, length, refl, rules, slice_set, subst, sym, ◌∙◌}
use Rattle.rule_cache.specs.Fronts.{AreNoted, brought_up}
use Rattle.rule_cache.proofs.LogLemmas.{brought_more, noted_after, noted_before}
use Rattle.rule_cache.proofs.front.note.Goals as goal

pub returns-then-places-number-ne0-clause-noted : goal.returns-then-places-number-ne0-clause-noted
returns-then-places-number-ne0-clause-noted c =
    noted_before c.args.numbers.now.items c.args.places.now c.args.number c.requires.places _ refl c.if-places-number-ne0.true

pub returns-clause-noted : goal.returns-clause-noted
returns-clause-noted c slots rules =
    ap (λ numbers. brought_up slots numbers rules) c.push.ensures.items ∙ brought_more slots c.args.numbers.now.items c.args.number rules

pub returns-clause-places : goal.returns-clause-places
returns-clause-places c =
    let places = c.args.places.now in
    let numbers = c.args.numbers.now.items in
    let all = c.told-places in
    let small = c.ranges.number in
    let within : c.args.number < length places = omega (arith, all, small) in
    let count : length numbers + 1 ≡ c.len.result = search rules in
    subst (λ n. AreNoted c.push.new.self.items (slice_set places c.args.number n)) count (
    subst (λ items. AreNoted items (slice_set places c.args.number (length numbers + 1))) (sym c.push.ensures.items)
    (noted_after numbers places c.args.number c.requires.places within)
    )
