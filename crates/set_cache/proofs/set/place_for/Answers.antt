use Rattle.std.proofs.Common.{◌≡◌, ◌-◌, length, position, sym, ap, ◌∙◌, arith}
use Rattle.rule_cache.specs.Keys.{key_eq}
use Rattle.set_cache.proofs.PlaceLemmas.{at_none, others_full, others_more, others_there}
use Rattle.set_cache.proofs.set.place_for.Goals as goal

pub returns-in-Some-clause-others : goal.returns-in-Some-clause-others
returns-in-Some-clause-others c =
    let found = c.in-Some.ensures ∙ ap (position (λ rule. key_eq c.args.rule.0 rule.0)) c.deref.ensures.value in
    others_there c.args.rule.0 c.args.ways c.requires.some c.args.rule.1 c.args.rules.now.items c.requires.set c.in-Some.place found

pub returns-then-len-ways-clause-others : goal.returns-then-len-ways-clause-others
returns-then-len-ways-clause-others c =
    let rules = c.args.rules.now.items in
    let absent = at_none c.args.rule.0 rules (c.in_default.ensures ∙ ap (position (λ rule. key_eq c.args.rule.0 rule.0)) c.deref.ensures.value) in
    let full : length rules ≡ c.args.ways = ap length (sym c.deref.ensures.value) ∙ c.deref.ensures.len ∙ sym c.len.ensures ∙ c.if-len-ways.true in
    others_full c.args.rule.0 c.args.ways c.requires.some c.args.rule.1 rules c.requires.set absent full

pub returns-clause-others : goal.returns-clause-others
returns-clause-others c =
    let rules = c.args.rules.now.items in
    let absent = at_none c.args.rule.0 rules (c.in_default.ensures ∙ ap (position (λ rule. key_eq c.args.rule.0 rule.0)) c.deref.ensures.value) in
    let size : length rules ≡ c.len.result = ap length (sym c.deref.ensures.value) ∙ c.deref.ensures.len ∙ sym c.len.ensures in
    let long = rw c.unwrap.ensures at c.push.ensures.len in
    let last : c.len-2.result - 1 ≡ length rules = omega (arith, long, size, c.len.ensures, c.len-2.ensures) in
    others_more c.args.rule.0 c.args.ways c.requires.some c.args.rule.1 rules c.requires.set absent
    (λ full. c.if-len-ways.false (sym size ∙ full)) c.args.rule c.push.new.self.items (rw c.unwrap.ensures at c.push.ensures.items)
    (c.len-2.result - 1) last
