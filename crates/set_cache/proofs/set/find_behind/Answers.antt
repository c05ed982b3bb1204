use Rattle.std.proofs.Common.{position, sym, ap, ◌∙◌}
use Rattle.rule_cache.specs.Keys.{key_eq}
use Rattle.set_cache.proofs.PlaceLemmas.{at_none, found_there, moved_none, moved_there}
use Rattle.set_cache.proofs.set.find_behind.Goals as goal

pub returns-in_err-place-clause-found : goal.returns-in_err-place-clause-found
returns-in_err-place-clause-found c =
    let missing = c.in_err-place.ensures ∙ ap (position (λ rule. key_eq c.args.key rule.0)) c.deref.ensures.value in
    c.from_residual.ensures ∙ sym (at_none c.args.key c.args.rules.now.items missing).value

pub returns-in_err-place-clause-moved : goal.returns-in_err-place-clause-moved
returns-in_err-place-clause-moved c =
    let missing = c.in_err-place.ensures ∙ ap (position (λ rule. key_eq c.args.key rule.0)) c.deref.ensures.value in
    moved_none c.args.key c.args.rules.now.items (at_none c.args.key c.args.rules.now.items missing)

pub returns-clause-found : goal.returns-clause-found
returns-clause-found c =
    let found = c.in_ok-place.ensures ∙ ap (position (λ rule. key_eq c.args.key rule.0)) c.deref.ensures.value in
    found_there c.args.key c.args.rules.now.items c.in_ok-place.place c.index-rule.result.now found c.index-rule.ensures

pub returns-clause-moved : goal.returns-clause-moved
returns-clause-moved c =
    let found = c.in_ok-place.ensures ∙ ap (position (λ rule. key_eq c.args.key rule.0)) c.deref.ensures.value in
    c.put_first.ensures.put
    ∙ moved_there c.args.key c.args.rules.now.items c.in_ok-place.place c.index-rule.result.now found c.index-rule.ensures
