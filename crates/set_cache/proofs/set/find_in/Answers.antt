use Rattle.std.proofs.Common.{take, ap, ◌∙◌}
use Rattle.std.specs.Map.{lookup}
use Rattle.rule_cache.specs.Keys.{key_eq}
use Rattle.set_cache.proofs.PlaceLemmas.{found_first, moved_first}
use Rattle.set_cache.proofs.set.find_in.Goals as goal

pub returns-in-Some-clause-found : goal.returns-in-Some-clause-found
returns-in-Some-clause-found c =
    let stands = c.in-Some.ensures ∙ ap (λ rules. lookup (key_eq c.args.key) (take 1 rules)) c.deref.ensures.value in
    found_first c.args.key c.args.rules.now.items c.in-Some.words stands

pub returns-in-Some-clause-moved : goal.returns-in-Some-clause-moved
returns-in-Some-clause-moved c =
    let stands = c.in-Some.ensures ∙ ap (λ rules. lookup (key_eq c.args.key) (take 1 rules)) c.deref.ensures.value in
    moved_first c.args.key c.args.rules.now.items c.in-Some.words stands
