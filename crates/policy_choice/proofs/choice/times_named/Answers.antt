use Rattle.std.proofs.Common.{◌==◌, ◌∙◌, rules, tests}
use Rattle.std.specs.Str.{bytes_eq}
use Rattle.std.proofs.lemmas.Iterator.Consumers.{YieldsList-at, YieldsList-from_filter, count_from_yields_List}
use Rattle.std.proofs.lemmas.Iterator.Splits.{YieldsList-from_slice_split}
use Rattle.std.proofs.lemmas.List.Sums.{length-filter}
use Rattle.policy_choice.specs.Choice.{names_in}
use Rattle.policy_choice.proofs.choice.times_named.Goals as goal

pub returns : goal.returns
returns c =
    count_from_yields_List c.filter.result _ c.count.ensures.ran
    (YieldsList-from_filter _ (λ part. bytes_eq part c.args.name.now)
    (YieldsList-at c.filter.ensures.source
    (YieldsList-from_slice_split _ (λ byte. byte == 44) c.args.list.now c.split.ensures.rest c.split.ensures.done c.split.ensures.closure (λ x b q k. search (rules, tests))))
    c.filter.ensures.closure (λ x b q k. search (rules, tests)))
    ∙ length-filter (λ part. bytes_eq part c.args.name.now) (names_in c.args.list.now)
