use Rattle.std.proofs.Common.{ap, ◌∙◌}
use Rattle.policy_choice.specs.All.{all}
use Rattle.policy_choice.proofs.all.TogetherAllTagPolicy.rule.Goals as goal

pub returns : goal.returns
returns c = c.rule_at.ensures ∙ ap (all.rule c.args.self.now c.args.group) c.new.ensures
