use Rattle.std.proofs.Common.{rules, ◌≡◌, Err, ◌∙◌}
use Rattle.policy_choice.specs.All.{all_owner_plan}
use Rattle.policy_choice.specs.Flat.{parts_of}
use Rattle.policy_trait.specs.Maps.{args_by}
use Rattle.policy_choice.proofs.PartLemmas.{plan_lent, plan_told, plan_unlent}
use Rattle.policy_choice.proofs.all.TogetherAllTagPolicy.plan.Goals as goal

pub returns-in_err-lent : goal.returns-in_err-lent
returns-in_err-lent c =
    let args = c.args in
    let declined : c.from_residual.result ≡ Err c.in_err-lent.field-0.0 = search rules in
    plan_told args.self.now args.number args.arguments.now args.pc c.requires.known c.lent.result c.lent.ensures c.from_residual.result
    (plan_unlent c.lent.result _ c.in_err-lent.was (λ each. all_owner_plan (parts_of args.self.now) args.number (args_by parts_of args.arguments.now) (parts_of args.pc)) _ declined)

pub returns : goal.returns
returns c =
    let args = c.args in
    plan_told args.self.now args.number args.arguments.now args.pc c.requires.known c.lent.result c.lent.ensures c.owner_plan.result
    (c.owner_plan.ensures ∙ plan_lent c.lent.result _ c.in_ok-lent.was _)
