-- The plan that comes is a given one, and the one that was committed.
use Rattle.std.proofs.Common.{rules, sym, ◌∙◌}
use Rattle.policy_trait.specs.UseLaws.{given_plan}
use Rattle.policy_trait.specs.declared.services.Args.{Args}
use Rattle.secrecy_policy.specs.Secrecy.{IsLeft, secrecy}
use Rattle.secrecy_policy.specs.SecrecyLaws.{secrecy_laws}
use Rattle.secrecy_policy.specs.declared.tag.SecretTag.{SecretTag}
use Rattle.secrecy_policy.specs.declared.tag.SecretTag.TheVariants.{Open}
use Rattle.rule_tests.proofs.secrecy.answer_and_take_back.Goals as goal

abbrev arguments : Args SecretTag
arguments = record { a0 = 0; a1 = 0; a2 = 0; t0 = Open; t1 = Open; t2 = Open; ram = 256 }

pub commit-requires : goal.commit-requires
commit-requires c =
    given_plan secrecy IsLeft secrecy_laws c.args.secrecy.now 64 arguments c.plain.result c.in-Ok.plan (search rules) (sym c.plan.ensures ∙ c.in-Ok.is)

pub uncommit-requires : goal.uncommit-requires
uncommit-requires c = record {
  before = c.args.secrecy.now;
  held = c.plain.ensures.valid;
  given = given_plan secrecy IsLeft secrecy_laws c.args.secrecy.now 64 arguments c.plain.result c.in-Ok.plan (search rules) (sym c.plan.ensures ∙ c.in-Ok.is);
  left = c.in_ok-commit.ensures.ok;
}
