-- The policy that is nothing: it allows and ignores everything, knows no service, and has one tag.
use Rattle.std.specs.Prelude.{false, [], None, Ok, Err}
use Rattle.policy_trait.specs.Model.{PolicyModel}
use Rattle.policy_trait.specs.declared.services.PlanEnd.TheVariants as plan_end
use Rattle.policy_product.specs.Maybe.{all_ignored}
use Rattle.policy_product.specs.declared.nothing.Nothing.{Nothing}

-- its functions
abbrev pub nothing : PolicyModel (Unit {0}) Nothing
nothing = record {
  plain = λ s. tt;
  rule = λ s g x. Ok (record { pc = tt; result = tt });
  ignores = λ s g. all_ignored;
  peeks = λ s. false;
  peek = λ s shape first second. Ok tt;
  knows = λ s number. false;
  uses = λ s number. 0;
  lend = λ s tag. Ok tt;
  room = λ s. 0;
  plan = λ s number a pc. Err plan_end.Spent;
  retag = λ s p old. Ok tt;
  wipe = λ s pc old. Ok tt;
  commit = λ s p. s;
  uncommit = λ s p. s;
  start_pc = λ s birth. tt;
  start_word = λ s birth. tt;
  text = λ s tag. [];
  listed = λ s place. None;
}

-- whatever a tag was, it is the only one
abbrev pub no_tag : {T : Type 0} → T → Unit {0}
no_tag tag = tt
