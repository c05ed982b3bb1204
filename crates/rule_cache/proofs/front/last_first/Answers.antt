use Rattle.std.proofs.Common.{ap, arith, length, sym, ◌∙◌}
use Rattle.std.proofs.Math.Seq.{drop-length}
use Rattle.rule_cache.specs.Fronts.{brought_up, replayed}
use Rattle.rule_cache.proofs.LogLemmas.{none_noted}
use Rattle.rule_cache.proofs.front.last_first.Goals as goal

pub loop-place-init : goal.loop-place-init
loop-place-init c = let none = c.new-numbers.ensures in record {
  numbers = λ slots rules. ap (λ numbers. brought_up slots numbers rules) none ∙ sym (ap (λ rest. replayed slots rest rules) (drop-length c.args.log.now));
  length = let count = ap length none in omega (arith, count);
  places = none_noted c.new-numbers.result.items 256;
}
