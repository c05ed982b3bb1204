-- A plan that takes no block back has a range only where it hands one out.
use Rattle.heap_policy.specs.HeapLaws.{given_words}
use Rattle.heap_policy.proofs.policy.HeapPolicy.commit.Goals as goal

pub hand_out-requires : goal.hand_out-requires
hand_out-requires c = given_words c.args.self.now c.args.plan.now c.requires c.if-plan-eq-FREE.false c.in-Some.words c.in-Some.is
