-- What a committed plan tells of its block.
use Rattle.heap_policy.specs.HeapLaws.{can_hand_back, can_put_back}
use Rattle.heap_policy.proofs.policy.HeapPolicy.uncommit.Goals as goal

pub put_back-requires : goal.put_back-requires
put_back-requires c = can_put_back c.args.self.now c.args.plan.now c.in-Some.words c.requires c.if-plan-eq-FREE.true c.in-Some.is

pub hand_back-requires : goal.hand_back-requires
hand_back-requires c = can_hand_back c.args.self.now c.args.plan.now c.in-Some.words c.requires c.if-plan-eq-FREE.false c.in-Some.is
