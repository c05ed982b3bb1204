use Rattle.set_cache.proofs.HeldLemmas.{each_more, rules_more}
use Rattle.set_cache.proofs.cache.empty_sets.Goals as goal

pub loop-set-preserved : goal.loop-set-preserved
loop-set-preserved c =
    let made = c.loop-set.made.items in
    let set = c.in_ok-with_capacity in
    rw c.in_ok-push.ensures.items (record {
      rules = rules_more made c.loop-set._set set.field-0 c.loop-set.invariant.rules set.ensures.items;
      each = each_more c.args.ways made set.field-0 c.loop-set.invariant.each set.ensures.items set.ensures.capacity;
    })
