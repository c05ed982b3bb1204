use Rattle.std.proofs.Common.{◌<◌, arith, length, sym, subst, ◌∙◌}
use Rattle.std.proofs.lemmas.List.{with_items_is}
use Rattle.set_cache.specs.Sets.{AreHeld}
use Rattle.set_cache.proofs.HeldLemmas.{held_emptied, rules_emptied}
use Rattle.set_cache.proofs.cache.empty_all.Goals as goal

pub loop-set-preserved : goal.loop-set-preserved
loop-set-preserved c =
    let now = c.loop-set.set-items in
    let number = c.loop-set.set-index in
    let within : number < length now = omega arith in
    record {
      rules = rules_emptied c.args.sets.now.items now number c.clear.new.self within c.loop-set.invariant.rules c.clear.ensures.items;
      held = λ ways numbers are.
          held_emptied ways numbers now number c.set-item.result c.clear.new.self within c.clear.ensures.items c.clear.ensures.capacity
          (c.loop-set.invariant.held ways numbers are);
    }

pub returns-clause-held : goal.returns-clause-held
returns-clause-held c ways numbers are =
    subst (AreHeld ways numbers)
    (sym (with_items_is c.args.sets.now c.loop-set.set-items (c.loop-set.auto.set-items ∙ c.deref_mut-set-items.ensures.len)))
    (c.loop-set.invariant.held ways numbers are)
