use Rattle.std.proofs.Common.{ℕ, arith, ap, sym, ◌∙◌, ◌+◌, ◌∷◌, ◌++◌, [], List, Option}
use Rattle.std.proofs.lemmas.List.FromFn.{map-range_with_len_more}
use Rattle.rounds.specs.Course.{next_hart}
use Rattle.rounds.proofs.order.order_of.Goals as goal

pub loop-h-preserved : goal.loop-h-preserved
loop-h-preserved g c =
    let after = λ (h : ℕ). next_hart (g.E.Engine.standing c.args.engine.now).machine.core (h + 1) in
    record {
      order =
          c.push.ensures.items
          ∙ ap (λ (next : Option ℕ). c.loop-h.order.items ++ next ∷ []) c.next_hart.ensures.next
          ∙ ap (λ (order : List (Option ℕ)). order ++ after c.loop-h.h ∷ []) c.loop-h.invariant.order
          ∙ sym (map-range_with_len_more after 0 c.loop-h.h c.loop-h.h (omega arith));
      size = omega arith;
    }
