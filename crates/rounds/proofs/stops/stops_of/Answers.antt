use Rattle.std.proofs.Common.{arith, ap, sym, ◌∙◌, ◌∷◌, ◌++◌, [], List, Option}
use Rattle.std.proofs.lemmas.List.FromFn.{map-range_with_len_more}
use Rattle.engine_trait.specs.Machine.{stop_at}
use Rattle.turn_steps.specs.declared.stop.Stop.{Stop}
use Rattle.rounds.proofs.stops.stops_of.Goals as goal

pub loop-h-preserved : goal.loop-h-preserved
loop-h-preserved g c = record {
  stops =
      c.push.ensures.items
      ∙ ap (λ (stop : Option Stop). c.loop-h.stops.items ++ stop ∷ []) c.stop.ensures
      ∙ ap (λ (stops : List (Option Stop)). stops ++ stop_at (g.E.Engine.standing c.args.engine.now).machine.core c.loop-h.h ∷ []) c.loop-h.invariant.stops
      ∙ sym (map-range_with_len_more (stop_at (g.E.Engine.standing c.args.engine.now).machine.core) 0 c.loop-h.h c.loop-h.h (omega arith));
  size = omega arith;
}
