use Rattle.std.proofs.Common.{map, subst, sym}
use Rattle.undo_log.specs.Past.{record_with}
use Rattle.engine_trait.specs.Back.{IsPastOf}
use Rattle.engine_trait.proofs.PastLemmas.{past_none}
use Rattle.pump_engine.specs.Pump.{decode, machine_by_words}
use Rattle.pump_engine.proofs.remembering.RememberingPump.new.Goals as goal

-- there is no record, and the machine is sound
pub invariant_of-result : goal.invariant_of-result
invariant_of-result g c =
    let m = g.P.Policy.model in
    let valid = subst g.P.Policy.holds c.asked_policy.ensures c.plain-plain.ensures.valid in
    subst (λ kept. IsPastOf m g.P.Policy.holds (machine_by_words m c.args.pump) (map (record_with (decode m c.args.pump)) kept)) (sym c.requires)
    (past_none m g.P.Policy.holds g.met.P.Policy.lawful (machine_by_words m c.args.pump) c.words-words.ensures.sound.machine valid)
