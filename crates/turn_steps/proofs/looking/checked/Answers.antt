use Rattle.std.proofs.Common.{rules, ◌≡◌, ◌∙◌}
use Rattle.turn_steps.specs.Looks.{effect_at}
use Rattle.turn_steps.proofs.PlaceLemmas.{effect_is}
use Rattle.turn_steps.proofs.looking.checked.Goals as goal

pub returns-in_err-check-clause-value : goal.returns-in_err-check-clause-value
returns-in_err-check-clause-value g c =
    let effect : c.effect_of-effect.result ≡ effect_at c.args.hart.now c.args.instr.now =
    c.effect_of-effect.ensures.value ∙ effect_is c.args.hart.now c.args.instr.now c.places-places.result c.reg-service.result c.places-places.ensures in
    search rules

pub returns-clause-value : goal.returns-clause-value
returns-clause-value g c =
    let effect : c.effect_of-effect.result ≡ effect_at c.args.hart.now c.args.instr.now =
    c.effect_of-effect.ensures.value ∙ effect_is c.args.hart.now c.args.instr.now c.places-places.result c.reg-service.result c.places-places.ensures in
    search rules
