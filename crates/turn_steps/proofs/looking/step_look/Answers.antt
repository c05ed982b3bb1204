use Rattle.std.proofs.Common.{ap, sym, ◌∙◌}
use Rattle.rv_step.specs.declared.faults.Fault.TheVariants.{Illegal}
use Rattle.turn_steps.specs.Looks.{found_or}
use Rattle.turn_steps.proofs.StepLemmas.{step_found, step_looked}
use Rattle.turn_steps.proofs.looking.step_look.Goals as goal

pub returns-in-Ok-checked-clause-value : goal.returns-in-Ok-checked-clause-value
returns-in-Ok-checked-clause-value g c =
    sym (step_found c.args.hart.now c.args.ram.now c.in-Ok.word c.in-Some.instr c.in-Ok-checked.look
    (sym c.fetch.ensures.value ∙ c.in-Ok.is) (ap (found_or (Illegal c.in-Ok.word)) (sym c.decode-found.ensures.value ∙ c.in-Some.is)) (sym c.checked.ensures.value ∙ c.in-Ok-checked.is)
    (sym c.is_system.ensures ∙ c.if-is_system.false))

pub returns-in-Ok-checked-clause-looked : goal.returns-in-Ok-checked-clause-looked
returns-in-Ok-checked-clause-looked g c = (step_looked _ c.in-Ok-checked.look (sym (returns-in-Ok-checked-clause-value g c))).0

pub returns-in-Ok-checked-clause-plain : goal.returns-in-Ok-checked-clause-plain
returns-in-Ok-checked-clause-plain g c = (step_looked _ c.in-Ok-checked.look (sym (returns-in-Ok-checked-clause-value g c))).1
