use Rattle.std.proofs.Common.{◌≡◌, false, rules, subst, sym, true, ◌∙◌}
use Rattle.image_format.specs.Picture.{Picture}
use Rattle.policy_product.specs.Nothing.{nothing}
use Rattle.turn_steps.specs.Feeds.{tape_of}
use Rattle.rounds.specs.Course.{rounds}
use Rattle.pump_line.specs.Told.{run_value}
use Rattle.pump_loader.specs.PlainLoads.{bare_start_of}
use Rattle.pump_cli.specs.Endings.{Outcome, outcome_of_course}
use Rattle.pump_cli.specs.Facts.{Does}
use Rattle.pump_cli.specs.Program.{standing_at_start}
use Rattle.pump_cli.proofs.BareLemmas.{bare_outcome, chosen_outcome, one_eq}
use Rattle.pump_cli.proofs.SessionLemmas.{sinks}
use Rattle.pump_cli.proofs.run.run_image.Goals as goal

pub returns-then-is_none-clause-does : goal.returns-then-is_none-clause-does
returns-then-is_none-clause-does g c =
    subst (λ (due : Outcome). DoesAs due)
    (bare_outcome (run_value c.args.task) c.args.image.now c.args.fed.items (sym c.is_none.ensures ∙ c.if-is_none.true) c.requires.tags c.args.secret.now)
    (subst (λ (picture : Picture). DoesAs (outcome_of_course (rounds one_eq nothing c.args.task.turns 0 (standing_at_start (bare_start_of picture)) (tape_of c.args.fed.items))))
    c.new-loader.ensures c.run_load.ensures.does)
  where
    DoesAs : Outcome → Type 0
    DoesAs due =
        Does due (sinks (g.K.Sink.taken c.args.out.now) (g.L.Sink.taken c.args.err.now)) (sinks (g.K.Sink.taken c.run_load.new.out) (g.L.Sink.taken c.run_load.new.err)) c.run_load.result

pub returns-then-task-clause-does : goal.returns-then-task-clause-does
returns-then-task-clause-does g c =
    let is : c.args.task.choice.secret ≡ true = search rules in
    subst (λ (due : Outcome). Does due (sinks (g.K.Sink.taken c.args.out.now) (g.L.Sink.taken c.args.err.now)) (sinks (g.K.Sink.taken c.run_whole.new.out) (g.L.Sink.taken c.run_whole.new.err)) c.run_whole.result)
    (chosen_outcome (run_value c.args.task) c.args.secret.now c.args.image.now c.args.fed.items true is) c.run_whole.ensures.does

pub returns-clause-does : goal.returns-clause-does
returns-clause-does g c =
    let is : c.args.task.choice.secret ≡ false = search rules in
    subst (λ (due : Outcome). Does due (sinks (g.K.Sink.taken c.args.out.now) (g.L.Sink.taken c.args.err.now)) (sinks (g.K.Sink.taken c.run_whole-2.new.out) (g.L.Sink.taken c.run_whole-2.new.err)) c.run_whole-2.result)
    (chosen_outcome (run_value c.args.task) c.args.secret.now c.args.image.now c.args.fed.items false is) c.run_whole-2.ensures.does
