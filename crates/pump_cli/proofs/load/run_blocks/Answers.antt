use Rattle.std.proofs.Common.{ℕ, [], Err, ap, ap₂, subst, sym, ◌∙◌, ◌+◌, ◌*◌}
use Rattle.turn_steps.specs.Feeds.{tape_of}
use Rattle.engine_trait.specs.Standing.{Standing}
use Rattle.rounds.specs.Course.{rounds}
use Rattle.pump_cli.specs.Endings.{Outcome}
use Rattle.pump_cli.specs.Facts.{Does}
use Rattle.pump_cli.specs.Program.{standing_at_start}
use Rattle.pump_cli.proofs.AnswerLemmas.{does_nothing}
use Rattle.pump_cli.proofs.SessionLemmas.{sinks}
use Rattle.pump_cli.proofs.StartLemmas.{started_within}
use Rattle.pump_cli.proofs.WorkloadLemmas.{over_work, told_work}
use Rattle.pump_cli.proofs.load.run_blocks.Goals as goal

pub returns-in-Err-TagsOut-clause-does : goal.returns-in-Err-TagsOut-clause-does
returns-in-Err-TagsOut-clause-does g c = λ err.
    subst (λ (due : Outcome). Does due (sinks (g.K.Sink.taken c.args.out.now) err) (sinks (g.K.Sink.taken c.tell_workload.new.out) err) c.tell_workload.result)
    (sym (over_work (g.D.Loader.start c.args.loader.now) g.D.E.P.Tag.PartialEq.eq g.D.E.P.Policy.model c.args.count (10 * c.args.count + 4) c.requires
    (c.in-Err-TagsOut.ensures.out (λ i. Err (c.in-Err-TagsOut.field-0-is i)))))
    (c.tell_workload.ensures.does err)

pub returns-in-Err-Memory-clause-does : goal.returns-in-Err-Memory-clause-does
returns-in-Err-Memory-clause-does g c = λ err. does_nothing _ _ _

pub returns-in-Ok-run_unseen-clause-does : goal.returns-in-Ok-run_unseen-clause-does
returns-in-Ok-run_unseen-clause-does g c = λ err.
    let start = g.D.Loader.start c.args.loader.now in
    let end = c.tell_workload-in-Ok-run_unseen in
    subst (λ (due : Outcome). Does due (sinks (g.K.Sink.taken c.args.out.now) err) (sinks (g.K.Sink.taken end.new.out) err) end.result)
    (told_work (rounds g.D.E.P.Tag.PartialEq.eq g.D.E.P.Policy.model (10 * c.args.count + 4) 0 (standing_at_start start) (tape_of [])) (g.D.E.Engine.standing c.run_unseen.new.engine)
    c.args.count c.counts.result c.in-Ok-run_unseen.status
    (c.in-Ok-run_unseen.ensures.standing
    ∙ ap₂ (λ (limit : ℕ) (from : Standing g.row.D-E-P.Denot g.row.D-E-P-Tag.Denot). (rounds g.D.E.P.Tag.PartialEq.eq g.D.E.P.Policy.model limit 0 from (tape_of [])).standing)
    (ap (λ (n : ℕ). 10 * n + 4) c.from.ensures) (c.in-Ok.ensures.start ∙ sym (started_within start c.in-Ok.ensures.within)))
    c.counts.ensures c.in-Ok-run_unseen.ensures.status)
    (end.ensures.does err)

pub returns-clause-does : goal.returns-clause-does
returns-clause-does g c = λ err. does_nothing _ _ _
