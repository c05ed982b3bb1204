use Rattle.std.proofs.Common.{Err, sym, subst, ◌∙◌}
use Rattle.turn_steps.specs.Feeds.{Tape, tape_of}
use Rattle.engine_trait.specs.Standing.{Standing}
use Rattle.rounds.specs.Course.{rounds}
use Rattle.pump_cli.specs.Endings.{Outcome, outcome_of_course}
use Rattle.pump_cli.specs.Facts.{Does}
use Rattle.pump_cli.proofs.AnswerLemmas.{does_nothing}
use Rattle.pump_cli.proofs.StartLemmas.{over_outcome, started_within}
use Rattle.pump_cli.proofs.run.run_load.Goals as goal

pub returns-in-Err-TagsOut-clause-does : goal.returns-in-Err-TagsOut-clause-does
returns-in-Err-TagsOut-clause-does g c =
    let start = g.D.Loader.start c.args.loader.now in
    subst (λ (due : Outcome). Does due (record { out = g.K.Sink.taken c.args.out.now; err = g.L.Sink.taken c.args.err.now }) (record { out = g.K.Sink.taken c.args.out.now; err = g.L.Sink.taken c.end_at_start.new.err }) c.end_at_start.result)
    (sym (over_outcome start g.D.E.P.Tag.PartialEq.eq g.D.E.P.Policy.model c.args.turns (tape_of c.args.fed.items) (c.in-Err-TagsOut.ensures.out (λ i. Err (c.in-Err-TagsOut.field-0-is i)))))
    (c.end_at_start.ensures.does (g.K.Sink.taken c.args.out.now))

pub returns-in-Err-TagsOut-clause-faults : goal.returns-in-Err-TagsOut-clause-faults
returns-in-Err-TagsOut-clause-faults g c = c.end_at_start.ensures.faults (g.K.Sink.faults c.args.out.now)

pub returns-in-Err-Memory-clause-does : goal.returns-in-Err-Memory-clause-does
returns-in-Err-Memory-clause-does g c = does_nothing _ _ _

pub returns-clause-does : goal.returns-clause-does
returns-clause-does g c =
    let start = g.D.Loader.start c.args.loader.now in
    subst (λ (from : Standing g.row.D-E-P.Denot g.row.D-E-P-Tag.Denot). DoesFrom from (tape_of c.args.fed.items)) (c.in-Ok.ensures.start ∙ sym (started_within start c.in-Ok.ensures.within))
    (subst (DoesFrom (g.D.E.Engine.standing c.in-Ok.engine)) c.of-feed.ensures c.run_engine.ensures.does)
  where
    DoesFrom : Standing g.row.D-E-P.Denot g.row.D-E-P-Tag.Denot → Tape → Type 0
    DoesFrom from tape =
        Does (outcome_of_course (rounds g.D.E.P.Tag.PartialEq.eq g.D.E.P.Policy.model c.args.turns 0 from tape))
        (record { out = g.K.Sink.taken c.args.out.now; err = g.L.Sink.taken c.args.err.now })
        (record { out = g.K.Sink.taken c.run_engine.new.out; err = g.L.Sink.taken c.run_engine.new.err }) c.run_engine.result
