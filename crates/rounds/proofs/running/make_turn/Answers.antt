use Rattle.rounds.proofs.StopLemmas.{stop_left}
use Rattle.rounds.proofs.TurnLemmas.{made_runs}
use Rattle.host_io.proofs.PieceLemmas.{puts_begin, puts_none}
use Rattle.rounds.proofs.running.make_turn.Goals as goal

pub returns-in-Memory-clause-puts : goal.returns-in-Memory-clause-puts
returns-in-Memory-clause-puts g c = puts_none _ _

pub returns-in-Memory-clause-whole : goal.returns-in-Memory-clause-whole
returns-in-Memory-clause-whole g c = λ sound. (_, puts_begin _ _)

pub returns-in-Err-clause-runs_on : goal.returns-in-Err-clause-runs_on
returns-in-Err-clause-runs_on g c = λ end is.
    made_runs g.E.P.Tag.PartialEq.eq g.E.P.Policy.model (g.E.Engine.standing c.args.engine.now) c.args.feed.now c.args.h
    (g.E.Engine.standing c.ready_turn-end.new.self) c.ready_turn-end.new.feed c.ready_turn-end.result (c.ready_turn-end.ensures.step c.in_default.not-Memory) c.in-Err.ensures.made

pub tell-requires-clause-stop : goal.tell-requires-clause-stop
tell-requires-clause-stop g c =
    stop_left g.E.P.Tag.PartialEq.eq g.E.P.Policy.model (g.E.Engine.standing c.args.engine.now) c.args.feed.now c.args.h
    c.harts-harts.ensures.sound c.requires.hart
    (g.E.Engine.standing c.ready_turn-end.new.self) c.ready_turn-end.new.feed c.ready_turn-end.result (c.ready_turn-end.ensures.step c.in_default.not-Memory)
