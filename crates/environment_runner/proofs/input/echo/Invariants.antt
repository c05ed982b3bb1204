use Rattle.environment_runner.proofs.InputLemmas.{HasPut}
use Rattle.environment_runner.proofs.input.echo.Given as goal

-- what was read was put
abbrev pub invariant-loop : goal.invariant-loop
invariant-loop g l = HasPut (g.S.Source.left l.fn.source) (g.S.Source.left l.source) (g.K.Sink.taken l.fn.out) (g.K.Sink.taken l.out)
