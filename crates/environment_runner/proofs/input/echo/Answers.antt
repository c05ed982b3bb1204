use Rattle.std.proofs.Common.{take}
use Rattle.environment_runner.proofs.InputLemmas.{more_put}
use Rattle.environment_runner.proofs.input.echo.Goals as goal

pub loop-preserved : goal.loop-preserved
loop-preserved g c =
    more_put (g.S.Source.left c.args.source.now) (g.S.Source.left c.loop.source) (g.S.Source.left c.read.new.self) (g.K.Sink.taken c.args.out.now) (g.K.Sink.taken c.loop.out) (g.K.Sink.taken c.put.new.self)
    (take c.in-Ok.count c.read.new.buffer) c.loop.invariant c.in-Ok.ensures.moved c.in_ok-put-in-Ok.ensures.ok
