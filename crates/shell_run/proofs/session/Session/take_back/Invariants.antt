use Rattle.std.proofs.Common.{◌≡◌}
use Rattle.shell_run.specs.Session.{IsSession, backed, session_of}
use Rattle.shell_run.proofs.session.Session.take_back.Given as goal

-- so many turns were taken back
abbrev pub invariant-loop : goal.invariant-loop
invariant-loop g l =
    let here = session_of (g.L.Loader.start l.self-inside.loader) (g.L.E.Engine.standing l.self-inside.engine) l.self-inside.feed l.self-inside.breaks.items l.self-inside.ended in
    record {
      back : here ≡ backed g.L.E.P.Policy.model l.fn.self l.counter;
      sound : IsSession g.L.E.P.Policy.longest here;
    }
