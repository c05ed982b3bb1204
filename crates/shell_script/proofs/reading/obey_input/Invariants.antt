use Rattle.std.proofs.Common.{◌≡◌, ℕ, ◌+◌, ◌≤◌, List, [], None, false, length}
use Rattle.std.specs.Io.KnownBytes.{prepend_known}
use Rattle.shell_lang.specs.Stream.{answers_along, line_along}
use Rattle.shell_turns.specs.Cuts.{PutsOut}
use Rattle.shell_turns.proofs.PutLemmas.{done}
use Rattle.shell_script.specs.Scripts.{Ends, script}
use Rattle.shell_script.proofs.reading.obey_input.Given as goal

abbrev pub invariant-loop-session : goal.invariant-loop-session
invariant-loop-session g l =
    let read = λ (taken : List ℕ). script g.L.E.P.Tag.PartialEq.eq g.L.E.P.Policy.model l.fn.session (answers_along [] taken) in
    record {
      -- the bytes that were read
      taken : List ℕ;
      moved : g.S.Source.left l.fn.input ≡ prepend_known taken (g.S.Source.left l.input);
      within : length taken ≤ l.limit;
      room : length taken + l.room ≡ l.limit;
      lines : l.lines ≡ line_along [] taken;
      ends : Ends (read taken) l.session false;
      puts : PutsOut (g.K.Sink.taken l.fn.out) (g.K.Sink.taken l.out) (read taken).pieces done;
      goes_on : l.session.ended ≡ None;
      in_faults : g.S.Source.faults l.input ≡ g.S.Source.faults l.fn.input;
      out_faults : g.K.Sink.faults l.out ≡ g.K.Sink.faults l.fn.out;
    }

abbrev pub decreases-loop-session : goal.decreases-loop-session
decreases-loop-session g l = l.room
