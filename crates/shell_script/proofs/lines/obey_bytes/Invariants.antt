use Rattle.std.proofs.Common.{◌≡◌, None, false, take}
use Rattle.shell_lang.specs.Stream.{answers_along, line_along}
use Rattle.shell_turns.specs.Cuts.{PutsOut}
use Rattle.shell_turns.proofs.PutLemmas.{done}
use Rattle.shell_script.specs.Scripts.{Ends, script}
use Rattle.shell_script.proofs.lines.obey_bytes.Given as goal

abbrev pub invariant-loop-byte : goal.invariant-loop-byte
invariant-loop-byte g l =
    let all = script g.L.E.P.Tag.PartialEq.eq g.L.E.P.Policy.model l.fn.session (answers_along l.fn.lines (take l.byte-index l.bytes)) in
    record {
      ends : Ends all l.session false;
      lines : l.lines ≡ line_along l.fn.lines (take l.byte-index l.bytes);
      puts : PutsOut (g.K.Sink.taken l.fn.out) (g.K.Sink.taken l.out) all.pieces done;
      faults : g.K.Sink.faults l.out ≡ g.K.Sink.faults l.fn.out;
      goes_on : l.session.ended ≡ None;
    }
