use Rattle.std.proofs.Common.{◌≡◌, rules}
use Rattle.tag_text.specs.Texts.{line}
use Rattle.pump_cli.specs.Texts.{refusal_text}
use Rattle.pump_cli.proofs.EndLemmas.{refusal_cut, refusal_told}
use Rattle.pump_cli.proofs.refusal.refuse.Goals as goal

pub returns-in-Ok : goal.returns-in-Ok
returns-in-Ok g c =
    let text : c.deref.result.now ≡ line (refusal_text c.args.refusal) = search rules in
    refusal_told c.args.refusal c.deref.result.now text (g.L.Sink.taken c.args.err.now) (g.L.Sink.taken c.put.new.self) (g.L.Sink.faults c.args.err.now) (g.L.Sink.faults c.put.new.self) c.status.result c.status.ensures c.in-Ok.ensures.ok c.in-Ok.ensures.cause

pub returns-in-Err : goal.returns-in-Err
returns-in-Err g c =
    let text : c.deref.result.now ≡ line (refusal_text c.args.refusal) = search rules in
    refusal_cut c.args.refusal c.deref.result.now text (g.L.Sink.taken c.args.err.now) (g.L.Sink.taken c.put.new.self) (g.L.Sink.faults c.args.err.now) (g.L.Sink.faults c.put.new.self) c.in-Err.end c.from.result c.from.ensures c.in-Err.ensures.failed c.in-Err.ensures.memory c.in-Err.ensures.cause
