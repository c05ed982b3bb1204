use Rattle.std.proofs.Common.{List, codes, subst, sym, ◌∙◌}
use Rattle.host_io.specs.Pieces.{Piece, Puts}
use Rattle.host_io.proofs.PieceLemmas.{put_on_err}
use Rattle.tag_text.specs.Texts.{line}
use Rattle.pump_cli.proofs.EndLemmas.{last_is_out, last_is_spent}
use Rattle.pump_cli.proofs.ending.tell_last.Goals as goal

pub returns-then-is_out-clause-told : goal.returns-then-is_out-clause-told
returns-then-is_out-clause-told g c = λ out.
    subst (λ (pieces : List Piece). Puts (record { out = out; err = g.L.Sink.taken c.args.err.now }) (record { out = out; err = g.L.Sink.taken c.put.new.self }) pieces c.put.result)
    (sym (last_is_out c.args.halt c.args.stops.now (sym c.is_out.ensures ∙ c.if-is_out.true)))
    (put_on_err (g.L.Sink.taken c.args.err.now) (g.L.Sink.taken c.put.new.self) out (line (codes "tags out")) c.put.result c.put.ensures.ok c.put.ensures.failed c.put.ensures.memory)

pub returns-then-is_spent-clause-told : goal.returns-then-is_spent-clause-told
returns-then-is_spent-clause-told g c = λ out.
    let end = c.put-then-is_spent in
    subst (λ (pieces : List Piece). Puts (record { out = out; err = g.L.Sink.taken c.args.err.now }) (record { out = out; err = g.L.Sink.taken end.new.self }) pieces end.result)
    (sym (last_is_spent c.args.halt c.args.stops.now (sym c.is_out.ensures ∙ c.if-is_out.false) (sym c.has_any-is_spent.ensures ∙ c.if-is_spent.true)))
    (put_on_err (g.L.Sink.taken c.args.err.now) (g.L.Sink.taken end.new.self) out (line (codes "turns spent")) end.result end.ensures.ok end.ensures.failed end.ensures.memory)
