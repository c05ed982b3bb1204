use Rattle.std.proofs.Common.{Some, ◌≡◌, ◌∙◌, sym}
use Rattle.host_io.proofs.PieceLemmas.{put_on_err, put_on_out, whole_on_err, whole_on_out}
use Rattle.rounds.proofs.telling.tell.Goals as goal

pub returns-in-Ran-Some-clause-puts : goal.returns-in-Ran-Some-clause-puts
returns-in-Ran-Some-clause-puts g c =
    let some : c.in-Ran-Some.field-0 ≡ Some c.in-Ran-Some.byte = rw c.in-Ran-Some.is at c.in-Ran-Some.field-0-is in
    rw (c.in-Ran-Some.is, some)
    (put_on_out (g.K.Sink.taken c.args.out.now) (g.K.Sink.taken c.put_byte.new.sink) (g.L.Sink.taken c.args.err.now) _ c.put_byte.result
    c.put_byte.ensures.ok c.put_byte.ensures.failed c.put_byte.ensures.memory)

pub returns-in-Ran-Some-clause-whole : goal.returns-in-Ran-Some-clause-whole
returns-in-Ran-Some-clause-whole g c =
    let some : c.in-Ran-Some.field-0 ≡ Some c.in-Ran-Some.byte = rw c.in-Ran-Some.is at c.in-Ran-Some.field-0-is in
    rw (c.in-Ran-Some.is, some)
    (whole_on_out (g.K.Sink.taken c.args.out.now) (g.K.Sink.taken c.put_byte.new.sink) (g.L.Sink.taken c.args.err.now) _ c.put_byte.result
    c.put_byte.ensures.ok c.put_byte.ensures.memory)

pub returns-in-Some-clause-puts : goal.returns-in-Some-clause-puts
returns-in-Some-clause-puts g c =
    let told : Some c.in-Stopped.field-0 ≡ Some c.in-Some.why = sym (c.requires.stop c.in-Stopped.field-0 c.in-Stopped.is) ∙ sym c.stop.ensures ∙ c.in-Some.is in
    let same : c.in-Stopped.field-0 ≡ c.in-Some.why = cc told in
    rw (c.in-Stopped.is, same)
    (put_on_err (g.L.Sink.taken c.args.err.now) (g.L.Sink.taken c.put_stop.new.sink) (g.K.Sink.taken c.args.out.now) _ c.put_stop.result
    c.put_stop.ensures.ok c.put_stop.ensures.failed c.put_stop.ensures.memory)

pub returns-in-Some-clause-whole : goal.returns-in-Some-clause-whole
returns-in-Some-clause-whole g c =
    let told : Some c.in-Stopped.field-0 ≡ Some c.in-Some.why = sym (c.requires.stop c.in-Stopped.field-0 c.in-Stopped.is) ∙ sym c.stop.ensures ∙ c.in-Some.is in
    let same : c.in-Stopped.field-0 ≡ c.in-Some.why = cc told in
    rw (c.in-Stopped.is, same)
    (whole_on_err (g.L.Sink.taken c.args.err.now) (g.L.Sink.taken c.put_stop.new.sink) (g.K.Sink.taken c.args.out.now) _ c.put_stop.result
    c.put_stop.ensures.ok c.put_stop.ensures.memory)
