use Rattle.std.proofs.Common.{◌≡◌, rules}
use Rattle.pump_cli.specs.Codes.{code_of}
use Rattle.pump_cli.specs.Texts.{workload_line}
use Rattle.pump_cli.proofs.WorkloadLemmas.{line_cut, line_told}
use Rattle.pump_cli.proofs.load.tell_workload.Goals as goal

pub returns-in-Ok-clause-does : goal.returns-in-Ok-clause-does
returns-in-Ok-clause-does g c = λ err.
    let text : c.deref.result.now ≡ workload_line c.args.count c.args.counts (code_of c.args.status) = search rules in
    line_told c.args.count c.args.counts c.args.status c.deref.result.now text (g.K.Sink.taken c.args.out.now) (g.K.Sink.taken c.put.new.self)
    c.in-Ok.ensures.ok err

pub returns-in-Err-clause-does : goal.returns-in-Err-clause-does
returns-in-Err-clause-does g c = λ err.
    let text : c.deref.result.now ≡ workload_line c.args.count c.args.counts (code_of c.args.status) = search rules in
    line_cut c.args.count c.args.counts c.args.status c.deref.result.now text (g.K.Sink.taken c.args.out.now) (g.K.Sink.taken c.put.new.self)
    c.in-Err.end c.from.result c.in-Err.ensures.failed c.in-Err.ensures.memory err
