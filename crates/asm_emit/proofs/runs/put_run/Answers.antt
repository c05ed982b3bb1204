use Rattle.std.proofs.Common.{◌<◌, sym, ◌∙◌, arith}
use Rattle.std.proofs.lemmas.Bool.Decides.{nat_tests}
use Rattle.asm_emit.proofs.RunLemmas.{is_begun, is_joined}
use Rattle.asm_emit.proofs.runs.put_run.Goals as goal

pub returns-in-Some : goal.returns-in-Some
returns-in-Some g c =
    let some : 0 < c.len-count.result = grind (arith, nat_tests) in
    is_joined g.R.Run.joins c.args.runs.now.items c.len-count.result c.index.result.now c.in-Some.run' c.args.next (c.len-count.ensures ∙ c.args.runs.now.ok.0) some c.index.ensures (sym c.joined.ensures ∙ c.in-Some.is)

pub returns-in_ok-push-in-None : goal.returns-in_ok-push-in-None
returns-in_ok-push-in-None g c =
    let some : 0 < c.len-count.result = grind (arith, nat_tests) in
    rw c.in_ok-push-in-None.ensures.items
    (is_begun g.R.Run.joins c.args.runs.now.items c.len-count.result c.index.result.now c.args.next (c.len-count.ensures ∙ c.args.runs.now.ok.0) some c.index.ensures (sym c.joined.ensures ∙ c.in-None.is))
