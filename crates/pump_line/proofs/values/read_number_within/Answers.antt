use Rattle.std.proofs.Common.{◌∙◌, ◌≤◌, sym, ap, rules, arith}
use Rattle.pump_line.proofs.ValueLemmas.{read_within, some_within, within}
use Rattle.pump_line.proofs.values.read_number_within.Goals as goal

pub returns-in_err-number-clause-value : goal.returns-in_err-number-clause-value
returns-in_err-number-clause-value c =
    let read = read_within c.args.least c.args.most _ c.args.text.now c.read_number.result c.read_number.ensures c.as_bytes.ensures.value in
    search (rules, read)

pub returns-clause-value : goal.returns-clause-value
returns-clause-value c =
    let read = read_within c.args.least c.args.most _ c.args.text.now c.read_number.result c.read_number.ensures c.as_bytes.ensures.value in
    let low : c.args.least ≤ c.in_ok-number.number = omega arith in
    let high : c.in_ok-number.number ≤ c.args.most = omega arith in
    sym (some_within c.args.least c.args.most c.in_ok-number.number low high)
    ∙ ap (within c.args.least c.args.most) (sym c.in_ok-number.was) ∙ read
