use Rattle.rv_decode.proofs.TableLemmas.{decoded_is_row}
use Rattle.rv_decode.proofs.encoding.encode.Goals as goal

pub returns-clause-decoded : goal.returns-clause-decoded
returns-clause-decoded c = λ word fits.
    let table = c.table_word.ensures word in
    let row = decoded_is_row word fits c.args.instr.now in
    (λ e. row.1 (table.0 e), λ d. table.1 (row.0 d))
