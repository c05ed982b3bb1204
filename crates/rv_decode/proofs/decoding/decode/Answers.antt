use Rattle.std.proofs.Common.{arith}
use Rattle.rv_decode.proofs.TableLemmas.{decoded_is_row}
use Rattle.rv_decode.proofs.decoding.decode.Goals as goal

pub returns-clause-exact : goal.returns-clause-exact
returns-clause-exact c = λ i. rw c.decode_fields.ensures (decoded_is_row c.args.word (omega arith) i)
