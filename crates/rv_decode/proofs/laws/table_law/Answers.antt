use Rattle.rv_decode.proofs.TableLemmas.{decoded_is_row}
use Rattle.rv_decode.proofs.laws.table_law.Goals as goal

pub returns : goal.returns
returns c = decoded_is_row
