use Rattle.std.proofs.Common.{arith}
use Rattle.image_format.specs.WideLaws.{read_again}
use Rattle.image_format.proofs.masks.Mask.of_bits.Goals as goal

pub returns : goal.returns
returns c = rw c.to_le_bytes.ensures (read_again c.args.bits (omega arith))
