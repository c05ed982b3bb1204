use Rattle.std.proofs.Common.{arith}
use Rattle.pump_web.proofs.HeldLemmas.{bytes_told}
use Rattle.pump_web.proofs.running.told_law.Goals as goal

pub returns : goal.returns
returns c = bytes_told c.args.bytes.now (λ i. omega (arith, c.type_inv.bytes i))
