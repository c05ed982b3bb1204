-- The bytes that were saved are told.
use Rattle.std.proofs.Common.{rules, arith}
use Rattle.host_io.specs.Held.{bytes_held}
use Rattle.host_io.proofs.ToldLemmas.{saved_told}
use Rattle.host_io.proofs.memory.mem_files.MemFilesFiles.save.Goals as goal

pub returns-clause-told : goal.returns-clause-told
returns-clause-told c =
    saved_told c.map_err.result (bytes_held c.put.new.self c.args.name.now) c.args.bytes.now
    (λ i. omega (arith, c.type_inv.bytes i)) (search rules)
