-- What a torn put took are first bytes of its piece.
use Rattle.std.proofs.Common.{rules}
use Rattle.host_io.proofs.PrefixLemmas.{takes_first}
use Rattle.host_io.proofs.memory.mem_sink.MemSinkSink.put.Goals as goal

pub returns-clause-prefix : goal.returns-clause-prefix
returns-clause-prefix c failed = takes_first _ _ _ c.min.result (search rules)
