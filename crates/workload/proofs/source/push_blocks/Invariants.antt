use Rattle.std.proofs.Common.{◌≡◌, ◌-◌, ◌++◌}
use Rattle.workload.specs.Source.{lines_of_blocks, text_of}
use Rattle.workload.proofs.source.push_blocks.Given as goal

-- the blocks so far were appended
abbrev pub invariant-loop-index : goal.invariant-loop-index
invariant-loop-index l =
    l.source.items ++ text_of (lines_of_blocks (l.count - l.index) l.index l.number)
    ≡ l.fn.source.items ++ text_of (lines_of_blocks l.count 0 l.count)
