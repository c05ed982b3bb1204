-- The numbers that choose the kinds of a workload's blocks.
use Rattle.std.specs.Prelude.{ℕ, ◌+◌, ◌*◌, ◌/◌, ◌%◌, ◌^◌, ◌==◌, if◌then◌else◌}
use Rattle.workload.specs.declared.kinds.BlockKind.{BlockKind}
use Rattle.workload.specs.declared.kinds.BlockKind.TheVariants.{Sealing, Heap, Flow, Compartments}

-- the number that follows
abbrev pub number_after : ℕ → ℕ
number_after number = (number * 1103515245 + 12345) % 2 ^ 31

-- the kinds, numbered 0 to 3
abbrev pub kind_numbered : ℕ → BlockKind
kind_numbered n =
    if n == 0 then Sealing else
    if n == 1 then Heap else
    if n == 2 then Flow else
    Compartments

-- the kind that a number chooses
abbrev pub kind_of : ℕ → BlockKind
kind_of number = kind_numbered (number / 65536 % 4)
