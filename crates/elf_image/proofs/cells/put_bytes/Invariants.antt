use Rattle.std.proofs.Common.{◌≡◌, ℕ, ◌<◌, true, get_or}
use Rattle.elf_image.specs.Cells.{free}
use Rattle.elf_image.proofs.cells.put_bytes.Given as goal

-- the cells so far have their bytes
abbrev pub invariant-loop-i : goal.invariant-loop-i
invariant-loop-i l =
    (k : ℕ) → k < l.i → get_or l.cells k free ≡ record { byte = get_or l.bytes k 0; is_loaded = true; is_code = l.is_code }
