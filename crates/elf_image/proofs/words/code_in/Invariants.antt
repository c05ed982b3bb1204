use Rattle.std.proofs.Common.{◌≡◌, []}
use Rattle.std.specs.List.{fold, range_with_len}
use Rattle.elf_image.specs.Cells.{with_code_cells}
use Rattle.elf_image.proofs.words.code_in.Given as goal

-- the ranges so far are those of the words so far
abbrev pub invariant-loop-n : goal.invariant-loop-n
invariant-loop-n l = l.code.items ≡ fold (with_code_cells l.cells) [] (range_with_len 0 l.n)
