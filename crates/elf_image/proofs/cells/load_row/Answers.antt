use Rattle.std.proofs.Common.{length, sym, ◌∙◌}
use Rattle.elf_image.proofs.RowLemmas.{row_passed, row_loaded}
use Rattle.elf_image.proofs.cells.load_row.Goals as goal

pub returns-then-not-is_load : goal.returns-then-not-is_load
returns-then-not-is_load c before are =
    (before, row_passed c.args.elf.now _ c.args.row c.at-header.result before c.at-header.ensures (sym c.is_load.ensures ∙ c.if-not-is_load.true), are)

pub returns : goal.returns
returns c before are =
    let read = row_loaded c.args.elf.now (length c.args.cells.now) c.args.row c.at-header.result before c.at-header.ensures (sym c.is_load.ensures ∙ c.if-not-is_load.false) in
    rw read at (c.load_segment.ensures before are)
