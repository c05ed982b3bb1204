use Rattle.std.proofs.Common.{◌<◌, ◌≤◌, length, arith}
use Rattle.std.proofs.lemmas.Result.{err_from_is_err_and}
use Rattle.elf_image.specs.Headers.{header_count}
use Rattle.elf_image.proofs.RowLemmas.{all_loaded, goes_on, none_yet, refuses}
use Rattle.elf_image.proofs.cells.load_rows.Goals as goal

pub loop-row-init : goal.loop-row-init
loop-row-init c = none_yet c.args.elf.now (length c.args.cells.now) (header_count c.args.elf.now) c.args.cells.now c.requires.free

pub returns-in_err-load_row : goal.returns-in_err-load_row
returns-in_err-load_row c =
    let p = err_from_is_err_and c.from_residual.result c.from_residual.ensures.1 in
    let loaded = c.loop-row.invariant in
    let lt : c.loop-row.row < header_count c.args.elf.now = omega (arith, c.loop-row-test.true, c.header_count-row-end.ensures) in
    rw (p.1, p.2)
    (refuses c.args.elf.now (length c.args.cells.now) (header_count c.args.elf.now) c.loop-row.row c.loop-row.cells c.in_err-load_row.field-0.0 lt c.loop-row.auto.cells loaded (c.in_err-load_row.ensures loaded.before loaded.cells_are))

pub loop-row-preserved : goal.loop-row-preserved
loop-row-preserved c =
    let loaded = c.loop-row.invariant in
    let lt : c.loop-row.row < header_count c.args.elf.now = omega (arith, c.loop-row-test.true, c.header_count-row-end.ensures) in
    goes_on c.args.elf.now (length c.args.cells.now) (header_count c.args.elf.now) c.loop-row.row c.loop-row.cells c.load_row.new.cells tt lt c.loop-row.auto.cells loaded (c.in_ok-load_row.ensures loaded.before loaded.cells_are)

pub returns : goal.returns
returns c =
    let le : header_count c.args.elf.now ≤ c.loop-row.row = omega (arith, c.loop-row-test.false, c.header_count-row-end.ensures) in
    all_loaded c.args.elf.now (length c.args.cells.now) (header_count c.args.elf.now) c.loop-row.row c.loop-row.cells tt le c.loop-row.invariant
