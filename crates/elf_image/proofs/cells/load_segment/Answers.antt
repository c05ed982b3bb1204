use Rattle.std.proofs.Common.{sym, ◌∙◌}
use Rattle.elf_image.proofs.LoadLemmas.{is_put, loads, met, refused}
use Rattle.elf_image.proofs.cells.load_segment.Goals as goal

pub returns-then-not-fits : goal.returns-then-not-fits
returns-then-not-fits c before are = refused _ _ _ _ before (sym c.fits.ensures ∙ c.if-not-fits.true)

pub returns-then-is_any_loaded : goal.returns-then-is_any_loaded
returns-then-is_any_loaded c before are =
    met _ c.args.row c.args.header before c.args.cells.now (sym c.fits.ensures ∙ c.if-not-fits.false) (sym c.is_any_loaded.ensures ∙ c.if-is_any_loaded.true) are

pub returns : goal.returns
returns c before are =
    let fit = sym c.fits.ensures ∙ c.if-not-fits.false in
    let is = is_put c.args.elf.now c.args.header c.args.cells.now c.put_bytes.new.cells c.contents-contents.result.now c.is_executable.result fit c.contents-contents.ensures c.is_executable.ensures c.put_bytes.auto.cells c.put_bytes.ensures in
    loads c.args.elf.now c.args.row c.args.header before c.args.cells.now c.put_bytes.new.cells fit (sym c.is_any_loaded.ensures ∙ c.if-is_any_loaded.false) is are
