use Rattle.std.proofs.Common.{◌≡◌, length, drop, sym, ap, ◌∙◌, arith}
use Rattle.std.proofs.lemmas.List.{take_at}
use Rattle.std.proofs.lemmas.Result.{err_from_is_err_and}
use Rattle.elf_image.specs.Cells.{code_in, segments_in}
use Rattle.elf_image.specs.Loaded.{loaded_code, loaded_segments}
use Rattle.elf_image.proofs.HeaderLemmas.{all_taken, entry_refused, header_refused, rows_refused}
use Rattle.elf_image.proofs.WordLemmas.{code_are, segments_are}
use Rattle.elf_image.proofs.loading.load.Goals as goal

pub returns-in_err-check_header : goal.returns-in_err-check_header
returns-in_err-check_header c =
    let p = err_from_is_err_and c.from_residual.result c.from_residual.ensures.1 in
    rw (p.1, p.2) (header_refused c.args.elf.now c.args.ram c.in_err-check_header.field-0.0 (sym c.check_header.ensures.value ∙ c.in_err-check_header.was))

pub returns-in_err-load_rows : goal.returns-in_err-load_rows
returns-in_err-load_rows c =
    let p = err_from_is_err_and c.from_residual-in_err-load_rows.result c.from_residual-in_err-load_rows.ensures.1 in
    let size : length c.deref_mut.result.now ≡ c.args.ram = omega (arith, c.deref_mut.ensures.len, c.in_ok-cells.ensures.len) in
    rw (p.1, p.2) (rows_refused c.args.elf.now c.args.ram tt c.in_err-load_rows.field-0.0 (sym c.check_header.ensures.value ∙ c.in_ok-check_header.was) (rw size at c.in_err-load_rows.ensures))

pub returns-then-not-is_place : goal.returns-then-not-is_place
returns-then-not-is_place c =
    let size : length c.deref_mut.result.now ≡ c.args.ram = omega (arith, c.deref_mut.ensures.len, c.in_ok-cells.ensures.len) in
    let loaded = c.in_ok-load_rows.ensures in
    let read = rw size at loaded.1 in
    entry_refused c.args.elf.now c.args.ram tt loaded.0 (sym c.check_header.ensures.value ∙ c.in_ok-check_header.was) read (rw c.entry-entry.ensures at (sym c.is_place.ensures ∙ c.if-not-is_place.true))

pub returns : goal.returns
returns c =
    let size : length c.deref_mut.result.now ≡ c.args.ram = omega (arith, c.deref_mut.ensures.len, c.in_ok-cells.ensures.len) in
    let loaded = c.in_ok-load_rows.ensures in
    let read = rw size at loaded.1 in
    let now = c.load_rows.new.cells in
    let was = c.in_ok-cells.cells in
    let count : length c.load_rows.new.cells ≡ c.in_ok-cells.cells.len = omega (arith, c.load_rows.auto.cells, size, c.in_ok-cells.ensures.len) in
    let whole = take_at now (drop (length now) was.items) was.len count in
    let all = c.load_rows.auto.cells ∙ size in
    let header = sym c.check_header.ensures.value ∙ c.in_ok-check_header.was in
    let place = rw c.entry-entry.ensures at (sym c.is_place.ensures ∙ c.if-not-is_place.false) in (
      loaded.0,
      all_taken c.args.elf.now c.args.ram tt loaded.0 header read place,
      record {
        entry = c.entry-entry.ensures;
        words = c.in_ok-segments.ensures ∙ ap segments_in (c.deref.ensures.value ∙ whole) ∙ segments_are c.args.elf.now loaded.0 now loaded.2 ∙ ap (loaded_segments c.args.elf.now loaded.0) all;
        code = c.in_ok-code.ensures ∙ ap code_in (c.deref-2.ensures.value ∙ whole) ∙ code_are c.args.elf.now loaded.0 now loaded.2 ∙ ap (loaded_code c.args.elf.now loaded.0) all;
      },
    )
