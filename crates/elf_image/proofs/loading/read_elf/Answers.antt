use Rattle.std.proofs.Common.{◌≡◌, Ok, sym, ap, subst, ◌∙◌, arith}
use Rattle.std.proofs.lemmas.Result.{err_from_is_err_and}
use Rattle.image_format.specs.Conditions.{IsImage}
use Rattle.image_format.specs.Made.{picture_from}
use Rattle.image_format.specs.Picture.{Picture}
use Rattle.elf_image.specs.Loaded.{image_of_elf}
use Rattle.elf_image.proofs.ImageLemmas.{image_fails, image_taken, is_image, is_made}
use Rattle.elf_image.proofs.loading.read_elf.Goals as goal

pub returns-in_err-loaded : goal.returns-in_err-loaded
returns-in_err-loaded c =
    let p = err_from_is_err_and c.from_residual.result c.from_residual.ensures.1 in
    rw (p.1, p.2) (image_fails c.args.elf.now c.ram.result c.args.tags c.in_err-loaded.field-0.0 c.ram.ensures.value c.in_err-loaded.ensures)

pub new-requires : goal.new-requires
new-requires c =
    let elf = c.args.elf.now in
    let parts = c.into_parts-parts.result in
    let g = picture_from parts in
    let loaded = c.in_ok-loaded.ensures in
    let size : c.ram.result ≡ parts.ram = c.ram.ensures.value ∙ sym (ap (λ (p : Picture). p.ram) c.into_parts-parts.ensures.value) in
    let made = is_made elf c.ram.result g loaded.0 c.in_ok-loaded.loaded size loaded.2 in
    let read = rw size at loaded.1 in
    subst IsImage (sym made) (is_image elf g loaded.0 (λ i. omega (arith, c.type_inv.elf i)) read c.into_parts-parts.ensures.fits)

pub returns : goal.returns
returns c =
    let elf = c.args.elf.now in
    let parts = c.into_parts-parts.result in
    let g = picture_from parts in
    let loaded = c.in_ok-loaded.ensures in
    let is = c.into_parts-parts.ensures.value in
    let size : c.ram.result ≡ parts.ram = c.ram.ensures.value ∙ sym (ap (λ (p : Picture). p.ram) is) in
    let made = is_made elf c.ram.result g loaded.0 c.in_ok-loaded.loaded size loaded.2 in
    ap (image_of_elf elf) (sym is) ∙ image_taken elf c.ram.result g loaded.0 size loaded.1 ∙ ap (λ (p : Picture). Ok p) (sym (c.new.ensures ∙ made))
