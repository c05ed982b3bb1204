use Rattle.std.proofs.Common.{◌*◌, ◌<◌, ◌∙◌, ap, arith, min}
use Rattle.std.specs.Int.{div_ceil}
use Rattle.std.proofs.lemmas.Grind.{div_ceil_times}
use Rattle.image_format.specs.Picture.{Picture}
use Rattle.tag_loader.specs.Walks.{from_on, words_end}
use Rattle.tag_loader.proofs.births.BirthWalk.words_from.Goals as goal

pub returns-clause-told : goal.returns-clause-told
returns-clause-told c =
    let times = div_ceil_times c.min.result 4 (omega arith) in
    λ k least lt.
    let low : 4 * k < c.run_at-run.result.end = omega (arith, lt, times.1, c.min.ensures, c.div_ceil-end.ensures) in
    c.run_at-run.ensures.told (4 * k) (omega (arith, least)) low

pub returns-clause-end : goal.returns-clause-end
unfolding words_end
returns-clause-end c =
    let ram = c.from.ensures ∙ c.ram-ram.ensures.value ∙ ap (λ (g : Picture). g.ram) c.self.view_is in
    c.div_ceil-end.ensures ∙ ap (λ bytes. div_ceil bytes 4) (c.min.ensures ∙ (λ j. min (c.run_at-run.ensures.end j) (ram j)))

pub returns-clause-ram : goal.returns-clause-ram
unfolding from_on
returns-clause-ram c = ap (λ (g : Picture). g.ram) c.run_at-run.ensures.left
