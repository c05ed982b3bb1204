use Rattle.std.proofs.Common.{ap, arith}
use Rattle.image_format.specs.Picture.{Picture}
use Rattle.image_format.proofs.FileLemmas.{ram_small}
use Rattle.image_format.proofs.ImageLemmas.{words_lie}
use Rattle.image_format.proofs.writing.put_segment.Goals as goal

pub overflow_cast-words : goal.overflow_cast-words
overflow_cast-words c =
    let lies = words_lie _ _ c.args.i _ c.image.view_is c.image.invariant c.requires c.words-words.ensures in
    omega (arith, lies.inside, ram_small c.image.inside.ram c.image.invariant.ram, ap (λ (p : Picture). p.ram) c.image.view_is)
