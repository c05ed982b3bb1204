use Rattle.asm_emit.proofs.ImageLemmas.{are_images}
use Rattle.asm_emit.proofs.laws.image_law.Goals as goal

pub returns : goal.returns
returns c = are_images
