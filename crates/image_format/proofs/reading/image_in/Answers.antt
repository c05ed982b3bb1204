use Rattle.std.proofs.Common.{arith, rules}
use Rattle.image_format.specs.Reading.{image_of, picture_at, lists_at}
use Rattle.image_format.proofs.FileLemmas.{file_is_of}
use Rattle.image_format.proofs.reading.image_in.Goals as goal

pub invariant_of-result : goal.invariant_of-result
unfolding image_of picture_at lists_at
invariant_of-result c = (file_is_of c.args.bytes.now _ (λ i. omega (arith, c.type_inv.bytes i)) (search rules)).is_image
