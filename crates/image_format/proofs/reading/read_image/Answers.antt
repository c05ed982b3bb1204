use Rattle.std.proofs.Common.{subst, arith}
use Rattle.image_format.specs.Reading.{GivesImage}
use Rattle.image_format.proofs.FileLemmas.{file_again, is_found, not_refused}
use Rattle.image_format.proofs.reading.read_image.Goals as goal

pub returns-clause-found : goal.returns-clause-found
returns-clause-found c = is_found c.args.bytes.now c.image_in.result (λ i. omega (arith, c.type_inv.bytes i)) c.image_in.ensures

pub returns-clause-only : goal.returns-clause-only
returns-clause-only c = λ g file. subst (GivesImage c.image_in.result) (file_again c.args.bytes.now g file) c.image_in.ensures

pub returns-clause-refused : goal.returns-clause-refused
returns-clause-refused c = λ bad g file. not_refused c.image_in.result g (subst (GivesImage c.image_in.result) (file_again c.args.bytes.now g file) c.image_in.ensures) bad
