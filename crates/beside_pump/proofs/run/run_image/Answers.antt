use Rattle.beside_pump.proofs.ShownLemmas.{untold}
use Rattle.beside_pump.proofs.run.run_image.Goals as goal

pub returns-in-Err : goal.returns-in-Err
returns-in-Err g c = untold _ _ _
