use Rattle.beside_pump.proofs.ShownLemmas.{untold}
use Rattle.beside_pump.proofs.run.run_file.Goals as goal

pub returns-in-Err : goal.returns-in-Err
returns-in-Err g c bytes fed picture held read left = untold _ _ _

pub returns-in-Err-read_image : goal.returns-in-Err-read_image
returns-in-Err-read_image g c bytes fed picture held read left = untold _ _ _

pub returns-in-Err-choose : goal.returns-in-Err-choose
returns-in-Err-choose g c bytes fed picture held read left = untold _ _ _

pub returns-in-Err-read_to_end : goal.returns-in-Err-read_to_end
returns-in-Err-read_to_end g c bytes fed picture held read left = untold _ _ _
