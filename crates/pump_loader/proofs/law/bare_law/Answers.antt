use Rattle.pump_loader.proofs.BareLemmas.{bare_start_mirrors}
use Rattle.pump_loader.proofs.law.bare_law.Goals as goal

pub returns : goal.returns
returns g = bare_start_mirrors
