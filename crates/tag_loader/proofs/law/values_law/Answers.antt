use Rattle.tag_loader.proofs.MemoryLemmas.{start_words}
use Rattle.tag_loader.proofs.law.values_law.Goals as goal

pub returns : goal.returns
returns g c policy picture is = start_words g.P.Policy.model policy picture is
