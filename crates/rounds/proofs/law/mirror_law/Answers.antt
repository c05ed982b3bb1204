use Rattle.rounds.proofs.MirrorLemmas.{rounds_same}
use Rattle.rounds.proofs.law.mirror_law.Goals as goal

pub returns : goal.returns
returns g c f e d limit from feed mirrored = rounds_same g.P.Tag.PartialEq.eq g.Q.Tag.PartialEq.eq f _ _ limit from e d feed mirrored
