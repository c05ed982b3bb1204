use Rattle.std.proofs.Common.{sym, subst}
use Rattle.policy_start.specs.Services.{IsFromFirst}
use Rattle.pump_loader.proofs.ApartLemmas.{stands_apart}
use Rattle.pump_loader.proofs.whole.BothAllWhole.choose.Goals as goal

pub new-requires : goal.new-requires
new-requires g c =
    stands_apart g.P.Policy.model c.in_ok-all.all c.in_ok-other.other
    (subst (λ other. IsFromFirst g.P.Policy.model other) (sym c.in_ok-other.ensures.value) (g.met.P.Begins.apart c.args.secret.now c.args.image.now))
