use Rattle.std.proofs.Common.{◌≡◌, IfOk, subst}
use Rattle.tag_loader.specs.Start.{start_standing}
use Rattle.pump_loader.proofs.plain_load.start_chosen.Goals as goal

pub returns : goal.returns
returns g c =
    subst (λ (policy : g.row.W.Denot). IfOk c.start_under.result (λ engine. engine ≡ start_standing g.W.Policy.model policy c.args.image.now))
    c.in_ok-policy.ensures.value c.start_under.ensures
