use Rattle.std.proofs.Common.{◌≡◌, length, refl, subst}
use Rattle.pump_engine.specs.Pump.{PumpState, account_by_words}
use Rattle.pump_engine.proofs.pump.engine.PumpNoLogTagEngine.remembered.Goals as goal

-- no record is kept
pub returns : goal.returns
returns g c =
    subst (λ (q : PumpState g.row.P.Denot g.row.P-Tag.Denot). 0 ≡ length (account_by_words g.P.Policy.model q).past.kept) c.self.view_is refl
