use Rattle.std.proofs.Common.{refl}
use Rattle.pump_web.proofs.exchange.text_of.Goals as goal

pub returns-in-Ok : goal.returns-in-Ok
returns-in-Ok c = record { same = λ is. c.in-Ok.ensures.cases.0; empty = λ not. absurd (not c.in-Ok.ensures.cases.1) }

pub returns-in-Err : goal.returns-in-Err
returns-in-Err c = record { same = λ is. absurd (c.in-Err.ensures.cases.0 is); empty = λ not. refl }
