use Rattle.std.proofs.Common.{rules, ◌≡◌, false, sym}
use Rattle.engine_trait.specs.Machine.{hart_at}
use Rattle.pump_engine.specs.Pump.{machine_by_words}
use Rattle.turn_steps.proofs.PeekLemmas.{peeked_free}
use Rattle.pump_engine.proofs.pump.Pump.peeked.Goals as goal

-- a policy that refuses no look allows each
pub returns-then-not-peeks : goal.returns-then-not-peeks
returns-then-not-peeks g c =
    let machine = machine_by_words g.P.Policy.model c.args.self.now in
    let off : g.P.Policy.model.peeks c.args.self.now.policy ≡ false = search rules in
    sym (peeked_free (g.P.Policy.model.peek machine.policy) (hart_at machine.core c.args.h)
    (λ shape x y. g.met.P.Policy.lawful.unpeeked machine.policy shape x y off) machine.core.ram)
