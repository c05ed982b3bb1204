use Rattle.std.proofs.Common.{rules, ◌≡◌, false, sym}
use Rattle.engine_trait.specs.Machine.{hart_at}
use Rattle.turn_steps.proofs.PeekLemmas.{peeked_free}
use Rattle.plain_engine.proofs.plain.Plain.peeked.Goals as goal

-- a policy that refuses no look allows each
pub returns-then-not-peeks : goal.returns-then-not-peeks
returns-then-not-peeks g c =
    let machine = c.args.self.now.machine in
    let off : g.P.Policy.model.peeks machine.policy ≡ false = search rules in
    sym (peeked_free (g.P.Policy.model.peek machine.policy) (hart_at machine.core c.args.h)
    (λ shape x y. g.met.P.Policy.lawful.unpeeked machine.policy shape x y off) machine.core.ram)
