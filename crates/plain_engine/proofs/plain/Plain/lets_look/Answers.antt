use Rattle.std.proofs.Common.{rules, ◌≡◌, ◌∙◌, false, is_ok, not, ap, subst, sym}
use Rattle.turn_steps.specs.Peeks.{looks_allowed, looks_of}
use Rattle.turn_steps.proofs.PeekLemmas.{peeked_free}
use Rattle.turn_steps.proofs.SeenLemmas.{looked_is_peeked}
use Rattle.engine_trait.specs.Machine.{IsMachine, hart_at}
use Rattle.engine_trait.specs.Standing.{Standing}
use Rattle.engine_trait.proofs.MachineLemmas.{hart_is}
use Rattle.plain_engine.proofs.plain.Plain.lets_look.Goals as goal

-- a policy that refuses no look allows each
pub returns-then-not-peeks : goal.returns-then-not-peeks
returns-then-not-peeks g c =
    let machine = c.args.self.now.machine in
    let off : g.P.Policy.model.peeks machine.policy ≡ false = search rules in
    ap not c.if-not-peeks.true
    ∙ sym (ap is_ok (peeked_free (g.P.Policy.model.peek machine.policy) (hart_at machine.core c.args.h)
    (λ shape x y. g.met.P.Policy.lawful.unpeeked machine.policy shape x y off) machine.core.ram))

-- and any other is asked of the looks
pub returns-else-not-peeks : goal.returns-else-not-peeks
returns-else-not-peeks g c =
    let m = g.P.Policy.model in
    let machine = c.args.self.now.machine in
    let hart = hart_at machine.core c.args.h in
    let look = c.args.look.now in
    let looks_are = subst (λ (e : Standing g.row.P.Denot g.row.P-Tag.Denot). c.looks.result ≡ looks_of (hart_at e.machine.core c.args.h) e.machine.core.ram look)
    c.self.view_is c.looks.ensures in
    let sound = subst (λ (e : Standing g.row.P.Denot g.row.P-Tag.Denot). IsMachine m e.machine) c.self.view_is c.self.invariant.machine in
    let plain_is = (hart_is m machine sound c.args.h c.requires.hart).plain in
    c.allows.ensures
    ∙ ap (λ looks. is_ok (looks_allowed (m.peek machine.policy) (m.plain machine.policy) looks)) looks_are
    ∙ ap (λ plain. is_ok (looks_allowed (m.peek machine.policy) plain (looks_of hart machine.core.ram look))) (sym plain_is)
    ∙ ap is_ok (sym (looked_is_peeked (m.peek machine.policy) hart machine.core.ram look c.requires.looked))
