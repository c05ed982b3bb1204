use Rattle.std.proofs.Common.{rules, ◌≡◌, ◌∙◌, ◌<◌, false, Ok, ap, length, subst, sym}
use Rattle.turn_steps.specs.Looks.{look_result}
use Rattle.turn_steps.proofs.PeekLemmas.{peeked_free}
use Rattle.engine_trait.specs.Machine.{hart_at}
use Rattle.engine_trait.specs.Turn.{may_look}
use Rattle.open_words.specs.Open.{opens}
use Rattle.pump_engine.specs.Pump.{PumpState, machine_by_words, pump_of}
use Rattle.pump_engine.proofs.OpenLemmas.{open_seen}
use Rattle.pump_engine.proofs.pump.Pump.is_open.Goals as goal

-- a policy that refuses no look allows each
pub returns-then-not-peeks-clause-seen : goal.returns-then-not-peeks-clause-seen
returns-then-not-peeks-clause-seen g c told =
    let machine = machine_by_words g.P.Policy.model c.args.self.now in
    let off : g.P.Policy.model.peeks c.args.self.now.policy ≡ false = search rules in
    peeked_free (g.P.Policy.model.peek machine.policy) (hart_at machine.core c.args.h)
    (λ shape x y. g.met.P.Policy.lawful.unpeeked machine.policy shape x y off) machine.core.ram

-- and any other allows those at open words
pub returns-else-not-peeks-clause-seen : goal.returns-else-not-peeks-clause-seen
returns-else-not-peeks-clause-seen g c told =
    let m = g.P.Policy.model in
    let p : PumpState g.row.P.Denot g.row.P-Tag.Denot =
    pump_of c.self.inside.policy c.self.inside.core (g.T.TagTable.state c.self.inside.tags) (g.C.RuleStore.state c.self.inside.store) c.self.inside.turns c.self.inside.sweeps c.self.inside.halt (g.H.WordLog.past c.self.inside.log) in
    let look = c.args.look.now in
    let there = subst (λ (q : PumpState g.row.P.Denot g.row.P-Tag.Denot). c.args.h < length q.core.harts) (sym c.self.view_is) c.requires.hart in
    let looked = subst (λ (q : PumpState g.row.P.Denot g.row.P-Tag.Denot). look_result (hart_at q.core c.args.h) q.core.ram ≡ Ok look) (sym c.self.view_is) c.requires.looked in
    let all_open = ap (opens c.self.inside.open_words) (sym c.looks.ensures) ∙ sym c.allow.ensures ∙ told in
    subst (λ (q : PumpState g.row.P.Denot g.row.P-Tag.Denot). may_look m (machine_by_words m q) c.args.h ≡ Ok tt) c.self.view_is
    (open_seen m g.P.Policy.holds g.met.P.Policy.lawful p c.self.invariant.pump c.args.h there c.self.inside.open_words c.self.invariant.open_are look looked all_open)
