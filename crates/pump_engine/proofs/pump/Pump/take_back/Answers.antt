use Rattle.std.proofs.Common.{◌≡◌, ◌∙◌, Some, ap, subst, sym}
use Rattle.std.specs.Option.{ForSome}
use Rattle.undo_log.specs.Past.{newest}
use Rattle.engine_trait.specs.History.{policy_undone}
use Rattle.open_words.specs.Open.{AreOpen}
use Rattle.open_words.proofs.OpenLemmas.{open_before}
use Rattle.pump_engine.specs.Back.{CanTakeBack}
use Rattle.pump_engine.specs.Pump.{IsPump, PumpState, pump_of}
use Rattle.pump_engine.proofs.BackLemmas.{pump_back, same}
use Rattle.pump_engine.proofs.pump.Pump.take_back.Goals as goal

pub undo-requires : goal.undo-requires
undo-requires g c =
    let can = subst (λ (q : PumpState g.row.P.Denot g.row.P-Tag.Denot). ForSome (newest q.past) (CanTakeBack g.P.Policy.model q g.P.Policy.holds)) (sym c.self.view_is) c.requires.can in
    (can c.in-Some.made (sym c.pop.ensures.newest ∙ c.in-Some.is)).fit

pub uncommit_if-requires : goal.uncommit_if-requires
uncommit_if-requires g c =
    let can = subst (λ (q : PumpState g.row.P.Denot g.row.P-Tag.Denot). ForSome (newest q.past) (CanTakeBack g.P.Policy.model q g.P.Policy.holds)) (sym c.self.view_is) c.requires.can in
    (can c.in-Some.made (sym c.pop.ensures.newest ∙ c.in-Some.is)).committed

pub invariant_of-self-2 : goal.invariant_of-self-2
invariant_of-self-2 g c =
    let m = g.P.Policy.model in
    let p : PumpState g.row.P.Denot g.row.P-Tag.Denot =
    pump_of c.self.inside.policy c.self.inside.core (g.T.TagTable.state c.self.inside.tags) (g.C.RuleStore.state c.self.inside.store) c.self.inside.turns c.self.inside.sweeps c.self.inside.halt (g.H.WordLog.past c.self.inside.log) in
    let can = subst (λ (q : PumpState g.row.P.Denot g.row.P-Tag.Denot). ForSome (newest q.past) (CanTakeBack m q g.P.Policy.holds)) (sym c.self.view_is) c.requires.can in
    let last : newest p.past ≡ Some c.in-Some.made = sym c.pop.ensures.newest ∙ c.in-Some.is in
    let can_be = can c.in-Some.made last in
    record {
      pump = subst (IsPump m)
          (λ j. pump_of (sym c.uncommit_if.ensures j) (sym c.undo.ensures.core j) p.table p.store p.turns p.sweeps (sym c.awake-self-inside.ensures j) (sym c.pop.ensures.others j))
          (pump_back m g.P.Policy.holds g.met.P.Policy.lawful p c.in-Some.made last can_be c.self.invariant.pump);
      masks_are = λ group.
          c.self.invariant.masks_are group
          ∙ (same m g.P.Policy.holds g.met.P.Policy.lawful p c.in-Some.made last can_be).ignores group
          ∙ ap (λ s. m.ignores s group) (sym c.uncommit_if.ensures);
      open_are = subst (λ s. AreOpen m s p.table.tags c.self.inside.open_words) (sym c.uncommit_if.ensures)
          (open_before m (policy_undone m p.policy c.in-Some.made.plan) p.policy p.table.tags c.self.inside.open_words
          (same m g.P.Policy.holds g.met.P.Policy.lawful p c.in-Some.made last can_be) c.self.invariant.open_are);
    }
