use Rattle.std.proofs.Common.{◌≡◌, ◌++◌, ◌∙◌, ℕ, List, ap, if◌then◌else◌, is_ok, rules, slice_index, subst, sym}
use Rattle.std.proofs.lemmas.List.{append_assoc}
use Rattle.undo_log.specs.Past.{past_by, past_tags}
use Rattle.engine_trait.specs.Machine.{core_tags}
use Rattle.engine_trait.specs.Maps.{core_by}
use Rattle.tag_intern.specs.Sweep.{remade_table}
use Rattle.open_words.specs.Open.{AreOpen}
use Rattle.open_words.proofs.OpenLemmas.{none_open}
use Rattle.pump_engine.specs.Pump.{PumpState, pump_of}
use Rattle.pump_engine.specs.Steps.{IsSwept}
use Rattle.pump_engine.proofs.SweepLemmas.{pump_as, swept_as}
use Rattle.pump_engine.proofs.pump.Pump.sweep.Goals as goal

pub invariant_of-self : goal.invariant_of-self
invariant_of-self g c =
    let p : PumpState g.row.P.Denot g.row.P-Tag.Denot =
    pump_of c.self.inside.policy c.self.inside.core (g.T.TagTable.state c.self.inside.tags) (g.C.RuleStore.state c.self.inside.store) c.self.inside.turns c.self.inside.sweeps c.self.inside.halt (g.H.WordLog.past c.self.inside.log) in
    let extended = c.extend_from_slice.ensures.items
    ∙ ap (λ given. if is_ok given then c.in_ok-live.live.items ++ c.args.made.now else c.in_ok-live.live.items) c.in_ok-extend_from_slice.was
    ∙ ap (λ (tags : List ℕ). tags ++ c.args.made.now) c.in_ok-live.ensures in
    let live_is = c.deref.ensures.value ∙ c.in_ok-push_words.ensures ∙ ap (λ (tags : List ℕ). tags ++ past_tags p.past) extended
    ∙ append_assoc (core_tags p.core) c.args.made.now (past_tags p.past) in
    let made : g.T.TagTable.state c.in-Ok.table ≡ remade_table g.P.Tag.PartialEq.eq p.table (g.P.Policy.model.plain p.policy) (core_tags p.core ++ (c.args.made.now ++ past_tags p.past)) =
    c.in-Ok.ensures.made ∙ λ j. remade_table g.P.Tag.PartialEq.eq p.table (c.plain-plain.ensures.value j) (live_is j) in
    let numbers_are = c.deref-2.ensures.value in
    record {
      pump = pump_as g.P.Tag.PartialEq.eq g.met.P.Tag.Eq.laws g.met.P.Tag.Same.same g.P.Policy.model p c.self.invariant.pump c.args.made.now c.in_ok-numbers.numbers.items (g.T.TagTable.state c.in-Ok.table) made
          c.in_ok-numbers.ensures c.renumber.new.self (c.renumber.ensures ∙ ap (λ (list : List ℕ). core_by (slice_index list) p.core) numbers_are) (g.C.RuleStore.state c.clear.new.self) c.clear.ensures
          (g.H.WordLog.past c.renumber-2.new.self) (c.renumber-2.ensures ∙ ap (λ (list : List ℕ). past_by (slice_index list) p.past) c.deref-3.ensures.value)
          c.count_up.new.count c.len-words.ensures.sound.within;
      masks_are = c.self.invariant.masks_are;
      open_are = subst (AreOpen g.P.Policy.model c.self.inside.policy (g.T.TagTable.state c.in-Ok.table).tags) (sym c.forget.ensures) (none_open g.P.Policy.model c.self.inside.policy (g.T.TagTable.state c.in-Ok.table).tags);
    }

pub returns-clause-swept : goal.returns-clause-swept
returns-clause-swept g c =
    let p : PumpState g.row.P.Denot g.row.P-Tag.Denot =
    pump_of c.self.inside.policy c.self.inside.core (g.T.TagTable.state c.self.inside.tags) (g.C.RuleStore.state c.self.inside.store) c.self.inside.turns c.self.inside.sweeps c.self.inside.halt (g.H.WordLog.past c.self.inside.log) in
    let extended = c.extend_from_slice.ensures.items
    ∙ ap (λ given. if is_ok given then c.in_ok-live.live.items ++ c.args.made.now else c.in_ok-live.live.items) c.in_ok-extend_from_slice.was
    ∙ ap (λ (tags : List ℕ). tags ++ c.args.made.now) c.in_ok-live.ensures in
    let live_is = c.deref.ensures.value ∙ c.in_ok-push_words.ensures ∙ ap (λ (tags : List ℕ). tags ++ past_tags p.past) extended
    ∙ append_assoc (core_tags p.core) c.args.made.now (past_tags p.past) in
    let made : g.T.TagTable.state c.in-Ok.table ≡ remade_table g.P.Tag.PartialEq.eq p.table (g.P.Policy.model.plain p.policy) (core_tags p.core ++ (c.args.made.now ++ past_tags p.past)) =
    c.in-Ok.ensures.made ∙ λ j. remade_table g.P.Tag.PartialEq.eq p.table (c.plain-plain.ensures.value j) (live_is j) in
    let numbers_are = c.deref-2.ensures.value in
    subst (λ (q : PumpState g.row.P.Denot g.row.P-Tag.Denot). IsSwept g.P.Tag.PartialEq.eq g.P.Policy.model q c.args.made.now c.in_ok-numbers.numbers.items
    (pump_of c.self.inside.policy c.renumber.new.self (g.T.TagTable.state c.in-Ok.table) (g.C.RuleStore.state c.clear.new.self) c.self.inside.turns c.count_up.new.count c.self.inside.halt (g.H.WordLog.past c.renumber-2.new.self))) c.self.view_is
    (swept_as g.P.Tag.PartialEq.eq g.met.P.Tag.Eq.laws g.met.P.Tag.Same.same g.P.Policy.model p c.self.invariant.pump c.args.made.now c.in_ok-numbers.numbers.items (g.T.TagTable.state c.in-Ok.table) made
    c.in_ok-numbers.ensures c.renumber.new.self (c.renumber.ensures ∙ ap (λ (list : List ℕ). core_by (slice_index list) p.core) numbers_are) (g.C.RuleStore.state c.clear.new.self) c.clear.ensures
    (g.H.WordLog.past c.renumber-2.new.self) (c.renumber-2.ensures ∙ ap (λ (list : List ℕ). past_by (slice_index list) p.past) c.deref-3.ensures.value)
    c.count_up.new.count (search rules))
