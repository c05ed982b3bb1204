use Rattle.std.proofs.Common.{◌+◌, ◌≤◌, [], length, subst, sym}
use Rattle.tag_memory.specs.Ram.{ram_bytes}
use Rattle.engine_trait.specs.Machine.{hart_at}
use Rattle.engine_trait.specs.Turn.{rule_inputs}
use Rattle.miss_handler.specs.Asked.{AreInWords}
use Rattle.open_words.proofs.OpenLemmas.{open_grown}
use Rattle.pump_engine.specs.Pump.{PumpState, pump_of}
use Rattle.pump_engine.specs.Steps.{IsSwept}
use Rattle.pump_engine.proofs.LowLemmas.{low_inputs}
use Rattle.pump_engine.proofs.SettleLemmas.{IsSettled, SettlesOwn, fits_moved, pump_settled, settles_by, settles_unswept}
use Rattle.pump_engine.proofs.pump.Pump.ask_swept.Goals as goal

-- ---- no memory for the sweep

pub returns-in_default-clause-settled : goal.returns-in_default-clause-settled
returns-in_default-clause-settled g c =
    settles_unswept g.P.Tag.PartialEq.eq g.P.Policy.model c.args.self.now c.sweep.new.self c.args.h c.args.look.now c.words-words.ensures.sound c.in_default.ensures.unswept

-- ---- behind it

pub inputs-requires-clause-within : goal.inputs-requires-clause-within
inputs-requires-clause-within g c =
    subst (λ (q : PumpState g.row.P.Denot g.row.P-Tag.Denot). (hart_at q.core c.args.h).pc + 4 ≤ ram_bytes q.core.ram) (sym c.self.view_is)
    (fits_moved g.P.Policy.model c.args.self.now c.sweep.new.self c.args.h c.in-Ok.ensures.swept.machine c.in-Ok.ensures.bytes c.requires.within)

pub settle-requires-clause-in_words : goal.settle-requires-clause-in_words
settle-requires-clause-in_words g c =
    subst (AreInWords (length (g.T.TagTable.state c.self.inside.tags).tags)) (sym c.inputs.ensures)
    (low_inputs (length (g.T.TagTable.state c.self.inside.tags).tags) c.self.inside.core c.self.invariant.pump.words c.args.h c.args.look.now)

pub invariant_of-self : goal.invariant_of-self
invariant_of-self g c =
    let p : PumpState g.row.P.Denot g.row.P-Tag.Denot =
    pump_of c.self.inside.policy c.self.inside.core (g.T.TagTable.state c.self.inside.tags) (g.C.RuleStore.state c.self.inside.store) c.self.inside.turns c.self.inside.sweeps c.self.inside.halt (g.H.WordLog.past c.self.inside.log) in
    let settles : SettlesOwn g.P.Tag.PartialEq.eq g.P.Policy.model p c.args.h c.args.look.now (g.T.TagTable.state c.settle.new.tags) (g.C.RuleStore.state c.settle.new.store) c.settle.result =
    subst (λ s. IsSettled g.P.Tag.PartialEq.eq g.P.Policy.model p c.args.h c.args.look.now (g.T.TagTable.state c.settle.new.tags) (g.C.RuleStore.state c.settle.new.store) s (rule_inputs c.self.inside.core c.args.h c.args.look.now) c.settle.result)
    c.new-rules.ensures.policy
    (subst (λ inputs. IsSettled g.P.Tag.PartialEq.eq g.P.Policy.model p c.args.h c.args.look.now (g.T.TagTable.state c.settle.new.tags) (g.C.RuleStore.state c.settle.new.store) c.new-rules.result.policy inputs c.settle.result)
    c.inputs.ensures (record {
      answer = c.settle.ensures.answer;
      out_words = c.settle.ensures.out_words;
      stopped = λ refusal. (c.settle.ensures.stopped refusal).0;
      kept = c.settle.ensures.kept;
      unkept = c.settle.ensures.unkept;
      unnamed = c.settle.ensures.refused;
      tags_out = c.settle.ensures.tags_out;
      memory = c.settle.ensures.memory;
      within = c.settle.ensures.within;
      extends = c.settle.ensures.extends;
      rules = c.settle.ensures.rules;
    })) in
    record { pump = pump_settled g.P.Tag.PartialEq.eq g.P.Policy.model p c.args.h c.args.look.now (g.T.TagTable.state c.settle.new.tags) (g.C.RuleStore.state c.settle.new.store) c.self.invariant.pump c.settle.result settles; masks_are = c.self.invariant.masks_are; open_are = open_grown g.P.Policy.model c.self.inside.policy (g.T.TagTable.state c.self.inside.tags).tags (g.T.TagTable.state c.settle.new.tags).tags c.self.inside.open_words c.settle.ensures.extends c.self.invariant.open_are }

pub returns-clause-settled : goal.returns-clause-settled
returns-clause-settled g c =
    let p : PumpState g.row.P.Denot g.row.P-Tag.Denot =
    pump_of c.self.inside.policy c.self.inside.core (g.T.TagTable.state c.self.inside.tags) (g.C.RuleStore.state c.self.inside.store) c.self.inside.turns c.self.inside.sweeps c.self.inside.halt (g.H.WordLog.past c.self.inside.log) in
    let settles : SettlesOwn g.P.Tag.PartialEq.eq g.P.Policy.model p c.args.h c.args.look.now (g.T.TagTable.state c.settle.new.tags) (g.C.RuleStore.state c.settle.new.store) c.settle.result =
    subst (λ s. IsSettled g.P.Tag.PartialEq.eq g.P.Policy.model p c.args.h c.args.look.now (g.T.TagTable.state c.settle.new.tags) (g.C.RuleStore.state c.settle.new.store) s (rule_inputs c.self.inside.core c.args.h c.args.look.now) c.settle.result)
    c.new-rules.ensures.policy
    (subst (λ inputs. IsSettled g.P.Tag.PartialEq.eq g.P.Policy.model p c.args.h c.args.look.now (g.T.TagTable.state c.settle.new.tags) (g.C.RuleStore.state c.settle.new.store) c.new-rules.result.policy inputs c.settle.result)
    c.inputs.ensures (record {
      answer = c.settle.ensures.answer;
      out_words = c.settle.ensures.out_words;
      stopped = λ refusal. (c.settle.ensures.stopped refusal).0;
      kept = c.settle.ensures.kept;
      unkept = c.settle.ensures.unkept;
      unnamed = c.settle.ensures.refused;
      tags_out = c.settle.ensures.tags_out;
      memory = c.settle.ensures.memory;
      within = c.settle.ensures.within;
      extends = c.settle.ensures.extends;
      rules = c.settle.ensures.rules;
    })) in
    let swept = subst (IsSwept g.P.Tag.PartialEq.eq g.P.Policy.model c.args.self.now [] c.in-Ok._numbers.items) (sym c.self.view_is) c.in-Ok.ensures.swept in
    settles_by g.P.Tag.PartialEq.eq g.P.Policy.model p c.args.h c.args.look.now (g.T.TagTable.state c.settle.new.tags) (g.C.RuleStore.state c.settle.new.store) c.self.invariant.pump c.args.self.now c.in-Ok._numbers.items swept
    c.settle.result settles
