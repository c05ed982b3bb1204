use Rattle.std.proofs.Common.{◌≡◌, true, IfErr, IfOk, IsOk, length, sym, subst}
use Rattle.engine_trait.specs.Accounts.{is_kept}
use Rattle.engine_trait.specs.Turn.{rule_inputs}
use Rattle.miss_handler.specs.Asked.{AreInWords}
use Rattle.open_words.proofs.OpenLemmas.{open_grown}
use Rattle.pump_engine.proofs.AskLemmas.{AsksOwn, IsAsked, allowed, asked, kept_answered, pump_asked, unanswered}
use Rattle.pump_engine.proofs.LowLemmas.{low_inputs}
use Rattle.pump_engine.proofs.pump.Pump.ask.Goals as goal
use Rattle.pump_engine.specs.Pump.{PumpState, account_by_words, pump_of}
use Rattle.pump_engine.specs.Steps.{Allows, Unanswered, key_in}

pub ask-requires-clause-in_words : goal.ask-requires-clause-in_words
ask-requires-clause-in_words g c =
    subst (AreInWords (length (g.T.TagTable.state c.self.inside.tags).tags)) (sym c.inputs.ensures)
    (low_inputs (length (g.T.TagTable.state c.self.inside.tags).tags) c.self.inside.core c.self.invariant.pump.words c.args.h c.args.look.now)

pub invariant_of-self : goal.invariant_of-self
invariant_of-self g c =
    let p : PumpState g.row.P.Denot g.row.P-Tag.Denot =
    pump_of c.self.inside.policy c.self.inside.core (g.T.TagTable.state c.self.inside.tags) (g.C.RuleStore.state c.self.inside.store) c.self.inside.turns c.self.inside.sweeps c.self.inside.halt (g.H.WordLog.past c.self.inside.log) in
    let asks : AsksOwn g.P.Tag.PartialEq.eq g.P.Policy.model p c.args.h c.args.look.now (g.T.TagTable.state c.ask.new.tags) (g.C.RuleStore.state c.ask.new.store) c.ask.result =
    subst (λ s. IsAsked g.P.Tag.PartialEq.eq g.P.Policy.model p c.args.h c.args.look.now (g.T.TagTable.state c.ask.new.tags) (g.C.RuleStore.state c.ask.new.store) s (rule_inputs c.self.inside.core c.args.h c.args.look.now) c.ask.result)
    c.new-rules.ensures.policy
    (subst (λ inputs. IsAsked g.P.Tag.PartialEq.eq g.P.Policy.model p c.args.h c.args.look.now (g.T.TagTable.state c.ask.new.tags) (g.C.RuleStore.state c.ask.new.store) c.new-rules.result.policy inputs c.ask.result)
    c.inputs.ensures (record {
      answer = c.ask.ensures.answer;
      out_words = c.ask.ensures.out_words;
      stopped = λ refusal. (c.ask.ensures.stopped refusal).0;
      kept = c.ask.ensures.kept;
      unkept = c.ask.ensures.unkept;
      tags_out = c.ask.ensures.tags_out;
      memory = c.ask.ensures.memory;
      within = c.ask.ensures.within;
      extends = c.ask.ensures.extends;
      hit = c.ask.ensures.hit;
      told = c.ask.ensures.told;
      rules = c.ask.ensures.rules;
    })) in
    record { pump = pump_asked g.P.Tag.PartialEq.eq g.P.Policy.model p c.args.h c.args.look.now (g.T.TagTable.state c.ask.new.tags) (g.C.RuleStore.state c.ask.new.store) c.self.invariant.pump c.ask.result asks; masks_are = c.self.invariant.masks_are; open_are = open_grown g.P.Policy.model c.self.inside.policy (g.T.TagTable.state c.self.inside.tags).tags (g.T.TagTable.state c.ask.new.tags).tags c.self.inside.open_words c.ask.ensures.extends c.self.invariant.open_are }

pub returns-clause-allowed : goal.returns-clause-allowed
returns-clause-allowed g c =
    let p : PumpState g.row.P.Denot g.row.P-Tag.Denot =
    pump_of c.self.inside.policy c.self.inside.core (g.T.TagTable.state c.self.inside.tags) (g.C.RuleStore.state c.self.inside.store) c.self.inside.turns c.self.inside.sweeps c.self.inside.halt (g.H.WordLog.past c.self.inside.log) in
    let asks : AsksOwn g.P.Tag.PartialEq.eq g.P.Policy.model p c.args.h c.args.look.now (g.T.TagTable.state c.ask.new.tags) (g.C.RuleStore.state c.ask.new.store) c.ask.result =
    subst (λ s. IsAsked g.P.Tag.PartialEq.eq g.P.Policy.model p c.args.h c.args.look.now (g.T.TagTable.state c.ask.new.tags) (g.C.RuleStore.state c.ask.new.store) s (rule_inputs c.self.inside.core c.args.h c.args.look.now) c.ask.result)
    c.new-rules.ensures.policy
    (subst (λ inputs. IsAsked g.P.Tag.PartialEq.eq g.P.Policy.model p c.args.h c.args.look.now (g.T.TagTable.state c.ask.new.tags) (g.C.RuleStore.state c.ask.new.store) c.new-rules.result.policy inputs c.ask.result)
    c.inputs.ensures (record {
      answer = c.ask.ensures.answer;
      out_words = c.ask.ensures.out_words;
      stopped = λ refusal. (c.ask.ensures.stopped refusal).0;
      kept = c.ask.ensures.kept;
      unkept = c.ask.ensures.unkept;
      tags_out = c.ask.ensures.tags_out;
      memory = c.ask.ensures.memory;
      within = c.ask.ensures.within;
      extends = c.ask.ensures.extends;
      hit = c.ask.ensures.hit;
      told = c.ask.ensures.told;
      rules = c.ask.ensures.rules;
    })) in
    subst (λ (q : PumpState g.row.P.Denot g.row.P-Tag.Denot). IfOk c.ask.result (Allows g.P.Tag.PartialEq.eq g.P.Policy.model q c.args.h c.args.look.now (asked g.P.Tag.PartialEq.eq g.P.Policy.model p c.args.h c.args.look.now (g.T.TagTable.state c.ask.new.tags) (g.C.RuleStore.state c.ask.new.store)))) c.self.view_is
    (allowed g.P.Tag.PartialEq.eq g.P.Policy.model p c.args.h c.args.look.now (g.T.TagTable.state c.ask.new.tags) (g.C.RuleStore.state c.ask.new.store) c.self.invariant.pump c.ask.result asks)

pub returns-clause-unanswered : goal.returns-clause-unanswered
returns-clause-unanswered g c =
    let p : PumpState g.row.P.Denot g.row.P-Tag.Denot =
    pump_of c.self.inside.policy c.self.inside.core (g.T.TagTable.state c.self.inside.tags) (g.C.RuleStore.state c.self.inside.store) c.self.inside.turns c.self.inside.sweeps c.self.inside.halt (g.H.WordLog.past c.self.inside.log) in
    let asks : AsksOwn g.P.Tag.PartialEq.eq g.P.Policy.model p c.args.h c.args.look.now (g.T.TagTable.state c.ask.new.tags) (g.C.RuleStore.state c.ask.new.store) c.ask.result =
    subst (λ s. IsAsked g.P.Tag.PartialEq.eq g.P.Policy.model p c.args.h c.args.look.now (g.T.TagTable.state c.ask.new.tags) (g.C.RuleStore.state c.ask.new.store) s (rule_inputs c.self.inside.core c.args.h c.args.look.now) c.ask.result)
    c.new-rules.ensures.policy
    (subst (λ inputs. IsAsked g.P.Tag.PartialEq.eq g.P.Policy.model p c.args.h c.args.look.now (g.T.TagTable.state c.ask.new.tags) (g.C.RuleStore.state c.ask.new.store) c.new-rules.result.policy inputs c.ask.result)
    c.inputs.ensures (record {
      answer = c.ask.ensures.answer;
      out_words = c.ask.ensures.out_words;
      stopped = λ refusal. (c.ask.ensures.stopped refusal).0;
      kept = c.ask.ensures.kept;
      unkept = c.ask.ensures.unkept;
      tags_out = c.ask.ensures.tags_out;
      memory = c.ask.ensures.memory;
      within = c.ask.ensures.within;
      extends = c.ask.ensures.extends;
      hit = c.ask.ensures.hit;
      told = c.ask.ensures.told;
      rules = c.ask.ensures.rules;
    })) in
    subst (λ (q : PumpState g.row.P.Denot g.row.P-Tag.Denot). IfErr c.ask.result (Unanswered g.P.Tag.PartialEq.eq g.P.Policy.model q c.args.h c.args.look.now (asked g.P.Tag.PartialEq.eq g.P.Policy.model p c.args.h c.args.look.now (g.T.TagTable.state c.ask.new.tags) (g.C.RuleStore.state c.ask.new.store)))) c.self.view_is
    (unanswered g.P.Tag.PartialEq.eq g.P.Policy.model p c.args.h c.args.look.now (g.T.TagTable.state c.ask.new.tags) (g.C.RuleStore.state c.ask.new.store) c.self.invariant.pump c.ask.result asks)

pub returns-clause-kept : goal.returns-clause-kept
returns-clause-kept g c =
    let p : PumpState g.row.P.Denot g.row.P-Tag.Denot =
    pump_of c.self.inside.policy c.self.inside.core (g.T.TagTable.state c.self.inside.tags) (g.C.RuleStore.state c.self.inside.store) c.self.inside.turns c.self.inside.sweeps c.self.inside.halt (g.H.WordLog.past c.self.inside.log) in
    let asks : AsksOwn g.P.Tag.PartialEq.eq g.P.Policy.model p c.args.h c.args.look.now (g.T.TagTable.state c.ask.new.tags) (g.C.RuleStore.state c.ask.new.store) c.ask.result =
    subst (λ s. IsAsked g.P.Tag.PartialEq.eq g.P.Policy.model p c.args.h c.args.look.now (g.T.TagTable.state c.ask.new.tags) (g.C.RuleStore.state c.ask.new.store) s (rule_inputs c.self.inside.core c.args.h c.args.look.now) c.ask.result)
    c.new-rules.ensures.policy
    (subst (λ inputs. IsAsked g.P.Tag.PartialEq.eq g.P.Policy.model p c.args.h c.args.look.now (g.T.TagTable.state c.ask.new.tags) (g.C.RuleStore.state c.ask.new.store) c.new-rules.result.policy inputs c.ask.result)
    c.inputs.ensures (record {
      answer = c.ask.ensures.answer;
      out_words = c.ask.ensures.out_words;
      stopped = λ refusal. (c.ask.ensures.stopped refusal).0;
      kept = c.ask.ensures.kept;
      unkept = c.ask.ensures.unkept;
      tags_out = c.ask.ensures.tags_out;
      memory = c.ask.ensures.memory;
      within = c.ask.ensures.within;
      extends = c.ask.ensures.extends;
      hit = c.ask.ensures.hit;
      told = c.ask.ensures.told;
      rules = c.ask.ensures.rules;
    })) in
    subst (λ (q : PumpState g.row.P.Denot g.row.P-Tag.Denot). is_kept g.P.Tag.PartialEq.eq (key_in g.P.Tag.PartialEq.eq g.P.Policy.model q c.args.h c.args.look.now) (account_by_words g.P.Policy.model q) ≡ true → IsOk c.ask.result) c.self.view_is
    (kept_answered g.P.Tag.PartialEq.eq g.P.Policy.model p c.args.h c.args.look.now (g.T.TagTable.state c.ask.new.tags) (g.C.RuleStore.state c.ask.new.store) c.self.invariant.pump c.ask.result asks)
