use Rattle.std.proofs.Common.{◌<◌, ◌∙◌, ℕ, Err, ap, subst, sym}
use Rattle.std.proofs.lemmas.Grind.{get_or_default_zero}
use Rattle.monitor_calls.specs.Ends.{job_by}
use Rattle.pump_engine.specs.Pump.{decode}
use Rattle.pump_engine.specs.Steps.{TriesOut}
use Rattle.pump_engine.proofs.OutLemmas.{out_swept, tried_swept, wanting_carried, wanting_swept}
use Rattle.pump_engine.proofs.pump.Pump.carry_out_swept.Goals as goal

pub returns-in_default-clause-ends : goal.returns-in_default-clause-ends
returns-in_default-clause-ends g c =
    wanting_carried g.P.Tag.PartialEq.eq g.P.Policy.model c.args.self.now c.args.h c.args.look.now c.args.outs (job_by c.args.job.now.plan c.args.job.now.words.items) c.sweep.new.self c.give_up.new.self c.in_default.ensures.unswept c.give_up.ensures.state c.give_up.result c.give_up.ensures.end

pub returns-in-Ok-try_out-clause-ends : goal.returns-in-Ok-try_out-clause-ends
returns-in-Ok-try_out-clause-ends g c =
    tried_swept g.P.Tag.PartialEq.eq g.P.Policy.model c.args.self.now c.args.h c.args.look.now c.args.outs (job_by c.args.job.now.plan c.args.job.now.words.items) c.requires.over c.sweep.new.self c.in-Ok.numbers.items (record { pc = c.index.result.now; result = c.index-2.result.now }) c.in-Ok.ensures.swept (ap (decode g.P.Policy.model c.sweep.new.self) (c.index.ensures ∙ get_or_default_zero c.in-Ok.numbers.items c.args.outs.pc _ (subst (λ (n : ℕ). c.args.outs.pc < n) (sym c.in-Ok.ensures.size) c.requires.out_words.pc)) ∙ c.in-Ok.ensures.swept.moved.0.same)
    c.try_out.new.self c.in-Ok-try_out.end c.in-Ok-try_out.ensures.tries

pub returns-in-Err-Full-clause-ends : goal.returns-in-Err-Full-clause-ends
returns-in-Err-Full-clause-ends g c =
    let tried = subst (λ end. TriesOut g.P.Tag.PartialEq.eq g.P.Policy.model c.sweep.new.self c.args.h c.args.look.now (record { pc = c.index.result.now; result = c.index-2.result.now }) (job_by c.args.job.now.plan c.args.job.now.words.items) c.try_out.new.self (Err end)) c.in-Err-Full.field-0-is c.in-Err-Full.ensures.tries in
    out_swept g.P.Tag.PartialEq.eq g.P.Policy.model c.args.self.now c.args.h c.args.look.now c.args.outs (job_by c.args.job.now.plan c.args.job.now.words.items) c.requires.over c.sweep.new.self c.in-Ok.numbers.items (record { pc = c.index.result.now; result = c.index-2.result.now }) c.in-Ok.ensures.swept (ap (decode g.P.Policy.model c.sweep.new.self) (c.index.ensures ∙ get_or_default_zero c.in-Ok.numbers.items c.args.outs.pc _ (subst (λ (n : ℕ). c.args.outs.pc < n) (sym c.in-Ok.ensures.size) c.requires.out_words.pc)) ∙ c.in-Ok.ensures.swept.moved.0.same)
    c.try_out.new.self c.run_out.new.self tried c.run_out.ensures.state c.run_out.result c.run_out.ensures.end

pub returns-clause-ends : goal.returns-clause-ends
returns-clause-ends g c =
    let tried = subst (λ end. TriesOut g.P.Tag.PartialEq.eq g.P.Policy.model c.sweep.new.self c.args.h c.args.look.now (record { pc = c.index.result.now; result = c.index-2.result.now }) (job_by c.args.job.now.plan c.args.job.now.words.items) c.try_out.new.self (Err end)) c.in-Err-Memory.field-0-is c.in-Err-Memory.ensures.tries in
    wanting_swept g.P.Tag.PartialEq.eq g.P.Policy.model c.args.self.now c.args.h c.args.look.now c.args.outs (job_by c.args.job.now.plan c.args.job.now.words.items) c.requires.over c.sweep.new.self c.in-Ok.numbers.items (record { pc = c.index.result.now; result = c.index-2.result.now }) c.in-Ok.ensures.swept (ap (decode g.P.Policy.model c.sweep.new.self) (c.index.ensures ∙ get_or_default_zero c.in-Ok.numbers.items c.args.outs.pc _ (subst (λ (n : ℕ). c.args.outs.pc < n) (sym c.in-Ok.ensures.size) c.requires.out_words.pc)) ∙ c.in-Ok.ensures.swept.moved.0.same)
    c.try_out.new.self c.give_up-in-Err-Memory.new.self tried c.give_up-in-Err-Memory.ensures.state c.give_up-in-Err-Memory.result c.give_up-in-Err-Memory.ensures.end
