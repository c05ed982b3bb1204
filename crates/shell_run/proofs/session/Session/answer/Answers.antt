use Rattle.std.proofs.Common.{refl}
use Rattle.shell_run.specs.Replies.{reply_to}
use Rattle.shell_run.proofs.SessionLemmas.{at_ok, cut_still, cut_unmoved, no_fault_told, puts_none_told, stays_checked}
use Rattle.shell_run.proofs.session.Session.answer.Goals as goal

pub returns-in-Step : goal.returns-in-Step
unfolding reply_to
returns-in-Step g c =
    rw c.in-Step.is
    (record {
      after = c.step.ensures.after;
      puts = c.step.ensures.puts;
      cause = c.step.ensures.cause;
      cut = c.step.ensures.cut;
    })

pub returns-in-Back : goal.returns-in-Back
unfolding reply_to
returns-in-Back g c =
    rw c.in-Back.is
    (record {
      after = c.back.ensures.after;
      puts = c.back.ensures.puts;
      cause = c.back.ensures.cause;
      cut = cut_unmoved g.L.E.P.Tag.PartialEq.eq g.L.E.P.Policy.model c.args.self.now (g.K.Sink.taken c.args.out.now) (g.K.Sink.taken c.back.new.out) c.back.new.self c.back.result c.back.ensures.cut;
    })

pub returns-in-Regs : goal.returns-in-Regs
unfolding reply_to
returns-in-Regs g c =
    rw c.in-Regs.is
    (record {
      after = at_ok c.registers.result _ (stays_checked c.args.self.now _ _);
      puts = c.registers.ensures.puts;
      cause = c.registers.ensures.cause;
      cut = cut_still g.L.E.P.Tag.PartialEq.eq g.L.E.P.Policy.model c.args.self.now (g.K.Sink.taken c.args.out.now) (g.K.Sink.taken c.registers.new.out) c.registers.result;
    })

pub returns-in-Pc : goal.returns-in-Pc
unfolding reply_to
returns-in-Pc g c =
    rw c.in-Pc.is
    (record {
      after = at_ok c.pc.result _ (stays_checked c.args.self.now _ _);
      puts = c.pc.ensures.puts;
      cause = c.pc.ensures.cause;
      cut = cut_still g.L.E.P.Tag.PartialEq.eq g.L.E.P.Policy.model c.args.self.now (g.K.Sink.taken c.args.out.now) (g.K.Sink.taken c.pc.new.out) c.pc.result;
    })

pub returns-in-Mem : goal.returns-in-Mem
unfolding reply_to
returns-in-Mem g c =
    rw c.in-Mem.is
    (record {
      after = at_ok c.words.result _ (stays_checked c.args.self.now _ _);
      puts = c.words.ensures.puts;
      cause = c.words.ensures.cause;
      cut = cut_still g.L.E.P.Tag.PartialEq.eq g.L.E.P.Policy.model c.args.self.now (g.K.Sink.taken c.args.out.now) (g.K.Sink.taken c.words.new.out) c.words.result;
    })

pub returns-in-Tags : goal.returns-in-Tags
unfolding reply_to
returns-in-Tags g c =
    rw c.in-Tags.is
    (record {
      after = at_ok c.tags.result _ (stays_checked c.args.self.now _ _);
      puts = c.tags.ensures.puts;
      cause = c.tags.ensures.cause;
      cut = cut_still g.L.E.P.Tag.PartialEq.eq g.L.E.P.Policy.model c.args.self.now (g.K.Sink.taken c.args.out.now) (g.K.Sink.taken c.tags.new.out) c.tags.result;
    })

pub returns-in-Dis : goal.returns-in-Dis
unfolding reply_to
returns-in-Dis g c =
    rw c.in-Dis.is
    (record {
      after = at_ok c.statements.result _ (stays_checked c.args.self.now _ _);
      puts = c.statements.ensures.puts;
      cause = c.statements.ensures.cause;
      cut = cut_still g.L.E.P.Tag.PartialEq.eq g.L.E.P.Policy.model c.args.self.now (g.K.Sink.taken c.args.out.now) (g.K.Sink.taken c.statements.new.out) c.statements.result;
    })

pub returns-in-Why : goal.returns-in-Why
unfolding reply_to
returns-in-Why g c =
    rw c.in-Why.is
    (record {
      after = at_ok c.why.result _ (stays_checked c.args.self.now _ _);
      puts = c.why.ensures.puts;
      cause = c.why.ensures.cause;
      cut = cut_still g.L.E.P.Tag.PartialEq.eq g.L.E.P.Policy.model c.args.self.now (g.K.Sink.taken c.args.out.now) (g.K.Sink.taken c.why.new.out) c.why.result;
    })

pub returns-in-Blocks : goal.returns-in-Blocks
unfolding reply_to
returns-in-Blocks g c =
    rw c.in-Blocks.is
    (record {
      after = at_ok c.blocks-in-Blocks.result _ refl;
      puts = c.blocks-in-Blocks.ensures.puts;
      cause = c.blocks-in-Blocks.ensures.cause;
      cut = cut_still g.L.E.P.Tag.PartialEq.eq g.L.E.P.Policy.model c.args.self.now (g.K.Sink.taken c.args.out.now) (g.K.Sink.taken c.blocks-in-Blocks.new.out) c.blocks-in-Blocks.result;
    })

pub returns-in-Stats : goal.returns-in-Stats
unfolding reply_to
returns-in-Stats g c =
    rw c.in-Stats.is
    (record {
      after = at_ok c.stats.result _ refl;
      puts = c.stats.ensures.puts;
      cause = c.stats.ensures.cause;
      cut = cut_still g.L.E.P.Tag.PartialEq.eq g.L.E.P.Policy.model c.args.self.now (g.K.Sink.taken c.args.out.now) (g.K.Sink.taken c.stats.new.out) c.stats.result;
    })

pub returns-in-Sweeps : goal.returns-in-Sweeps
unfolding reply_to
returns-in-Sweeps g c =
    rw c.in-Sweeps.is
    (record {
      after = at_ok c.sweeps.result _ refl;
      puts = c.sweeps.ensures.puts;
      cause = c.sweeps.ensures.cause;
      cut = cut_still g.L.E.P.Tag.PartialEq.eq g.L.E.P.Policy.model c.args.self.now (g.K.Sink.taken c.args.out.now) (g.K.Sink.taken c.sweeps.new.out) c.sweeps.result;
    })

pub returns-in-Break : goal.returns-in-Break
unfolding reply_to
returns-in-Break g c =
    rw c.in-Break.is
    (record {
      after = c.set_break.ensures.after;
      puts = c.set_break.ensures.puts;
      cause = c.set_break.ensures.cause;
      cut = cut_unmoved g.L.E.P.Tag.PartialEq.eq g.L.E.P.Policy.model c.args.self.now (g.K.Sink.taken c.args.out.now) (g.K.Sink.taken c.set_break.new.out) c.set_break.new.self c.set_break.result c.set_break.ensures.cut;
    })

pub returns-in-Clear : goal.returns-in-Clear
unfolding reply_to
returns-in-Clear g c =
    rw c.in-Clear.is
    (record {
      after = c.clear_break.ensures.after;
      puts = c.clear_break.ensures.puts;
      cause = c.clear_break.ensures.cause;
      cut = cut_unmoved g.L.E.P.Tag.PartialEq.eq g.L.E.P.Policy.model c.args.self.now (g.K.Sink.taken c.args.out.now) (g.K.Sink.taken c.clear_break.new.out) c.clear_break.new.self c.clear_break.result c.clear_break.ensures.cut;
    })

pub returns-in-Reset : goal.returns-in-Reset
unfolding reply_to
returns-in-Reset g c =
    rw c.in-Reset.is
    (record {
      after = c.reset.ensures.after;
      puts = puts_none_told (g.K.Sink.taken c.args.out.now) c.reset.result;
      cause = no_fault_told (g.K.Sink.faults c.args.out.now) c.reset.result c.reset.ensures.memory;
      cut = cut_unmoved g.L.E.P.Tag.PartialEq.eq g.L.E.P.Policy.model c.args.self.now (g.K.Sink.taken c.args.out.now) (g.K.Sink.taken c.args.out.now) c.reset.new.self c.reset.result c.reset.ensures.cut;
    })

pub returns-in-Feed-clause-puts : goal.returns-in-Feed-clause-puts
unfolding reply_to
returns-in-Feed-clause-puts g c = rw c.in-Feed.is (puts_none_told (g.K.Sink.taken c.args.out.now) c.fed.result)

pub returns-in-Feed-clause-cause : goal.returns-in-Feed-clause-cause
returns-in-Feed-clause-cause g c = no_fault_told (g.K.Sink.faults c.args.out.now) c.fed.result c.fed.ensures.memory

pub returns-in-Feed-clause-cut : goal.returns-in-Feed-clause-cut
returns-in-Feed-clause-cut g c =
    rw c.in-Feed.is
    (cut_unmoved g.L.E.P.Tag.PartialEq.eq g.L.E.P.Policy.model c.args.self.now (g.K.Sink.taken c.args.out.now) (g.K.Sink.taken c.args.out.now) c.fed.new.self c.fed.result c.fed.ensures.cut)
