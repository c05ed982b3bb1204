use Rattle.std.proofs.Common.{Some, sym, ◌∙◌}
use Rattle.host_io.specs.Supply.{left_in}
use Rattle.pump_line.specs.Told.{texts_of}
use Rattle.pump_cli.specs.Program.{program}
use Rattle.pump_web.specs.Replies.{told_in}
use Rattle.pump_web.proofs.ReplyLemmas.{told_all, told_first}
use Rattle.pump_web.proofs.replies.reply_from.Goals as goal

pub returns-clause-due : goal.returns-clause-due
returns-clause-due c memory =
    told_all c.new-out.result c.new-err.result c.run_over-status.new.out c.run_over-status.new.err c.in_ok-told.told.items c.in_ok-warned.warned.items
    c.new-out.ensures c.new-err.ensures c.in_ok-told.ensures c.in_ok-warned.ensures
    (program (texts_of c.args.words.now.items) (told_in c.args.files.files) (Some (left_in c.args.input))) c.run_over-status.result
    (c.run_over-status.ensures.due memory)

pub returns-clause-prefix : goal.returns-clause-prefix
returns-clause-prefix c =
    told_first c.new-out.result c.new-err.result c.run_over-status.new.out c.run_over-status.new.err c.in_ok-told.told.items c.in_ok-warned.warned.items
    c.new-out.ensures c.new-err.ensures c.in_ok-told.ensures c.in_ok-warned.ensures
    (program (texts_of c.args.words.now.items) (told_in c.args.files.files) (Some (left_in c.args.input)))
    c.run_over-status.ensures.prefix

pub returns-clause-saved : goal.returns-clause-saved
returns-clause-saved c held known memory = sym c.in_ok-image.ensures ∙ c.run_over-status.ensures.saved held known memory

pub returns-clause-unsaved : goal.returns-clause-unsaved
returns-clause-unsaved c memory = sym c.in_ok-image.ensures ∙ c.run_over-status.ensures.unsaved memory
