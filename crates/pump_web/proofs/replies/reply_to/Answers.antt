use Rattle.pump_cli.specs.declared.status.Status.TheVariants.{Memory}
use Rattle.std.proofs.Common.{◌≢◌, ℕ, List, Option, IfOk, IfSome, ap, subst, ◌∙◌, arith}
use Rattle.host_io.specs.Held.{sure_bytes}
use Rattle.host_io.specs.Supply.{left_in}
use Rattle.pump_line.specs.Task.{task_of}
use Rattle.pump_cli.specs.Endings.{Outcome}
use Rattle.pump_web.specs.Replies.{TellsAll, TellsFirst, held_in, image_after, only_file, told_in}
use Rattle.pump_web.proofs.HeldLemmas.{only_told}
use Rattle.pump_web.proofs.ReplyLemmas.{due_is, due_told, if_ok_each, none_saved, saved_is}
use Rattle.pump_web.proofs.replies.reply_to.Goals as goal

pub returns-in_err-words-clause-told : goal.returns-in_err-words-clause-told
returns-in_err-words-clause-told c = due_told c.args.line.now c.args.file.now c.args.input.now

pub returns-in_err-files-clause-told : goal.returns-in_err-files-clause-told
returns-in_err-files-clause-told c = due_told c.args.line.now c.args.file.now c.args.input.now

pub returns-in_err-source-clause-told : goal.returns-in_err-source-clause-told
returns-in_err-source-clause-told c = due_told c.args.line.now c.args.file.now c.args.input.now

pub returns-clause-told : goal.returns-clause-told
returns-clause-told c = due_told c.args.line.now c.args.file.now c.args.input.now

pub returns-clause-due : goal.returns-clause-due
returns-clause-due c =
    subst (λ (due : Option Outcome). IfOk c.reply_from.result (λ reply. reply.status ≢ Memory → IfSome due (λ outcome. TellsAll outcome reply.out.items reply.err.items reply.status)))
    (due_is _ _ _ c.args.line.now c.args.file.now c.args.input.now c.in_ok-words.ensures
    (ap told_in c.in_ok-files.ensures ∙ only_told c.args.file.now (λ i. omega (arith, c.type_inv.file i)))
    (ap left_in c.in_ok-source.ensures))
    c.reply_from.ensures.due

pub returns-clause-prefix : goal.returns-clause-prefix
returns-clause-prefix c =
    subst (λ (due : Option Outcome). IfOk c.reply_from.result (λ reply. IfSome due (λ outcome. TellsFirst outcome reply.out.items reply.err.items)))
    (due_is _ _ _ c.args.line.now c.args.file.now c.args.input.now c.in_ok-words.ensures
    (ap told_in c.in_ok-files.ensures ∙ only_told c.args.file.now (λ i. omega (arith, c.type_inv.file i)))
    (ap left_in c.in_ok-source.ensures))
    c.reply_from.ensures.prefix

pub returns-clause-saved : goal.returns-clause-saved
returns-clause-saved c =
    if_ok_each c.reply_from.result _ _
    (λ reply saved memory. saved_is reply.image.items c.args.line.now c.args.file.now
    (saved (sure_bytes (only_file c.args.file.now))
    (ap told_in c.in_ok-files.ensures ∙ only_told c.args.file.now (λ i. omega (arith, c.type_inv.file i))) memory
    ∙ ap (λ (texts : List (List ℕ)). image_after (task_of texts) (held_in (only_file c.args.file.now))) c.in_ok-words.ensures))
    c.reply_from.ensures.saved

pub returns-clause-unsaved : goal.returns-clause-unsaved
returns-clause-unsaved c =
    if_ok_each c.reply_from.result _ _
    (λ reply unsaved memory. none_saved _ _ _ c.in_ok-files.ensures (unsaved memory))
    c.reply_from.ensures.unsaved
