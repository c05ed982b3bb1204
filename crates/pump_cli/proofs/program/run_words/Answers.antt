use Rattle.std.proofs.Common.{Some, refl}
use Rattle.pump_line.specs.Told.{texts_of, task_value}
use Rattle.pump_cli.specs.Facts.{status_in}
use Rattle.pump_cli.proofs.WordWayLemmas.{asked_as, words_refused, words_unread}
use Rattle.pump_cli.proofs.program.run_words.Goals as goal

pub returns-in-Ok : goal.returns-in-Ok
returns-in-Ok g c =
    asked_as (texts_of c.args.words.now.items) _ _ (Some (task_value c.in-Ok.task)) (status_in c.do_task.result) c.in-Ok.ensures.task c.do_task.ensures

pub returns-in-Err-Bad : goal.returns-in-Err-Bad
returns-in-Err-Bad g c =
    words_refused (texts_of c.args.words.now.items) _ _ c.refuse.result (c.in-Err-Bad.ensures.bad c.in-Err-Bad.field-0-is) c.refuse.ensures refl refl refl refl refl refl refl refl

pub returns-in-Err-Memory : goal.returns-in-Err-Memory
returns-in-Err-Memory g c = words_unread _ _ _
