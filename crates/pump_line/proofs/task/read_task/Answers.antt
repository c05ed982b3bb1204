use Rattle.std.proofs.Common.{◌≡◌, ◌∙◌, ap, sym, option_and_then, option_map}
use Rattle.std.proofs.lemmas.Result.{IfOk-weaker}
use Rattle.pump_line.specs.Line.{HasMatch}
use Rattle.pump_line.specs.Request.{request_at}
use Rattle.pump_line.specs.Task.{task_in, task_of}
use Rattle.pump_line.specs.Told.{texts_of, task_value}
use Rattle.pump_line.proofs.LimitLemmas.{words_allow}
use Rattle.pump_line.proofs.ReadLemmas.{asks_matched, faulty_if_bad, is_simple_if, matched, no_task, none_if_bad, same_faults, task_if_ok}
use Rattle.pump_line.proofs.task.read_task.Goals as goal

-- what was read of a match is what the words ask for
reads : (c : goal.Joined-matches) → option_map task_value c.task_matched.result ≡ task_of (texts_of c.args.words.now.items)
reads c =
    let same = ap texts_of c.as_slice.ensures.value in
    let rows = matched _ _ (texts_of c.args.words.now.items) c.in-Ok.matches c.in_ok-command.ensures same c.in-Ok.ensures.matches in
    let faults = same_faults _ _ (texts_of c.args.words.now.items) c.in_ok-command.ensures same in
    let fine : HasMatch (texts_of c.args.words.now.items) =
    sym faults ∙ c.in-Ok.ensures.kinds (is_simple_if _ c.in_ok-command.ensures) in
    c.task_matched.ensures ∙ ap (λ found. option_and_then task_in (request_at found)) rows ∙ sym (asks_matched _ fine)

pub returns-in-Ok-clause-task : goal.returns-in-Ok-clause-task
returns-in-Ok-clause-task c = task_if_ok c.task_matched.result c.ok_or.result _ (reads c) c.ok_or.ensures.value

pub returns-in-Ok-clause-tags : goal.returns-in-Ok-clause-tags
returns-in-Ok-clause-tags c =
    IfOk-weaker c.ok_or.result _ _ (λ task asked. (words_allow (texts_of c.args.words.now.items) (task_value task) asked).0.0)
    (task_if_ok c.task_matched.result c.ok_or.result _ (reads c) c.ok_or.ensures.value)

pub returns-in-Ok-clause-rules : goal.returns-in-Ok-clause-rules
returns-in-Ok-clause-rules c =
    IfOk-weaker c.ok_or.result _ _ (λ task asked. (words_allow (texts_of c.args.words.now.items) (task_value task) asked).0.1)
    (task_if_ok c.task_matched.result c.ok_or.result _ (reads c) c.ok_or.ensures.value)

pub returns-in-Ok-clause-history : goal.returns-in-Ok-clause-history
returns-in-Ok-clause-history c =
    IfOk-weaker c.ok_or.result _ _ (λ task asked. (words_allow (texts_of c.args.words.now.items) (task_value task) asked).1)
    (task_if_ok c.task_matched.result c.ok_or.result _ (reads c) c.ok_or.ensures.value)

pub returns-in-Ok-clause-bad : goal.returns-in-Ok-clause-bad
returns-in-Ok-clause-bad c = none_if_bad c.task_matched.result c.ok_or.result _ (reads c) c.ok_or.ensures.value

pub returns-in-Err-clause-bad : goal.returns-in-Err-clause-bad
returns-in-Err-clause-bad c = λ bad.
    let same = ap texts_of c.as_slice.ensures.value in
    let faults = same_faults _ _ (texts_of c.args.words.now.items) c.in_ok-command.ensures same in
    let faulty = faulty_if_bad _ c.in-Err.error c.end_of.result (c.in-Err.ensures.kinds (is_simple_if _ c.in_ok-command.ensures))
    c.end_of.ensures.memory bad in
    no_task _ (λ fine. faulty (faults ∙ fine))
