use Rattle.std.proofs.Common.{Err, refl, ◌≡◌, ◌∙◌}
use Rattle.pump_line.specs.Task.{shell}
use Rattle.pump_line.specs.Told.{shell_value}
use Rattle.pump_cli.specs.Reading.{secret_held, secret_read}
use Rattle.pump_cli.proofs.SecretWayLemmas.{counted_as, held_as, lent_as, loaded, rose_as, secret_ends, shell_starts}
use Rattle.pump_cli.proofs.ShellWayLemmas.{executed}
use Rattle.pump_cli.proofs.TaskLemmas.{start_read}
use Rattle.pump_cli.proofs.WayLemmas.{file_ends}
use Rattle.pump_cli.proofs.shell.shell_task.Goals as goal

pub returns : goal.returns
returns g c =
    let task = shell_value c.args.task in
    let image = c.in-Ok.ensures in
    let secret = c.in-Ok-load_secret in
    let e = c.obey_lines.ensures in
    executed task _ _ c.in-Ok.image c.deref.result.now c.obey_lines.result image.taken
    (lent_as task.choice task.secret _ _ c.deref.result.now secret.secret.items c.deref.ensures.value image.held secret.ensures.taken)
    e.does (loaded task.choice task.secret _ _ _ secret.secret secret.ensures.faults image.faults) (secret.ensures.writes ∙ image.writes)
    e.faults e.kind e.long e.tags_out e.no_start e.unread e.closed e.moved e.replied
    (secret.ensures.held ∙ image.held) (counted_as task.choice task.secret _ _ _ secret.ensures.calls image.calls)

pub returns-in-Err-load_secret : goal.returns-in-Err-load_secret
returns-in-Err-load_secret g c =
    let task = shell_value c.args.task in
    let image = c.in-Ok.ensures in
    let end = c.in-Err-load_secret in
    secret_ends (shell task) _ _ (shell_starts _ task) c.in-Ok.image image.taken (end.ensures.held ∙ image.held) (counted_as task.choice task.secret _ _ _ end.ensures.calls image.calls)
    (end.ensures.writes ∙ image.writes) refl refl refl end.end _ c.end_early-in-Err-load_secret.result
    (λ refusal is. held_as task.choice task.secret _ _ (λ bytes. secret_read bytes ≡ Err refusal) image.held (end.ensures.refused refusal is)) end.ensures.long
    (rose_as task.choice task.secret _ _ _ _ image.faults end.ensures.faults) c.end_early-in-Err-load_secret.ensures refl refl

pub returns-in-Err : goal.returns-in-Err
returns-in-Err g c =
    let task = shell_value c.args.task in
    file_ends (shell task) _ _ c.args.task.image.now refl c.in-Err.end _ c.end_early.result
    (λ refusal is. start_read (g.F.Files.held c.args.files.now c.args.task.image.now) (secret_held task.choice task.secret (g.F.Files.held c.args.files.now)) (Err refusal) (c.in-Err.ensures.refused refusal is)) c.in-Err.ensures.of_file c.in-Err.ensures.faults c.in-Err.ensures.writes c.end_early.ensures refl refl refl c.in-Err.ensures.held c.in-Err.ensures.calls refl refl
