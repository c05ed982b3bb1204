use Rattle.std.proofs.Common.{ℕ, List, refl, ap, subst, ◌∙◌}
use Rattle.shared_terms.specs.Counts.{next_count}
use Rattle.pump_line.specs.Task.{save}
use Rattle.pump_line.specs.Told.{save_value}
use Rattle.pump_cli.specs.Early.{WriteRoseBy}
use Rattle.pump_cli.specs.Facts.{AtMost}
use Rattle.pump_cli.proofs.CallLemmas.{save_saves}
use Rattle.pump_cli.proofs.SaveWayLemmas.{saved}
use Rattle.pump_cli.proofs.WayLemmas.{file_ends}
use Rattle.pump_cli.proofs.save.save_task.Goals as goal

pub returns-in-Ok : goal.returns-in-Ok
returns-in-Ok g c =
    let read = c.in-Ok.ensures in
    let saving = c.save_image.ensures in
    saved (save (save_value c.args.task)) c.in-Ok.image _ _ (save_saves c.in-Ok.image _ _ (save_value c.args.task)) c.save_image.result read.taken saving.file
    (λ other differs. saving.others other differs ∙ ap (λ held. held other) read.held)
    (λ memory. saving.memory memory ∙ read.held) saving.done
    (subst (λ (before : List ℕ → ℕ). WriteRoseBy before (g.F.Files.write_faults c.save_image.new.files) c.args.task.image.now c.save_image.result) read.writes saving.faults)
    (saving.reads ∙ read.faults) (λ memory. saving.calls memory ∙ ap next_count read.calls)
    (subst (λ (before : ℕ). AtMost 1 before (g.F.Files.calls c.save_image.new.files)) read.calls saving.at_most)
    refl refl refl refl refl

pub returns-in-Err : goal.returns-in-Err
returns-in-Err g c =
    file_ends (save (save_value c.args.task)) _ _ c.args.task.source.now refl c.in-Err.end _ c.end_early.result c.in-Err.ensures.refused c.in-Err.ensures.of_file
    c.in-Err.ensures.faults c.in-Err.ensures.writes c.end_early.ensures refl refl refl c.in-Err.ensures.held c.in-Err.ensures.calls refl refl
