use Rattle.std.proofs.Common.{ℕ, List, Ok, refl, ap, subst, ◌∙◌}
use Rattle.shared_terms.specs.Counts.{next_count}
use Rattle.pump_line.specs.Task.{elf}
use Rattle.pump_line.specs.Told.{elf_value}
use Rattle.pump_cli.specs.Early.{LoadCutBy, WriteRoseBy, bytes_or_long}
use Rattle.pump_cli.specs.Facts.{AtMost}
use Rattle.pump_cli.specs.Reading.{both_taken}
use Rattle.pump_cli.proofs.CallLemmas.{elf_saves}
use Rattle.pump_cli.proofs.ElfWayLemmas.{both_end, elf_cut, files_read, tags_cut}
use Rattle.pump_cli.proofs.SaveWayLemmas.{saved}
use Rattle.pump_cli.proofs.elf.elf_task.Goals as goal

pub returns-in-Err : goal.returns-in-Err
returns-in-Err g c =
    let load = c.in-Err.ensures in
    elf_cut (elf_value c.args.task) _ _ c.in-Err.cut load.faults load.writes refl refl refl load.held load.calls refl refl

pub returns-in-Err-load_bytes : goal.returns-in-Err-load_bytes
returns-in-Err-load_bytes g c =
    let first = c.in-Ok.ensures in
    let load = c.in-Err-load_bytes.ensures in
    tags_cut (elf_value c.args.task) _ _ c.in-Err-load_bytes.cut
    (subst (λ (before : List ℕ → ℕ). LoadCutBy before (g.F.Files.read_faults c.load_bytes-2.new.files) c.args.task.tags.now c.in-Err-load_bytes.cut) first.faults load.faults)
    (load.writes ∙ first.writes) refl refl refl (load.held ∙ first.held) (load.calls ∙ ap next_count first.calls) refl refl

pub returns-in-Ok-image_of : goal.returns-in-Ok-image_of
returns-in-Ok-image_of g c =
    let first = c.in-Ok.ensures in
    let second = c.in-Ok-load_bytes.ensures in
    let image = c.in-Ok-image_of.image in
    let saving = c.save_image.ensures in
    let held = second.held ∙ first.held in
    let calls = second.calls ∙ ap next_count first.calls in
    saved (elf (elf_value c.args.task)) image _ _ (elf_saves image _ _ (elf_value c.args.task)) c.save_image.result
    (files_read (g.F.Files.held c.args.files.now) (g.F.Files.held c.load_bytes.new.files) c.args.task.elf.now c.args.task.tags.now (bytes_or_long c.in-Ok.elf)
    (bytes_or_long c.in-Ok-load_bytes.tags) (Ok image) first.held first.taken second.taken c.in-Ok-image_of.ensures)
    saving.file (λ other differs. saving.others other differs ∙ ap (λ names. names other) held)
    (λ memory. saving.memory memory ∙ held) saving.done
    (subst (λ (before : List ℕ → ℕ). WriteRoseBy before (g.F.Files.write_faults c.save_image.new.files) c.args.task.image.now c.save_image.result) (second.writes ∙ first.writes) saving.faults)
    (saving.reads ∙ second.faults ∙ first.faults) (λ memory. saving.calls memory ∙ ap next_count calls)
    (subst (λ (before : ℕ). AtMost 1 before (g.F.Files.calls c.save_image.new.files)) calls saving.at_most)
    refl refl refl refl refl

pub returns-in-Err-image_of : goal.returns-in-Err-image_of
returns-in-Err-image_of g c =
    let first = c.in-Ok.ensures in
    let second = c.in-Ok-load_bytes.ensures in
    let elf_file = bytes_or_long c.in-Ok.elf in
    let tag_file = bytes_or_long c.in-Ok-load_bytes.tags in
    both_end (elf_value c.args.task) _ _ c.in-Err-image_of.end (both_taken elf_file tag_file) c.end_early.result
    (files_read (g.F.Files.held c.args.files.now) (g.F.Files.held c.load_bytes.new.files) c.args.task.elf.now c.args.task.tags.now elf_file tag_file
    (both_taken elf_file tag_file) first.held first.taken second.taken refl)
    c.in-Err-image_of.ensures (second.faults ∙ first.faults) (second.writes ∙ first.writes) c.end_early.ensures refl refl refl
    (second.held ∙ first.held) (second.calls ∙ ap next_count first.calls) refl refl
