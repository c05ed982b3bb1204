-- The answer of a task that makes an image and saves it, where its file is saved.
use Rattle.std.specs.Bool.{then_some}
use Rattle.std.proofs.Common.{◌≡◌, ◌≢◌, ℕ, ◌⊎◌, List, Some, Result, Ok, Err, IfOk, OnOk, IfSome, refl, sym, ap, subst, ◌∙◌, inl, inr}
use Rattle.shared_terms.specs.Counts.{next_count}
use Rattle.host_io.specs.Environment.{Environment}
use Rattle.host_io.specs.Pieces.{Taken}
use Rattle.image_format.specs.Picture.{Picture}
use Rattle.image_format.specs.Spelling.{spelling}
use Rattle.pump_line.specs.Task.{Task}
use Rattle.pump_cli.specs.Calls.{counted_by}
use Rattle.pump_cli.specs.Early.{WriteRoseBy}
use Rattle.pump_cli.specs.Facts.{AtMost, Does, status_in}
use Rattle.pump_cli.specs.Program.{outcome_of_saving}
use Rattle.pump_cli.specs.Reading.{content_of, content_read}
use Rattle.pump_cli.specs.Theorem.{HeadlineOf}
use Rattle.pump_cli.specs.declared.cut.Cut.{Cut}
use Rattle.pump_cli.specs.declared.cut.Cut.TheVariants as cut
use Rattle.pump_cli.specs.declared.status.Status.{Status}
use Rattle.pump_cli.specs.declared.status.Status.TheVariants as statuses
use Rattle.pump_cli.proofs.AnswerLemmas.{answers, does_nothing}
use Rattle.pump_cli.proofs.CallLemmas.{Called, Saves, save_called, save_failed, save_unmade}
use Rattle.pump_cli.proofs.TaskLemmas.{IsSaving, due_by_saving, facts_saving}

module _ {I : Type 0} (task : Task) (picture : Picture) (before after : Environment I) (saves : Saves task picture before after) where
  saving_ends : (result : Result Status Cut) → IfOk result (λ status. status ≡ statuses.Done)
      → WriteRoseBy before.faults.write after.faults.write saves.name result → IsSaving (status_in result) ⊎ (status_in result ≡ statuses.Memory)
  saving_ends (Ok status) done rose = inl (subst IsSaving (sym done) tt)
  saving_ends (Err cut.ReadFailed) done rose = absurd rose
  saving_ends (Err cut.WriteFailed) done rose = inl tt
  saving_ends (Err cut.InputFailed) done rose = absurd rose
  saving_ends (Err cut.PutFailed) done rose = absurd rose
  saving_ends (Err cut.Memory) done rose = inr refl

  -- no name but that of the image changes what it holds
  abbrev OthersKept : Type 0
  OthersKept = (other : List ℕ) → other ≢ saves.name → after.held other ≡ before.held other

  abbrev SavesAll : Result Status Cut → Type 0
  SavesAll result = Does outcome_of_saving before.taken after.taken result

  saving_does : (result : Result Status Cut) → IfOk result (λ status. status ≡ statuses.Done) → after.taken ≡ before.taken → SavesAll result
  saving_does (Ok status) done taken = record { puts = taken; ends = done }
  saving_does (Err cut) done taken = subst (λ (now : Taken). Does outcome_of_saving before.taken now (Err cut)) (sym taken) (does_nothing outcome_of_saving before.taken cut)

  saving_called : (result : Result Status Cut) → IfSome (content_of task before.held) (λ content. content_read task content ≡ Ok picture)
      → IfOk result (λ status. status ≡ statuses.Done) → OnOk result (after.held saves.name ≡ then_some before.tells (spelling picture))
      → OthersKept → (result ≡ Err cut.Memory → after.held ≡ before.held)
      → (status_in result ≢ statuses.Memory → after.calls ≡ next_count (counted_by saves.loads before.calls)) → AtMost 1 (counted_by saves.loads before.calls) after.calls
      → WriteRoseBy before.faults.write after.faults.write saves.name result → after.faults.read ≡ before.faults.read
      → after.faults.input ≡ before.faults.input → after.faults.puts ≡ before.faults.puts → Called (Some task) (status_in result) before after
  saving_called (Ok status) is done file others memory calls at_most rose read input puts =
      subst (λ (ended : Status). Called (Some task) ended before after) (sym done)
      (save_called task picture before after saves is file others (calls (λ e. let h : statuses.Done ≡ statuses.Memory = sym done ∙ e in cc))
      (λ i. record { read = read i; write = rose i; input = input i; puts = puts i }))
  saving_called (Err cut.ReadFailed) is done file others memory calls at_most rose read input puts = absurd rose
  saving_called (Err cut.WriteFailed) is done file others memory calls at_most rose read input puts =
      save_failed task picture before after saves is others (calls (λ e. let h : statuses.WriteFailed ≡ statuses.Memory = e in cc))
      (record { read = read; write = rose; input = input; puts = puts })
  saving_called (Err cut.InputFailed) is done file others memory calls at_most rose read input puts = absurd rose
  saving_called (Err cut.PutFailed) is done file others memory calls at_most rose read input puts = absurd rose
  saving_called (Err cut.Memory) is done file others memory calls at_most rose read input puts =
      save_unmade task picture before after saves is (memory refl) at_most (λ i. record { read = read i; write = rose i; input = input i; puts = puts i })

  saving_words : (status : Status) → IsSaving status ⊎ (status ≡ statuses.Memory) → status ≡ statuses.BadWords → ⊥
  saving_words status (inl saving) e = subst IsSaving e saving
  saving_words status (inr is) e = let h : statuses.Memory ≡ statuses.BadWords = sym is ∙ e in cc

  saving_no_memory : (result : Result Status Cut) → status_in result ≢ statuses.Memory → result ≡ Err cut.Memory → ⊥
  saving_no_memory result not_memory is = not_memory (ap status_in is)

  -- the file was taken, and that of the image that is made of it is saved
  pub saved : (result : Result Status Cut) → IfSome (content_of task before.held) (λ content. content_read task content ≡ Ok picture)
      → OnOk result (after.held saves.name ≡ then_some before.tells (spelling picture)) → OthersKept
      → (result ≡ Err cut.Memory → after.held ≡ before.held) → IfOk result (λ status. status ≡ statuses.Done)
      → WriteRoseBy before.faults.write after.faults.write saves.name result → after.faults.read ≡ before.faults.read
      → (result ≢ Err cut.Memory → after.calls ≡ next_count (counted_by saves.loads before.calls)) → AtMost 1 (counted_by saves.loads before.calls) after.calls
      → after.faults.input ≡ before.faults.input → after.faults.puts ≡ before.faults.puts → after.taken ≡ before.taken
      → after.input ≡ before.input → after.left ≡ before.left → HeadlineOf task (status_in result) before after
  saved result is file others memory done rose read calls at_most input_faults puts taken input left =
      let ends = saving_ends result done rose in
      answers _ (Some task) result before after
      (due_by_saving (λ outcome. Does outcome before.taken after.taken result) task (content_of task before.held) before.left picture (λ content. saves.due content before.left) is (saving_does result done taken))
      (saving_called result is done file others memory (λ not_memory. calls (saving_no_memory result not_memory)) at_most rose read input_faults puts)
      (λ words. absurd (saving_words (status_in result) ends words)) (λ silent. taken) (λ refused. ap (λ (now : Taken). now.out) taken)
      (facts_saving task (status_in result) before after ends (saves.session (status_in result)) (saves.unread (status_in result)) input left)
