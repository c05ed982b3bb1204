-- The answer of `load` at each of its ends.
use Rattle.std.proofs.Common.{◌≡◌, ℕ, List, Option, Some, Result, Ok, Err, IfOk, refl, sym, subst}
use Rattle.host_io.specs.Environment.{Environment}
use Rattle.image_format.specs.Picture.{Picture}
use Rattle.workload.specs.Source.{source_of_workload}
use Rattle.pump_line.specs.Task.{LoadTask, load}
use Rattle.pump_cli.specs.Codes.{IsOfRun, status_of_cut}
use Rattle.pump_cli.specs.Early.{EndsEarly, IsOfFile}
use Rattle.pump_cli.specs.Facts.{Does, PutsFaultBy, status_in}
use Rattle.pump_cli.specs.Program.{outcome_of_load}
use Rattle.pump_cli.specs.Reading.{source_read}
use Rattle.pump_cli.specs.Theorem.{HeadlineOf}
use Rattle.pump_cli.specs.declared.cut.Cut.{Cut}
use Rattle.pump_cli.specs.declared.cut.Cut.TheVariants as cut
use Rattle.pump_cli.specs.declared.reading.EarlyEnd.{EarlyEnd}
use Rattle.pump_cli.specs.declared.reading.EarlyEnd.TheVariants as early_end
use Rattle.pump_cli.specs.declared.refusal.Refusal.{Refusal}
use Rattle.pump_cli.specs.declared.status.Status.{Status}
use Rattle.pump_cli.specs.declared.status.Status.TheVariants as statuses
use Rattle.pump_cli.proofs.CallLemmas.{none_called}
use Rattle.pump_cli.proofs.TaskLemmas.{due_by_work}
use Rattle.pump_cli.proofs.WayLemmas.{beside, beside_faults, early, file_cut, file_refused, put_out, refused_outcome}

module _ {I : Type 0} (task : LoadTask) (before after : Environment I) where
  -- the workload ran
  pub worked : (picture : Picture) (result : Result Status Cut) → source_read (source_of_workload task.count) ≡ Ok picture
      → ((err : Option (List ℕ)) → Does (outcome_of_load task picture) (record { out = before.taken.out; err = err }) (record { out = after.taken.out; err = err }) result)
      → ((err : ℕ) → PutsFaultBy (record { out = before.faults.puts.out; err = err }) (record { out = after.faults.puts.out; err = err }) result)
      → IfOk result IsOfRun → after.taken.err ≡ before.taken.err → after.faults.puts.err ≡ before.faults.puts.err
      → after.faults.read ≡ before.faults.read → after.faults.write ≡ before.faults.write → after.faults.input ≡ before.faults.input
      → after.held ≡ before.held → after.calls ≡ before.calls → after.input ≡ before.input → after.left ≡ before.left
      → HeadlineOf (load task) (status_in result) before after
  worked picture result is does faults kind err err_faults read write input_faults held calls =
      put_out (load task) before after (outcome_of_load task picture) result
      (λ told. due_by_work (λ outcome. Does outcome before.taken after.taken result) task before.left picture is told)
      does faults kind (none_called (status_in result) before after held (Some (load task)) (Ok picture) refl (sym is) (λ all. tt) calls)
      (λ all. all) tt err err_faults read write input_faults

  -- its source is refused, or memory ran out
  pub work_ends : (end : EarlyEnd) (A : Type 0) (result : Result Status Cut)
      → ((refusal : Refusal) → early {A = A} end ≡ early (early_end.Refused refusal) → source_read (source_of_workload task.count) ≡ Err refusal)
      → ((refusal : Refusal) → early {A = A} end ≡ early (early_end.Refused refusal) → IsOfFile refusal)
      → ((why : Cut) → early {A = A} end ≡ early (early_end.Cut why) → why ≡ cut.Memory)
      → EndsEarly end before.taken.err after.taken.err before.faults.puts.err after.faults.puts.err result
      → after.taken.out ≡ before.taken.out → after.faults.puts.out ≡ before.faults.puts.out
      → after.faults.read ≡ before.faults.read → after.faults.write ≡ before.faults.write → after.faults.input ≡ before.faults.input
      → after.held ≡ before.held → after.calls ≡ before.calls → after.input ≡ before.input → after.left ≡ before.left
      → HeadlineOf (load task) (status_in result) before after
  work_ends (early_end.Refused refusal) A result refused of_file memory ends out out_faults read write input_faults held calls input left =
      file_refused (load task) before after refusal result (of_file refusal refl) (refused refusal refl)
      (beside (Does (refused_outcome refusal)) before.taken after.taken out result ends.does) (beside_faults before.faults.puts after.faults.puts out_faults result ends.faults)
      ends.status read write input_faults out held calls input left
  work_ends (early_end.Cut why) A result refused of_file memory ends out out_faults read write input_faults held calls input left =
      subst (λ (done : Result Status Cut). HeadlineOf (load task) (status_in done) before after) (sym ends.ends)
      (subst (λ (cause : Cut). HeadlineOf (load task) (status_of_cut cause) before after) (sym (memory why refl))
      (file_cut (load task) before after cut.Memory (λ e. let h : statuses.Memory ≡ statuses.InputFailed = e in cc)
      (none_called statuses.Memory before after held (Some (load task)) (source_read (source_of_workload task.count)) refl refl (λ all. absurd all) calls
      (λ i. record { read = read i; write = write i; input = input_faults i; puts = record { out = out_faults i; err = ends.faults i } }))
      (λ i. record { out = out i; err = ends.err i }) input left))
