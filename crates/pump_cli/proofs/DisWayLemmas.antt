-- The answer of `dis` where the words of its image are listed.
use Rattle.std.proofs.Common.{◌≡◌, ℕ, List, Option, Result, Ok, Err, IfOk, IfSome, refl, sym, subst}
use Rattle.shared_terms.specs.Counts.{next_count}
use Rattle.host_io.specs.Environment.{Environment}
use Rattle.image_format.specs.Picture.{Picture}
use Rattle.pump_line.specs.Request.{DisassembleTask}
use Rattle.pump_line.specs.Task.{disassemble}
use Rattle.pump_cli.specs.Codes.{IsOfRun}
use Rattle.pump_cli.specs.Facts.{Does, PutsFaultBy, status_in}
use Rattle.pump_cli.specs.Program.{outcome_of_listing}
use Rattle.pump_cli.specs.Reading.{image_read}
use Rattle.pump_cli.specs.Theorem.{HeadlineOf}
use Rattle.pump_cli.specs.declared.cut.Cut.{Cut}
use Rattle.pump_cli.specs.declared.status.Status.{Status}
use Rattle.pump_cli.specs.declared.status.Status.TheVariants as statuses
use Rattle.pump_cli.proofs.CallLemmas.{load_called}
use Rattle.pump_cli.proofs.TaskLemmas.{due_by_listing}
use Rattle.pump_cli.proofs.WayLemmas.{put_out}

-- a call that is done ends as a run may
done_is : (result : Result Status Cut) → IfOk result (λ status. status ≡ statuses.Done) → IfOk result IsOfRun
done_is (Ok status) done = subst IsOfRun (sym done) tt
done_is (Err cut) done = tt

module _ {I : Type 0} (task : DisassembleTask) (before after : Environment I) where
  -- the image's words are listed
  pub listed : (picture : Picture) (result : Result Status Cut) → IfSome (before.held task.image) (λ bytes. image_read bytes ≡ Ok picture)
      → ((err : Option (List ℕ)) → Does (outcome_of_listing picture) (record { out = before.taken.out; err = err }) (record { out = after.taken.out; err = err }) result)
      → ((err : ℕ) → PutsFaultBy (record { out = before.faults.puts.out; err = err }) (record { out = after.faults.puts.out; err = err }) result)
      → IfOk result (λ status. status ≡ statuses.Done) → after.taken.err ≡ before.taken.err → after.faults.puts.err ≡ before.faults.puts.err
      → after.faults.read ≡ before.faults.read → after.faults.write ≡ before.faults.write → after.faults.input ≡ before.faults.input
      → after.held ≡ before.held → after.calls ≡ next_count before.calls → after.input ≡ before.input → after.left ≡ before.left
      → HeadlineOf (disassemble task) (status_in result) before after
  listed picture result is does faults done err err_faults read write input_faults held calls =
      put_out (disassemble task) before after (outcome_of_listing picture) result
      (λ told. due_by_listing (λ outcome. Does outcome before.taken after.taken result) task (before.held task.image) before.left picture is told)
      does faults (done_is result done) (load_called (status_in result) before after held (disassemble task) (Ok picture) task.image refl is (λ all. tt) calls)
      (λ all. all) tt err err_faults read write input_faults
