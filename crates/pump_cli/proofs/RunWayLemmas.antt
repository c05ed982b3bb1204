-- The answer of `run` at each of its ends.
use Rattle.std.proofs.Common.{◌≡◌, ℕ, ◌+◌, List, Option, Some, None, Result, Ok, Err, IfOk, IfSome, IsTrue, refl, sym, ap, subst, ◌∙◌}
use Rattle.shared_terms.specs.Counts.{next_count}
use Rattle.host_io.specs.Prefixes.{LosesPrefix}
use Rattle.host_io.specs.Environment.{Environment}
use Rattle.host_io.specs.Pieces.{Taken}
use Rattle.host_io.proofs.PrefixLemmas.{if_some_all, if_some_each}
use Rattle.image_format.specs.Picture.{Picture}
use Rattle.pump_line.specs.Task.{RunTask, run}
use Rattle.pump_cli.specs.Calls.{FaultBy, counted_by, secret_calls}
use Rattle.pump_cli.specs.Codes.{IsBeforeInput, IsOfRun, IsSilent, status_of_cut, status_of_refusal}
use Rattle.pump_cli.specs.Early.{EndsEarly, InputRoseBy}
use Rattle.pump_cli.specs.Facts.{Does, PutsFaultBy, status_in}
use Rattle.pump_cli.specs.Program.{outcome_of_run, refusal_outcome}
use Rattle.pump_cli.specs.Reading.{content_of, image_read, input_limit, input_read, secret_held, secret_read}
use Rattle.pump_cli.specs.Theorem.{HeadlineOf}
use Rattle.pump_cli.specs.declared.cut.Cut.{Cut}
use Rattle.pump_cli.specs.declared.cut.Cut.TheVariants as cut
use Rattle.pump_cli.specs.declared.reading.EarlyEnd.{EarlyEnd}
use Rattle.pump_cli.specs.declared.reading.EarlyEnd.TheVariants as early_end
use Rattle.pump_cli.specs.declared.refusal.Refusal.{Refusal}
use Rattle.pump_cli.specs.declared.refusal.Refusal.TheVariants as refusals
use Rattle.pump_cli.specs.declared.status.Status.{Status}
use Rattle.pump_cli.specs.declared.status.Status.TheVariants as statuses
use Rattle.pump_cli.proofs.AnswerLemmas.{answers, does_nothing, puts_fault, refusal_ends, refusal_quiet, run_ends, run_quiet}
use Rattle.pump_cli.proofs.CallLemmas.{Called}
use Rattle.pump_cli.proofs.SecretWayLemmas.{run_starts, start_called}
use Rattle.pump_cli.proofs.TaskLemmas.{Side, due_by_input, due_by_run, facts_asked, long_input, start_input, start_taken}
use Rattle.pump_cli.proofs.SideLemmas.{OfRun, memory_is, of_cut, of_refusal, of_run_is, put_failed_is, refusal_is_told}
use Rattle.pump_cli.proofs.WayLemmas.{beside, beside_faults, early, refused_outcome}

-- a refusal of the input comes after the input was asked for
late : (task : RunTask) (r : Refusal) → r ≡ refusals.TooLong → IsBeforeInput (run task) (status_of_refusal r) → ⊥
late task r is early = subst (λ (other : Refusal). IsBeforeInput (run task) (status_of_refusal other)) is early

-- a run comes after the input was asked for
ran_late : (task : RunTask) (s : Status) → IsOfRun s → IsBeforeInput (run task) s → ⊥
ran_late task statuses.BadWords of_run early = of_run
ran_late task statuses.BadImage of_run early = of_run
ran_late task statuses.ReadFailed of_run early = of_run
ran_late task _ of_run early = early

abbrev input_error : Refusal → Result (List ℕ) Refusal
input_error r = Err r

module _ {I : Type 0} (task : RunTask) (before after : Environment I) where
  abbrev AnsweredRun : Status → Type 0
  AnsweredRun status = HeadlineOf (run task) status before after

  abbrev kept : Option (List ℕ)
  kept = secret_held task.choice task.secret before.held

  module _ (picture : Picture) (is : IfSome (before.held task.image) (λ bytes. image_read bytes ≡ Ok picture)) (secret : List ℕ)
      (kept_is : IfSome kept (λ bytes. secret_read bytes ≡ Ok secret)) (held : after.held ≡ before.held)
      (calls : after.calls ≡ counted_by (secret_calls task.choice task.secret) (next_count before.calls)) (moved : LosesPrefix before.left after.left (input_limit + 4096)) (read : after.faults.read ≡ before.faults.read) (write : after.faults.write ≡ before.faults.write) where
    abbrev SideOfRun : Status → Type 0
    SideOfRun status = Side (run task) before status

    -- the image and the secret bytes were loaded
    run_called : (status : Status) → FaultBy None status before.faults after.faults → Called (Some (run task)) status before after
    run_called status faults = start_called (run task) before after (run_starts before task) picture is held calls status faults

    run_taken : IfSome (content_of (run task) before.held) (λ files. image_read files.image ≡ Ok picture)
    run_taken = start_taken (before.held task.image) kept picture is

    input_refusal : (refusal : Refusal) → refusal ≡ refusals.TooLong → IfSome before.left (λ all. input_read all ≡ Err refusal) → SideOfRun (status_of_refusal refusal)
    input_refusal refusal long_is long =
        subst (λ (other : Refusal). SideOfRun (status_of_refusal other)) (sym long_is)
        (of_refusal (run task) before refusals.TooLong tt
        (start_input (before.held task.image) kept before.left (if_some_each before.left _ _ (λ all read. long_input all (read ∙ ap (λ (r : Refusal). input_error r) long_is)) long)))

    -- the input is refused
    pub input_refused : (refusal : Refusal) (result : Result Status Cut) → refusal ≡ refusals.TooLong → IfSome before.left (λ all. input_read all ≡ Err refusal)
        → Does (refusal_outcome refusal) before.taken after.taken result → PutsFaultBy before.faults.puts after.faults.puts result
        → IfOk result (λ ended. ended ≡ status_of_refusal refusal) → after.faults.input ≡ before.faults.input → after.taken.out ≡ before.taken.out → AnsweredRun (status_in result)
    input_refused refusal result long_is long does faults ends input_faults out =
        let side : SideOfRun (status_in result) =
        refusal_ends SideOfRun refusal before.faults.puts after.faults.puts result faults ends
        (input_refusal refusal long_is long) (of_cut (run task) before cut.PutFailed) (of_cut (run task) before cut.Memory) in
        answers _ (Some (run task)) result before after
        (due_by_input (λ outcome. Does outcome before.taken after.taken result) task (before.held task.image) kept before.left picture secret is kept_is refusal long does)
        (run_called (status_in result) (puts_fault None before.faults after.faults result faults read write input_faults (refusal_quiet None before.faults after.faults refusal result ends)))
        (λ words. absurd (side.words words))
        (λ silent. absurd (refusal_ends (λ (ended : Status). IsSilent (Some (run task)) ended → ⊥) refusal before.faults.puts after.faults.puts result faults ends (refusal_is_told (Some (run task)) refusal) (λ no. no) (λ no. no) silent))
        (λ refused. out)
        (facts_asked (run task) (status_in result) before after side.causes tt picture run_taken moved
        (λ early. absurd (refusal_ends (λ (ended : Status). IsBeforeInput (run task) ended → ⊥) refusal before.faults.puts after.faults.puts result faults ends (late task refusal long_is) (λ no. no) (λ no. no) early))
        (λ all. absurd (side.not_run all)))

    -- the reading of the input is cut short
    input_fault : (cut : Cut) (A : Type 0) → InputRoseBy {A = A} before.faults.input after.faults.input (Err (early_end.Cut cut))
        → after.faults.puts ≡ before.faults.puts → FaultBy None (status_of_cut cut) before.faults after.faults
    input_fault cut.ReadFailed A rose puts = absurd rose
    input_fault cut.WriteFailed A rose puts = absurd rose
    input_fault cut.InputFailed A rose puts = record { read = read; write = write; input = rose; puts = puts }
    input_fault cut.PutFailed A rose puts = absurd rose
    input_fault cut.Memory A rose puts = λ i. record { read = read i; write = write i; input = rose i; puts = puts i }

    not_early : (cut : Cut) (A : Type 0) → InputRoseBy {A = A} before.faults.input after.faults.input (Err (early_end.Cut cut)) → IsBeforeInput (run task) (status_of_cut cut) → ⊥
    not_early cut.ReadFailed A rose early = rose
    not_early cut.WriteFailed A rose early = rose
    not_early cut.InputFailed A rose early = early
    not_early cut.PutFailed A rose early = early
    not_early cut.Memory A rose early = early

    pub input_cut : (cut : Cut) (A : Type 0) → InputRoseBy {A = A} before.faults.input after.faults.input (Err (early_end.Cut cut))
        → after.faults.puts ≡ before.faults.puts → after.taken ≡ before.taken → AnsweredRun (status_of_cut cut)
    input_cut cut A rose puts taken =
        let side : SideOfRun (status_of_cut cut) = of_cut (run task) before cut in
        answers _ (Some (run task)) (Err cut) before after
        (if_some_all _ _ (λ outcome. subst (λ (now : Taken). Does outcome before.taken now (Err cut)) (sym taken) (does_nothing outcome before.taken cut)))
        (run_called (status_of_cut cut) (input_fault cut A rose puts)) (λ words. absurd (side.words words)) (λ silent. taken) (λ refused. ap (λ (now : Taken). now.out) taken)
        (facts_asked (run task) (status_of_cut cut) before after side.causes tt picture run_taken moved (λ early. absurd (not_early cut A rose early)) (λ all. absurd (side.not_run all)))

    -- either of them
    pub input_ends : (end : EarlyEnd) (A : Type 0) (result : Result Status Cut)
        → ((refusal : Refusal) → early {A = A} end ≡ early (early_end.Refused refusal) → IfSome before.left (λ all. input_read all ≡ Err refusal))
        → ((refusal : Refusal) → early {A = A} end ≡ early (early_end.Refused refusal) → refusal ≡ refusals.TooLong)
        → InputRoseBy {A = A} before.faults.input after.faults.input (Err end)
        → EndsEarly end before.taken.err after.taken.err before.faults.puts.err after.faults.puts.err result
        → after.taken.out ≡ before.taken.out → after.faults.puts.out ≡ before.faults.puts.out → AnsweredRun (status_in result)
    input_ends (early_end.Refused refusal) A result refused long rose ends out out_faults =
        input_refused refusal result (long refusal refl) (refused refusal refl)
        (beside (Does (refused_outcome refusal)) before.taken after.taken out result ends.does) (beside_faults before.faults.puts after.faults.puts out_faults result ends.faults)
        ends.status rose out
    input_ends (early_end.Cut cut) A result refused long rose ends out out_faults =
        subst (λ (done : Result Status Cut). AnsweredRun (status_in done)) (sym ends.ends)
        (input_cut cut A rose (λ i. record { out = out_faults i; err = ends.faults i }) (λ i. record { out = out i; err = ends.err i }))

    -- the image runs
    pub ran : (fed : List ℕ) (result : Result Status Cut) → IfSome before.left (λ all. input_read all ≡ Ok fed)
        → Does (outcome_of_run task secret picture fed) before.taken after.taken result → PutsFaultBy before.faults.puts after.faults.puts result
        → IfOk result IsOfRun → after.faults.input ≡ before.faults.input → IsTrue after.closed → AnsweredRun (status_in result)
    ran fed result taken does faults kind input_faults closed =
        let side : OfRun (run task) before (status_in result) =
        run_ends (OfRun (run task) before) before.faults.puts after.faults.puts result faults kind (of_run_is (run task) before) (put_failed_is (run task) before) (memory_is (run task) before) in
        answers _ (Some (run task)) result before after
        (due_by_run (λ outcome. Does outcome before.taken after.taken result) task (before.held task.image) kept before.left picture secret is kept_is fed taken does)
        (run_called (status_in result) (puts_fault None before.faults after.faults result faults read write input_faults (run_quiet None before.faults after.faults result kind)))
        (λ words. absurd (side.words words)) (λ silent. absurd (side.silent silent)) (λ refused. absurd (side.refusal refused))
        (facts_asked (run task) (status_in result) before after side.causes tt picture run_taken moved
        (λ early. absurd (run_ends (λ (ended : Status). IsBeforeInput (run task) ended → ⊥) before.faults.puts after.faults.puts result faults kind (ran_late task) (λ no. no) (λ no. no) early))
        (λ of_run. closed))
