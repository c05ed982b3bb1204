-- The answer of a task where its file ends it, and where it puts on standard output alone.
use Rattle.std.proofs.Common.{◌≡◌, ℕ, Bool, List, [], ◌∷◌, ◌++◌, Option, Some, None, Result, Err, IfOk, IfSome, refl, sym, ap, subst}
use Rattle.shared_terms.specs.Counts.{next_count}
use Rattle.host_io.specs.Environment.{Environment}
use Rattle.host_io.specs.Pieces.{Taken}
use Rattle.host_io.specs.TwoSinks.{PutFaults}
use Rattle.host_io.proofs.PrefixLemmas.{if_some_all, if_some_each}
use Rattle.pump_line.specs.Task.{Task}
use Rattle.pump_cli.specs.Calls.{FaultBy, FileCall, Load, MakesAll, calls_of_task, counted_by, held_after}
use Rattle.pump_cli.specs.Codes.{IsOfRun, IsSilent, ReadsAll, status_of_cut, status_of_refusal}
use Rattle.pump_cli.specs.Early.{EndsEarly, IsOfFile, LoadCutBy, ReadRoseBy}
use Rattle.pump_cli.specs.Endings.{Outcome}
use Rattle.pump_cli.specs.Facts.{Does, PutsFaultBy, SessionFacts, status_in}
use Rattle.pump_cli.specs.Program.{outcome_of_content, refusal_outcome}
use Rattle.pump_cli.specs.Reading.{content_of, content_read}
use Rattle.pump_cli.specs.Theorem.{HeadlineOf}
use Rattle.pump_cli.specs.declared.cut.Cut.{Cut}
use Rattle.pump_cli.specs.declared.cut.Cut.TheVariants as cut
use Rattle.pump_cli.specs.declared.reading.EarlyEnd.{EarlyEnd}
use Rattle.pump_cli.specs.declared.reading.EarlyEnd.TheVariants as early_end
use Rattle.pump_cli.specs.declared.refusal.Refusal.{Refusal}
use Rattle.pump_cli.specs.declared.status.Status.{Status}
use Rattle.pump_cli.specs.declared.status.Status.TheVariants as statuses
use Rattle.pump_cli.proofs.AnswerLemmas.{answers, does_nothing, puts_fault, refusal_ends, refusal_quiet, run_ends, run_quiet}
use Rattle.pump_cli.proofs.CallLemmas.{Called, behind_load, count_after_load, first_file, load_broken, load_counted, load_first, read_told, refused_called}
use Rattle.pump_cli.proofs.TaskLemmas.{Side, due_by_file, facts_unasked, no_session, why_refused}
use Rattle.pump_cli.proofs.SideLemmas.{OfRun, memory_is, of_cut, of_refusal, of_run_is, put_failed_is, refusal_is_told, told_as}

abbrev pub early : {A : Type 0} → EarlyEnd → Result A EarlyEnd
early end = Err end

abbrev pub refused_outcome : Refusal → Outcome
refused_outcome refusal = refusal_outcome refusal

-- what holds whatever standard output has taken holds beside what it took
pub beside : (P : Taken → Taken → Result Status Cut → Type 0) (before after : Taken) → after.out ≡ before.out → (result : Result Status Cut)
    → ((out : Option (List ℕ)) → P (record { out = out; err = before.err }) (record { out = out; err = after.err }) result) → P before after result
beside P before after same result told =
    subst (λ (out : Option (List ℕ)). P before (record { out = out; err = after.err }) result) (sym same) (told before.out)

pub beside_faults : (before after : PutFaults) → after.out ≡ before.out → (result : Result Status Cut)
    → ((out : ℕ) → PutsFaultBy (record { out = out; err = before.err }) (record { out = out; err = after.err }) result) → PutsFaultBy before after result
beside_faults before after same result told =
    subst (λ (out : ℕ). PutsFaultBy before (record { out = out; err = after.err }) result) (sym same) (told before.out)

-- ---- the content

module _ {I : Type 0} (task : Task) (before after : Environment I) where
  -- the content is refused
  pub file_refused : (refusal : Refusal) (result : Result Status Cut) → IsOfFile refusal → IfSome (content_of task before.held) (λ content. content_read task content ≡ Err refusal)
      → Does (refusal_outcome refusal) before.taken after.taken result → PutsFaultBy before.faults.puts after.faults.puts result
      → IfOk result (λ ended. ended ≡ status_of_refusal refusal)
      → after.faults.read ≡ before.faults.read → after.faults.write ≡ before.faults.write → after.faults.input ≡ before.faults.input → after.taken.out ≡ before.taken.out
      → after.held ≡ before.held → after.calls ≡ count_after_load task before.calls → after.input ≡ before.input → after.left ≡ before.left → HeadlineOf task (status_in result) before after
  file_refused refusal result of_file is does faults ends read write input_faults out held calls input left =
      let side : Side task before (status_in result) =
      refusal_ends (Side task before) refusal before.faults.puts after.faults.puts result faults ends
      (of_refusal task before refusal of_file (if_some_each (content_of task before.held) _ _ (λ content read. why_refused task content before.left refusal read) is))
      (of_cut task before cut.PutFailed) (of_cut task before cut.Memory) in
      let not_silent : (asked : Option Task) → IsSilent asked (status_in result) → ⊥ =
      λ asked. refusal_ends (λ (ended : Status). IsSilent asked ended → ⊥) refusal before.faults.puts after.faults.puts result faults ends (refusal_is_told asked refusal) (λ no. no) (λ no. no) in
      answers _ (Some task) result before after
      (due_by_file (λ outcome. Does outcome before.taken after.taken result) task (content_of task before.held) before.left refusal is does)
      (refused_called (status_in result) before after held task refusal is (told_as refusal before.faults.puts after.faults.puts result faults ends) calls
      (puts_fault None before.faults after.faults result faults read write input_faults (refusal_quiet None before.faults after.faults refusal result ends)))
      (λ words. absurd (side.words words))
      (λ silent. absurd (not_silent (Some task) silent))
      (λ refused. out)
      (facts_unasked task (status_in result) before after side.causes
      (no_session task (status_in result) before after side.not_out side.not_done (λ e. not_silent None (subst (IsSilent None) (sym e) tt)) input) input left side.not_run)

  -- it can't be had
  pub file_cut : (cut : Cut) → (status_of_cut cut ≡ statuses.InputFailed → ⊥) → Called (Some task) (status_of_cut cut) before after → after.taken ≡ before.taken
      → after.input ≡ before.input → after.left ≡ before.left → HeadlineOf task (status_of_cut cut) before after
  file_cut cut not_input called taken input left =
      let side : Side task before (status_of_cut cut) = of_cut task before cut in
      answers _ (Some task) (Err cut) before after
      (if_some_all _ _ (λ outcome. subst (λ (now : Taken). Does outcome before.taken now (Err cut)) (sym taken) (does_nothing outcome before.taken cut)))
      called (λ words. absurd (side.words words)) (λ silent. taken) (λ refused. ap (λ (now : Taken). now.out) taken)
      (facts_unasked task (status_of_cut cut) before after side.causes
      (no_session task (status_of_cut cut) before after side.not_out side.not_done not_input input) input left side.not_run)

  -- a load is cut short
  module _ (name : List ℕ) where
    pub file_fault : (cut : Cut) → LoadCutBy before.faults.read after.faults.read name cut
        → after.faults.write ≡ before.faults.write → after.faults.puts ≡ before.faults.puts → after.faults.input ≡ before.faults.input
        → FaultBy (Some (Load name)) (status_of_cut cut) before.faults after.faults
    file_fault cut.ReadFailed rose write puts input = record { read = rose; write = write; input = input; puts = puts }
    file_fault cut.WriteFailed rose write puts input = absurd rose
    file_fault cut.InputFailed rose write puts input = absurd rose
    file_fault cut.PutFailed rose write puts input = absurd rose
    file_fault cut.Memory rose write puts input = λ i. record { read = rose i; write = write i; input = input i; puts = puts i }

    pub file_not_all : (cut : Cut) → LoadCutBy before.faults.read after.faults.read name cut → MakesAll (status_of_cut cut) → ⊥
    file_not_all cut.ReadFailed rose all = all
    file_not_all cut.WriteFailed rose all = all
    file_not_all cut.InputFailed rose all = rose
    file_not_all cut.PutFailed rose all = rose
    file_not_all cut.Memory rose all = all

    -- behind these calls
    pub load_cut : (done rest : List FileCall) (cut : Cut) → done ++ Load name ∷ rest ≡ calls_of_task task (read_told task (content_of task before.held))
        → ((tells : Bool) (held : List ℕ → Option (List ℕ)) → held ≡ held_after tells done held) → LoadCutBy before.faults.read after.faults.read name cut
        → after.faults.write ≡ before.faults.write → after.faults.puts ≡ before.faults.puts → after.faults.input ≡ before.faults.input → after.taken ≡ before.taken
        → after.held ≡ before.held → after.calls ≡ next_count (counted_by done before.calls) → after.input ≡ before.input → after.left ≡ before.left
        → HeadlineOf task (status_of_cut cut) before after
    load_cut done rest cut parts keeps rose write puts input_faults taken held calls input left =
        file_cut cut (λ e. file_not_all cut rose (subst MakesAll (sym e) tt))
        (load_broken (status_of_cut cut) before after held task done name rest parts keeps (file_not_all cut rose) calls (file_fault cut rose write puts input_faults))
        taken input left

  -- the load of its one file ends the task
  module _ (name : List ℕ) (loads : first_file task ≡ Some name) where
    -- the file is refused, or that; standard output is left alone
    pub file_ends : (end : EarlyEnd) (A : Type 0) (result : Result Status Cut)
        → ((refusal : Refusal) → early {A = A} end ≡ early (early_end.Refused refusal) → IfSome (content_of task before.held) (λ content. content_read task content ≡ Err refusal))
        → ((refusal : Refusal) → early {A = A} end ≡ early (early_end.Refused refusal) → IsOfFile refusal)
        → ReadRoseBy {A = A} before.faults.read after.faults.read name (Err end) → after.faults.write ≡ before.faults.write
        → EndsEarly end before.taken.err after.taken.err before.faults.puts.err after.faults.puts.err result
        → after.taken.out ≡ before.taken.out → after.faults.puts.out ≡ before.faults.puts.out → after.faults.input ≡ before.faults.input
        → after.held ≡ before.held → after.calls ≡ count_after_load task before.calls → after.input ≡ before.input → after.left ≡ before.left → HeadlineOf task (status_in result) before after
    file_ends (early_end.Refused refusal) A result refused of_file rose write ends out out_faults input_faults held calls input left =
        file_refused refusal result (of_file refusal refl) (refused refusal refl)
        (beside (Does (refused_outcome refusal)) before.taken after.taken out result ends.does) (beside_faults before.faults.puts after.faults.puts out_faults result ends.faults)
        ends.status rose write input_faults out held calls input left
    file_ends (early_end.Cut cut) A result refused of_file rose write ends out out_faults input_faults held calls input left =
        subst (λ (done : Result Status Cut). HeadlineOf task (status_in done) before after) (sym ends.ends)
        (load_cut name [] (behind_load task (read_told task (content_of task before.held))) cut (load_first task name (read_told task (content_of task before.held)) loads)
        (λ tells names. refl) rose write (λ i. record { out = out_faults i; err = ends.faults i }) input_faults (λ i. record { out = out i; err = ends.err i })
        held (load_counted task name before.calls after.calls loads calls) input left)

-- a task that puts on standard output, and leaves the input and what files hold alone
module _ {I : Type 0} (task : Task) (before after : Environment I) where
  abbrev PutsAs : Outcome → Result Status Cut → Type 0
  PutsAs outcome result = Does outcome before.taken after.taken result

  pub put_out : (outcome : Outcome) (result : Result Status Cut)
      → (PutsAs outcome result → IfSome (outcome_of_content task (content_of task before.held) before.left) (λ due. PutsAs due result))
      → ((err : Option (List ℕ)) → Does outcome (record { out = before.taken.out; err = err }) (record { out = after.taken.out; err = err }) result)
      → ((err : ℕ) → PutsFaultBy (record { out = before.faults.puts.out; err = err }) (record { out = after.faults.puts.out; err = err }) result)
      → IfOk result IsOfRun → (FaultBy None (status_in result) before.faults after.faults → Called (Some task) (status_in result) before after) → (ReadsAll task (status_in result) → ⊥) → SessionFacts task (status_in result) before after
      → after.taken.err ≡ before.taken.err → after.faults.puts.err ≡ before.faults.puts.err
      → after.faults.read ≡ before.faults.read → after.faults.write ≡ before.faults.write → after.faults.input ≡ before.faults.input
      → after.input ≡ before.input → after.left ≡ before.left
      → HeadlineOf task (status_in result) before after
  put_out outcome result due does faults kind called not_all session err err_faults read write input_faults input left =
      let told : PutsAs outcome result
      = subst (λ (now : Option (List ℕ)). Does outcome before.taken (record { out = after.taken.out; err = now }) result) (sym err) (does before.taken.err) in
      let counted : PutsFaultBy before.faults.puts after.faults.puts result
      = subst (λ (now : ℕ). PutsFaultBy before.faults.puts (record { out = after.faults.puts.out; err = now }) result) (sym err_faults) (faults before.faults.puts.err) in
      let side : OfRun task before (status_in result)
      = run_ends (OfRun task before) before.faults.puts after.faults.puts result counted kind (of_run_is task before) (put_failed_is task before) (memory_is task before) in
      answers _ (Some task) result before after (due told)
      (called (puts_fault None before.faults after.faults result counted read write input_faults (run_quiet None before.faults after.faults result kind)))
      (λ words. absurd (side.words words)) (λ silent. absurd (side.silent silent)) (λ refused. absurd (side.refusal refused))
      (facts_unasked task (status_in result) before after side.causes session input left not_all)
