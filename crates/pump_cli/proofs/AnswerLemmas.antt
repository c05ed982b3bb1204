-- What a result on the way says of the answer.
use Rattle.std.proofs.Common.{◌≡◌, ◌≢◌, ℕ, Option, Some, None, Result, Ok, Err, IfOk, IfSome, refl, sym, subst, ◌∙◌, arith}
use Rattle.host_io.specs.Causes.{Rose}
use Rattle.host_io.specs.Environment.{Faults, NoFault, Environment}
use Rattle.host_io.specs.Pieces.{PutsPrefix, Taken}
use Rattle.host_io.specs.TwoSinks.{OneRose, PutFaults, on_err, on_out}
use Rattle.host_io.proofs.PrefixLemmas.{if_some_each}
use Rattle.host_io.proofs.PieceLemmas.{all_puts_are_prefix, puts_none}
use Rattle.pump_line.specs.Task.{Task}
use Rattle.pump_cli.specs.Calls.{FaultBy, FileCall, Load, LoadFault, Save, SaveFault}
use Rattle.pump_cli.specs.Codes.{IsFinal, IsOfRefusal, IsOfRun, IsSilent, status_of_refusal}
use Rattle.pump_cli.specs.Endings.{Outcome}
use Rattle.pump_cli.specs.Facts.{AllStayed, Does, Finishes, PutsFaultBy, Stayed, TaskFacts, status_in}
use Rattle.pump_cli.specs.Theorem.{Headline}
use Rattle.pump_cli.specs.declared.refusal.Refusal.{Refusal}
use Rattle.pump_cli.specs.declared.refusal.Refusal.TheVariants as refusals
use Rattle.pump_cli.specs.declared.cut.Cut.{Cut}
use Rattle.pump_cli.specs.declared.cut.Cut.TheVariants as cut
use Rattle.pump_cli.specs.declared.status.Status.{Status}
use Rattle.pump_cli.specs.declared.status.Status.TheVariants as statuses
use Rattle.pump_cli.proofs.CallLemmas.{Called}

module _ (outcome : Outcome) (before after : Taken) where
  pub does_exact : (result : Result Status Cut) → Does outcome before after result → IsFinal (status_in result)
      → Finishes outcome before after (status_in result)
  does_exact (Ok status) does final = record { puts = does.puts; ends = does.ends }
  does_exact (Err cut.ReadFailed) does final = absurd final
  does_exact (Err cut.WriteFailed) does final = absurd final
  does_exact (Err cut.InputFailed) does final = absurd final
  does_exact (Err cut.PutFailed) does final = absurd final
  does_exact (Err cut.Memory) does final = absurd final

  pub does_prefix : (result : Result Status Cut) → Does outcome before after result → PutsPrefix before after outcome.pieces
  does_prefix (Ok status) does = all_puts_are_prefix before after outcome.pieces does.puts
  does_prefix (Err cut) does = does.puts

-- a count does not both rise and stay
not_both : {P : Type 0} (before now : ℕ) → Stayed before now → Rose before now → P
not_both before now stayed rose = absurd (omega (arith, stayed.below, stayed.same, rose.raised))

-- where every count stayed, the status is a final one or running out of memory
pub none_rose : (broken : Option FileCall) (status : Status) (before now : Faults) → FaultBy broken status before now → AllStayed before now
    → status ≢ statuses.Memory → IsFinal status
none_rose broken statuses.Done before now fault stayed memory = tt
none_rose broken statuses.ExitedNonzero before now fault stayed memory = tt
none_rose broken statuses.BadWords before now fault stayed memory = tt
none_rose broken statuses.BadImage before now fault stayed memory = tt
none_rose broken statuses.BadSource before now fault stayed memory = tt
none_rose broken statuses.BadTags before now fault stayed memory = tt
none_rose broken statuses.BadElf before now fault stayed memory = tt
none_rose broken statuses.Violated before now fault stayed memory = tt
none_rose broken statuses.Faulted before now fault stayed memory = tt
none_rose broken statuses.TurnsSpent before now fault stayed memory = tt
none_rose broken statuses.TagsOut before now fault stayed memory = tt
none_rose broken statuses.ReadFailed before now fault stayed memory = no_load broken fault
  where
    no_load : (call : Option FileCall) → LoadFault call before now → IsFinal statuses.ReadFailed
    no_load None failed = absurd failed
    no_load (Some (Save name bytes)) failed = absurd failed
    no_load (Some (Load name)) failed = not_both (before.read name) (now.read name) (stayed.read name) failed.read.own
none_rose broken statuses.WriteFailed before now fault stayed memory = no_save broken fault
  where
    no_save : (call : Option FileCall) → SaveFault call before now → IsFinal statuses.WriteFailed
    no_save None failed = absurd failed
    no_save (Some (Load name)) failed = absurd failed
    no_save (Some (Save name bytes)) failed = not_both (before.write name) (now.write name) (stayed.write name) failed.write.own
none_rose broken statuses.InputFailed before now fault stayed memory = not_both before.input now.input stayed.input fault.input
none_rose broken statuses.PutFailed before now fault stayed memory = no_put fault.puts
  where
    no_put : OneRose before.puts now.puts → IsFinal statuses.PutFailed
    no_put (on_out rose same) = not_both before.puts.out now.puts.out stayed.out rose
    no_put (on_err same rose) = not_both before.puts.err now.puts.err stayed.err rose
none_rose broken statuses.Memory before now fault stayed memory = absurd (memory refl)
none_rose broken statuses.TooLong before now fault stayed memory = tt

-- nothing was put, and the call was cut short
pub does_nothing : (outcome : Outcome) (taken : Taken) (cut : Cut) → Does outcome taken taken (Err cut)
does_nothing outcome taken cut = record { puts = puts_none taken outcome.pieces; ends = tt }

-- an answer, from what was put on the way
pub answers : {I : Type 0} (due : Option Outcome) (task : Option Task) (result : Result Status Cut) (before after : Environment I)
    → IfSome due (λ outcome. Does outcome before.taken after.taken result)
    → Called task (status_in result) before after
    → (status_in result ≡ statuses.BadWords → task ≡ None)
    → (IsSilent task (status_in result) → after.taken ≡ before.taken)
    → (IsOfRefusal task (status_in result) → after.taken.out ≡ before.taken.out)
    → TaskFacts task (status_in result) before after
    → Headline due task (status_in result) before after
answers due task result before after does called words silent no_out asked = record {
  exact = λ final. if_some_each due _ _ (λ outcome done. does_exact outcome before.taken after.taken result done final) does;
  prefix = if_some_each due _ _ (λ outcome done. does_prefix outcome before.taken after.taken result done) does;
  complete = λ stayed memory. none_rose called.calls.broken (status_in result) before.faults after.faults called.faults stayed memory;
  calls = called.calls;
  faults = called.faults;
  bad_words = words;
  silent = silent;
  no_out = no_out;
  held = called.held;
  unsaved = called.unsaved;
  asked = asked;
}

-- what holds at each status that a refusal may end with
pub refusal_ends : (P : Status → Type 0) (refusal : Refusal) (before now : PutFaults) (result : Result Status Cut) → PutsFaultBy before now result
    → IfOk result (λ status. status ≡ status_of_refusal refusal)
    → P (status_of_refusal refusal) → P statuses.PutFailed → P statuses.Memory → P (status_in result)
refusal_ends P refusal before now (Ok status) fault is refused failed memory = subst P (sym is) refused
refusal_ends P refusal before now (Err cut.ReadFailed) fault is refused failed memory = absurd fault
refusal_ends P refusal before now (Err cut.WriteFailed) fault is refused failed memory = absurd fault
refusal_ends P refusal before now (Err cut.InputFailed) fault is refused failed memory = absurd fault
refusal_ends P refusal before now (Err cut.PutFailed) fault is refused failed memory = failed
refusal_ends P refusal before now (Err cut.Memory) fault is refused failed memory = memory

-- what holds at each status that a run may end with
pub run_ends : (P : Status → Type 0) (before now : PutFaults) (result : Result Status Cut) → PutsFaultBy before now result → IfOk result IsOfRun
    → ((status : Status) → IsOfRun status → P status) → P statuses.PutFailed → P statuses.Memory → P (status_in result)
run_ends P before now (Ok status) fault of_run ran failed memory = ran status of_run
run_ends P before now (Err cut.ReadFailed) fault of_run ran failed memory = absurd fault
run_ends P before now (Err cut.WriteFailed) fault of_run ran failed memory = absurd fault
run_ends P before now (Err cut.InputFailed) fault of_run ran failed memory = absurd fault
run_ends P before now (Err cut.PutFailed) fault of_run ran failed memory = failed
run_ends P before now (Err cut.Memory) fault of_run ran failed memory = memory

-- ---- the counts of a call that only put

module _ (broken : Option FileCall) (before now : Faults) where
  none_rose_is : now.read ≡ before.read → now.write ≡ before.write → now.input ≡ before.input → now.puts ≡ before.puts → NoFault before now
  none_rose_is read write input puts = λ i. record { read = read i; write = write i; input = input i; puts = puts i }

  pub puts_fault : (result : Result Status Cut) → PutsFaultBy before.puts now.puts result → now.read ≡ before.read → now.write ≡ before.write → now.input ≡ before.input
      → IfOk result (λ status. NoFault before now → FaultBy broken status before now) → FaultBy broken (status_in result) before now
  puts_fault (Ok status) fault read write input quiet = quiet (none_rose_is read write input fault)
  puts_fault (Err cut.ReadFailed) fault read write input quiet = absurd fault
  puts_fault (Err cut.WriteFailed) fault read write input quiet = absurd fault
  puts_fault (Err cut.InputFailed) fault read write input quiet = absurd fault
  puts_fault (Err cut.PutFailed) fault read write input quiet = record { read = read; write = write; input = input; puts = fault }
  puts_fault (Err cut.Memory) fault read write input quiet = none_rose_is read write input fault

  refusal_is_quiet : (refusal : Refusal) → NoFault before now → FaultBy broken (status_of_refusal refusal) before now
  refusal_is_quiet refusals.BadWords none = none
  refusal_is_quiet (refusals.BadImage error) none = none
  refusal_is_quiet (refusals.BadSource error) none = none
  refusal_is_quiet (refusals.BadTags error) none = none
  refusal_is_quiet (refusals.BadElf error) none = none
  refusal_is_quiet refusals.TooLong none = none

  pub refusal_quiet : (refusal : Refusal) (result : Result Status Cut) → IfOk result (λ status. status ≡ status_of_refusal refusal)
      → IfOk result (λ status. NoFault before now → FaultBy broken status before now)
  refusal_quiet refusal (Ok status) is =
      subst (λ (ended : Status). NoFault before now → FaultBy broken ended before now) (sym is) (refusal_is_quiet refusal)
  refusal_quiet refusal (Err cut) is = tt

  run_is_quiet : (status : Status) → IsOfRun status → NoFault before now → FaultBy broken status before now
  run_is_quiet statuses.Done of_run none = none
  run_is_quiet statuses.ExitedNonzero of_run none = none
  run_is_quiet statuses.BadWords of_run none = none
  run_is_quiet statuses.BadImage of_run none = none
  run_is_quiet statuses.BadSource of_run none = none
  run_is_quiet statuses.BadTags of_run none = none
  run_is_quiet statuses.BadElf of_run none = none
  run_is_quiet statuses.Violated of_run none = none
  run_is_quiet statuses.Faulted of_run none = none
  run_is_quiet statuses.TurnsSpent of_run none = none
  run_is_quiet statuses.TagsOut of_run none = none
  run_is_quiet statuses.ReadFailed of_run none = absurd of_run
  run_is_quiet statuses.WriteFailed of_run none = absurd of_run
  run_is_quiet statuses.InputFailed of_run none = absurd of_run
  run_is_quiet statuses.PutFailed of_run none = absurd of_run
  run_is_quiet statuses.Memory of_run none = none
  run_is_quiet statuses.TooLong of_run none = none

  pub run_quiet : (result : Result Status Cut) → IfOk result IsOfRun → IfOk result (λ status. NoFault before now → FaultBy broken status before now)
  run_quiet (Ok status) of_run = run_is_quiet status of_run
  run_quiet (Err cut) of_run = tt

-- the status of a call that nothing cut short is the one that is due
pub due_status : {I : Type 0} (due : Option Outcome) (task : Option Task) (status other : Status) (before after : Environment I) → status ≡ other
    → Headline due task status before after → IsFinal other → IfSome due (λ outcome. other ≡ outcome.status)
due_status due task status other before after is answered final =
    if_some_each due _ _ (λ outcome done. sym is ∙ done.ends) (answered.exact (subst IsFinal (sym is) final))
