-- A session that ended or was cut short, and what was told after its replies.
use Rattle.std.proofs.Common.{◌≡◌, ◌⊎◌, inl, inr, ℕ, ◌<◌, List, length, Option, Some, None, Result, Ok, Err, IfOk, OnOk, IfSome, refl, sym, subst, ap, ◌∙◌}
use Rattle.image_format.specs.Picture.{Picture}
use Rattle.host_io.specs.Pieces.{PutsAll, Taken}
use Rattle.host_io.specs.TwoSinks.{OneRose, PutFaults, on_out}
use Rattle.policy_choice.specs.declared.basis.Basis.{Basis}
use Rattle.host_io.proofs.PieceLemmas.{prefix_of_more_puts, puts_then_all, puts_then_prefix}
use Rattle.shell_turns.specs.Cuts.{PutsOut}
use Rattle.shell_script.specs.Shell.{ShellFaults}
use Rattle.pump_shell.specs.Ends.{SessionCause}
use Rattle.pump_shell.specs.Told.{RepliesSoFarOf, Told, told_of, is_over_of}
use Rattle.pump_cli.specs.Runs.{whole_of_shell}
use Rattle.pump_shell.specs.declared.ends.SessionCut.{SessionCut}
use Rattle.pump_shell.specs.declared.ends.SessionCut.TheVariants as session_cut
use Rattle.pump_shell.specs.declared.ends.SessionEnd.{SessionEnd}
use Rattle.pump_shell.specs.declared.ends.SessionEnd.TheVariants as session_end
use Rattle.pump_shell.specs.declared.setup.Setup.{Setup}
use Rattle.pump_line.specs.Task.{ShellTask}
use Rattle.pump_cli.specs.Codes.{IsOfSession}
use Rattle.pump_cli.specs.Cuts.{cut_of_session}
use Rattle.pump_cli.specs.Early.{SessionFaultBy}
use Rattle.pump_cli.specs.Facts.{Does, IsLongInput, PutsFaultBy, RepliedBefore}
use Rattle.pump_cli.specs.Program.{basis_of, is_over_at_start, outcome_of_end, outcome_of_lines, outcome_of_no_start, outcome_of_told, setup_of}
use Rattle.pump_cli.specs.Reading.{input_limit}
use Rattle.pump_cli.specs.declared.cut.Cut.{Cut}
use Rattle.pump_cli.specs.declared.cut.Cut.TheVariants as cut
use Rattle.pump_cli.specs.declared.status.Status.{Status}
use Rattle.pump_cli.specs.declared.status.Status.TheVariants.{TagsOut}
use Rattle.pump_cli.proofs.AnswerLemmas.{does_nothing}

abbrev pub sinks : Option (List ℕ) → Option (List ℕ) → Taken
sinks taken_out taken_err = record { out = taken_out; err = taken_err }

abbrev pub counts : ℕ → ℕ → PutFaults
counts puts_out puts_err = record { out = puts_out; err = puts_err }

abbrev pub session_ok : SessionEnd → Result SessionEnd SessionCut
session_ok end = Ok end

abbrev pub session_err : SessionCut → Result SessionEnd SessionCut
session_err end = Err end

abbrev pub cut_short : Cut → Result Status Cut
cut_short why = Err why

-- ---- what was put

module _ (told : Told) (old new err_old err_new : Option (List ℕ)) where
  -- the replies were put, and what comes after them was told
  replies_then : (result : Result Status Cut) → PutsAll (sinks old err_old) (sinks new err_old) told.pieces
      → Does (outcome_of_end told.end) (sinks new err_old) (sinks new err_new) result
      → Does (outcome_of_told told) (sinks old err_old) (sinks new err_new) result
  replies_then (Ok status) replies last = record {
    puts = puts_then_all (sinks old err_old) (sinks new err_old) (sinks new err_new) told.pieces _ replies last.puts;
    ends = last.ends;
  }
  replies_then (Err cut) replies last = record {
    puts = puts_then_prefix (sinks old err_old) (sinks new err_old) (sinks new err_new) told.pieces _ replies last.puts;
    ends = tt;
  }

-- ---- a session that starts on the task's basis

abbrev setup_on : ShellTask → Basis → Setup
setup_on task basis = record { basis = basis; cache = task.cache; tags = task.tags; history = task.history }

pub over_is : (task : ShellTask) (basis : Basis) (secret : List ℕ) (picture : Picture) → basis ≡ basis_of task.choice
    → is_over_of (setup_on task basis) secret picture ≡ is_over_at_start task secret picture
over_is task basis secret picture is = ap (λ (on : Basis). is_over_of (setup_on task on) secret picture) is

module _ (task : ShellTask) (basis : Basis) (basis_is : basis ≡ basis_of task.choice) (secret : List ℕ) (picture : Picture) (left old new : Option (List ℕ)) where
  abbrev told_with : List ℕ → Told
  told_with bytes = told_of (setup_on task basis) secret picture 16777216 bytes

  told_is : (bytes : List ℕ) → told_with bytes ≡ told_of (setup_of task) secret picture 16777216 bytes
  told_is bytes = ap (λ (on : Basis). told_of (setup_on task on) secret picture 16777216 bytes) basis_is

  pub session_ended : (err_old err_new : Option (List ℕ)) (end : SessionEnd) (result : Result Status Cut)
      → IfSome left (λ bytes. end ≡ (told_with bytes).end) → IfSome left (λ bytes. PutsOut old new (told_with bytes).pieces (session_ok end))
      → ((out : Option (List ℕ)) → Does (outcome_of_end end) (sinks out err_old) (sinks out err_new) result)
      → IfSome left (λ bytes. Does (outcome_of_lines task secret picture bytes) (sinks old err_old) (sinks new err_new) result)
  unfolding outcome_of_lines input_limit PutsOut
  session_ended err_old err_new end result is puts last = by left is puts
    where
      by : (known : Option (List ℕ)) → IfSome known (λ bytes. end ≡ (told_with bytes).end) → IfSome known (λ bytes. PutsOut old new (told_with bytes).pieces (session_ok end))
          → IfSome known (λ bytes. Does (outcome_of_lines task secret picture bytes) (sinks old err_old) (sinks new err_new) result)
      by None is puts = tt
      by (Some bytes) is puts =
          subst (λ (told : Told). Does (outcome_of_told told) (sinks old err_old) (sinks new err_new) result) (told_is bytes)
          (replies_then (told_with bytes) old new err_old err_new result (puts err_old)
          (subst (λ (told : SessionEnd). Does (outcome_of_end told) (sinks new err_old) (sinks new err_new) result) is (last new)))

  pub session_broken : (other : Option (List ℕ)) (end : SessionCut) (cut : Cut)
      → IfSome left (λ bytes. PutsOut old new (told_with bytes).pieces (session_err end))
      → IfSome left (λ bytes. Does (outcome_of_lines task secret picture bytes) (sinks old other) (sinks new other) (Err cut))
  unfolding outcome_of_lines input_limit PutsOut
  session_broken other end cut puts = by left puts
    where
      by : (known : Option (List ℕ)) → IfSome known (λ bytes. PutsOut old new (told_with bytes).pieces (session_err end))
          → IfSome known (λ bytes. Does (outcome_of_lines task secret picture bytes) (sinks old other) (sinks new other) (Err cut))
      by None puts = tt
      by (Some bytes) puts =
          subst (λ (told : Told). Does (outcome_of_told told) (sinks old other) (sinks new other) (Err cut)) (told_is bytes)
          (record {
            puts = prefix_of_more_puts (sinks old other) (sinks new other) (told_with bytes).pieces (outcome_of_end (told_with bytes).end).pieces (puts other);
            ends = tt;
          })

  -- one that ended with its input has read it to its end
  pub session_closed : (closed : Type 0) (end : SessionEnd) → IfSome left (λ bytes. end ≡ (told_with bytes).end) → (end ≡ session_end.InputEnd → closed)
      → IfSome left (λ bytes. (told_of (setup_of task) secret picture input_limit bytes).end ≡ session_end.InputEnd → closed)
  unfolding input_limit
  session_closed closed end is closes = by left is
    where
      by : (known : Option (List ℕ)) → IfSome known (λ bytes. end ≡ (told_with bytes).end)
          → IfSome known (λ bytes. (told_of (setup_of task) secret picture 16777216 bytes).end ≡ session_end.InputEnd → closed)
      by None is = tt
      by (Some bytes) is = λ ended. closes (is ∙ ap (λ (told : Told). told.end) (told_is bytes) ∙ ended)

  -- a read of the input failed
  pub session_replied : (left_now other : Option (List ℕ)) → RepliesSoFarOf (setup_on task basis) secret picture 16777216 left left_now old new
      → RepliedBefore (whole_of_shell task secret picture) task picture left left_now (sinks old other) (sinks new other)
  unfolding input_limit PutsOut
  session_replied left_now other replied =
      let so_far = subst (λ (on : Basis). RepliesSoFarOf (setup_on task on) secret picture 16777216 left left_now old new) basis_is replied in
      record {
        read = so_far.read;
        moved = so_far.moved;
        within = so_far.within;
        goes_on = so_far.goes_on;
        replies = so_far.replies other;
      }

-- the answers in which a read of the input failed
read_failed : (end : SessionCut) → cut_of_session end ≡ cut.InputFailed → end ≡ session_cut.ReadFailed
read_failed session_cut.ReadFailed failed = refl
read_failed session_cut.PutFailed failed = absurd (let h : cut.PutFailed ≡ cut.InputFailed = failed in cc)
read_failed session_cut.Memory failed = absurd (let h : cut.Memory ≡ cut.InputFailed = failed in cc)

pub session_read_failed : (end : SessionCut) (why : Cut) → why ≡ cut_of_session end → cut_short why ≡ cut_short cut.InputFailed
    → session_err end ≡ session_err session_cut.ReadFailed
session_read_failed end why is failed =
    let input : why ≡ cut.InputFailed = cc in
    ap session_err (read_failed end (sym is ∙ input))

-- what comes after the replies reads nothing
pub no_read_after : (before now : PutFaults) (result : Result Status Cut) → PutsFaultBy before now result → result ≡ Err cut.InputFailed → ⊥
no_read_after before now result faults failed = subst (PutsFaultBy before now) failed faults

-- a start that is out of tag numbers ends the session, whatever its input
module _ (old new err_old err_new : Option (List ℕ)) (silent : new ≡ old) where
  pub no_start_ended : (end : SessionEnd) (result : Result Status Cut) → (session_ok end ≡ Ok session_end.TagsOut) ⊎ (session_ok end ≡ Err session_cut.Memory)
      → ((out : Option (List ℕ)) → Does (outcome_of_end end) (sinks out err_old) (sinks out err_new) result)
      → Does outcome_of_no_start (sinks old err_old) (sinks new err_new) result
  no_start_ended end result (inl out) last =
      let is : end ≡ session_end.TagsOut = cc in
      subst (λ (told : Option (List ℕ)). Does outcome_of_no_start (sinks old err_old) (sinks told err_new) result) (sym silent)
      (as_told result (subst (λ (ended : SessionEnd). Does (outcome_of_end ended) (sinks old err_old) (sinks old err_new) result) is (last old)))
    where
      as_told : (done : Result Status Cut) → Does (outcome_of_end session_end.TagsOut) (sinks old err_old) (sinks old err_new) done
          → Does outcome_of_no_start (sinks old err_old) (sinks old err_new) done
      as_told (Ok status) does = record { puts = does.puts; ends = does.ends }
      as_told (Err cut) does = record { puts = does.puts; ends = tt }
  no_start_ended end result (inr memory) last = absurd (let h : session_ok end ≡ session_err session_cut.Memory = memory in cc)

  pub no_start_broken : (cut : Cut) → err_new ≡ err_old → Does outcome_of_no_start (sinks old err_old) (sinks new err_new) (Err cut)
  no_start_broken cut same =
      subst (λ (told : Taken). Does outcome_of_no_start (sinks old err_old) told (Err cut)) (λ i. sinks (sym silent i) (sym same i))
      (does_nothing outcome_of_no_start (sinks old err_old) cut)

-- the limit of the input
pub past_limit : (left : Option (List ℕ)) → IfSome left (λ bytes. 16777216 < length bytes) → IfSome left IsLongInput
unfolding input_limit
past_limit None past = tt
past_limit (Some bytes) past = past

-- ---- counts of faults

module _ (input input_now out out_now : ℕ) where
  abbrev before : ShellFaults
  before = record { input = input; out = out }

  abbrev now : ShellFaults
  now = record { input = input_now; out = out_now }

  -- what comes after the replies is told on standard error alone
  pub ended_faults : (err err_now : ℕ) (result : Result Status Cut) → now ≡ before
      → ((count : ℕ) → PutsFaultBy (counts count err) (counts count err_now) result)
      → SessionFaultBy input input_now (counts out err) (counts out_now err_now) result
  ended_faults err err_now (Ok status) same faults = (ap (λ (all : ShellFaults). all.input) same, λ i. record { out = (same i).out; err = (faults out i).err })
  ended_faults err err_now (Err cut.ReadFailed) same faults = faults out
  ended_faults err err_now (Err cut.WriteFailed) same faults = absurd (faults out)
  ended_faults err err_now (Err cut.InputFailed) same faults = absurd (faults out)
  ended_faults err err_now (Err cut.PutFailed) same faults = (
    ap (λ (all : ShellFaults). all.input) same,
    subst (λ (count : ℕ). OneRose (counts out err) (counts count err_now)) (sym (ap (λ (all : ShellFaults). all.out) same)) (faults out),
  )
  ended_faults err err_now (Err cut.Memory) same faults = (ap (λ (all : ShellFaults). all.input) same, λ i. record { out = (same i).out; err = (faults out i).err })

  pub broken_faults : (err : ℕ) (end : SessionCut) (cut : Cut) → cut ≡ cut_of_session end → SessionCause before now (session_err end)
      → SessionFaultBy {A = Status} input input_now (counts out err) (counts out_now err) (Err cut)
  broken_faults err end cut is cause =
      subst (λ (why : Cut). SessionFaultBy {A = Status} input input_now (counts out err) (counts out_now err) (Err why)) (sym is) (by end cause)
    where
      by : (end : SessionCut) → SessionCause before now (session_err end)
          → SessionFaultBy {A = Status} input input_now (counts out err) (counts out_now err) (Err (cut_of_session end))
      by session_cut.ReadFailed cause = (cause.0, λ i. counts (cause.1 i) err)
      by session_cut.PutFailed cause = (cause.0, on_out cause.1 refl)
      by session_cut.Memory cause = (ap (λ (all : ShellFaults). all.input) cause, λ i. counts (cause i).out err)

-- a start that is out of tag numbers ends a session
pub out_ends : (result : Result Status Cut) → IfOk result (λ status. status ≡ TagsOut) → IfOk result IsOfSession
out_ends (Ok status) is = subst IsOfSession (sym is) tt
out_ends (Err cut) is = tt

-- what holds in any case holds of a call that was not cut short
pub whatever : (result : Result Status Cut) (P : Type 0) → P → OnOk result P
whatever (Ok status) P holds = holds
whatever (Err cut) P holds = tt
