-- How a workload went: its counts and its status, where it makes no turn and where it makes some.
use Rattle.std.proofs.Common.{◌≡◌, ℕ, ◌+◌, ◌*◌, Bool, true, List, [], Option, Result, Ok, Err, IfOk, ◌∷◌, refl, ap, ap₂, subst, sym, ◌∙◌}
use Rattle.host_io.specs.Causes.{PutCause}
use Rattle.host_io.specs.Prefixes.{TakesAll, TakesPrefix}
use Rattle.host_io.specs.Pieces.{Puts, out}
use Rattle.host_io.specs.TwoSinks.{on_out}
use Rattle.host_io.specs.declared.traits.sink.PutEnd.{PutEnd}
use Rattle.host_io.specs.declared.traits.sink.PutEnd.TheVariants as put_end
use Rattle.host_io.proofs.PieceLemmas.{put_on_out}
use Rattle.image_format.specs.Picture.{Picture}
use Rattle.policy_choice.specs.All.{AllState, AllTag, all, all_eq, choice_state}
use Rattle.policy_choice.specs.declared.basis.Basis.{Basis}
use Rattle.policy_trait.specs.Model.{PolicyModel}
use Rattle.turn_steps.specs.Feeds.{tape_of}
use Rattle.engine_trait.specs.Accounts.{counts_of, is_over}
use Rattle.engine_trait.specs.Standing.{Standing}
use Rattle.engine_trait.specs.declared.ends.Counts.{Counts}
use Rattle.rounds.specs.Course.{Course, hart_stops, rounds}
use Rattle.pump_loader.specs.ChosenLoads.{start_with}
use Rattle.pump_line.specs.Task.{LoadTask}
use Rattle.pump_cli.specs.Codes.{IsOfRun, code_of}
use Rattle.pump_cli.specs.Cuts.{cut_of_put}
use Rattle.pump_cli.specs.Endings.{Outcome, status_of}
use Rattle.pump_cli.specs.Facts.{Does, PutsFaultBy}
use Rattle.pump_cli.specs.Program.{basis_of, every_policy, no_counts, outcome_of_counts, outcome_of_load, outcome_of_work, run_of_load, standing_at_start}
use Rattle.pump_cli.specs.Texts.{workload_line}
use Rattle.pump_cli.specs.declared.cut.Cut.{Cut}
use Rattle.pump_cli.specs.declared.status.Status.{Status}
use Rattle.pump_cli.specs.declared.status.Status.TheVariants.{TagsOut}
use Rattle.pump_cli.proofs.SessionLemmas.{counts as fault_counts, sinks}
use Rattle.pump_cli.proofs.StartLemmas.{over_course, started_course}

-- ---- the line

abbrev put_ok : Result (Unit {0}) PutEnd
put_ok = Ok tt

abbrev put_err : PutEnd → Result (Unit {0}) PutEnd
put_err end = Err end

module _ (count : ℕ) (counts : Counts) (status : Status) (bytes : List ℕ) (text : bytes ≡ workload_line count counts (code_of status)) (before after : Option (List ℕ)) where
  line_as : (end : Result (Unit {0}) PutEnd) (err : Option (List ℕ)) → Puts (sinks before err) (sinks after err) (out bytes ∷ []) end
      → Puts (sinks before err) (sinks after err) (outcome_of_counts count counts status).pieces end
  line_as end err puts = subst (λ (told : List ℕ). Puts (sinks before err) (sinks after err) (out told ∷ []) end) text puts

  -- told as a whole
  pub line_told : TakesAll before after bytes → (err : Option (List ℕ)) → Does (outcome_of_counts count counts status) (sinks before err) (sinks after err) (Ok status)
  line_told takes err = record {
    puts = line_as (Ok tt) err (put_on_out before after err bytes (Ok tt) takes (λ e. absurd (let h : put_ok ≡ put_err put_end.Failed = e in cc)) (λ e. absurd (let h : put_ok ≡ put_err put_end.Memory = e in cc)));
    ends = refl;
  }

  -- cut while that was told
  pub line_cut : (end : PutEnd) (cut : Cut) → (put_err end ≡ Err put_end.Failed → TakesPrefix before after bytes) → (put_err end ≡ Err put_end.Memory → after ≡ before)
      → (err : Option (List ℕ)) → Does (outcome_of_counts count counts status) (sinks before err) (sinks after err) (Err cut)
  line_cut end cut failed memory err = record { puts = line_as (Err end) err (put_on_out before after err bytes (Err end) tt failed memory); ends = tt }

-- the count of puts that failed
pub line_faults : (before after : ℕ) (end : PutEnd) (cut : Cut) → cut ≡ cut_of_put end → PutCause {T = Unit {0}} before after (Err end) → (err : ℕ)
    → PutsFaultBy {A = Status} (fault_counts before err) (fault_counts after err) (Err cut)
line_faults before after end cut is cause err =
    subst (λ (why : Cut). PutsFaultBy {A = Status} (fault_counts before err) (fault_counts after err) (Err why)) (sym is) (by_end end cause)
  where
    by_end : (end : PutEnd) → PutCause {T = Unit {0}} before after (Err end) → PutsFaultBy {A = Status} (fault_counts before err) (fault_counts after err) (Err (cut_of_put end))
    by_end put_end.Failed cause = on_out cause refl
    by_end put_end.Memory cause = ap (λ (count : ℕ). fault_counts count err) cause

-- ---- the turns

-- a start that needs too many tag numbers makes no turn
pub over_work : {S T : Type 0} (e : Standing S T) (eq : T → T → Bool) (m : PolicyModel T S) (count limit : ℕ) → counts_of e.account ≡ no_counts
    → is_over e.account ≡ true → outcome_of_work count (rounds eq m limit 0 (standing_at_start e) (tape_of [])) ≡ outcome_of_counts count no_counts TagsOut
over_work {S = S} {T = T} e eq m count limit none over =
    ap (λ (course : Course S T). outcome_of_work count course) (over_course e eq m limit (tape_of []) over)
    ∙ ap (λ (counts : Counts). outcome_of_counts count counts TagsOut) none

-- the counts and the status that an engine tells after its turns
pub told_work : {S T : Type 0} (course : Course S T) (standing : Standing S T) (count : ℕ) (counts : Counts) (status : Status) → standing ≡ course.standing
    → counts ≡ counts_of standing.account → status ≡ status_of standing.account.halt (hart_stops standing.machine.core)
    → outcome_of_counts count counts status ≡ outcome_of_work count course
told_work {S = S} {T = T} course standing count counts status is counts_are status_is =
    ap₂ (outcome_of_counts count)
    (counts_are ∙ ap (λ (e : Standing S T). counts_of e.account) is)
    (status_is ∙ ap (λ (e : Standing S T). status_of e.account.halt (hart_stops e.machine.core)) is)

-- a workload ends with the status of a run
pub of_run : (status : Status) → IsOfRun status → (result : Result Status Cut) → IfOk result (λ told. told ≡ status) → IfOk result IsOfRun
of_run status kind (Ok told) is = subst IsOfRun (sym is) kind
of_run status kind (Err cut) is = tt

module _ (task : LoadTask) (picture : Picture) where
  abbrev work_from : Standing AllState AllTag → Outcome
  work_from start = outcome_of_work task.count (rounds all_eq all (10 * task.count + 4) 0 (standing_at_start start) (tape_of []))

  -- from a start that is chosen for it
  pub started_work : (basis : Basis) → basis ≡ basis_of every_policy → (start : Standing AllState AllTag)
      → start ≡ start_with all_eq all (choice_state basis picture) task.cache task.tags picture → work_from start ≡ outcome_of_load task picture
  unfolding outcome_of_load
  started_work basis on start chosen =
      ap (λ (course : Course AllState AllTag). outcome_of_work task.count course)
      (started_course all_eq all (λ (rests : Basis). choice_state rests picture) (run_of_load task) picture basis on start chosen [])
