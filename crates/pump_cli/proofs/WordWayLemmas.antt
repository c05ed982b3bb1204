-- The answer of words: by the task that they ask for, or where they ask for none.
use Rattle.std.proofs.Common.{◌≡◌, ℕ, List, Option, Some, None, Result, Err, refl, sym, subst}
use Rattle.host_io.specs.Environment.{Environment}
use Rattle.host_io.proofs.PrefixLemmas.{if_some_all}
use Rattle.pump_line.specs.Task.{Task, task_of}
use Rattle.pump_cli.specs.Codes.{IsSilent}
use Rattle.pump_cli.specs.Early.{Tells}
use Rattle.pump_cli.specs.Endings.{Outcome}
use Rattle.pump_cli.specs.Facts.{Does, TaskFacts, status_in}
use Rattle.pump_cli.specs.Program.{outcome_of_words, program}
use Rattle.pump_cli.specs.Theorem.{Headline, HeadlineOf}
use Rattle.pump_cli.specs.declared.cut.Cut.{Cut}
use Rattle.pump_cli.specs.declared.cut.Cut.TheVariants as cut
use Rattle.pump_cli.specs.declared.refusal.Refusal.TheVariants as refusals
use Rattle.pump_cli.specs.declared.status.Status.{Status}
use Rattle.pump_cli.specs.declared.status.Status.TheVariants as statuses
use Rattle.pump_cli.proofs.AnswerLemmas.{answers, does_nothing, puts_fault, refusal_ends, refusal_quiet}
use Rattle.pump_cli.proofs.CallLemmas.{none_called, unread_called}
use Rattle.pump_cli.proofs.TaskLemmas.{facts_none}
use Rattle.pump_cli.proofs.SideLemmas.{refusal_is_told, told_as}
use Rattle.pump_cli.proofs.WayLemmas.{beside, beside_faults, refused_outcome}

-- what is done of a task is what is done of the one that it is
pub done_as : {I : Type 0} (task other : Task) (status : Status) (before after : Environment I) → task ≡ other
    → HeadlineOf other status before after → HeadlineOf task status before after
done_as task other status before after is done = subst (λ (one : Task). HeadlineOf one status before after) (sym is) done

module _ {I : Type 0} (words : List (List ℕ)) (before after : Environment I) where
  -- the words ask for that, or for nothing
  pub asked_as : (asked : Option Task) (status : Status) → task_of words ≡ asked
      → Headline (outcome_of_words asked before.held before.left) asked status before after
      → Headline (program words before.held before.left) (task_of words) status before after
  unfolding program
  asked_as asked status is answered =
      subst (λ (task : Option Task). Headline (outcome_of_words task before.held before.left) task status before after) (sym is) answered

  -- they are refused
  pub words_refused : (result : Result Status Cut) → task_of words ≡ None
      → Tells refusals.BadWords before.taken.err after.taken.err before.faults.puts.err after.faults.puts.err result
      → after.taken.out ≡ before.taken.out → after.faults.puts.out ≡ before.faults.puts.out → after.faults.read ≡ before.faults.read → after.faults.write ≡ before.faults.write
      → after.faults.input ≡ before.faults.input → after.held ≡ before.held → after.calls ≡ before.calls → after.input ≡ before.input
      → Headline (program words before.held before.left) (task_of words) (status_in result) before after
  words_refused result is tells out out_faults read write input_faults held calls input =
      let faults = beside_faults before.faults.puts after.faults.puts out_faults result tells.faults in
      asked_as None (status_in result) is
      (answers _ None result before after
      (beside (Does (refused_outcome refusals.BadWords)) before.taken after.taken out result tells.does)
      (none_called (status_in result) before after held None (Err refusals.BadWords) refl refl (told_as refusals.BadWords before.faults.puts after.faults.puts result faults tells.status) calls
      (puts_fault None before.faults after.faults result faults read write input_faults (refusal_quiet None before.faults after.faults refusals.BadWords result tells.status)))
      (λ words. refl)
      (λ silent. absurd (refusal_ends (λ (ended : Status). IsSilent None ended → ⊥) refusals.BadWords before.faults.puts after.faults.puts result faults tells.status (refusal_is_told None refusals.BadWords) (λ no. no) (λ no. no) silent))
      (λ refused. out) input)

-- memory ran out before they were read
none_asked : {I : Type 0} (asked : Option Task) (before : Environment I) → TaskFacts asked statuses.Memory before before
none_asked None before = refl
none_asked (Some task) before = facts_none task before

pub words_unread : {I : Type 0} (due : Option Outcome) (asked : Option Task) (before : Environment I) → Headline due asked statuses.Memory before before
words_unread due asked before =
    answers due asked (Err cut.Memory) before before
    (if_some_all due _ (λ outcome. does_nothing outcome before.taken cut.Memory)) (unread_called asked before)
    (λ words. absurd (let h : statuses.Memory ≡ statuses.BadWords = words in cc)) (λ silent. absurd silent) (λ refused. absurd refused) (none_asked asked before)
