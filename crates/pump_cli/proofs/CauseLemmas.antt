-- How a run came to its status: the turns that it made, or the end of the tag numbers.
use Rattle.std.proofs.Common.{◌≡◌, ℕ, Bool, true, false, List, [], length, Option, Some, None, Result, Ok, Err, IfSome, if◌then◌else◌, refl}
use Rattle.image_format.specs.Picture.{Picture}
use Rattle.turn_steps.specs.Feeds.{tape_of}
use Rattle.turn_steps.specs.declared.stop.Stop.{Stop}
use Rattle.turn_steps.specs.declared.stop.Stop.TheVariants as stop
use Rattle.engine_trait.specs.Accounts.{Account, is_over, plain_account}
use Rattle.engine_trait.specs.declared.ends.Halt.{Halt}
use Rattle.engine_trait.specs.declared.ends.Halt.TheVariants as halt
use Rattle.policy_trait.specs.Model.{PolicyModel}
use Rattle.rounds.specs.Course.{Course, hart_stops}
use Rattle.rounds.proofs.SpentLemmas.{rounds_have_memory, rounds_spent, turn_is_next}
use Rattle.cache_size.specs.Sizes.{keeps_no_rule}
use Rattle.pump_loader.specs.Wholes.{Whole}
use Rattle.word_loader.specs.CachedStart.{cached_account}
use Rattle.pump_line.specs.Task.{RunTask, ShellTask, Task, disassemble, elf, load, run, save, shell, task_of}
use Rattle.pump_cli.specs.Endings.{Outcome, has_any, is_of, is_out, status_of, status_of_stops}
use Rattle.pump_cli.specs.Program.{after_secret, course_by, outcome_of_content, outcome_of_fed, outcome_of_image, outcome_of_input, outcome_of_load, outcome_of_picture, outcome_of_run, outcome_of_session, outcome_of_words, program, run_of_load, start_by, started_account, whole_of_run, with_secret}
use Rattle.pump_cli.specs.Reading.{ContentOf, content_of, content_read, input_read, secret_read}
use Rattle.pump_cli.specs.Runs.{AfterContent, AfterFed, AfterImage, AfterInput, AfterLines, AfterPicture, AfterSecret, AfterWords, AnySession, IsOut, IsSpent, TheRun, WithSecret}
use Rattle.pump_cli.specs.declared.ending.Kind.TheVariants.{Ready}
use Rattle.pump_cli.specs.declared.refusal.Refusal.{Refusal}
use Rattle.pump_cli.specs.declared.status.Status.{Status}
use Rattle.pump_cli.specs.declared.status.Status.TheVariants as statuses

-- ---- statuses of stops

-- the status by whether some hart has a violation, a fault, no stop, or another exit
abbrev by_kinds : Bool → Bool → Bool → Bool → Status
by_kinds violated faulted ready exited =
    if violated then statuses.Violated else
    if faulted then statuses.Faulted else
    if ready then statuses.TurnsSpent else
    if exited then statuses.ExitedNonzero else
    statuses.Done

kinds_are_not_out : (violated faulted ready exited : Bool) → statuses.TagsOut ≡ by_kinds violated faulted ready exited → ⊥
kinds_are_not_out true faulted ready exited e = let h : statuses.TagsOut ≡ statuses.Violated = e in cc
kinds_are_not_out false true ready exited e = let h : statuses.TagsOut ≡ statuses.Faulted = e in cc
kinds_are_not_out false false true exited e = let h : statuses.TagsOut ≡ statuses.TurnsSpent = e in cc
kinds_are_not_out false false false true e = let h : statuses.TagsOut ≡ statuses.ExitedNonzero = e in cc
kinds_are_not_out false false false false e = let h : statuses.TagsOut ≡ statuses.Done = e in cc

spent_is_ready : (violated faulted ready exited : Bool) → statuses.TurnsSpent ≡ by_kinds violated faulted ready exited → ready ≡ true
spent_is_ready true faulted ready exited e = absurd (let h : statuses.TurnsSpent ≡ statuses.Violated = e in cc)
spent_is_ready false true ready exited e = absurd (let h : statuses.TurnsSpent ≡ statuses.Faulted = e in cc)
spent_is_ready false false true exited e = refl
spent_is_ready false false false true e = absurd (let h : statuses.TurnsSpent ≡ statuses.ExitedNonzero = e in cc)
spent_is_ready false false false false e = absurd (let h : statuses.TurnsSpent ≡ statuses.Done = e in cc)

out_by : (out : Bool) (stops : List (Option Stop)) → statuses.TagsOut ≡ (if out then statuses.TagsOut else status_of_stops stops) → out ≡ true
unfolding status_of_stops
out_by true stops e = refl
out_by false stops e = absurd (kinds_are_not_out _ _ _ _ e)

-- where a run's turns are spent, its engine is not out and some hart is ready
record LeftReady (why : Option Halt) (stops : List (Option Stop)) : Type 0 where
  within : is_out why ≡ false
  ready : has_any Ready stops ≡ true

spent_by : (why : Option Halt) (stops : List (Option Stop)) (out : Bool) → is_out why ≡ out
    → statuses.TurnsSpent ≡ (if out then statuses.TagsOut else status_of_stops stops) → LeftReady why stops
unfolding status_of_stops
spent_by why stops true is e = absurd (let h : statuses.TurnsSpent ≡ statuses.TagsOut = e in cc)
spent_by why stops false is e = record { within = is; ready = spent_is_ready _ _ _ _ e }

-- ---- the course of a run

no_halt : (why : Option Halt) → is_out why ≡ false → (why ≡ Some halt.Memory → ⊥) → why ≡ None
no_halt None within memory = refl
no_halt (Some halt.TagNumbers) within memory = absurd (let h : true ≡ false = within in cc)
no_halt (Some halt.Memory) within memory = absurd (memory refl)

stopped_is_not_ready : (why : Stop) → is_of Ready (Some why) ≡ false
stopped_is_not_ready (stop.Exit code) = refl
stopped_is_not_ready (stop.Fault fault) = refl
stopped_is_not_ready (stop.Violation part why pc) = refl

module _ {S T : Type 0} (eq : T → T → Bool) (m : PolicyModel T S) (policy : S) (task : RunTask) (picture : Picture) where
  started_by : (over : Bool) (account : Account T) → account.halt ≡ None
      → (if over then record account { halt = Some halt.TagNumbers } else account).halt ≡ Some halt.Memory → ⊥
  started_by true account none = λ e. cc
  started_by false account none = λ e. let h : account.halt ≡ None = none in cc

  abbrev cached : Account T
  cached = cached_account eq m policy picture task.cache.sets task.cache.ways task.tags

  begins_by : (keeps_none : Bool) → (started_account (if keeps_none then plain_account else cached)).halt ≡ Some halt.Memory → ⊥
  begins_by true = started_by (is_over {T = T} plain_account) plain_account refl
  begins_by false = started_by (is_over cached) cached refl

  module _ (fed : List ℕ) where
    abbrev the_course : Course S T
    the_course = course_by eq m policy task picture fed

    abbrev EndedIn : Status → Type 0
    EndedIn status = status ≡ status_of the_course.standing.account.halt (hart_stops the_course.standing.machine.core)

    has_memory : the_course.standing.account.halt ≡ Some halt.Memory → ⊥
    has_memory = rounds_have_memory eq m task.turns 0 (start_by eq m policy task picture) (tape_of fed) (begins_by (keeps_no_rule task.cache))

    left_ready : EndedIn statuses.TurnsSpent → LeftReady the_course.standing.account.halt (hart_stops the_course.standing.machine.core)
    left_ready e = spent_by the_course.standing.account.halt (hart_stops the_course.standing.machine.core) (is_out the_course.standing.account.halt) refl e

    turns_spent : LeftReady the_course.standing.account.halt (hart_stops the_course.standing.machine.core) → length the_course.order ≡ task.turns
    turns_spent left =
        let next = turn_is_next the_course.standing (is_of Ready) stopped_is_not_ready (no_halt the_course.standing.account.halt left.within has_memory) left.ready in
        rounds_spent eq m task.turns 0 (start_by eq m policy task picture) (tape_of fed) next.0 next.1

    went_out : EndedIn statuses.TagsOut → is_out the_course.standing.account.halt ≡ true
    went_out e = out_by (is_out the_course.standing.account.halt) (hart_stops the_course.standing.machine.core) e

-- under the policies that the task chooses
module _ (task : RunTask) (secret : List ℕ) (picture : Picture) (fed : List ℕ) where
  abbrev whole : Whole
  whole = whole_of_run task secret picture

  abbrev Ended : Status → Type 0
  Ended status = EndedIn whole.eq whole.model whole.state task picture fed status

  run_spent : Ended statuses.TurnsSpent → IsSpent task secret picture fed
  run_spent e =
      let left = left_ready whole.eq whole.model whole.state task picture fed e in
      record { turns = turns_spent whole.eq whole.model whole.state task picture fed left; ready = left.ready }

  run_out : Ended statuses.TagsOut → IsOut task secret picture fed
  run_out e = went_out whole.eq whole.model whole.state task picture fed e

-- ---- the run that the words ask for

module _ (status : Status) (Ran : RunTask → List ℕ → Picture → List ℕ → Type 0)
    (each : (task : RunTask) (secret : List ℕ) (picture : Picture) (fed : List ℕ) → Ended task secret picture fed status → Ran task secret picture fed) where
  abbrev Says : Option Outcome → Type 0
  Says due = IfSome due (λ outcome. status ≡ outcome.status)

  of_fed : (task : RunTask) (secret : List ℕ) (picture : Picture) (fed : Result (List ℕ) Refusal) → status ≡ (outcome_of_fed task secret picture fed).status
      → AfterFed Ran AnySession task secret picture fed
  unfolding outcome_of_run
  of_fed task secret picture (Ok fed) says = each task secret picture fed says
  of_fed task secret picture (Err refusal) says = tt

  of_input : (task : RunTask) (secret : List ℕ) (picture : Picture) (input : Option (List ℕ)) → Says (outcome_of_input task secret picture input)
      → AfterInput Ran AnySession task secret picture input
  of_input task secret picture None says = tt
  of_input task secret picture (Some input) says = of_fed task secret picture (input_read input) says

  -- by the secret bytes
  with_read : (go : List ℕ → Option Outcome) (Goes : List ℕ → Type 0) → ((secret : List ℕ) → Says (go secret) → Goes secret)
      → (read : Result (List ℕ) Refusal) → Says (with_secret go read) → WithSecret Goes read
  with_read go Goes goes (Ok secret) says = goes secret says
  with_read go Goes goes (Err refusal) says = tt

  of_secret : (go : List ℕ → Option Outcome) (Goes : List ℕ → Type 0) → ((secret : List ℕ) → Says (go secret) → Goes secret)
      → (kept : Option (List ℕ)) → Says (after_secret go kept) → AfterSecret Goes kept
  of_secret go Goes goes None says = tt
  of_secret go Goes goes (Some bytes) says = with_read go Goes goes (secret_read bytes) says

  any_session : (task : ShellTask) (secret : List ℕ) (picture : Picture) (input : Option (List ℕ)) → AfterLines Ran AnySession task secret picture input
  any_session task secret picture None = tt
  any_session task secret picture (Some input) = tt

  of_picture : (task : Task) (content : ContentOf task) (picture : Picture) (input : Option (List ℕ)) → Says (outcome_of_picture task content picture input)
      → AfterPicture Ran AnySession task content picture input
  unfolding outcome_of_load
  of_picture (run task) files picture input says =
      of_secret (λ secret. outcome_of_input task secret picture input) (λ secret. AfterInput Ran AnySession task secret picture input)
      (λ secret said. of_input task secret picture input said) files.secret says
  of_picture (shell task) files picture input says =
      of_secret (λ secret. outcome_of_session task secret picture input) (λ secret. AfterLines Ran AnySession task secret picture input)
      (λ secret said. any_session task secret picture input) files.secret says
  of_picture (save task) content picture input says = tt
  of_picture (elf task) content picture input says = tt
  of_picture (disassemble task) content picture input says = tt
  of_picture (load task) content picture input says = each (run_of_load task) [] picture [] says

  of_image : (task : Task) (content : ContentOf task) (read : Result Picture Refusal) (input : Option (List ℕ)) → Says (outcome_of_image task content read input)
      → AfterImage Ran AnySession task content read input
  of_image task content (Ok picture) input says = of_picture task content picture input says
  of_image task content (Err refusal) input says = tt

  of_content : (task : Task) (content : Option (ContentOf task)) (input : Option (List ℕ)) → Says (outcome_of_content task content input) → AfterContent Ran AnySession task content input
  of_content task None input says = tt
  of_content task (Some content) input says = of_image task content (content_read task content) input says

  of_words : (task : Option Task) (held : List ℕ → Option (List ℕ)) (input : Option (List ℕ)) → Says (outcome_of_words task held input) → AfterWords Ran AnySession task held input
  of_words None held input says = tt
  of_words (Some task) held input says = of_content task (content_of task held) input says

  of_program : (words : List (List ℕ)) (held : List ℕ → Option (List ℕ)) (input : Option (List ℕ)) → Says (program words held input) → TheRun Ran words held input
  unfolding program TheRun
  of_program words held input says = of_words (task_of words) held input says

module _ (words : List (List ℕ)) (held : List ℕ → Option (List ℕ)) (input : Option (List ℕ)) where
  abbrev Comes : Status → Type 0
  Comes status = IfSome (program words held input) (λ outcome. status ≡ outcome.status)

  pub spent_run : Comes statuses.TurnsSpent → TheRun IsSpent words held input
  spent_run says = of_program statuses.TurnsSpent IsSpent run_spent words held input says

  pub out_run : Comes statuses.TagsOut → TheRun IsOut words held input
  out_run says = of_program statuses.TagsOut IsOut run_out words held input says
