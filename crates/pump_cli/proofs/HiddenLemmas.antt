-- What a run shows is the same whatever its secret file holds.
use Rattle.std.proofs.Common.{◌≡◌, ℕ, ◌≤◌, Bool, true, false, List, [], length, nat_le, Option, Some, None, Result, Ok, Err, if◌then◌else◌, arith, refl, ap, sym, ◌∙◌}
use Rattle.std.proofs.lemmas.Bool.Decides.{nat_tests}
use Rattle.host_io.specs.Bytes.{AreBytes, TellBytes}
use Rattle.image_format.specs.Conditions.{IsImage}
use Rattle.image_format.specs.Picture.{Picture}
use Rattle.turn_steps.specs.Feeds.{tape_of}
use Rattle.undo_log.specs.Past.{past_of}
use Rattle.engine_trait.specs.Accounts.{Account, is_over, plain_account}
use Rattle.engine_trait.specs.Standing.{Standing}
use Rattle.engine_trait.specs.declared.ends.Halt.TheVariants as halt
use Rattle.cache_size.specs.Sizes.{keeps_no_rule}
use Rattle.word_loader.specs.CachedStart.{cached_account}
use Rattle.tag_loader.specs.Start.{start_harts, start_tags}
use Rattle.pump_loader.specs.Wholes.{HiddenState, HiddenTag, hidden, hidden_eq, hidden_state, whole_if}
use Rattle.pump_line.specs.Task.{RunTask, Task, run, task_of}
use Rattle.secret_runs.specs.Pairs.{SameBeside, shows}
use Rattle.secret_runs.specs.Same.{AlikeStandings}
use Rattle.secret_runs.proofs.RoundsLemmas.{rounds_alike}
use Rattle.secret_props.proofs.HiddenLemmas.{AlikeHiddenPlans, hidden_hides}
use Rattle.secret_props.proofs.StartLemmas.{starts_alike}
use Rattle.pump_cli.specs.Endings.{Outcome}
use Rattle.pump_cli.specs.Hidden.{DifferInSecret, IsTaken}
use Rattle.pump_cli.specs.Program.{after_secret, basis_of, course_under, outcome_of_content, outcome_of_fed, outcome_of_image, outcome_of_input, outcome_of_run, outcome_of_words, program, start_by, with_secret}
use Rattle.pump_cli.specs.Reading.{file_limit, image_read, input_read, secret_held, secret_read}
use Rattle.pump_cli.specs.declared.refusal.Refusal.{Refusal}
use Rattle.pump_cli.specs.declared.refusal.Refusal.TheVariants as refusals
use Rattle.pump_cli.proofs.BareLemmas.{chosen_outcome, same_outcome}
use Rattle.pump_cli.proofs.EachRunLemmas.{file_is_image}
use Rattle.pump_cli.proofs.TaskLemmas.{start_from}

module _ (task : RunTask) (is_chosen : task.choice.secret ≡ true) (g : Picture) where
  module _ (is : IsImage g) (one other : List ℕ) where
    abbrev from : List ℕ → Standing HiddenState HiddenTag
    from bytes = start_by hidden_eq hidden (hidden_state (basis_of task.choice) bytes g) task g

    -- a run remembers no turn, whether rules are kept or not, and whether its start is out of tag numbers or not
    forgets_by : (none over : Bool) (kept : Account HiddenTag) → kept.past ≡ past_of [] 0
        → (let account = if none then plain_account else kept in if over then record account { halt = Some halt.TagNumbers } else account).past ≡ past_of [] 0
    forgets_by true true kept is = refl
    forgets_by true false kept is = refl
    forgets_by false true kept is = is
    forgets_by false false kept is = is

    starts : AlikeStandings shows SameBeside (from one) (from other)
    unfolding start_harts start_tags
    starts =
        let kept = cached_account hidden_eq hidden (hidden_state (basis_of task.choice) one g) g task.cache.sets task.cache.ways task.tags in
        let account = if keeps_no_rule task.cache then plain_account else kept in
        record {
          machine = starts_alike (basis_of task.choice) g is one other;
          account = refl;
          forgets = forgets_by (keeps_no_rule task.cache) (is_over account) kept refl;
        }

    pub hidden_run : (fed : List ℕ) → outcome_of_run task other g fed ≡ outcome_of_run task one g fed
    hidden_run fed =
        sym (chosen_outcome task other g fed true is_chosen)
        ∙ same_outcome (course_under (whole_if true (basis_of task.choice) one g) task g fed) (course_under (whole_if true (basis_of task.choice) other g) task g fed)
        (rounds_alike shows hidden SameBeside AlikeHiddenPlans hidden_hides hidden_eq task.turns 0 (from one) (from other) (tape_of fed) starts)
        ∙ chosen_outcome task one g fed true is_chosen

    hidden_fed : (fed : Result (List ℕ) Refusal) → outcome_of_fed task other g fed ≡ outcome_of_fed task one g fed
    hidden_fed (Ok fed) = hidden_run fed
    hidden_fed (Err refusal) = refl

    hidden_input : (input : Option (List ℕ)) → outcome_of_input task other g input ≡ outcome_of_input task one g input
    hidden_input None = refl
    hidden_input (Some input) = ap (λ (outcome : Outcome). Some outcome) (hidden_fed (input_read input))

  -- the secret bytes are taken
  is_read : (bytes : List ℕ) → length bytes ≤ file_limit → secret_read bytes ≡ Ok bytes
  unfolding secret_read
  is_read bytes short = by (nat_le (length bytes) file_limit) (grind (arith, nat_tests, short))
    where
      by : (fits : Bool) → fits ≡ true → (if fits then Ok bytes else Err refusals.TooLong) ≡ Ok bytes
      by fits is = ap (λ so. if so then Ok bytes else Err refusals.TooLong) is

  after_taken : (go : List ℕ → Option Outcome) (bytes : List ℕ) → length bytes ≤ file_limit → after_secret go (Some bytes) ≡ go bytes
  after_taken go bytes short = ap (with_secret go) (is_read bytes short)

  hidden_secret : (is : IsImage g) (input : Option (List ℕ)) (kept others : Option (List ℕ)) → IsTaken kept → IsTaken others
      → after_secret (λ secret. outcome_of_input task secret g input) others ≡ after_secret (λ secret. outcome_of_input task secret g input) kept
  hidden_secret is input None others taken others_taken = absurd taken
  hidden_secret is input (Some one) None taken others_taken = absurd others_taken
  hidden_secret is input (Some one) (Some other) taken others_taken =
      after_taken (λ secret. outcome_of_input task secret g input) other others_taken
      ∙ hidden_input is one other input
      ∙ sym (after_taken (λ secret. outcome_of_input task secret g input) one taken)

module _ (task : RunTask) (is_chosen : task.choice.secret ≡ true) (kept others : Option (List ℕ)) (taken : IsTaken kept) (others_taken : IsTaken others)
    (input : Option (List ℕ)) where
  hidden_image : (bytes : List ℕ) (read : Result Picture Refusal) → ((g : Picture) → read ≡ Ok g → IsImage g)
      → outcome_of_image (run task) (record { image = bytes; secret = others }) read input ≡ outcome_of_image (run task) (record { image = bytes; secret = kept }) read input
  hidden_image bytes (Ok g) is = hidden_secret task is_chosen g (is g refl) input kept others taken others_taken
  hidden_image bytes (Err refusal) is = refl

  hidden_content : (told : Option (List ℕ)) → ((bytes : List ℕ) → told ≡ Some bytes → AreBytes bytes)
      → outcome_of_content (run task) (start_from told others) input ≡ outcome_of_content (run task) (start_from told kept) input
  hidden_content None are_bytes = refl
  hidden_content (Some bytes) are_bytes = hidden_image bytes (image_read bytes) (λ g read. file_is_image bytes g (are_bytes bytes refl) read)

pub hides_secret : (words : List (List ℕ)) (task : RunTask) (held other : List ℕ → Option (List ℕ)) (input : Option (List ℕ)) → TellBytes held
    → task_of words ≡ Some (run task) → task.choice.secret ≡ true → DifferInSecret task held other → program words other input ≡ program words held input
unfolding program
hides_secret words task held other input tells asks is_chosen differ =
    ap (λ (asked : Option Task). outcome_of_words asked other input) asks
    ∙ ap (λ (told : Option (List ℕ)). outcome_of_content (run task) (start_from told (secret_held task.choice task.secret other)) input) differ.image
    ∙ hidden_content task is_chosen (secret_held task.choice task.secret held) (secret_held task.choice task.secret other) differ.one_taken differ.other_taken input
    (held task.image) (λ bytes told. tells task.image bytes told)
    ∙ sym (ap (λ (asked : Option Task). outcome_of_words asked held input) asks)
