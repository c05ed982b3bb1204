-- Where no policy is chosen, a run under the policy that is nothing is the one that is due.
use Rattle.std.proofs.Common.{◌≡◌, ℕ, ◌≤◌, nat_lt, Bool, true, false, not, ◌&&◌, List, length, ◌++◌, refl, ap, sym, ◌∙◌, if◌then◌else◌}
use Rattle.std.proofs.lemmas.Bool.{le-ltb}
use Rattle.image_format.specs.Picture.{Picture}
use Rattle.turn_steps.specs.Feeds.{tape_of}
use Rattle.engine_trait.specs.Accounts.{is_over}
use Rattle.engine_trait.specs.Standing.{Standing}
use Rattle.policy_choice.specs.All.{AllState, AllTag, all, all_eq, choice_state}
use Rattle.policy_choice.specs.Choice.{is_none}
use Rattle.policy_product.specs.Nothing.{nothing, no_tag}
use Rattle.rounds.specs.Course.{Course, rounds}
use Rattle.rounds.specs.Same.{ShowsSame}
use Rattle.rounds.proofs.MirrorLemmas.{rounds_same}
use Rattle.policy_choice.specs.declared.basis.Basis.{Basis}
use Rattle.policy_choice.specs.declared.choice.Choice.{Choice}
use Rattle.cache_size.specs.Sizes.{keeps_no_rule}
use Rattle.pump_loader.specs.ChosenLoads.{start_with}
use Rattle.pump_loader.specs.PlainLoads.{bare_start_of, start_of}
use Rattle.pump_loader.specs.Wholes.{whole_if}
use Rattle.pump_loader.proofs.BareLemmas.{bare_start_mirrors}
use Rattle.pump_line.specs.Task.{RunTask}
use Rattle.pump_cli.specs.Endings.{Outcome, last_pieces, outcome_of_course, status_of}
use Rattle.pump_cli.specs.Program.{basis_of, course_by, course_under, outcome_of_run, standing_at_start}
use Rattle.pump_cli.proofs.NoneRunLemmas.{four_cached, none_runs, none_start}
use Rattle.pump_cli.proofs.StartLemmas.{started_outcome, started_within}

-- whether two tags are the same, where there is but one
abbrev pub one_eq : Unit {0} → Unit {0} → Bool
one_eq tag other = true

-- two courses that show the same have the same outcome
pub same_outcome : {S T U V : Type 0} (course : Course S T) (other : Course V U) → ShowsSame course other → outcome_of_course other ≡ outcome_of_course course
same_outcome course other same = λ j. record {
  pieces = same.shown j ++ last_pieces (same.halt j) (same.stops j);
  status = status_of (same.halt j) (same.stops j);
}

-- ---- the run of a task, by whether secrecy is chosen

module _ (task : RunTask) (secret : List ℕ) (picture : Picture) (fed : List ℕ) where
  abbrev pub outcome_if : Bool → Outcome
  outcome_if hidden = outcome_of_course (course_under (whole_if hidden (basis_of task.choice) secret picture) task picture fed)

  -- the run under the policies that this is the choice of is the task's
  pub chosen_outcome : (hidden : Bool) → task.choice.secret ≡ hidden → outcome_if hidden ≡ outcome_of_run task secret picture fed
  unfolding outcome_of_run
  chosen_outcome hidden is = ap outcome_if (sym is)

-- where no policy is chosen, secrecy is not
secret_off : (seal comp flow on_heap hidden : Bool) → (not seal && not comp && not flow && not on_heap && not hidden) ≡ true → hidden ≡ false
secret_off seal comp flow on_heap false none = refl
secret_off true comp flow on_heap true none = absurd (cc none)
secret_off false true flow on_heap true none = absurd (cc none)
secret_off false false true on_heap true none = absurd (cc none)
secret_off false false false true true none = absurd (cc none)
secret_off false false false false true none = absurd (cc none)

none_off : (choice : Choice) → is_none choice ≡ true → choice.secret ≡ false
none_off choice none = secret_off choice.seal choice.comp choice.flow choice.heap choice.secret none

-- ---- the run under nothing

module _ (task : RunTask) (picture : Picture) (fed : List ℕ) (none : is_none task.choice ≡ true) (some_tags : 1 ≤ task.tags) where
  abbrev cached : Standing AllState AllTag
  cached = four_cached (basis_of task.choice) task.cache task.tags picture

  -- one tag alone has a word at the start
  within : is_over cached.account ≡ false
  within =
      ap (λ (seen : List AllTag). nat_lt task.tags (length seen)) (none_start (basis_of task.choice) picture none) ∙ le-ltb task.tags 1 some_tags

  abbrev outcome_from : Standing AllState AllTag → Outcome
  outcome_from start = outcome_of_course (rounds all_eq all task.turns 0 start (tape_of fed))

  -- whether rules are kept or not, the run shows what it shows without
  plain_by : (keeps_none : Bool)
      → outcome_from (start_of (basis_of task.choice) picture) ≡ outcome_from (standing_at_start (if keeps_none then start_of (basis_of task.choice) picture else cached))
  plain_by true = refl
  plain_by false =
      same_outcome (rounds all_eq all task.turns 0 cached (tape_of fed)) (rounds all_eq all task.turns 0 (start_of (basis_of task.choice) picture) (tape_of fed))
      (none_runs (basis_of task.choice) task.cache task.tags picture task.turns 0 (tape_of fed) none some_tags)
      ∙ ap outcome_from (sym (started_within cached within))

  -- the policy that is nothing shows what the four show
  four_outcome : outcome_of_course (rounds one_eq nothing task.turns 0 (standing_at_start (bare_start_of picture)) (tape_of fed))
      ≡ outcome_of_course (course_by all_eq all (choice_state (basis_of task.choice) picture) task picture fed)
  four_outcome =
      same_outcome (rounds all_eq all task.turns 0 (start_of (basis_of task.choice) picture) (tape_of fed)) (rounds one_eq nothing task.turns 0 (bare_start_of picture) (tape_of fed))
      (rounds_same all_eq one_eq no_tag all nothing task.turns 0 (start_of (basis_of task.choice) picture) (bare_start_of picture) (tape_of fed) (bare_start_mirrors (basis_of task.choice) picture none))
      ∙ plain_by (keeps_no_rule task.cache)
      ∙ started_outcome all_eq all (λ (basis : Basis). choice_state basis picture) task picture (basis_of task.choice) refl
      (start_with all_eq all (choice_state (basis_of task.choice) picture) task.cache task.tags picture) refl fed

  pub bare_outcome : (secret : List ℕ) → outcome_of_course (rounds one_eq nothing task.turns 0 (standing_at_start (bare_start_of picture)) (tape_of fed))
      ≡ outcome_of_run task secret picture fed
  bare_outcome secret = four_outcome ∙ chosen_outcome task secret picture fed false (none_off task.choice none)
