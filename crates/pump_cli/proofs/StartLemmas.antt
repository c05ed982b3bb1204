-- What the start of an engine has to do with the run: one that needs more words than there may be makes no turn.
use Rattle.std.proofs.Common.{◌≡◌, ℕ, zero, suc, Bool, true, false, List, Some, refl, ap, ◌∙◌, if◌then◌else◌}
use Rattle.image_format.specs.Picture.{Picture}
use Rattle.policy_choice.specs.declared.basis.Basis.{Basis}
use Rattle.policy_trait.specs.Model.{PolicyModel}
use Rattle.turn_steps.specs.Feeds.{Tape, tape_of}
use Rattle.engine_trait.specs.Accounts.{is_over, plain_account}
use Rattle.engine_trait.specs.Standing.{Standing}
use Rattle.engine_trait.specs.declared.ends.Halt.{Halt}
use Rattle.engine_trait.specs.declared.ends.Halt.TheVariants as halt
use Rattle.rounds.specs.Course.{Course, next_turn, rounds, stays}
use Rattle.cache_size.specs.Sizes.{keeps_no_rule}
use Rattle.tag_loader.specs.Start.{start_machine, start_standing}
use Rattle.word_loader.specs.CachedStart.{cached_account, cached_standing}
use Rattle.pump_loader.specs.ChosenLoads.{start_with}
use Rattle.pump_line.specs.Task.{RunTask}
use Rattle.pump_cli.specs.Endings.{last_pieces, out_at_start, outcome_of_course}
use Rattle.pump_cli.specs.Program.{basis_of, course_by, standing_at_start, start_by, started_account}

-- an engine that is stopped as a whole makes no turn
stopped_stays : {S T : Type 0} (eq : T → T → Bool) (m : PolicyModel T S) (n from : ℕ) (e : Standing S T) (feed : Tape) (why : Halt)
    → e.account.halt ≡ Some why → rounds eq m n from e feed ≡ stays e feed
unfolding rounds next_turn
stopped_stays eq m zero from e feed why stopped = refl
stopped_stays eq m (suc n) from e feed why stopped = rw stopped refl

module _ {S T : Type 0} (e : Standing S T) where
  -- out of tag numbers
  abbrev pub out_of_tags : Standing S T
  out_of_tags = record { machine = e.machine; account = record e.account { halt = Some halt.TagNumbers } }

  started_if : Bool → Standing S T
  started_if over = record { machine = e.machine; account = if over then record e.account { halt = Some halt.TagNumbers } else e.account }

  pub started_within : is_over e.account ≡ false → standing_at_start e ≡ e
  unfolding started_if
  started_within within = ap started_if within

  started_over : is_over e.account ≡ true → standing_at_start e ≡ out_of_tags
  unfolding started_if
  started_over over = ap started_if over

  -- and so makes no turn
  pub over_course : (eq : T → T → Bool) (m : PolicyModel T S) (turns : ℕ) (feed : Tape) → is_over e.account ≡ true
      → rounds eq m turns 0 (standing_at_start e) feed ≡ stays out_of_tags feed
  over_course eq m turns feed over =
      ap (λ (from : Standing S T). rounds eq m turns 0 from feed) (started_over over)
      ∙ stopped_stays eq m turns 0 out_of_tags feed halt.TagNumbers refl

  pub over_outcome : (eq : T → T → Bool) (m : PolicyModel T S) (turns : ℕ) (feed : Tape) → is_over e.account ≡ true
      → outcome_of_course (rounds eq m turns 0 (standing_at_start e) feed) ≡ out_at_start
  unfolding last_pieces
  over_outcome eq m turns feed over =
      ap (λ (course : Course S T). outcome_of_course course) (over_course eq m turns feed over)

module _ {S T : Type 0} (eq : T → T → Bool) (m : PolicyModel T S) (policy : Basis → S) (task : RunTask) (picture : Picture) where
  -- the policy at the start that the task asks for
  abbrev chosen_policy : S
  chosen_policy = policy (basis_of task.choice)

  -- by whether rules are kept
  abbrev start_if : Bool → Standing S T
  start_if keeps_none =
      if keeps_none then start_standing m chosen_policy picture
      else cached_standing eq m chosen_policy picture task.cache.sets task.cache.ways task.tags

  -- in either case the machine is the image's
  run_start_if : (keeps_none : Bool) → standing_at_start (start_if keeps_none) ≡ record {
    machine = start_machine m chosen_policy picture;
    account = started_account (if keeps_none then plain_account else cached_account eq m chosen_policy picture task.cache.sets task.cache.ways task.tags);
  }
  run_start_if true = refl
  run_start_if false = refl

  -- a start that is chosen for the task
  module _ (basis : Basis) (on : basis ≡ basis_of task.choice) (start : Standing S T) (chosen : start ≡ start_with eq m (policy basis) task.cache task.tags picture) where
    started : standing_at_start start ≡ start_by eq m chosen_policy task picture
    started =
        ap (λ (from : Standing S T). standing_at_start from)
        (chosen ∙ ap (λ (rests : Basis). start_with eq m (policy rests) task.cache task.tags picture) on) ∙ run_start_if (keeps_no_rule task.cache)

    module _ (fed : List ℕ) where
      pub started_course : rounds eq m task.turns 0 (standing_at_start start) (tape_of fed) ≡ course_by eq m chosen_policy task picture fed
      started_course = ap (λ (from : Standing S T). rounds eq m task.turns 0 from (tape_of fed)) started

      pub started_outcome : outcome_of_course (rounds eq m task.turns 0 (standing_at_start start) (tape_of fed))
          ≡ outcome_of_course (course_by eq m chosen_policy task picture fed)
      started_outcome = ap (λ (course : Course S T). outcome_of_course course) started_course
