-- Rounds as runs of the machine.
use Rattle.std.proofs.Common.{◌≡◌, ℕ, zero, suc, ◌+◌, ◌≤◌, Bool, true, false, length, map, Option, Some, None, refl, ap, sym, ◌∙◌, arith}
use Rattle.std.proofs.lemmas.Bool.{false≢true}
use Rattle.policy_trait.specs.Model.{PolicyModel}
use Rattle.turn_steps.specs.Feeds.{Tape}
use Rattle.engine_trait.specs.Accounts.{account_after_turn, is_over}
use Rattle.engine_trait.specs.Events.{event_of}
use Rattle.engine_trait.specs.EngineLaws.{is_made}
use Rattle.engine_trait.specs.Machine.{Machine}
use Rattle.engine_trait.specs.Runs.{run_along, turn, with_event}
use Rattle.engine_trait.specs.Standing.{Standing, is_ready, step, step_by}
use Rattle.engine_trait.specs.Turn.{turn_of}
use Rattle.engine_trait.proofs.StepLemmas.{ready_parts, step_follows}
use Rattle.engine_trait.proofs.TurnLemmas.{turn_made}
use Rattle.rounds.specs.Course.{Course, after_turn, next_turn, rounds, stays, taking, trace_of}
use Rattle.rounds.proofs.TurnLemmas.{after_step}

-- the machine and the feed stay
pub record StaysAt {S T : Type 0} (s : Machine S T) (feed : Tape) (t : Machine S T) (fed : Tape) : Type 0 where
  pub machine : t ≡ s
  pub left : fed ≡ feed

module _ {S T : Type 0} (eq : T → T → Bool) (m : PolicyModel T S) where
  module _ (e : Standing S T) (feed : Tape) (h : ℕ) where
    unmade_by : (ready over : Bool) → is_ready e h ≡ ready → is_made (step_by eq m e feed h ready over).ended ≡ false
        → StaysAt e.machine feed (step_by eq m e feed h ready over).standing.machine (step_by eq m e feed h ready over).feed
    unmade_by false over waits unmade = record { machine = refl; left = refl }
    unmade_by true true ready unmade = record { machine = refl; left = refl }
    unmade_by true false ready unmade =
        absurd (false≢true (sym unmade ∙ turn_made m e.machine feed h (ready_parts e h ready).1))

    -- a step in which no turn was made
    pub unmade_stays : is_made (step eq m e feed h).ended ≡ false → StaysAt e.machine feed (step eq m e feed h).standing.machine (step eq m e feed h).feed
    unfolding step
    unmade_stays unmade = unmade_by (is_ready e h) (is_over (account_after_turn eq m e.machine h e.account)) refl unmade

    -- the others run on from where the step ends
    abbrev RunsOn : Course S T → Type 0
    RunsOn course = trace_of course ≡ run_along m (step eq m e feed h).standing.machine (step eq m e feed h).feed (map turn course.order)

    -- a course is a run from where the step begins
    abbrev IsRun : Course S T → Type 0
    IsRun course = trace_of course ≡ run_along m e.machine feed (map turn course.order)

    step_if : (made : Bool) (others : Course S T) → is_made (step eq m e feed h).ended ≡ made → RunsOn others
        → IsRun (after_turn made h (event_of m e.machine feed h) others)
    step_if true others is runs =
        let follows = step_follows eq m e feed h is in
        ap (with_event (event_of m e.machine feed h))
        (runs
        ∙ ap (λ (s : Machine S T). run_along m s (step eq m e feed h).feed (map turn others.order)) follows.machine
        ∙ ap (λ (tape : Tape). run_along m (turn_of m e.machine feed h).machine tape (map turn others.order)) follows.fed)
    step_if false others is runs =
        let same = unmade_stays is in
        runs
        ∙ ap (λ (s : Machine S T). run_along m s (step eq m e feed h).feed (map turn others.order)) same.machine
        ∙ ap (λ (tape : Tape). run_along m e.machine tape (map turn others.order)) same.left

    after_is_run : (others : Course S T) → RunsOn others → IsRun (after_step eq m e feed h others)
    after_is_run others runs = step_if (is_made (step eq m e feed h).ended) others refl runs

  -- the rounds after one more turn
  abbrev pub rest_of : ℕ → Standing S T → Tape → ℕ → Course S T
  rest_of n e feed h = rounds eq m n (h + 1) (step eq m e feed h).standing (step eq m e feed h).feed

  taken_is_run : (e : Standing S T) (feed : Tape) (next : Option ℕ) (go : ℕ → Course S T)
      → ((h : ℕ) → trace_of (go h) ≡ run_along m e.machine feed (map turn (go h).order))
      → trace_of (taking next (stays e feed) go) ≡ run_along m e.machine feed (map turn (taking next (stays e feed) go).order)
  taken_is_run e feed None go each = refl
  taken_is_run e feed (Some h) go each = each h

  -- rounds are the run along their counted turns
  pub rounds_are_run : (n from : ℕ) (e : Standing S T) (feed : Tape)
      → trace_of (rounds eq m n from e feed) ≡ run_along m e.machine feed (map turn (rounds eq m n from e feed).order)
  unfolding rounds
  rounds_are_run zero from e feed = refl
  rounds_are_run (suc n) from e feed =
      taken_is_run e feed (next_turn e from) (λ h. after_step eq m e feed h (rest_of n e feed h))
      (λ h. after_is_run e feed h (rest_of n e feed h)
      (rounds_are_run n (h + 1) (step eq m e feed h).standing (step eq m e feed h).feed))

  after_few : (n h : ℕ) (made : Bool) (e : Standing S T) (feed : Tape) (others : Course S T) → length others.order ≤ n
      → length (after_turn made h (event_of m e.machine feed h) others).order ≤ suc n
  after_few n h true e feed others few = let e : suc (length others.order) ≤ suc n = omega (arith, few) in e
  after_few n h false e feed others few = omega (arith, few)

  taken_few : (n : ℕ) (e : Standing S T) (feed : Tape) (next : Option ℕ) (go : ℕ → Course S T)
      → ((h : ℕ) → length (go h).order ≤ n) → length (taking next (stays e feed) go).order ≤ n
  taken_few n e feed None go each = let e : 0 ≤ n = omega arith in e
  taken_few n e feed (Some h) go each = each h

  -- of which there are at most so many
  pub rounds_are_few : (n from : ℕ) (e : Standing S T) (feed : Tape) → length (rounds eq m n from e feed).order ≤ n
  unfolding rounds
  rounds_are_few zero from e feed = let e : 0 ≤ 0 = omega arith in e
  rounds_are_few (suc n) from e feed =
      taken_few (suc n) e feed (next_turn e from) (λ h. after_step eq m e feed h (rest_of n e feed h))
      (λ h. after_few n h (is_made (step eq m e feed h).ended) e feed (rest_of n e feed h)
      (rounds_are_few n (h + 1) (step eq m e feed h).standing (step eq m e feed h).feed))
