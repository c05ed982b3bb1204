-- Turns as a run of the machine.
use Rattle.std.proofs.Common.{◌≡◌, ℕ, zero, suc, ◌≤◌, Bool, true, false, List, [], ◌∷◌, ◌++◌, length, map, Some, None, if◌then◌else◌, refl, ◌∙◌, arith}
use Rattle.std.proofs.lemmas.List.{length-append}
use Rattle.policy_trait.specs.Model.{PolicyModel}
use Rattle.turn_steps.specs.Feeds.{Tape}
use Rattle.engine_trait.specs.EngineLaws.{is_made}
use Rattle.engine_trait.specs.Runs.{run_along, turn}
use Rattle.engine_trait.specs.Standing.{Standing, Stepped, step}
use Rattle.engine_trait.proofs.StepLemmas.{step_follows}
use Rattle.rounds.proofs.RunLemmas.{unmade_stays}
use Rattle.shell_turns.specs.Order.{Next, Order, next_of}
use Rattle.shell_turns.specs.Runs.{EndsAs}
use Rattle.shell_turns.specs.Told.{counted_harts, is_last}
use Rattle.shell_turns.specs.Turns.{Turns, going_on, no_turns, pc_after, then_others, turns}

module _ {S T : Type 0} (eq : T → T → Bool) (m : PolicyModel T S) (breaks : List ℕ) where
  -- the turns are a run from there
  abbrev pub IsRun : Standing S T → Tape → Turns S T → Type 0
  IsRun e feed t = EndsAs (run_along m e.machine feed (map turn t.harts)) t

  stays_run : (e : Standing S T) (feed : Tape) → IsRun e feed (no_turns e feed)
  stays_run e feed = record { machine = refl; feed = refl }

  module _ (e : Standing S T) (feed : Tape) (h : ℕ) where
    abbrev stepped : Stepped S T
    stepped = step eq m e feed h

    abbrev RunsOn : Turns S T → Type 0
    RunsOn others = IsRun stepped.standing stepped.feed others

    -- a turn that is counted, or not, before others
    abbrev with_turn : Bool → Turns S T → Turns S T
    with_turn made others = record others { harts = (if made then h ∷ [] else []) ++ others.harts }

    turn_first : (made : Bool) (others : Turns S T) → is_made stepped.ended ≡ made → RunsOn others → IsRun e feed (with_turn made others)
    turn_first true others is runs =
        let follows = step_follows eq m e feed h is in
        record {
          machine = runs.machine ∙ (λ j. (run_along m (follows.machine j) (follows.fed j) (map turn others.harts)).machine);
          feed = runs.feed ∙ (λ j. (run_along m (follows.machine j) (follows.fed j) (map turn others.harts)).feed);
        }
    turn_first false others is runs =
        let same = unmade_stays eq m e feed h is in
        record {
          machine = runs.machine ∙ (λ j. (run_along m (same.machine j) (same.left j) (map turn others.harts)).machine);
          feed = runs.feed ∙ (λ j. (run_along m (same.machine j) (same.left j) (map turn others.harts)).feed);
        }

    rest_runs : (last : Bool) (others : Turns S T) → RunsOn others → RunsOn (if last then no_turns stepped.standing stepped.feed else others)
    rest_runs true others runs = stays_run stepped.standing stepped.feed
    rest_runs false others runs = runs

    one_runs : (others : Turns S T) → RunsOn others → IsRun e feed (then_others breaks h stepped others)
    one_runs others runs =
        let last = is_last breaks (pc_after h stepped) stepped.ended in
        let rest = if last then no_turns stepped.standing stepped.feed else others in
        let run = turn_first (is_made stepped.ended) rest refl (rest_runs last others runs) in
        record { machine = run.machine; feed = run.feed }

  next_runs : (next : Next) (e : Standing S T) (feed : Tape) (go : ℕ → Order → Turns S T) → ((h : ℕ) (rest : Order) → IsRun e feed (go h rest))
      → IsRun e feed (going_on next (no_turns e feed) go)
  next_runs None e feed go runs = stays_run e feed
  next_runs (Some next) e feed go runs = runs next.0 next.1

  pub turns_run : (budget : ℕ) (order : Order) (e : Standing S T) (feed : Tape) → IsRun e feed (turns eq m breaks budget order e feed)
  unfolding turns
  turns_run zero order e feed = stays_run e feed
  turns_run (suc n) order e feed =
      next_runs (next_of order e) e feed _ λ h rest.
      one_runs e feed h _ (turns_run n rest (step eq m e feed h).standing (step eq m e feed h).feed)

  -- ---- their count

  few_counted : (h : ℕ) (made : Bool) → length (if made then h ∷ [] else []) ≤ 1
  few_counted h true = omega arith
  few_counted h false = omega arith

  rest_few : (n : ℕ) (last : Bool) (e : Standing S T) (feed : Tape) (others : Turns S T) → length others.harts ≤ n
      → length (if last then no_turns e feed else others).harts ≤ n
  rest_few n true e feed others few = omega arith
  rest_few n false e feed others few = few

  one_few : (n h : ℕ) (s : Stepped S T) (others : Turns S T) → length others.harts ≤ n → length (then_others breaks h s others).harts ≤ suc n
  one_few n h s others few =
      let last = is_last breaks (pc_after h s) s.ended in
      let rest = (if last then no_turns s.standing s.feed else others).harts in
      let all = length-append (counted_harts h s.ended) rest in
      let one = few_counted h (is_made s.ended) in
      let more = rest_few n last s.standing s.feed others few in
      omega (arith, all, one, more)

  next_few : (n : ℕ) (next : Next) (e : Standing S T) (feed : Tape) (go : ℕ → Order → Turns S T) → ((h : ℕ) (rest : Order) → length (go h rest).harts ≤ n)
      → length (going_on next (no_turns e feed) go).harts ≤ n
  next_few n None e feed go few = omega arith
  next_few n (Some next) e feed go few = few next.0 next.1

  pub turns_few : (budget : ℕ) (order : Order) (e : Standing S T) (feed : Tape) → length (turns eq m breaks budget order e feed).harts ≤ budget
  unfolding turns
  turns_few zero order e feed = omega arith
  turns_few (suc n) order e feed =
      next_few (suc n) (next_of order e) e feed _ λ h rest.
      one_few n h (step eq m e feed h) _ (turns_few n rest (step eq m e feed h).standing (step eq m e feed h).feed)
