-- Rounds in two worlds: what they show, their order of turns, their stops and their halt are the same.
use Rattle.std.proofs.Common.{◌≡◌, ℕ, zero, suc, ◌+◌, Bool, List, [], ◌∷◌, ◌++◌, length, Option, Some, None, refl, ap, sym, subst, ◌∙◌, if◌then◌else◌}
use Rattle.host_io.specs.Pieces.{Piece}
use Rattle.policy_trait.specs.Model.{PolicyModel}
use Rattle.policy_trait.specs.declared.services.Plan.{Plan}
use Rattle.tag_memory.specs.Hart.{HartState}
use Rattle.turn_steps.specs.Feeds.{Tape}
use Rattle.engine_trait.specs.EngineLaws.{is_made}
use Rattle.engine_trait.specs.Standing.{Standing, is_running, step}
use Rattle.engine_trait.specs.declared.ends.Halt.{Halt}
use Rattle.engine_trait.specs.declared.ends.TurnEnd.{TurnEnd}
use Rattle.rounds.specs.Course.{Course, hart_stops, next_hart, next_turn, rounds, stays, taking}
use Rattle.rounds.specs.Same.{ShowsSame}
use Rattle.rounds.specs.Shown.{pieces_of, shown_by}
use Rattle.rounds.proofs.ReadinessLemmas.{hart_stops_same, next_hart_same}
use Rattle.rounds.proofs.TurnLemmas.{after-feed, after-standing, after_order, after_step, pieces_after}
use Rattle.secret_runs.specs.Alike.{AllAlike}
use Rattle.secret_runs.specs.Hides.{Hides}
use Rattle.secret_runs.specs.Same.{AlikeStandings}
use Rattle.secret_runs.proofs.RunLemmas.{step_alike}

as_many : {T : Type 0} (is_open : T → Bool) (firsts seconds : List (HartState T)) → AllAlike is_open firsts seconds → length seconds ≡ length firsts
as_many is_open [] [] alike = refl
as_many is_open (a ∷ firsts) (b ∷ seconds) alike = ap suc (as_many is_open firsts seconds alike.1)
as_many is_open [] (b ∷ seconds) alike = absurd alike
as_many is_open (a ∷ firsts) [] alike = absurd alike

module _ {S T : Type 0} (is_open : T → Bool) (m : PolicyModel T S) (like : S → S → Type 0) (kin : S → Plan T → Plan T → Type 0) (hides : Hides is_open m like kin)
    (eq : T → T → Bool) where
  module _ (e d : Standing S T) (alike : AlikeStandings is_open like e d) where
    halts : d.account.halt ≡ e.account.halt
    halts = λ i. (alike.account i).halt

    next_is : (from : ℕ) → next_turn d from ≡ next_turn e from
    unfolding next_turn
    next_is from =
        ap (λ (halt : Option Halt). if is_running halt then next_hart d.machine.core from else None) halts
        ∙ ap (λ next. if is_running e.account.halt then next else None)
        (next_hart_same e.machine.core d.machine.core alike.machine.core.stops (as_many is_open e.machine.core.harts d.machine.core.harts alike.machine.core.harts) from)

    stays_same : (feed : Tape) → ShowsSame (stays e feed) (stays d feed)
    stays_same feed = record {
      shown = refl;
      order = refl;
      feed = refl;
      stops = hart_stops_same e.machine.core d.machine.core alike.machine.core.stops (as_many is_open e.machine.core.harts d.machine.core.harts alike.machine.core.harts);
      halt = halts;
    }

    taken_same : (feed : Tape) (next : Option ℕ) (go go_along : ℕ → Course S T) → ((h : ℕ) → ShowsSame (go h) (go_along h))
        → ShowsSame (taking next (stays e feed) go) (taking next (stays d feed) go_along)
    taken_same feed None go go_along each = stays_same feed
    taken_same feed (Some h) go go_along each = each h

    after_same : (feed : Tape) (h : ℕ) (others others_along : Course S T) → ShowsSame others others_along
        → ShowsSame (after_step eq m e feed h others) (after_step eq m d feed h others_along)
    after_same feed h others others_along same =
        let steps = step_alike is_open m like kin hides eq e d alike feed h in
        record {
          shown =
              pieces_after eq m d feed h others_along
              ∙ ap (λ (ended : TurnEnd). shown_by h ended ++ pieces_of others_along.events) steps.ended
              ∙ ap (λ (pieces : List Piece). shown_by h (step eq m e feed h).ended ++ pieces) same.shown
              ∙ sym (pieces_after eq m e feed h others);
          order =
              after_order (is_made (step eq m d feed h).ended) h _ others_along
              ∙ ap (λ (ended : TurnEnd). if is_made ended then h ∷ others_along.order else others_along.order) steps.ended
              ∙ ap (λ (order : List ℕ). if is_made (step eq m e feed h).ended then h ∷ order else order) same.order
              ∙ sym (after_order (is_made (step eq m e feed h).ended) h _ others);
          feed = after-feed h _ others_along _ ∙ same.feed ∙ sym (after-feed h _ others _);
          stops =
              ap (λ (standing : Standing S T). hart_stops standing.machine.core) (after-standing h _ others_along _)
              ∙ same.stops
              ∙ sym (ap (λ (standing : Standing S T). hart_stops standing.machine.core) (after-standing h _ others _));
          halt =
              ap (λ (standing : Standing S T). standing.account.halt) (after-standing h _ others_along _)
              ∙ same.halt
              ∙ sym (ap (λ (standing : Standing S T). standing.account.halt) (after-standing h _ others _));
        }

  abbrev RoundsAlike : ℕ → ℕ → Standing S T → Standing S T → Tape → Tape → Type 0
  RoundsAlike limit from e d feed fed = ShowsSame (rounds eq m limit from e feed) (rounds eq m limit from d fed)

  pub rounds_alike : (limit from : ℕ) (e d : Standing S T) (feed : Tape) → AlikeStandings is_open like e d → RoundsAlike limit from e d feed feed
  unfolding rounds
  rounds_alike zero from e d feed alike = stays_same e d alike feed
  rounds_alike (suc k) from e d feed alike =
      let go = λ (h : ℕ). after_step eq m e feed h (rounds eq m k (h + 1) (step eq m e feed h).standing (step eq m e feed h).feed) in
      let go_along = λ (h : ℕ). after_step eq m d feed h (rounds eq m k (h + 1) (step eq m d feed h).standing (step eq m d feed h).feed) in
      subst (λ next. ShowsSame (taking (next_turn e from) (stays e feed) go) (taking next (stays d feed) go_along)) (sym (next_is e d alike from))
      (taken_same e d alike feed (next_turn e from) go go_along λ h.
      after_same e d alike feed h _ _
      (let steps = step_alike is_open m like kin hides eq e d alike feed h in
      subst (RoundsAlike k (h + 1) (step eq m e feed h).standing (step eq m d feed h).standing (step eq m e feed h).feed) (sym steps.feed)
      (rounds_alike k (h + 1) (step eq m e feed h).standing (step eq m d feed h).standing (step eq m e feed h).feed steps.standing)))
