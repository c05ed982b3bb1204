-- Rounds of an engine and of one that mirrors it.
use Rattle.std.proofs.Common.{◌≡◌, ℕ, zero, suc, ◌+◌, Bool, List, ◌∷◌, ◌++◌, length, Option, Some, None, refl, ap, sym, subst, ◌∙◌, if◌then◌else◌}
use Rattle.std.proofs.lemmas.List.{length-map}
use Rattle.host_io.specs.Pieces.{Piece}
use Rattle.policy_trait.specs.Model.{PolicyModel}
use Rattle.tag_memory.specs.Maps.{hart_by}
use Rattle.turn_steps.specs.Feeds.{Tape}
use Rattle.engine_trait.specs.EngineLaws.{is_made}
use Rattle.engine_trait.specs.Machine.{CoreState}
use Rattle.engine_trait.specs.Maps.{core_by}
use Rattle.engine_trait.specs.Mirrored.{IsMirrored}
use Rattle.engine_trait.specs.Standing.{Standing, is_running, step}
use Rattle.engine_trait.specs.declared.ends.Halt.{Halt}
use Rattle.engine_trait.specs.declared.ends.TurnEnd.{TurnEnd}
use Rattle.engine_trait.proofs.MirrorLemmas.{step_mirrored}
use Rattle.rounds.specs.Course.{Course, hart_stops, next_hart, next_turn, rounds, stays, taking}
use Rattle.rounds.specs.Same.{ShowsSame}
use Rattle.rounds.specs.Shown.{pieces_of, shown_by}
use Rattle.rounds.proofs.ReadinessLemmas.{hart_stops_same, next_hart_same}
use Rattle.rounds.proofs.TurnLemmas.{after-feed, after-standing, after_order, after_step, pieces_after}

as_many : {T U : Type 0} (f : T → U) (core : CoreState T) → length (core_by f core).harts ≡ length core.harts
as_many f core = length-map core.harts (hart_by f)

-- ---- the rounds

module _ {S T U V : Type 0} (same_tag : T → T → Bool) (same_mirror : U → U → Bool) (f : T → U) (m : PolicyModel T S) (n : PolicyModel U V) where
  module _ (e : Standing S T) (d : Standing V U) (mirrored : IsMirrored f m n e d) where
    next_is : (from : ℕ) → next_turn d from ≡ next_turn e from
    unfolding next_turn
    next_is from =
        ap (λ (halt : Option Halt). if is_running halt then next_hart d.machine.core from else None) mirrored.halt
        ∙ ap (λ (core : CoreState U). if is_running e.account.halt then next_hart core from else None) mirrored.core
        ∙ ap (λ next. if is_running e.account.halt then next else None) (next_hart_same e.machine.core (core_by f e.machine.core) refl (as_many f e.machine.core) from)

    stays_same : (feed : Tape) → ShowsSame (stays e feed) (stays d feed)
    stays_same feed = record {
      shown = refl;
      order = refl;
      feed = refl;
      stops = ap (λ (core : CoreState U). hart_stops core) mirrored.core ∙ hart_stops_same e.machine.core (core_by f e.machine.core) refl (as_many f e.machine.core);
      halt = mirrored.halt;
    }

    taken_same : (feed : Tape) (next : Option ℕ) (go : ℕ → Course S T) (go_along : ℕ → Course V U) → ((h : ℕ) → ShowsSame (go h) (go_along h))
        → ShowsSame (taking next (stays e feed) go) (taking next (stays d feed) go_along)
    taken_same feed None go go_along each = stays_same feed
    taken_same feed (Some h) go go_along each = each h

    after_same : (feed : Tape) (h : ℕ) (others : Course S T) (others_along : Course V U) → ShowsSame others others_along
        → ShowsSame (after_step same_tag m e feed h others) (after_step same_mirror n d feed h others_along)
    after_same feed h others others_along same =
        let steps = step_mirrored same_tag same_mirror f m n e d feed h mirrored in
        record {
          shown =
              pieces_after same_mirror n d feed h others_along
              ∙ ap (λ (ended : TurnEnd). shown_by h ended ++ pieces_of others_along.events) steps.ended
              ∙ ap (λ (pieces : List Piece). shown_by h (step same_tag m e feed h).ended ++ pieces) same.shown
              ∙ sym (pieces_after same_tag m e feed h others);
          order =
              after_order (is_made (step same_mirror n d feed h).ended) h _ others_along
              ∙ ap (λ (ended : TurnEnd). if is_made ended then h ∷ others_along.order else others_along.order) steps.ended
              ∙ ap (λ (order : List ℕ). if is_made (step same_tag m e feed h).ended then h ∷ order else order) same.order
              ∙ sym (after_order (is_made (step same_tag m e feed h).ended) h _ others);
          feed = after-feed h _ others_along _ ∙ same.feed ∙ sym (after-feed h _ others _);
          stops =
              ap (λ (standing : Standing V U). hart_stops standing.machine.core) (after-standing h _ others_along _)
              ∙ same.stops
              ∙ sym (ap (λ (standing : Standing S T). hart_stops standing.machine.core) (after-standing h _ others _));
          halt =
              ap (λ (standing : Standing V U). standing.account.halt) (after-standing h _ others_along _)
              ∙ same.halt
              ∙ sym (ap (λ (standing : Standing S T). standing.account.halt) (after-standing h _ others _));
        }

  abbrev RoundsSame : ℕ → ℕ → Standing S T → Standing V U → Tape → Tape → Type 0
  RoundsSame limit from e d feed fed = ShowsSame (rounds same_tag m limit from e feed) (rounds same_mirror n limit from d fed)

  pub rounds_same : (limit from : ℕ) (e : Standing S T) (d : Standing V U) (feed : Tape) → IsMirrored f m n e d → RoundsSame limit from e d feed feed
  unfolding rounds
  rounds_same zero from e d feed mirrored = stays_same e d mirrored feed
  rounds_same (suc k) from e d feed mirrored =
      let go = λ (h : ℕ). after_step same_tag m e feed h (rounds same_tag m k (h + 1) (step same_tag m e feed h).standing (step same_tag m e feed h).feed) in
      let go_along = λ (h : ℕ). after_step same_mirror n d feed h (rounds same_mirror n k (h + 1) (step same_mirror n d feed h).standing (step same_mirror n d feed h).feed) in
      subst (λ next. ShowsSame (taking (next_turn e from) (stays e feed) go) (taking next (stays d feed) go_along)) (sym (next_is e d mirrored from))
      (taken_same e d mirrored feed (next_turn e from) go go_along λ h.
      after_same e d mirrored feed h _ _
      (let steps = step_mirrored same_tag same_mirror f m n e d feed h mirrored in
      subst (RoundsSame k (h + 1) (step same_tag m e feed h).standing (step same_mirror n d feed h).standing (step same_tag m e feed h).feed) (sym steps.feed)
      (rounds_same k (h + 1) (step same_tag m e feed h).standing (step same_mirror n d feed h).standing (step same_tag m e feed h).feed steps.standing)))
