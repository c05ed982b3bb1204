-- Rounds under a policy with one tag: an engine that keeps rules shows the same as one that keeps none.
use Rattle.std.proofs.Common.{◌≡◌, ℕ, zero, suc, ◌+◌, Bool, true, false, ◌&&◌, List, ◌∷◌, ◌++◌, Option, Some, None, refl, ap, sym, subst, ◌∙◌, if◌then◌else◌}
use Rattle.host_io.specs.Pieces.{Piece}
use Rattle.policy_trait.specs.Model.{PolicyModel}
use Rattle.turn_steps.specs.Feeds.{Tape}
use Rattle.engine_trait.specs.Accounts.{IsUncached, account_after_turn, remembering}
use Rattle.engine_trait.specs.History.{record_of}
use Rattle.engine_trait.specs.EngineLaws.{is_made}
use Rattle.engine_trait.specs.Machine.{Machine, is_ready_in}
use Rattle.engine_trait.specs.Standing.{Standing, Stepped, idle, is_ready, is_running, made_step, step}
use Rattle.engine_trait.specs.Turn.{turn_of}
use Rattle.engine_trait.specs.declared.ends.Halt.{Halt}
use Rattle.engine_trait.specs.declared.ends.TurnEnd.{TurnEnd}
use Rattle.engine_trait.proofs.AccountLemmas.{accounted_halt}
use Rattle.engine_trait.proofs.MirrorLemmas.{turn_keeps_policy}
use Rattle.engine_trait.proofs.StepLemmas.{plain_stays, plain_step, step_idle, step_made}
use Rattle.rounds.specs.Course.{Course, hart_stops, next_hart, next_turn, rounds, stays, taking}
use Rattle.rounds.specs.Same.{ShowsSame}
use Rattle.rounds.specs.Shown.{pieces_of, shown_by}
use Rattle.rounds.proofs.TurnLemmas.{after-feed, after-standing, after_order, after_step, pieces_after}
use Rattle.pump_cli.proofs.OneTagLemmas.{HasOneTag, HasOneWord, accounted_plain, within}

module _ {S T : Type 0} (eq : T → T → Bool) (m : PolicyModel T S) (policy : S) (one_tag : HasOneTag eq m policy) where
  -- d keeps no rules, and e is the same but for its account, where just the plain tag has a word
  pub record GoesBeside (e d : Standing S T) : Type 0 where
    pub machine : d.machine ≡ e.machine
    pub policy_is : e.machine.policy ≡ policy
    pub halt : d.account.halt ≡ e.account.halt
    pub one_word : HasOneWord (m.plain e.machine.policy) e.account
    pub uncached : IsUncached d.account

  -- after a step of each
  record StepsBeside (e d : Stepped S T) : Type 0 where
    pub standing : GoesBeside e.standing d.standing
    pub feed : d.feed ≡ e.feed
    pub ended : d.ended ≡ e.ended

  module _ (e d : Standing S T) (beside : GoesBeside e d) where
    one_tag_still : HasOneTag eq m e.machine.policy
    one_tag_still = subst (λ p. HasOneTag eq m p) (sym beside.policy_is) one_tag

    -- ---- a step

    module _ (feed : Tape) (h : ℕ) where
      ready_is : is_ready d h ≡ is_ready e h
      ready_is =
          ap (λ (halt : Option Halt). is_running halt && is_ready_in d.machine.core h) beside.halt
          ∙ ap (λ (s : Machine S T). is_running e.account.halt && is_ready_in s.core h) beside.machine

      policy_stays : (turn_of m e.machine feed h).machine.policy ≡ e.machine.policy
      policy_stays = turn_keeps_policy m e.machine feed h one_tag_still.offers_none

      account_plain : HasOneWord (m.plain e.machine.policy) (account_after_turn eq m e.machine h e.account)
      account_plain = accounted_plain eq m e.machine one_tag_still h e.account beside.one_word

      made_beside : is_ready d h ≡ true → StepsBeside (made_step eq m e feed h) (made_step eq m d feed h)
      made_beside ready = record {
        standing = record {
          machine = ap (λ (s : Machine S T). (turn_of m s feed h).machine) beside.machine;
          policy_is = policy_stays ∙ beside.policy_is;
          halt = accounted_halt eq m d.machine h d.account ∙ beside.halt ∙ sym (accounted_halt eq m e.machine h e.account);
          one_word =
              subst (λ p. HasOneWord (m.plain p) (remembering (record_of m e.machine feed h) (account_after_turn eq m e.machine h e.account))) (sym policy_stays)
              (record { table = account_plain.table; some_tags = account_plain.some_tags });
          uncached = subst (λ (stepped : Stepped S T). IsUncached stepped.standing.account) (plain_step eq m d feed h beside.uncached ready) (plain_stays eq m d feed h beside.uncached);
        };
        feed = ap (λ (s : Machine S T). (turn_of m s feed h).feed) beside.machine;
        ended = ap (λ (s : Machine S T). (turn_of m s feed h).ended) beside.machine;
      }

      abbrev StepBeside : Type 0
      StepBeside = StepsBeside (step eq m e feed h) (step eq m d feed h)

      step_if : (ready : Bool) → is_ready e h ≡ ready → StepBeside
      step_if true ready =
          subst (λ a. StepsBeside a (step eq m d feed h)) (sym (step_made eq m e feed h ready (within eq (m.plain e.machine.policy) one_tag_still.same _ account_plain)))
          (subst (λ b. StepsBeside (made_step eq m e feed h) b) (sym (plain_step eq m d feed h beside.uncached (ready_is ∙ ready)))
          (made_beside (ready_is ∙ ready)))
      step_if false waits =
          subst (λ a. StepsBeside a (step eq m d feed h)) (sym (step_idle eq m e feed h waits))
          (subst (λ b. StepsBeside (idle eq m e feed h) b) (sym (step_idle eq m d feed h (ready_is ∙ waits)))
          (record { standing = beside; feed = refl; ended = refl }))

      step_beside : StepBeside
      step_beside = step_if (is_ready e h) refl

    -- ---- the rounds

    next_is : (from : ℕ) → next_turn d from ≡ next_turn e from
    unfolding next_turn
    next_is from =
        ap (λ (halt : Option Halt). if is_running halt then next_hart d.machine.core from else None) beside.halt
        ∙ ap (λ (s : Machine S T). if is_running e.account.halt then next_hart s.core from else None) beside.machine

    stays_same : (feed : Tape) → ShowsSame (stays e feed) (stays d feed)
    stays_same feed = record {
      shown = refl;
      order = refl;
      feed = refl;
      stops = ap (λ (s : Machine S T). hart_stops s.core) beside.machine;
      halt = beside.halt;
    }

    taken_same : (feed : Tape) (next : Option ℕ) (go go_along : ℕ → Course S T) → ((h : ℕ) → ShowsSame (go h) (go_along h))
        → ShowsSame (taking next (stays e feed) go) (taking next (stays d feed) go_along)
    taken_same feed None go go_along each = stays_same feed
    taken_same feed (Some h) go go_along each = each h

    after_same : (feed : Tape) (h : ℕ) (others others_along : Course S T) → ShowsSame others others_along
        → ShowsSame (after_step eq m e feed h others) (after_step eq m d feed h others_along)
    after_same feed h others others_along same =
        let steps = step_beside feed h in
        record {
          shown =
              pieces_after eq m d feed h others_along
              ∙ ap (λ (ended : TurnEnd). shown_by h ended ++ pieces_of others_along.events) steps.ended
              ∙ ap (λ (pieces : List Piece). shown_by h (step eq m e feed h).ended ++ pieces) same.shown
              ∙ sym (pieces_after eq m e feed h others);
          order =
              after_order (is_made (step eq m d feed h).ended) h _ others_along
              ∙ ap (λ (ended : TurnEnd). if is_made ended then h ∷ others_along.order else others_along.order) steps.ended
              ∙ ap (λ (order : List ℕ). if is_made (step eq m e feed h).ended then h ∷ order else order) same.order
              ∙ sym (after_order (is_made (step eq m e feed h).ended) h _ others);
          feed = after-feed h _ others_along _ ∙ same.feed ∙ sym (after-feed h _ others _);
          stops =
              ap (λ (standing : Standing S T). hart_stops standing.machine.core) (after-standing h _ others_along _)
              ∙ same.stops
              ∙ sym (ap (λ (standing : Standing S T). hart_stops standing.machine.core) (after-standing h _ others _));
          halt =
              ap (λ (standing : Standing S T). standing.account.halt) (after-standing h _ others_along _)
              ∙ same.halt
              ∙ sym (ap (λ (standing : Standing S T). standing.account.halt) (after-standing h _ others _));
        }

  abbrev RoundsSame : ℕ → ℕ → Standing S T → Standing S T → Tape → Tape → Type 0
  RoundsSame limit from e d feed fed = ShowsSame (rounds eq m limit from e feed) (rounds eq m limit from d fed)

  pub beside_same : (limit from : ℕ) (e d : Standing S T) (feed : Tape) → GoesBeside e d → RoundsSame limit from e d feed feed
  unfolding rounds
  beside_same zero from e d feed beside = stays_same e d beside feed
  beside_same (suc k) from e d feed beside =
      let go = λ (h : ℕ). after_step eq m e feed h (rounds eq m k (h + 1) (step eq m e feed h).standing (step eq m e feed h).feed) in
      let go_along = λ (h : ℕ). after_step eq m d feed h (rounds eq m k (h + 1) (step eq m d feed h).standing (step eq m d feed h).feed) in
      subst (λ next. ShowsSame (taking (next_turn e from) (stays e feed) go) (taking next (stays d feed) go_along)) (sym (next_is e d beside from))
      (taken_same e d beside feed (next_turn e from) go go_along λ h.
      after_same e d beside feed h _ _
      (let steps = step_beside e d beside feed h in
      subst (RoundsSame k (h + 1) (step eq m e feed h).standing (step eq m d feed h).standing (step eq m e feed h).feed) (sym steps.feed)
      (beside_same k (h + 1) (step eq m e feed h).standing (step eq m d feed h).standing (step eq m e feed h).feed steps.standing)))
