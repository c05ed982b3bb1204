-- Turns are remembered.
use Rattle.std.proofs.Common.{◌≡◌, ℕ, zero, suc, ◌-◌, Bool, true, false, List, [], ◌∷◌, ◌++◌, drop, length, map, take, Some, None, if◌then◌else◌, refl, ap, sym, subst, ◌∙◌, append-nil, append_assoc}
use Rattle.std.proofs.lemmas.Bool.{false≢true}
use Rattle.std.proofs.lemmas.List.{take-append-drop}
use Rattle.policy_trait.specs.Model.{PolicyModel}
use Rattle.turn_steps.specs.Feeds.{Tape}
use Rattle.undo_log.specs.Past.{Record}
use Rattle.engine_trait.specs.Accounts.{account_after_turn, is_over}
use Rattle.engine_trait.specs.EngineLaws.{is_made}
use Rattle.engine_trait.specs.History.{AreMade, Reached, record_of, records_along}
use Rattle.engine_trait.specs.Runs.{Item, turn}
use Rattle.engine_trait.specs.Standing.{Standing, Stepped, is_ready, step, step_by}
use Rattle.engine_trait.specs.Turn.{turn_of}
use Rattle.engine_trait.proofs.AccountLemmas.{out_past}
use Rattle.engine_trait.proofs.StepLemmas.{ready_parts, step_follows}
use Rattle.engine_trait.proofs.TurnLemmas.{turn_made}
use Rattle.rounds.proofs.RunLemmas.{unmade_stays}
use Rattle.shell_turns.specs.Order.{Next, Order, next_of}
use Rattle.shell_turns.specs.Runs.{EndsIn, Remembers}
use Rattle.shell_turns.specs.Told.{is_last}
use Rattle.shell_turns.specs.Turns.{Turns, going_on, no_turns, pc_after, then_others, turns}

-- ---- lists that end in the kept items

module _ {X : Type 0} where
  -- with others before them
  pub ends_behind : (before all kept : List X) → EndsIn all kept → EndsIn (before ++ all) kept
  ends_behind before all kept ends = record {
    dropped = before ++ ends.dropped;
    parts = ap (λ rest. before ++ rest) ends.parts ∙ sym (append_assoc before ends.dropped kept);
  }

  -- with the first items that were dropped
  ends_again : (n : ℕ) (xs ys kept : List X) → EndsIn (drop n xs ++ ys) kept → EndsIn (xs ++ ys) kept
  ends_again n xs ys kept ends =
      let all = ends_behind (take n xs) (drop n xs ++ ys) kept ends in
      record {
        dropped = all.dropped;
        parts =
            ap (λ whole. whole ++ ys) (sym (take-append-drop n xs)) ∙ append_assoc (take n xs) (drop n xs) ys
            ∙ all.parts;
      }

module _ {S T : Type 0} (eq : T → T → Bool) (m : PolicyModel T S) (breaks : List ℕ) where
  -- ---- one turn

  module _ (e : Standing S T) (feed : Tape) (h : ℕ) where
    abbrev stepped : Stepped S T
    stepped = step eq m e feed h

    past_by : (ready over : Bool) → is_ready e h ≡ ready → is_made (step_by eq m e feed h ready over).ended ≡ false
        → (step_by eq m e feed h ready over).standing.account.past ≡ e.account.past
    past_by false over waits unmade = refl
    past_by true true ready unmade = out_past eq m e.machine h e.account
    past_by true false ready unmade =
        absurd (false≢true (sym unmade ∙ turn_made m e.machine feed h (ready_parts e h ready).1))

    -- a step in which no turn was made is not remembered
    unmade_past : is_made stepped.ended ≡ false → stepped.standing.account.past ≡ e.account.past
    unfolding step
    unmade_past unmade = past_by (is_ready e h) (is_over (account_after_turn eq m e.machine h e.account)) refl unmade

    abbrev RemembersOn : Turns S T → Type 0
    RemembersOn others = Remembers m stepped.standing stepped.feed others

    -- a turn that is counted, or not, before others
    abbrev with_turn : Bool → Turns S T → Turns S T
    with_turn made others = record others { harts = (if made then h ∷ [] else []) ++ others.harts }

    module _ (others : Turns S T) (on : RemembersOn others) where
      abbrev others_items : List Item
      others_items = map turn others.harts

      -- where the step leads to
      abbrev reached : Reached S T
      reached = record { machine = stepped.standing.machine; feed = stepped.feed }

      module _ (is : is_made stepped.ended ≡ true) where
        abbrev turned : Reached S T
        turned = record { machine = (turn_of m e.machine feed h).machine; feed = (turn_of m e.machine feed h).feed }

        turned_is : reached ≡ turned
        turned_is =
            let follows = step_follows eq m e feed h is in λ j. record { machine = follows.machine j; feed = follows.fed j }

        abbrev made_record : Record T T
        made_record = record_of m e.machine feed h

        abbrev others_records : Reached S T → List (Record T T)
        others_records at = records_along m at.machine at.feed others_items

        -- with the record of this turn, of which the last are kept
        made_kept : EndsIn ((e.account.past.kept ++ made_record ∷ []) ++ others_records turned) others.standing.account.past.kept
        made_kept =
            let follows = step_follows eq m e feed h is in
            let pushed_all = e.account.past.kept ++ made_record ∷ [] in
            ends_again (length pushed_all - e.account.past.most) pushed_all (others_records turned) others.standing.account.past.kept
            (subst (λ (all : List (Record T T)). EndsIn all others.standing.account.past.kept)
            (λ j. (follows.past j).kept ++ others_records (turned_is j)) on.kept)

        counted_turn : Remembers m e feed (with_turn true others)
        counted_turn = record {
          made = (
            (ready_parts e h (step_follows eq m e feed h is).ready).1,
            subst (λ (at : Reached S T). AreMade m at.machine at.feed others_items) turned_is on.made,
          );
          kept =
              subst (λ (all : List (Record T T)). EndsIn all others.standing.account.past.kept)
              (append_assoc e.account.past.kept (made_record ∷ []) (others_records turned)) made_kept;
        }

      module _ (is : is_made stepped.ended ≡ false) where
        unmade_is : reached ≡ record { machine = e.machine; feed = feed }
        unmade_is = let same = unmade_stays eq m e feed h is in λ j. record { machine = same.machine j; feed = same.left j }

        uncounted_turn : Remembers m e feed (with_turn false others)
        uncounted_turn = record {
          made = subst (λ (at : Reached S T). AreMade m at.machine at.feed others_items) unmade_is on.made;
          kept =
              subst (λ (all : List (Record T T)). EndsIn all others.standing.account.past.kept)
              (λ j. (unmade_past is j).kept ++ records_along m (unmade_is j).machine (unmade_is j).feed others_items) on.kept;
        }

      turn_remembered : (made : Bool) → is_made stepped.ended ≡ made → Remembers m e feed (with_turn made others)
      turn_remembered true is = counted_turn is
      turn_remembered false is = uncounted_turn is

  -- ---- all of them

  none_remembered : (e : Standing S T) (feed : Tape) → Remembers m e feed (no_turns e feed)
  none_remembered e feed = record { made = tt; kept = record { dropped = []; parts = append-nil e.account.past.kept } }

  module _ (e : Standing S T) (feed : Tape) (h : ℕ) where
    rest_remembered : (last : Bool) (others : Turns S T) → RemembersOn e feed h others
        → RemembersOn e feed h (if last then no_turns (stepped e feed h).standing (stepped e feed h).feed else others)
    rest_remembered true others on = none_remembered (stepped e feed h).standing (stepped e feed h).feed
    rest_remembered false others on = on

    one_remembered : (others : Turns S T) → RemembersOn e feed h others → Remembers m e feed (then_others breaks h (stepped e feed h) others)
    one_remembered others on =
        let last = is_last breaks (pc_after h (stepped e feed h)) (stepped e feed h).ended in
        let rest = if last then no_turns (stepped e feed h).standing (stepped e feed h).feed else others in
        let all = turn_remembered e feed h rest (rest_remembered last others on) (is_made (stepped e feed h).ended) refl in
        record { made = all.made; kept = all.kept }

  next_remembered : (next : Next) (e : Standing S T) (feed : Tape) (go : ℕ → Order → Turns S T) → ((h : ℕ) (rest : Order) → Remembers m e feed (go h rest))
      → Remembers m e feed (going_on next (no_turns e feed) go)
  next_remembered None e feed go on = none_remembered e feed
  next_remembered (Some next) e feed go on = on next.0 next.1

  pub turns_remembered : (budget : ℕ) (order : Order) (e : Standing S T) (feed : Tape) → Remembers m e feed (turns eq m breaks budget order e feed)
  unfolding turns
  turns_remembered zero order e feed = none_remembered e feed
  turns_remembered (suc n) order e feed =
      next_remembered (next_of order e) e feed _ λ h rest.
      one_remembered e feed h _ (turns_remembered n rest (step eq m e feed h).standing (step eq m e feed h).feed)
