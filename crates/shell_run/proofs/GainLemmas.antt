-- What a command adds to the run of a session, and what its reply tells of that.
use Rattle.std.proofs.Common.{◌≡◌, ℕ, zero, suc, ◌-◌, Bool, true, false, nat_lt, List, [], ◌∷◌, ◌++◌, length, map, take, None, if◌then◌else◌, refl, ap, sym, subst, ◌∙◌, append-nil, arith}
use Rattle.std.specs.List.{list_all}
use Rattle.std.proofs.lemmas.List.{length-map, length-take-le, take-take, take_all}
use Rattle.host_io.specs.Pieces.{out}
use Rattle.policy_trait.specs.Model.{PolicyModel}
use Rattle.turn_steps.specs.Feeds.{Tape, tape_of, with_fed}
use Rattle.engine_trait.specs.Events.{Event, event_of}
use Rattle.engine_trait.specs.History.{has_turn, without_last, without_lasts}
use Rattle.engine_trait.specs.Machine.{Machine}
use Rattle.engine_trait.specs.Runs.{Item, fed, run_along, turn}
use Rattle.engine_trait.specs.Turn.{turn_of}
use Rattle.shell_lang.specs.declared.command.Command.{Command}
use Rattle.shell_lang.specs.declared.command.Command.TheVariants as command
use Rattle.shell_turns.specs.Order.{Order, listed, only, rounds_from}
use Rattle.shell_turns.proofs.EventLemmas.{turns_tell}
use Rattle.shell_run.specs.Gains.{TellsAsked, TellsGain, TellsTurns, events_along, kept_by}
use Rattle.shell_run.specs.Lines.{turns_line}
use Rattle.shell_run.specs.Replies.{Reply, asked_if, backing, breaking, clearing, is_kept, reply_if, reply_to, running, silent, turns_asked, with_break}
use Rattle.shell_run.specs.Runs.{IsAlong, counted_turns, items_after, turned_if}
use Rattle.shell_run.specs.Session.{SessionState, backed_count, is_hart, is_place, is_range}

-- ---- events along some items, and then others

module _ {S T : Type 0} (m : PolicyModel T S) where
  events_more : (s : Machine S T) (feed : Tape) (prefix back : List Item)
      → (run_along m s feed (prefix ++ back)).events
      ≡ (run_along m s feed prefix).events ++ (run_along m (run_along m s feed prefix).machine (run_along m s feed prefix).feed back).events
  events_more s feed [] back = refl
  events_more s feed (turn h ∷ prefix) back =
      ap (λ events. event_of m s feed h ∷ events) (events_more (turn_of m s feed h).machine (turn_of m s feed h).feed prefix back)
  events_more s feed (fed byte ∷ prefix) back = events_more s (with_fed feed (byte ∷ [])) prefix back

  -- bytes that are fed show nothing
  fed_none : (s : Machine S T) (feed : Tape) (bytes : List ℕ) → (run_along m s feed (map fed bytes)).events ≡ []
  fed_none s feed [] = refl
  fed_none s feed (byte ∷ bytes) = fed_none s (with_fed feed (byte ∷ [])) bytes

-- ---- events along some items without the last turns

module _ {X : Type 0} where
  -- all but the last of a list, and of the same list behind one item more
  last_behind : (x : X) (xs : List X) → (xs ≡ [] → ⊥) → x ∷ take (length xs - 1) xs ≡ take (length (x ∷ xs) - 1) (x ∷ xs)
  last_behind x [] some = absurd (some refl)
  last_behind x (y ∷ ys) some =
      ap (λ n. take n (x ∷ y ∷ ys)) (let e : suc (length (y ∷ ys) - 1) ≡ length (x ∷ y ∷ ys) - 1 = omega arith in e)

  -- all but the last so many, and without one more
  last_again : (xs : List X) (count : ℕ) → take (length (take (length xs - count) xs) - 1) (take (length xs - count) xs) ≡ take (length xs - suc count) xs
  last_again xs count =
      ap (λ n. take (n - 1) (take (length xs - count) xs)) (length-take-le (length xs - count) xs (omega arith))
      ∙ take-take (length xs - count - 1) (length xs - count) xs (omega arith)
      ∙ ap (λ n. take n xs) (let e : length xs - count - 1 ≡ length xs - suc count = omega arith in e)

module _ {S T : Type 0} (m : PolicyModel T S) where
  abbrev events : Machine S T → Tape → List Item → List (Event T)
  events s feed items = (run_along m s feed items).events

  quiet_events : (s : Machine S T) (feed : Tape) (items : List Item) → has_turn items ≡ false → events s feed items ≡ []
  quiet_events s feed [] quiet = refl
  quiet_events s feed (turn h ∷ items) quiet = absurd cc
  quiet_events s feed (fed byte ∷ items) quiet = quiet_events s (with_fed feed (byte ∷ [])) items quiet

  turn_shown : (s : Machine S T) (feed : Tape) (items : List Item) → has_turn items ≡ true → events s feed items ≡ [] → ⊥
  turn_shown s feed [] loud none = cc
  turn_shown s feed (turn h ∷ items) loud none = cc
  turn_shown s feed (fed byte ∷ items) loud none = turn_shown s (with_fed feed (byte ∷ [])) items loud none

  module _ (s : Machine S T) (feed : Tape) (h : ℕ) (items : List Item) where
    -- those of the turns behind the first
    abbrev others : List Item → List (Event T)
    others more = events (turn_of m s feed h).machine (turn_of m s feed h).feed more

    abbrev behind_first : List (Event T) → List (Event T)
    behind_first more = event_of m s feed h ∷ more

    last_by : others (without_last items) ≡ take (length (others items) - 1) (others items) → (more : Bool) → has_turn items ≡ more
        → events s feed (if more then turn h ∷ without_last items else items) ≡ take (length (behind_first (others items)) - 1) (behind_first (others items))
    last_by shorter true loud =
        ap behind_first shorter
        ∙ last_behind (event_of m s feed h) (others items) (turn_shown (turn_of m s feed h).machine (turn_of m s feed h).feed items loud)
    last_by shorter false quiet =
        quiet_events s feed items quiet
        ∙ ap (λ (more : List (Event T)). take (length (behind_first more) - 1) (behind_first more))
        (sym (quiet_events (turn_of m s feed h).machine (turn_of m s feed h).feed items quiet))

  last_event : (s : Machine S T) (feed : Tape) (items : List Item) → events s feed (without_last items) ≡ take (length (events s feed items) - 1) (events s feed items)
  last_event s feed [] = refl
  last_event s feed (turn h ∷ items) =
      last_by s feed h items (last_event (turn_of m s feed h).machine (turn_of m s feed h).feed items) (has_turn items) refl
  last_event s feed (fed byte ∷ items) = last_event s (with_fed feed (byte ∷ [])) items

  last_events : (s : Machine S T) (feed : Tape) (items : List Item) (count : ℕ)
      → events s feed (without_lasts count items) ≡ take (length (events s feed items) - count) (events s feed items)
  last_events s feed items zero =
      sym (take_all (length (events s feed items) - 0) (events s feed items) (omega arith))
  last_events s feed items (suc count) =
      let shorter = last_events s feed items count in
      last_event s feed (without_lasts count items) ∙ ap (λ (more : List (Event T)). take (length more - 1) more) shorter
      ∙ last_again (events s feed items) count

-- ---- a command

module _ {S T : Type 0} (eq : T → T → Bool) (m : PolicyModel T S) (s : SessionState S T) where
  -- the events of its turns
  abbrev gained_if : Bool → ℕ → Order → List (Event T)
  gained_if test budget order = (run_along m s.standing.machine s.feed (turned_if eq m s test budget order)).events

  told_running : (budget : ℕ) (order : Order) → TellsTurns eq m s budget order (gained_if true budget order) (running eq m s budget order)
  unfolding running
  told_running budget order =
      let tells = turns_tell eq m s.breaks budget order s.standing s.feed in
      let count = sym (ap length tells.harts) ∙ length-map (gained_if true budget order) (λ event. event.hart) in
      record { harts = tells.harts; told = λ j. tells.told j ++ out (turns_line (count j)) ∷ [] }

  told_if : (test : Bool) (budget : ℕ) (order : Order)
      → TellsAsked eq m s (asked_if test budget order) (gained_if test budget order) (reply_if s test (running eq m s budget order))
  told_if true budget order = told_running budget order
  told_if false budget order = refl

  module _ (items : List Item) (along : IsAlong eq m s items) where
    abbrev before : List (Event T)
    before = events_along eq m s items

    behind : (back : List Item) → events_along eq m s (items ++ back) ≡ before ++ (run_along m s.standing.machine s.feed back).events
    behind back = events_more m s.start.machine (tape_of []) items back ∙ (λ j. before ++ (run_along m (sym along.machine j) (sym along.feed j) back).events)

    -- a command by which nothing is gained and nothing is lost
    same : (c : Command) (after : List (Event T)) → after ≡ before → kept_by s c before ≡ before → turns_asked s c ≡ None → TellsGain eq m s c before after
    same c after is kept none = record {
      gained = [];
      run = is ∙ sym kept ∙ sym (append-nil (kept_by s c before));
      told = subst (λ asked. TellsAsked eq m s asked [] (reply_to eq m s c)) (sym none) refl;
    }

    pub gains_told : (c : Command) → TellsGain eq m s c before (events_along eq m s (items_after eq m s items c))
    unfolding reply_to
    gains_told command.Blank = same command.Blank before refl refl refl
    gains_told (command.Step h n) =
        record { gained = gained_if (is_hart s h) n (only h); run = behind (turned_if eq m s (is_hart s h) n (only h)); told = told_if (is_hart s h) n (only h) }
    gains_told (command.Run n) =
        record { gained = gained_if true n (rounds_from 0); run = behind (counted_turns eq m s n (rounds_from 0)); told = told_running n (rounds_from 0) }
    gains_told (command.Turns harts) =
        let test = list_all (is_hart s) harts in
        let order = listed harts in
        record { gained = gained_if test (length harts) order; run = behind (turned_if eq m s test (length harts) order); told = told_if test (length harts) order }
    gains_told (command.Back n) = record {
      gained = [];
      run = last_events m s.start.machine (tape_of []) items (backed_count s n) ∙ sym (append-nil (kept_by s (command.Back n) before));
      told = refl;
    }
    gains_told (command.Feed bytes) =
        let none = behind (map fed bytes) ∙ ap (λ events. before ++ events) (fed_none m s.standing.machine s.feed bytes) ∙ append-nil before in
        same (command.Feed bytes) (events_along eq m s (items ++ map fed bytes)) none refl refl
    gains_told (command.Regs h) = same (command.Regs h) before refl refl refl
    gains_told (command.Pc h) = same (command.Pc h) before refl refl refl
    gains_told (command.Mem a n) = same (command.Mem a n) before refl refl refl
    gains_told (command.Tags a n) = same (command.Tags a n) before refl refl refl
    gains_told (command.Dis a n) = same (command.Dis a n) before refl refl refl
    gains_told (command.Why h) = same (command.Why h) before refl refl refl
    gains_told command.Blocks = same command.Blocks before refl refl refl
    gains_told command.Stats = same command.Stats before refl refl refl
    gains_told command.Sweeps = same command.Sweeps before refl refl refl
    gains_told (command.Break a) = same (command.Break a) before refl refl refl
    gains_told (command.Clear a) = same (command.Clear a) before refl refl refl
    gains_told command.Reset = record { gained = []; run = refl; told = refl }
    gains_told command.Quit = same command.Quit before refl refl refl

-- ---- the start stays

module _ {S T : Type 0} (eq : T → T → Bool) (m : PolicyModel T S) (s : SessionState S T) where
  abbrev Keeps : SessionState S T → Type 0
  Keeps t = t.start ≡ s.start

  kept_if : (test : Bool) (reply : Reply S T) → Keeps reply.after → Keeps (reply_if s test reply).after
  kept_if true reply keeps = keeps
  kept_if false reply keeps = refl

  break_kept : (a : ℕ) (kept : Bool) → Keeps (if kept then silent s else reply_if s (nat_lt (length s.breaks) 64) (record { after = with_break s a; pieces = [] })).after
  break_kept a true = refl
  break_kept a false = kept_if (nat_lt (length s.breaks) 64) _ refl

  ran_kept : (budget : ℕ) (order : Order) → Keeps (running eq m s budget order).after
  unfolding running
  ran_kept budget order = refl

  back_kept : (turns : ℕ) → Keeps (backing eq m s turns).after
  unfolding backing
  back_kept turns = refl

  pub start_kept : (c : Command) → Keeps (reply_to eq m s c).after
  unfolding reply_to
  start_kept command.Blank = refl
  start_kept (command.Step h n) = kept_if (is_hart s h) _ (ran_kept n (only h))
  start_kept (command.Run n) = ran_kept n (rounds_from 0)
  start_kept (command.Turns harts) = kept_if (list_all (is_hart s) harts) _ (ran_kept (length harts) (listed harts))
  start_kept (command.Back n) = back_kept n
  start_kept (command.Feed bytes) = refl
  start_kept (command.Regs h) = kept_if (is_hart s h) _ refl
  start_kept (command.Pc h) = kept_if (is_hart s h) _ refl
  start_kept (command.Mem a n) = kept_if (is_range s a n) _ refl
  start_kept (command.Tags a n) = kept_if (is_range s a n) _ refl
  start_kept (command.Dis a n) = kept_if (is_range s a n) _ refl
  start_kept (command.Why h) = kept_if (is_hart s h) _ refl
  start_kept command.Blocks = refl
  start_kept command.Stats = refl
  start_kept command.Sweeps = refl
  start_kept (command.Break a) = kept_if (is_place s a) (breaking s a) (break_kept a (is_kept s a))
  start_kept (command.Clear a) = kept_if (is_place s a) (clearing s a) refl
  start_kept command.Reset = refl
  start_kept command.Quit = refl
