-- The run that a session makes.
use Rattle.std.proofs.Common.{◌≡◌, ℕ, Bool, true, false, nat_lt, List, [], ◌∷◌, ◌++◌, length, map, if◌then◌else◌, refl, ap, sym, subst, ◌∙◌, append-nil, append_assoc}
use Rattle.std.specs.List.{list_all}
use Rattle.policy_trait.specs.Model.{PolicyModel}
use Rattle.policy_trait.specs.PolicyLaws.{KeepsLaws}
use Rattle.turn_steps.specs.Feeds.{Tape, tape_of, with_fed}
use Rattle.undo_log.specs.Past.{Record}
use Rattle.engine_trait.specs.History.{AreMade, Reached, record_of, records_along, without_lasts}
use Rattle.engine_trait.specs.Machine.{Machine}
use Rattle.engine_trait.specs.Runs.{Item, Trace, fed, run_along, turn}
use Rattle.engine_trait.specs.Standing.{Standing}
use Rattle.engine_trait.specs.Turn.{turn_of}
use Rattle.shell_lang.specs.declared.command.Command.{Command}
use Rattle.shell_lang.specs.declared.command.Command.TheVariants as command
use Rattle.shell_turns.specs.Order.{Order, listed, only, rounds_from}
use Rattle.shell_turns.proofs.PastLemmas.{ends_behind, turns_remembered}
use Rattle.shell_turns.proofs.RunLemmas.{turns_run}
use Rattle.shell_run.specs.Replies.{Reply, backing, breaking, reply_if, clearing, is_kept, reply_to, restarting, running, silent}
use Rattle.shell_run.specs.Runs.{IsAlong, IsStart, items_after, counted_turns, turned_if}
use Rattle.shell_run.specs.Session.{SessionState, backed_count, fresh, is_hart, is_place, is_range}
use Rattle.shell_run.proofs.BackLemmas.{backed_run}

-- two runs end alike
record EndAlike {S T : Type 0} (one other : Trace S T) : Type 0 where
  machine : one.machine ≡ other.machine
  feed : one.feed ≡ other.feed

module _ {S T : Type 0} (m : PolicyModel T S) where
  -- some items, and then others
  abbrev after_prefix : Machine S T → Tape → List Item → List Item → Trace S T
  after_prefix s feed prefix back = run_along m (run_along m s feed prefix).machine (run_along m s feed prefix).feed back

  run_more : (s : Machine S T) (feed : Tape) (prefix back : List Item) → EndAlike (run_along m s feed (prefix ++ back)) (after_prefix s feed prefix back)
  run_more s feed [] back = record { machine = refl; feed = refl }
  run_more s feed (turn h ∷ prefix) back =
      let more = run_more (turn_of m s feed h).machine (turn_of m s feed h).feed prefix back in
      record { machine = more.machine; feed = more.feed }
  run_more s feed (fed byte ∷ prefix) back =
      let more = run_more s (with_fed feed (byte ∷ [])) prefix back in
      record { machine = more.machine; feed = more.feed }

  run_fed : (s : Machine S T) (feed : Tape) (bytes : List ℕ) → EndAlike (run_along m s feed (map fed bytes)) (record { machine = s; feed = with_fed feed bytes; events = [] })
  run_fed s feed [] = record { machine = refl; feed = λ j. record feed { left = sym (append-nil feed.left) j } }
  run_fed s feed (byte ∷ bytes) =
      let more = run_fed s (with_fed feed (byte ∷ [])) bytes in
      record { machine = more.machine; feed = more.feed ∙ (λ j. record feed { left = append_assoc feed.left (byte ∷ []) bytes j }) }

  -- ---- its records

  records_more : (s : Machine S T) (feed : Tape) (prefix back : List Item) → records_along m s feed (prefix ++ back)
      ≡ records_along m s feed prefix ++ records_along m (run_along m s feed prefix).machine (run_along m s feed prefix).feed back
  records_more s feed [] back = refl
  records_more s feed (turn h ∷ prefix) back =
      ap (λ (records : List (Record T T)). record_of m s feed h ∷ records) (records_more (turn_of m s feed h).machine (turn_of m s feed h).feed prefix back)
  records_more s feed (fed byte ∷ prefix) back = records_more s (with_fed feed (byte ∷ [])) prefix back

  made_more : (s : Machine S T) (feed : Tape) (prefix back : List Item) → AreMade m s feed prefix
      → AreMade m (run_along m s feed prefix).machine (run_along m s feed prefix).feed back → AreMade m s feed (prefix ++ back)
  made_more s feed [] back first more = more
  made_more s feed (turn h ∷ prefix) back first more =
      (first.0, made_more (turn_of m s feed h).machine (turn_of m s feed h).feed prefix back first.1 more)
  made_more s feed (fed byte ∷ prefix) back first more = made_more s (with_fed feed (byte ∷ [])) prefix back first more

  -- bytes that are fed are no turns
  fed_records : (s : Machine S T) (feed : Tape) (bytes : List ℕ) → records_along m s feed (map fed bytes) ≡ []
  fed_records s feed [] = refl
  fed_records s feed (byte ∷ bytes) = fed_records s (with_fed feed (byte ∷ [])) bytes

  fed_made : (s : Machine S T) (feed : Tape) (bytes : List ℕ) → AreMade m s feed (map fed bytes)
  fed_made s feed [] = tt
  fed_made s feed (byte ∷ bytes) = fed_made s (with_fed feed (byte ∷ [])) bytes

module _ {S T : Type 0} (eq : T → T → Bool) (m : PolicyModel T S) (s : SessionState S T) (items : List Item) (along : IsAlong eq m s items) where
  abbrev Goes : SessionState S T → List Item → Type 0
  Goes t more = IsAlong eq m t more

  -- items behind these
  behind_end : (back : List Item) → EndAlike (run_along m s.start.machine (tape_of []) (items ++ back)) (run_along m s.standing.machine s.feed back)
  behind_end back =
      let all = run_more m s.start.machine (tape_of []) items back in
      record {
        machine = all.machine ∙ (λ j. (run_along m (sym along.machine j) (sym along.feed j) back).machine);
        feed = all.feed ∙ (λ j. (run_along m (sym along.machine j) (sym along.feed j) back).feed);
      }

  behind_records : (back : List Item)
      → records_along m s.start.machine (tape_of []) (items ++ back)
      ≡ along.dropped ++ (s.standing.account.past.kept ++ records_along m s.standing.machine s.feed back)
  behind_records back =
      records_more m s.start.machine (tape_of []) items back
      ∙ (λ j. along.records j ++ records_along m (sym along.machine j) (sym along.feed j) back)
      ∙ append_assoc along.dropped s.standing.account.past.kept (records_along m s.standing.machine s.feed back)

  behind_made : (back : List Item) → AreMade m s.standing.machine s.feed back → AreMade m s.start.machine (tape_of []) (items ++ back)
  behind_made back made =
      made_more m s.start.machine (tape_of []) items back along.made
      (subst (λ (at : Reached S T). AreMade m at.machine at.feed back) (λ j. record { machine = along.machine j; feed = along.feed j }) made)

  -- a session that stays
  stays : (t : SessionState S T) → t ≡ s → Goes t items
  stays t is = subst (λ u. Goes u items) (sym is) along

  checked_stays : (test : Bool) (reply : Reply S T) → reply.after ≡ s → Goes (reply_if s test reply).after items
  checked_stays true reply is = stays reply.after is
  checked_stays false reply is = along

  -- one whose breakpoints alone change
  with_breaks : (breaks : List ℕ) → Goes (record s { breaks = breaks }) items
  with_breaks breaks = record {
    machine = along.machine;
    feed = along.feed;
    made = along.made;
    dropped = along.dropped;
    records = along.records;
  }

  break_goes : (a : ℕ) (kept room : Bool) → Goes (if kept then silent s else reply_if s room (record { after = record s { breaks = s.breaks ++ a ∷ [] }; pieces = [] })).after items
  break_goes a true room = along
  break_goes a false true = with_breaks (s.breaks ++ a ∷ [])
  break_goes a false false = along

  checked_goes : (test : Bool) (reply : Reply S T) → Goes reply.after items → Goes (reply_if s test reply).after items
  checked_goes true reply goes = goes
  checked_goes false reply goes = along

  -- turns
  ran : (budget : ℕ) (order : Order) → Goes (running eq m s budget order).after (items ++ counted_turns eq m s budget order)
  unfolding running
  ran budget order =
      let ends = turns_run eq m s.breaks budget order s.standing s.feed in
      let remembered = turns_remembered eq m s.breaks budget order s.standing s.feed in
      let back = counted_turns eq m s budget order in
      let all = behind_end back in
      let kept = ends_behind along.dropped (s.standing.account.past.kept ++ records_along m s.standing.machine s.feed back) _ remembered.kept in
      record {
        machine = ends.machine ∙ sym all.machine;
        feed = ends.feed ∙ sym all.feed;
        made = behind_made back remembered.made;
        dropped = kept.dropped;
        records = behind_records back ∙ kept.parts;
      }

  ran_if : (test : Bool) (budget : ℕ) (order : Order) → Goes (reply_if s test (running eq m s budget order)).after (items ++ turned_if eq m s test budget order)
  ran_if true budget order = ran budget order
  ran_if false budget order = subst (Goes s) (sym (append-nil items)) along

  -- bytes that are fed
  fed_goes : (bytes : List ℕ) → Goes (record s { feed = with_fed s.feed bytes }) (items ++ map fed bytes)
  fed_goes bytes =
      let all = behind_end (map fed bytes) in
      let ends = run_fed m s.standing.machine s.feed bytes in
      record {
        machine = sym (all.machine ∙ ends.machine);
        feed = sym (all.feed ∙ ends.feed);
        made = behind_made (map fed bytes) (fed_made m s.standing.machine s.feed bytes);
        dropped = along.dropped;
        records =
            behind_records (map fed bytes)
            ∙ ap (λ (records : List (Record T T)). along.dropped ++ (s.standing.account.past.kept ++ records)) (fed_records m s.standing.machine s.feed bytes)
            ∙ ap (λ (kept : List (Record T T)). along.dropped ++ kept) (append-nil s.standing.account.past.kept);
      }

-- a session at its start has not begun its run
pub begins : {S T : Type 0} (eq : T → T → Bool) (m : PolicyModel T S) (holds : S → Type 0) (start : Standing S T) → IsStart m holds start → IsAlong eq m (fresh start) []
begins eq m holds start is = record {
  machine = refl;
  feed = refl;
  made = tt;
  dropped = [];
  records = sym is.none;
}

module _ {S T : Type 0} (eq : T → T → Bool) (m : PolicyModel T S) (holds : S → Type 0) (laws : KeepsLaws m holds)
    (s : SessionState S T) (items : List Item) (start : IsStart m holds s.start) (along : IsAlong eq m s items) where
  abbrev GoesOn : SessionState S T → List Item → Type 0
  GoesOn t more = IsAlong eq m t more

  -- turns that are taken back
  backs_on : (turns : ℕ) → GoesOn (backing eq m s turns).after (without_lasts (backed_count s turns) items)
  unfolding backing
  backs_on turns = backed_run eq m holds laws s items start along turns

  -- the start again
  restarts : GoesOn (restarting s).after []
  restarts = let fresh_run = begins eq m holds s.start start in
      record { machine = fresh_run.machine; feed = fresh_run.feed; made = fresh_run.made; dropped = fresh_run.dropped; records = fresh_run.records }

  pub goes_on : (c : Command) → GoesOn (reply_to eq m s c).after (items_after eq m s items c)
  unfolding reply_to
  goes_on command.Blank = along
  goes_on (command.Step h n) = ran_if eq m s items along (is_hart s h) n (only h)
  goes_on (command.Run n) = ran eq m s items along n (rounds_from 0)
  goes_on (command.Turns harts) = ran_if eq m s items along (list_all (is_hart s) harts) (length harts) (listed harts)
  goes_on (command.Back n) = backs_on n
  goes_on (command.Feed bytes) = fed_goes eq m s items along bytes
  goes_on (command.Regs h) = checked_stays eq m s items along (is_hart s h) _ refl
  goes_on (command.Pc h) = checked_stays eq m s items along (is_hart s h) _ refl
  goes_on (command.Mem a n) = checked_stays eq m s items along (is_range s a n) _ refl
  goes_on (command.Tags a n) = checked_stays eq m s items along (is_range s a n) _ refl
  goes_on (command.Dis a n) = checked_stays eq m s items along (is_range s a n) _ refl
  goes_on (command.Why h) = checked_stays eq m s items along (is_hart s h) _ refl
  goes_on command.Blocks = along
  goes_on command.Stats = along
  goes_on command.Sweeps = along
  goes_on (command.Break a) = checked_goes eq m s items along (is_place s a) (breaking s a) (break_goes eq m s items along a (is_kept s a) (nat_lt (length s.breaks) 64))
  goes_on (command.Clear a) = checked_goes eq m s items along (is_place s a) (clearing s a) (with_breaks eq m s items along (clearing s a).after.breaks)
  goes_on command.Reset = restarts
  goes_on command.Quit = along
