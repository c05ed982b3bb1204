-- A session of which the last turns are taken back.
use Rattle.std.proofs.Common.{◌≡◌, ℕ, zero, suc, ◌+◌, ◌≤◌, Bool, List, [], ◌∷◌, ◌++◌, length, Option, Some, None, refl, ap, sym, ◌∙◌, append_assoc, arith}
use Rattle.std.proofs.Math.Nat.{min-le_right}
use Rattle.std.proofs.lemmas.List.{length-append}
use Rattle.policy_trait.specs.Model.{PolicyModel}
use Rattle.policy_trait.specs.PolicyLaws.{KeepsLaws}
use Rattle.turn_steps.specs.Feeds.{tape_of, unread}
use Rattle.undo_log.specs.Past.{Past, Record, newest, older}
use Rattle.undo_log.proofs.PopLemmas.{newest_kept, newest_none}
use Rattle.engine_trait.specs.Back.{back, back_by}
use Rattle.engine_trait.specs.History.{records_along, undone, without_last, without_lasts}
use Rattle.engine_trait.specs.Machine.{Machine}
use Rattle.engine_trait.specs.Runs.{Item}
use Rattle.engine_trait.proofs.RunBackLemmas.{last_back}
use Rattle.shell_run.specs.Runs.{IsAlong, IsStart}
use Rattle.shell_run.specs.Session.{SessionState, backed, backed_count}

module _ {S T : Type 0} (eq : T → T → Bool) (m : PolicyModel T S) (holds : S → Type 0) (laws : KeepsLaws m holds) where
  -- ---- one turn

  module _ (s : SessionState S T) (items : List Item) (start : IsStart m holds s.start) (along : IsAlong eq m s items) where
    abbrev past : Past T T
    past = s.standing.account.past

    -- the session with its last turn taken back, by this record of it
    abbrev undone_by : Option (Record T T) → SessionState S T
    undone_by found = record s { standing = (back_by m s.standing s.feed found).standing; feed = (back_by m s.standing s.feed found).feed }

    -- the run has a turn less, and one record less is kept
    record IsShorter (shorter : SessionState S T) : Type 0 where
      pub run : IsAlong eq m shorter (without_last items)
      pub fewer : length shorter.standing.account.past.kept + 1 ≡ length past.kept

    undone_run : (made : Record T T) → newest past ≡ Some made → IsAlong eq m (undone_by (Some made)) (without_last items)
    undone_run made is =
        let front = along.dropped ++ (older past).kept in
        let records : records_along m s.start.machine (tape_of []) items ≡ front ++ made ∷ []
        = along.records ∙ ap (λ kept. along.dropped ++ kept) (newest_kept past made is)
        ∙ sym (append_assoc along.dropped (older past).kept (made ∷ [])) in
        let stepped = last_back m holds laws s.start.machine (tape_of []) items front made start.policy start.machine along.made records in
        record {
          machine = ap (λ (machine : Machine S T). undone m machine made) along.machine ∙ sym stepped.machine;
          feed = ap (unread made.fed) along.feed ∙ sym stepped.tape;
          made = stepped.made;
          dropped = along.dropped;
          records = stepped.records;
        }

    undone_fewer : (made : Record T T) → newest past ≡ Some made → length (older past).kept + 1 ≡ length past.kept
    undone_fewer made is = sym (ap length (newest_kept past made is) ∙ length-append (older past).kept (made ∷ []))

    shorter_by : (found : Option (Record T T)) → newest past ≡ found → 1 ≤ length past.kept → IsShorter (undone_by found)
    shorter_by (Some made) is some = record { run = undone_run made is; fewer = undone_fewer made is }
    shorter_by None is some = let none = ap length (newest_none past is) in absurd (omega (arith, none, some))

    back_shorter : 1 ≤ length past.kept → IsShorter (record s { standing = (back m s.standing s.feed).standing; feed = (back m s.standing s.feed).feed })
    unfolding back
    back_shorter some = shorter_by (newest past) refl some

  -- ---- as many as are remembered

  module _ (s : SessionState S T) (items : List Item) (start : IsStart m holds s.start) (along : IsAlong eq m s items) where
    -- so many turns are taken back, of the session and of the run
    record AreBacked (count : ℕ) : Type 0 where
      run : IsAlong eq m (backed m s count) (without_lasts count items)
      fewer : length (backed m s count).standing.account.past.kept + count ≡ length s.standing.account.past.kept

    all_backed : (count : ℕ) → count ≤ length s.standing.account.past.kept → AreBacked count
    all_backed zero within = record { run = along; fewer = omega arith }
    all_backed (suc count) within =
        let others = all_backed count (omega (arith, within)) in
        let some : 1 ≤ length (backed m s count).standing.account.past.kept = omega (arith, others.fewer, within) in
        let last = back_shorter (backed m s count) (without_lasts count items) start others.run some in
        record { run = last.run; fewer = omega (arith, last.fewer, others.fewer) }

    pub backed_run : (turns : ℕ) → IsAlong eq m (backed m s (backed_count s turns)) (without_lasts (backed_count s turns) items)
    backed_run turns = (all_backed (backed_count s turns) (min-le_right turns (length s.standing.account.past.kept))).run
