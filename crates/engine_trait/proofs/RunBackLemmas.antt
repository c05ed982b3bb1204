-- A run is taken back by the records of its turns, and without its last turn it ends where that turn's record leads back to.
use Rattle.std.proofs.Common.{◌≡◌, ℕ, Bool, true, false, List, [], ◌∷◌, ◌++◌, refl, ap, sym, ◌∙◌, if◌then◌else◌}
use Rattle.std.proofs.lemmas.List.{append-nil, append_assoc}
use Rattle.policy_trait.specs.Model.{PolicyModel}
use Rattle.policy_trait.specs.PolicyLaws.{KeepsLaws}
use Rattle.turn_steps.specs.Feeds.{Tape, with_fed}
use Rattle.undo_log.specs.Past.{Record}
use Rattle.engine_trait.specs.History.{AreMade, Reached, all_undone, bytes_fed, has_turn, reached_after, reached_undone, record_of, records_along, without_last}
use Rattle.engine_trait.specs.HistoryLaws.{StepsBack, TakesBack}
use Rattle.engine_trait.specs.Machine.{IsMachine, Machine}
use Rattle.engine_trait.specs.Runs.{Item, fed, turn}
use Rattle.engine_trait.specs.Turn.{turn_of}
use Rattle.engine_trait.proofs.HistoryLemmas.{turn_back}
use Rattle.engine_trait.proofs.MachineLemmas.{turn_keeps}

-- ---- lists

module _ {X : Type 0} where
  not_empty : (front : List X) (x : X) → [] ≡ front ++ x ∷ [] → ⊥
  not_empty [] x e = cc
  not_empty (first ∷ front) x e = cc

  head_is : (x y : X) (xs ys : List X) → x ∷ xs ≡ y ∷ ys → x ≡ y
  head_is x y xs ys e = cc

  tail_is : (x y : X) (xs ys : List X) → x ∷ xs ≡ y ∷ ys → xs ≡ ys
  tail_is x y xs ys e = cc

-- ---- runs with no turn

module _ {S T : Type 0} (m : PolicyModel T S) where
  quiet_records : (s : Machine S T) (feed : Tape) (items : List Item) → has_turn items ≡ false → records_along m s feed items ≡ []
  quiet_records s feed [] is = refl
  quiet_records s feed (turn h ∷ items) is = absurd cc
  quiet_records s feed (fed byte ∷ items) is = quiet_records s (with_fed feed (byte ∷ [])) items is

  turn_recorded : (s : Machine S T) (feed : Tape) (items : List Item) → has_turn items ≡ true → records_along m s feed items ≡ [] → ⊥
  turn_recorded s feed [] is e = cc
  turn_recorded s feed (turn h ∷ items) is e = cc
  turn_recorded s feed (fed byte ∷ items) is e = turn_recorded s (with_fed feed (byte ∷ [])) items is e

  quiet_made : (s : Machine S T) (feed : Tape) (items : List Item) → has_turn items ≡ false → AreMade m s feed items
  quiet_made s feed [] is = tt
  quiet_made s feed (turn h ∷ items) is = absurd cc
  quiet_made s feed (fed byte ∷ items) is = quiet_made s (with_fed feed (byte ∷ [])) items is

  abbrev stands : Machine S T → Tape → Reached S T
  stands s feed = record { machine = s; feed = feed }

  nothing_fed : (s : Machine S T) (feed : Tape) → reached_after m s feed [] ≡ stands s (with_fed feed [])
  nothing_fed s feed = λ j. record { machine = s; feed = record feed { left = sym (append-nil feed.left) j } }

  -- a byte is fed, and then others
  fed_both : (s : Machine S T) (feed : Tape) (byte : ℕ) (bytes : List ℕ) → stands s (with_fed (with_fed feed (byte ∷ [])) bytes) ≡ stands s (with_fed feed (byte ∷ bytes))
  fed_both s feed byte bytes = λ j. record { machine = s; feed = record feed { left = append_assoc feed.left (byte ∷ []) bytes j } }

  quiet_end : (s : Machine S T) (feed : Tape) (items : List Item) → has_turn items ≡ false → reached_after m s feed items ≡ stands s (with_fed feed (bytes_fed items))
  quiet_end s feed [] is = nothing_fed s feed
  quiet_end s feed (turn h ∷ items) is = absurd cc
  quiet_end s feed (fed byte ∷ items) is = quiet_end s (with_fed feed (byte ∷ [])) items is ∙ fed_both s feed byte (bytes_fed items)

-- ---- runs of turns of harts that are ready

module _ {S T : Type 0} (m : PolicyModel T S) (holds : S → Type 0) (laws : KeepsLaws m holds) where
  pub run_back : (s : Machine S T) (feed : Tape) (items : List Item) → holds s.policy → IsMachine m s → AreMade m s feed items
      → all_undone m (reached_after m s feed items) (records_along m s feed items) ≡ stands m s (with_fed feed (bytes_fed items))
  run_back s feed [] valid is made = nothing_fed m s feed
  run_back s feed (turn h ∷ items) valid is made =
      let kept = turn_keeps m holds laws s valid is feed h in
      let taken = turn_back m holds laws s valid is feed h made.0 in
      ap (λ (reached : Reached S T). reached_undone m reached (record_of m s feed h))
      (run_back (turn_of m s feed h).machine (turn_of m s feed h).feed items kept.valid kept.stays.machine made.1)
      ∙ (λ j. record { machine = taken.machine j; feed = taken.tape (bytes_fed items) j })
  run_back s feed (fed byte ∷ items) valid is made =
      run_back s (with_fed feed (byte ∷ [])) items valid is made ∙ fed_both m s feed byte (bytes_fed items)

  -- ---- the last turn

  module _ (s : Machine S T) (feed : Tape) (h : ℕ) (items : List Item) (taken : TakesBack m holds s feed (turn_of m s feed h) (record_of m s feed h)) where
    abbrev turned : Machine S T
    turned = (turn_of m s feed h).machine

    abbrev turned_feed : Tape
    turned_feed = (turn_of m s feed h).feed

    -- it is the first one
    first_undone : has_turn items ≡ false → reached_after m s feed items ≡ reached_undone m (reached_after m turned turned_feed items) (record_of m s feed h)
    first_undone quiet =
        quiet_end m s feed items quiet
        ∙ (λ j. record { machine = sym taken.machine j; feed = sym (taken.tape (bytes_fed items)) j })
        ∙ ap (λ (reached : Reached S T). reached_undone m reached (record_of m s feed h)) (sym (quiet_end m turned turned_feed items quiet))

    first_back : has_turn items ≡ false → (front : List (Record T T)) (r : Record T T) → record_of m s feed h ∷ records_along m turned turned_feed items ≡ front ++ r ∷ []
        → StepsBack m s feed (turn h ∷ items) items front r
    first_back quiet [] r e =
        let same = first_undone quiet ∙ ap (reached_undone m (reached_after m turned turned_feed items)) (head_is (record_of m s feed h) r _ _ e) in
        record {
          machine = ap (λ (reached : Reached S T). reached.machine) same;
          tape = ap (λ (reached : Reached S T). reached.feed) same;
          records = quiet_records m s feed items quiet;
          made = quiet_made m s feed items quiet;
        }
    first_back quiet (first ∷ front) r e =
        absurd (not_empty front r (sym (quiet_records m turned turned_feed items quiet) ∙ tail_is (record_of m s feed h) first _ _ e))

  module _ (s : Machine S T) (feed : Tape) (h : ℕ) (items : List Item) (made : AreMade m s feed (turn h ∷ items)) where
    -- it is a later one
    later_back : has_turn items ≡ true
        → ((front : List (Record T T)) (r : Record T T) → records_along m (turn_of m s feed h).machine (turn_of m s feed h).feed items ≡ front ++ r ∷ []
        → StepsBack m (turn_of m s feed h).machine (turn_of m s feed h).feed items (without_last items) front r)
        → (front : List (Record T T)) (r : Record T T) → record_of m s feed h ∷ records_along m (turn_of m s feed h).machine (turn_of m s feed h).feed items ≡ front ++ r ∷ []
        → StepsBack m s feed (turn h ∷ items) (turn h ∷ without_last items) front r
    later_back loud rest [] r e =
        absurd (turn_recorded m (turn_of m s feed h).machine (turn_of m s feed h).feed items loud (tail_is (record_of m s feed h) r _ _ e))
    later_back loud rest (first ∷ front) r e =
        let back = rest front r (tail_is (record_of m s feed h) first _ _ e) in
        record {
          machine = back.machine;
          tape = back.tape;
          records = ap (λ (records : List (Record T T)). record_of m s feed h ∷ records) back.records ∙ ap (λ (made : Record T T). made ∷ front) (head_is (record_of m s feed h) first _ _ e);
          made = (made.0, back.made);
        }

  by_rest : (s : Machine S T) (feed : Tape) (h : ℕ) (items : List Item) → TakesBack m holds s feed (turn_of m s feed h) (record_of m s feed h) → AreMade m s feed (turn h ∷ items)
      → ((front : List (Record T T)) (r : Record T T) → records_along m (turn_of m s feed h).machine (turn_of m s feed h).feed items ≡ front ++ r ∷ []
      → StepsBack m (turn_of m s feed h).machine (turn_of m s feed h).feed items (without_last items) front r)
      → (front : List (Record T T)) (r : Record T T) → record_of m s feed h ∷ records_along m (turn_of m s feed h).machine (turn_of m s feed h).feed items ≡ front ++ r ∷ []
      → (more : Bool) → has_turn items ≡ more → StepsBack m s feed (turn h ∷ items) (if more then turn h ∷ without_last items else items) front r
  by_rest s feed h items taken made rest front r e true more = later_back s feed h items made more rest front r e
  by_rest s feed h items taken made rest front r e false more = first_back s feed h items taken more front r e

  pub last_back : (s : Machine S T) (feed : Tape) (items : List Item) (front : List (Record T T)) (r : Record T T) → holds s.policy → IsMachine m s → AreMade m s feed items
      → records_along m s feed items ≡ front ++ r ∷ [] → StepsBack m s feed items (without_last items) front r
  last_back s feed [] front r valid is made e = absurd (not_empty front r e)
  last_back s feed (turn h ∷ items) front r valid is made e =
      let kept = turn_keeps m holds laws s valid is feed h in
      by_rest s feed h items (turn_back m holds laws s valid is feed h made.0) made
      (λ rest last. last_back (turn_of m s feed h).machine (turn_of m s feed h).feed items rest last kept.valid kept.stays.machine made.1)
      front r e (has_turn items) refl
  last_back s feed (fed byte ∷ items) front r valid is made e =
      let back = last_back s (with_fed feed (byte ∷ [])) items front r valid is made e in
      record { machine = back.machine; tape = back.tape; records = back.records; made = back.made }
