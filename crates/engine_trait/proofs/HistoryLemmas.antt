-- A turn is taken back by its record, and a run by those of its turns.
use Rattle.std.proofs.Common.{◌≡◌, ℕ, ◌+◌, ◌-◌, ◌%◌, ◌<◌, ◌≤◌, true, List, [], ◌∷◌, ◌++◌, All, drop, length, take, Option, Some, None, Result, Ok, Err, nat_lt, ◌==◌, refl, ap, sym, ◌∙◌, subst, arith}
use Rattle.std.specs.Prelude.{slice_set}
use Rattle.std.specs.Option.{ForSome}
use Rattle.std.proofs.lemmas.Bool.{and_parts, cond_both, ltb-true}
use Rattle.std.proofs.lemmas.List.{append-nil, drop_at, get_or-set_same, length-append, set-get_or, set-set, take_at}
use Rattle.std.proofs.lemmas.List.Elements.{All-map, All-nil}
use Rattle.std.proofs.lemmas.Option.{same_Some}
use Rattle.rv_decode.specs.Groups.{a0}
use Rattle.rv_decode.specs.declared.groups.Group.{Group}
use Rattle.rv_decode.specs.declared.groups.Group.TheVariants as group
use Rattle.shared_terms.specs.Steps.{◌>>=◌}
use Rattle.policy_trait.specs.Model.{IsCommitted, IsGiven, PolicyModel}
use Rattle.policy_trait.specs.PolicyLaws.{KeepsLaws}
use Rattle.policy_trait.specs.declared.rules.Outs.{Outs}
use Rattle.policy_trait.specs.declared.services.Answer.{Answer}
use Rattle.policy_trait.specs.declared.services.Plan.{Plan}
use Rattle.rv_step.specs.Accesses.{EndsWithin, bytes_of}
use Rattle.rv_step.specs.declared.accesses.Access.{Access}
use Rattle.rv_step.specs.declared.accesses.Access.TheVariants as access
use Rattle.rv_step.specs.declared.accesses.Width.{Width}
use Rattle.rv_step.specs.declared.accesses.Width.TheVariants.{Byte, Full, Half}
use Rattle.tag_memory.specs.Hart.{HartState, fresh_hart, moved_to, reg_tag, reg_value}
use Rattle.tag_memory.specs.Ram.{IsPlace, RamState, ram_bytes, ram_tag, ram_word}
use Rattle.monitor_calls.specs.Service.{Job}
use Rattle.monitor_calls.proofs.JobLemmas.{job_places}
use Rattle.turn_steps.specs.Effects.{Carried, carried_by, effect_result, result_value, with_store}
use Rattle.turn_steps.specs.Feeds.{Tape, fed_after, fed_value, first_fed, unread, with_fed}
use Rattle.turn_steps.specs.Services.{args_on, with_answer, with_words}
use Rattle.turn_steps.proofs.LookLemmas.{looked_is_sound}
use Rattle.turn_steps.specs.Looks.{is_call}
use Rattle.turn_steps.specs.declared.look.Look.{Look}
use Rattle.turn_steps.specs.declared.stop.Stop.{Stop}
use Rattle.undo_log.specs.Past.{Record}
use Rattle.undo_log.specs.declared.record.Replaced.{Replaced}
use Rattle.engine_trait.specs.History.{answer_before, bare_record, core_undone, policy_undone, record_by, record_done, record_of, record_or_bare, reg_before, replaced, with_old_reg, with_old_word, with_old_words, word_at, words_before, written_record}
use Rattle.engine_trait.specs.HistoryLaws.{IsFit, TakesBack}
use Rattle.engine_trait.specs.Machine.{CoreState, IsMachine, Machine, has_no_stop, hart_at, is_ready_in, stop_at, stopping, with_hart}
use Rattle.engine_trait.specs.Turn.{Turned, attempt, carried_at, core_effected, core_ended, core_served, preparation, rule_answer, service_on, settlement, turn_effect, turn_job, turn_of}
use Rattle.engine_trait.proofs.MachineLemmas.{Prepares, can_plan, hart_is, planned_given, plans, prepared_is}
use Rattle.engine_trait.proofs.TurnLemmas.{allowed_turn, planned_turn, turn_ready}
use Rattle.engine_trait.proofs.RegisterLemmas.{StoresAlone, looked_small, looked_stores}
use Rattle.engine_trait.proofs.RestoredLemmas.{reg_restored, store_restored, words_restored, zero_kept}

-- ---- the feed

byte_again : (read rest : List ℕ) (byte : ℕ) → unread (first_fed (byte ∷ rest)) (record { read = read ++ byte ∷ []; left = rest }) ≡ record { read = read; left = byte ∷ rest }
byte_again read rest byte =
    let short : length (read ++ byte ∷ []) - 1 ≡ length read = omega (arith, length-append read (byte ∷ [])) in
    λ j. record {
      read = (ap (λ (n : ℕ). take n (read ++ byte ∷ [])) short ∙ take_at read (byte ∷ []) (length read) refl) j;
      left = (ap (λ (n : ℕ). drop n (read ++ byte ∷ []) ++ rest) short ∙ ap (λ (xs : List ℕ). xs ++ rest) (drop_at read (byte ∷ []) (length read) refl)) j;
    }

feed_again_by : (read left bytes : List ℕ) → unread (first_fed left) (with_fed (fed_after (record { read = read; left = left })) bytes) ≡ record { read = read; left = left ++ bytes }
feed_again_by read [] bytes = λ j. record { read = append-nil read j; left = bytes }
feed_again_by read (byte ∷ rest) bytes = byte_again read (rest ++ bytes) byte

feed_again : (feed : Tape) (bytes : List ℕ) → unread (first_fed feed.left) (with_fed (fed_after feed) bytes) ≡ with_fed feed bytes
feed_again feed bytes = feed_again_by feed.read feed.left bytes

-- ---- a core with one hart that had its turn

no_stop : (why : Option Stop) → has_no_stop why ≡ true → why ≡ None
no_stop None is = refl
no_stop (Some why) is = absurd cc

module _ {T : Type 0} (core : CoreState T) (h : ℕ) (ready : is_ready_in core h ≡ true) where
  there : h < length core.harts
  there = ltb-true h (length core.harts) (and_parts _ (has_no_stop (stop_at core h)) ready).0

  runs : stop_at core h ≡ None
  runs = no_stop (stop_at core h) (and_parts (nat_lt h (length core.harts)) (has_no_stop (stop_at core h)) ready).1

  stops_same : slice_set core.stops h None ≡ core.stops
  stops_same = ap (slice_set core.stops h) (sym runs) ∙ set-get_or core.stops h None

  stops_again : (why : Stop) → slice_set (slice_set core.stops h (Some why)) h None ≡ core.stops
  stops_again why = set-set core.stops h (Some why) None ∙ stops_same

  -- the hart as it was, over what a turn left of it
  module _ (hart : HartState T) (ram : RamState T) (old : Option (Replaced T)) where
    abbrev put_back : HartState T → HartState T
    put_back found = moved_to (with_old_reg found old) (hart_at core h).pc (hart_at core h).pc_tag

    harts_again : put_back hart ≡ hart_at core h
        → slice_set (slice_set core.harts h hart) h (put_back (hart_at (with_hart core h hart ram) h)) ≡ core.harts
    harts_again same =
        ap (λ (found : HartState T). slice_set (slice_set core.harts h hart) h (put_back found))
        (get_or-set_same core.harts h hart (fresh_hart 0 ram.plain ram.plain) there)
        ∙ ap (slice_set (slice_set core.harts h hart) h) same
        ∙ set-set core.harts h hart (hart_at core h)
        ∙ set-get_or core.harts h (fresh_hart 0 core.ram.plain core.ram.plain)

  -- what a record of this hart has besides its pc
  abbrev recorded : Option (Replaced T) → Option (Replaced T) → List (Replaced T) → Option (Plan T) → Option ℕ → Record T T
  recorded reg word range plan fed = record (bare_record core h) { reg = reg; word = word; range = range; plan = plan; fed = fed }

  core_again : (hart : HartState T) (stops : List (Option Stop)) (ram : RamState T) (reg word : Option (Replaced T)) (range : List (Replaced T)) (plan : Option (Plan T)) (fed : Option ℕ)
      → moved_to (with_old_reg hart reg) (hart_at core h).pc (hart_at core h).pc_tag ≡ hart_at core h
      → slice_set stops h None ≡ core.stops
      → with_old_words (with_old_word ram word) range ≡ core.ram
      → core_undone (record { harts = slice_set core.harts h hart; stops = stops; ram = ram }) (recorded reg word range plan fed) ≡ core
  unfolding core_undone
  core_again hart stops ram reg word range plan fed hart_is stops_are ram_is =
      λ j. record { harts = harts_again hart ram reg hart_is j; stops = stops_are j; ram = ram_is j }

  -- a hart that stopped before its effect
  stopped_again : (why : Stop) → core_undone {U = T} (stopping core h why) (bare_record core h) ≡ core
  unfolding core_undone
  stopped_again why = λ j. record {
    harts = set-get_or core.harts h (fresh_hart 0 core.ram.plain core.ram.plain) j;
    stops = stops_again why j;
    ram = core.ram;
  }

  -- ---- a service

  answered_again : (answer : Option (Answer T)) (next : ℕ) (pc_tag : T)
      → moved_to (with_old_reg (moved_to (with_answer (hart_at core h) answer) next pc_tag) (answer_before (hart_at core h) answer)) (hart_at core h).pc (hart_at core h).pc_tag ≡ hart_at core h
  answered_again None next pc_tag = refl
  answered_again (Some answer) next pc_tag = reg_restored (hart_at core h) a0 answer.value next answer.tag pc_tag

  served_again : (job : Job T) (next : ℕ) (pc_tag : T) → core_undone (core_served core h job.words job.plan.answer next pc_tag)
      (recorded (answer_before (hart_at core h) job.plan.answer) None (words_before core.ram job.words) (Some job.plan) None) ≡ core
  unfolding core_served
  served_again job next pc_tag =
      core_again (moved_to (with_answer (hart_at core h) job.plan.answer) next pc_tag) core.stops (with_words core.ram job.words) _ None _ (Some job.plan) None
      (answered_again job.plan.answer next pc_tag) stops_same (words_restored core.ram job.words)

  -- ---- any other instruction

  module _ (feed : Tape) (look : Look) (outs : Outs T) where
    abbrev carried : Group → Carried T
    carried called = carried_by called (hart_at core h) core.ram feed look outs

    abbrev record_by_group : Group → Record T T
    record_by_group called = record_by called core (first_fed feed.left) h look

    result_again : moved_to (with_old_reg (carried group.Break).hart (reg_before (hart_at core h) look.places.result)) (hart_at core h).pc (hart_at core h).pc_tag ≡ hart_at core h
    result_again =
        reg_restored (hart_at core h) look.places.result (result_value core.ram look.effect.value look.effect.access) look.effect.next outs.result outs.pc

    abbrev written : HartState T
    written = (carried group.Break).hart

    written_again : (accessed : Access) → StoresAlone accessed look.places.result
        → core_undone {U = T} (record { harts = slice_set core.harts h written; stops = core.stops; ram = with_store core.ram accessed outs.result }) (written_record core h look.places.result accessed) ≡ core
    written_again access.None alone = core_again written core.stops core.ram _ None [] None None result_again stops_same refl
    written_again (access.Load addr width signed) alone = core_again written core.stops core.ram _ None [] None None result_again stops_same refl
    written_again (access.Store addr width value) alone =
        core_again written core.stops (with_store core.ram (access.Store addr width value) outs.result) None _ [] None None
        (zero_kept (hart_at core h) look.places.result (result_value core.ram look.effect.value look.effect.access) look.effect.next outs.result outs.pc alone)
        stops_same (store_restored core.ram addr width value outs.result)

    by_group : StoresAlone look.effect.access look.places.result → (called : Group) → core_undone (core_ended core h (carried called) (carried called).done) (record_by_group called) ≡ core
    by_group alone group.Exit = core_again (hart_at core h) _ core.ram None None [] None None refl (stops_again _) refl
    by_group alone group.Put = core_again _ core.stops core.ram None None [] None None refl stops_same refl
    by_group alone group.Get =
        core_again _ core.stops core.ram (reg_before (hart_at core h) a0) None [] None (first_fed feed.left)
        (reg_restored (hart_at core h) a0 (fed_value feed.left) look.effect.next outs.result outs.pc) stops_same refl
    by_group alone group.Break = core_again _ core.stops core.ram _ None [] None None result_again stops_same refl
    by_group alone _ = written_again look.effect.access alone

    effect_again : StoresAlone look.effect.access look.places.result → core_undone (core_effected core feed h look outs) (record_by_group look.group) ≡ core
    unfolding core_effected carried_at effect_result
    effect_again alone = by_group alone look.group

    written_fed : (accessed : Access) → (written_record {U = T} core h look.places.result accessed).fed ≡ None
    written_fed access.None = refl
    written_fed (access.Load addr width signed) = refl
    written_fed (access.Store addr width value) = refl

    fed_by_group : (called : Group) (bytes : List ℕ) → unread (record_by_group called).fed (with_fed (carried called).feed bytes) ≡ with_fed feed bytes
    fed_by_group group.Get bytes = feed_again feed bytes
    fed_by_group group.Exit bytes = refl
    fed_by_group group.Put bytes = refl
    fed_by_group group.Break bytes = refl
    fed_by_group _ bytes = ap (λ (fed : Option ℕ). unread fed (with_fed feed bytes)) (written_fed look.effect.access)

    effect_fed : (bytes : List ℕ) → unread (record_by_group look.group).fed (with_fed (carried_at core feed h look outs).feed bytes) ≡ with_fed feed bytes
    unfolding carried_at effect_result
    effect_fed bytes = fed_by_group look.group bytes

-- ---- what a record names is there

-- the word that holds a store is a word of memory
store_place : {T : Type 0} (ram : RamState T) (addr : ℕ) (width : Width) → addr + bytes_of width ≤ ram_bytes ram → IsPlace (ram_bytes ram) (addr - addr % 4)
store_place ram addr width within = record { aligned = omega arith; within = whole width within }
  where
    whole : (width : Width) → addr + bytes_of width ≤ ram_bytes ram → addr - addr % 4 + 4 ≤ ram_bytes ram
    whole Byte within = omega arith
    whole Half within = omega arith
    whole Full within = omega arith

words_places : {T : Type 0} (ram : RamState T) (words : List (ℕ × ℕ × T)) → All (λ (word : ℕ × ℕ × T). IsPlace (ram_bytes ram) word.0) words
    → All (λ (old : Replaced T). IsPlace (ram_bytes ram) old.place) (words_before ram words)
words_places ram words places = All-map (λ (old : Replaced _). IsPlace (ram_bytes ram) old.place) (λ (word : ℕ × ℕ × _). word_at ram word.0) words places

reg_place : {T : Type 0} (hart : HartState T) (r : ℕ) → r < 32 → ForSome (reg_before hart r) (λ old. old.place < 32)
reg_place hart r small =
    cond_both (r == 0) None (Some (replaced r (reg_value hart r) (reg_tag hart r))) (λ (found : Option (Replaced _)). ForSome found (λ old. old.place < 32))
    (λ zero old is. absurd cc)
    (λ other old is. subst (λ (old : Replaced _). old.place < 32) (same_Some (replaced r (reg_value hart r) (reg_tag hart r)) old is) small)

answer_place : {T : Type 0} (hart : HartState T) (answer : Option (Answer T)) → ForSome (answer_before hart answer) (λ old. old.place < 32)
answer_place hart None old is = absurd cc
answer_place hart (Some answer) old is = reg_place hart a0 (omega arith) old is

nowhere : {X : Type 0} (P : X → Type 0) → ForSome None P
nowhere P x is = absurd cc

-- ---- the turn

module _ {S T : Type 0} (m : PolicyModel T S) (holds : S → Type 0) (laws : KeepsLaws m holds) (s : Machine S T) (valid : holds s.policy) (is : IsMachine m s) (feed : Tape) (h : ℕ)
    (ready : is_ready_in s.core h ≡ true) where
  abbrev Fits : Record T T → Type 0
  Fits r = IsFit (length s.core.harts) (ram_bytes s.core.ram) r

  abbrev IsRegister : Replaced T → Type 0
  IsRegister old = old.place < 32

  abbrev IsWord : Replaced T → Type 0
  IsWord old = IsPlace (ram_bytes s.core.ram) old.place

  fits : (reg word : Option (Replaced T)) (range : List (Replaced T)) (plan : Option (Plan T)) (fed : Option ℕ) → ForSome reg IsRegister → ForSome word IsWord → All IsWord range
      → Fits (recorded s.core h ready reg word range plan fed)
  fits reg word range plan fed reg_is word_is range_is = record {
    hart = there s.core h ready;
    aligned = (hart_is m s is h (there s.core h ready)).shape.aligned;
    reg = reg_is;
    word = word_is;
    range = range_is;
  }

  -- of a record that names no word
  fits_wordless : (reg : Option (Replaced T)) (fed : Option ℕ) → ForSome reg IsRegister → Fits (recorded s.core h ready reg None [] None fed)
  fits_wordless reg fed reg_is = fits reg None [] None fed reg_is (nowhere IsWord) (All-nil IsWord)

  abbrev TakenBy : Result (Turned S T) Stop → Result (Record T T) Stop → Type 0
  TakenBy turned made = TakesBack m holds s feed (settlement m s feed h turned) (record_or_bare s.core h made)

  stop_back : (why : Stop) → TakenBy (Err why) (Err why)
  stop_back why = record {
    machine = λ j. record { policy = s.policy; core = stopped_again s.core h ready why j };
    tape = λ bytes. refl;
    fit = fits_wordless None None (nowhere IsRegister);
    committed = nowhere (IsCommitted m holds s.policy);
  }

  abbrev planned_record : Look → Outs T → Result (Record T T) Stop
  planned_record look outs = turn_job m s h look outs >>= λ job. Ok (record_done s.core (first_fed feed.left) h look job)

  abbrev allowed_record : Look → Result (Record T T) Stop
  allowed_record look = rule_answer m s h look >>= planned_record look

  module _ (look : Look) (found : Prepares m s h look) where
    job_words : (outs : Outs T) (job : Job T) → turn_job m s h look outs ≡ Ok (Some job) → All (λ (word : ℕ × ℕ × T). IsPlace (ram_bytes s.core.ram) word.0) job.words
    unfolding turn_job service_on
    job_words outs job e =
        let parts = plans (is_call look.group) (service_on m s h look outs) (hart_at s.core h).pc look.service job e in
        job_places m s.policy (ram_word s.core.ram) (ram_tag s.core.ram) look.service (args_on (hart_at s.core h) s.core.ram) outs.pc holds laws job
        (can_plan m s h is look found parts.0) valid parts.1

    committed_is : (plan : Plan T) → IsGiven m s.policy plan → ForSome (Some plan) (IsCommitted m holds (m.commit s.policy plan))
    committed_is plan given other same =
        subst (IsCommitted m holds (m.commit s.policy plan)) (same_Some plan other same) (record { before = s.policy; held = valid; given = given; left = refl })

    result_place : ForSome (reg_before (hart_at s.core h) look.places.result) IsRegister
    result_place = reg_place (hart_at s.core h) look.places.result (looked_small (hart_at s.core h) s.core.ram look found.looked_is)

    -- of an instruction that goes on
    written_fit : (accessed : Access) → EndsWithin (ram_bytes s.core.ram) accessed → Fits (written_record s.core h look.places.result accessed)
    written_fit access.None within = fits_wordless (reg_before (hart_at s.core h) look.places.result) None result_place
    written_fit (access.Load addr width signed) within = fits_wordless (reg_before (hart_at s.core h) look.places.result) None result_place
    written_fit (access.Store addr width value) within =
        fits None (Some (word_at s.core.ram (addr - addr % 4))) [] None None (nowhere IsRegister)
        (λ old same. subst IsWord (same_Some (word_at s.core.ram (addr - addr % 4)) old same) (store_place s.core.ram addr width within)) (All-nil IsWord)

    -- of any instruction but a service
    effect_fit : (called : Group) → EndsWithin (ram_bytes s.core.ram) look.effect.access → Fits (record_by called s.core (first_fed feed.left) h look)
    effect_fit group.Exit within = fits_wordless None None (nowhere IsRegister)
    effect_fit group.Put within = fits_wordless None None (nowhere IsRegister)
    effect_fit group.Get within = fits_wordless (reg_before (hart_at s.core h) a0) (first_fed feed.left) (reg_place (hart_at s.core h) a0 (omega arith))
    effect_fit group.Break within = fits_wordless (reg_before (hart_at s.core h) look.places.result) None result_place
    effect_fit _ within = written_fit look.effect.access within

    written_plan : (accessed : Access) → (written_record {U = T} s.core h look.places.result accessed).plan ≡ None
    written_plan access.None = refl
    written_plan (access.Load addr width signed) = refl
    written_plan (access.Store addr width value) = refl

    -- which commits no plan
    uncommitted : (called : Group) → (record_by {U = T} called s.core (first_fed feed.left) h look).plan ≡ None
    uncommitted group.Exit = refl
    uncommitted group.Put = refl
    uncommitted group.Get = refl
    uncommitted group.Break = refl
    uncommitted _ = written_plan look.effect.access

    job_back : (outs : Outs T) (job : Option (Job T)) → turn_job m s h look outs ≡ Ok job → TakenBy (Ok (turn_effect m s feed h look outs job)) (Ok (record_done s.core (first_fed feed.left) h look job))
    job_back outs (Some job) e =
        let given = planned_given m s h holds laws is look outs job found e in
        record {
          machine = λ j. record { policy = laws.undoes s.policy job.plan given valid j; core = served_again s.core h ready job look.effect.next outs.pc j };
          tape = λ bytes. refl;
          fit = fits _ None _ (Some job.plan) None (answer_place (hart_at s.core h) job.plan.answer) (nowhere IsWord) (words_places s.core.ram job.words (job_words outs job e));
          committed = committed_is job.plan given;
        }
    job_back outs None e = record {
      machine = λ j. record { policy = policy_undone m s.policy (uncommitted look.group j); core = effect_again s.core h ready feed look outs (looked_stores (hart_at s.core h) s.core.ram look found.looked_is) j };
      tape = effect_fed s.core h ready feed look outs;
      fit = effect_fit look.group (looked_is_sound (hart_at s.core h) s.core.ram look (hart_is m s is h (there s.core h ready)).shape found.looked_is).in_memory;
      committed = subst (λ (plan : Option (Plan T)). ForSome plan (IsCommitted m holds s.policy)) (sym (uncommitted look.group)) (nowhere (IsCommitted m holds s.policy));
    }

    planned_back : (outs : Outs T) (job : Result (Option (Job T)) Stop) → turn_job m s h look outs ≡ job
        → TakenBy (job >>= λ j. Ok (turn_effect m s feed h look outs j)) (job >>= λ j. Ok (record_done s.core (first_fed feed.left) h look j))
    planned_back outs (Ok job) e = job_back outs job e
    planned_back outs (Err why) e = stop_back why

    rule_back : (answer : Result (Outs T) Stop) → TakenBy (answer >>= planned_turn m s feed h look) (answer >>= planned_record look)
    rule_back (Ok outs) = planned_back outs (turn_job m s h look outs) refl
    rule_back (Err why) = stop_back why

  look_back : (found : Result Look Stop) → preparation m s h ≡ found → TakenBy (found >>= allowed_turn m s feed h) (found >>= allowed_record)
  look_back (Ok look) e = rule_back look (prepared_is m s h look e) (rule_answer m s h look)
  look_back (Err why) e = stop_back why

  attempt_back : TakenBy (attempt m s feed h) (preparation m s h >>= allowed_record)
  unfolding attempt
  attempt_back = look_back (preparation m s h) refl

  pub turn_back : TakesBack m holds s feed (turn_of m s feed h) (record_of m s feed h)
  unfolding record_of
  turn_back =
      subst (λ (turned : Turned S T). TakesBack m holds s feed turned (record_of m s feed h)) (sym (turn_ready m s feed h ready)) attempt_back
