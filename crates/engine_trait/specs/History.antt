-- What a turn replaces, and what takes it back.
use Rattle.std.specs.Prelude.{◌≡◌, ℕ, zero, suc, ◌-◌, ◌%◌, ◌==◌, Bool, true, false, List, [], ◌∷◌, map, Option, Some, None, Result, Ok, Err, if◌then◌else◌, slice_set}
use Rattle.rv_decode.specs.Groups.{a0}
use Rattle.rv_decode.specs.declared.groups.Group.{Group}
use Rattle.rv_decode.specs.declared.groups.Group.TheVariants as group
use Rattle.rv_step.specs.declared.accesses.Access.{Access}
use Rattle.rv_step.specs.declared.accesses.Access.TheVariants as access
use Rattle.shared_terms.specs.Steps.{◌>>=◌}
use Rattle.policy_trait.specs.Model.{PolicyModel}
use Rattle.policy_trait.specs.declared.services.Answer.{Answer}
use Rattle.policy_trait.specs.declared.services.Plan.{Plan}
use Rattle.tag_memory.specs.Hart.{HartState, moved_to, reg_tag, reg_value}
use Rattle.tag_memory.specs.Ram.{RamState, ram_tag, ram_word, with_ram_tag, with_ram_word}
use Rattle.monitor_calls.specs.Service.{Job}
use Rattle.turn_steps.specs.Effects.{with_tagged}
use Rattle.turn_steps.specs.Feeds.{Tape, first_fed, unread, with_fed}
use Rattle.turn_steps.specs.declared.look.Look.{Look}
use Rattle.turn_steps.specs.declared.stop.Stop.{Stop}
use Rattle.undo_log.specs.Past.{Record}
use Rattle.undo_log.specs.declared.record.Replaced.{Replaced}
use Rattle.engine_trait.specs.Machine.{CoreState, Machine, hart_at, is_ready_in}
use Rattle.engine_trait.specs.Runs.{Item, fed, run_along, turn}
use Rattle.engine_trait.specs.Turn.{preparation, rule_answer, turn_job, turn_of}

-- ---- what stood at the places that a turn writes

module _ {T : Type 0} where
  abbrev pub replaced : ℕ → ℕ → T → Replaced T
  replaced place value tag = record { place = place; value = value; tag = tag }

  -- a register; a write to x0 replaces nothing
  abbrev pub reg_before : HartState T → ℕ → Option (Replaced T)
  reg_before hart r = if r == 0 then None else Some (replaced r (reg_value hart r) (reg_tag hart r))

  -- a0, where a service answers
  abbrev pub answer_before : {U : Type 0} → HartState T → Option (Answer U) → Option (Replaced T)
  answer_before hart None = None
  answer_before hart (Some answer) = reg_before hart a0

  -- a word of memory
  abbrev pub word_at : RamState T → ℕ → Replaced T
  word_at ram address = replaced address (ram_word ram address) (ram_tag ram address)

  -- the words of a service's range
  abbrev pub words_before : {U : Type 0} → RamState T → List (ℕ × ℕ × U) → List (Replaced T)
  words_before {U} ram words = map (λ (word : ℕ × ℕ × U). word_at ram word.0) words

-- ---- the record of a turn

module _ {T U : Type 0} where
  -- of a turn that left all but the pc
  abbrev pub bare_record : CoreState T → ℕ → Record T U
  bare_record core h = record {
    hart = h;
    pc = (hart_at core h).pc;
    pc_tag = (hart_at core h).pc_tag;
    reg = None;
    word = None;
    range = [];
    plan = None;
    fed = None;
  }

  -- of an instruction that goes on: a store replaces the word that it writes to, and no register; any other its register
  abbrev pub written_record : CoreState T → ℕ → ℕ → Access → Record T U
  written_record core h r (access.Store addr width value) = record (bare_record core h) { word = Some (word_at core.ram (addr - addr % 4)) }
  written_record core h r _ = record (bare_record core h) { reg = reg_before (hart_at core h) r }

  -- of an instruction, by its group; this is the next byte of the feed, if one is left
  abbrev pub record_by : Group → CoreState T → Option ℕ → ℕ → Look → Record T U
  record_by group.Exit core next h look = bare_record core h
  record_by group.Put core next h look = bare_record core h
  record_by group.Get core next h look = record (bare_record core h) { reg = reg_before (hart_at core h) a0; fed = next }
  record_by group.Break core next h look = record (bare_record core h) { reg = reg_before (hart_at core h) look.places.result }
  record_by _ core next h look = written_record core h look.places.result look.effect.access

  -- of a service by this plan, which writes these words
  abbrev pub record_served : {V : Type 0} → CoreState T → ℕ → List (ℕ × ℕ × V) → Plan U → Record T U
  record_served core h words plan = record (bare_record core h) {
    reg = answer_before (hart_at core h) plan.answer;
    range = words_before core.ram words;
    plan = Some plan;
  }

module _ {T : Type 0} where
  -- of a service, or of any other instruction
  abbrev pub record_done : CoreState T → Option ℕ → ℕ → Look → Option (Job T) → Record T T
  record_done core next h look (Some job) = record_served core h job.words job.plan
  record_done core next h look None = record_by look.group core next h look

  -- of a turn that may have stopped before its effect
  abbrev pub record_or_bare : CoreState T → ℕ → Result (Record T T) Stop → Record T T
  record_or_bare core h (Ok made) = made
  record_or_bare core h (Err why) = bare_record core h

module _ {S T : Type 0} (m : PolicyModel T S) where
  -- the record of the turn of a hart that is ready
  unfoldable pub record_of : Machine S T → Tape → ℕ → Record T T
  record_of s feed h = record_or_bare s.core h (do
    look ← preparation m s h
    outs ← rule_answer m s h look
    job ← turn_job m s h look outs
    Ok (record_done s.core (first_fed feed.left) h look job))

-- ---- what a record takes back

module _ {T : Type 0} where
  abbrev pub with_old_reg : HartState T → Option (Replaced T) → HartState T
  with_old_reg hart None = hart
  with_old_reg hart (Some old) = with_tagged hart old.place old.value old.tag

  abbrev pub with_old_word : RamState T → Option (Replaced T) → RamState T
  with_old_word ram None = ram
  with_old_word ram (Some old) = with_ram_tag (with_ram_word ram old.place old.value) old.place old.tag

  abbrev pub with_old_words : RamState T → List (Replaced T) → RamState T
  with_old_words ram [] = ram
  with_old_words ram (old ∷ others) = with_old_words (with_old_word ram (Some old)) others

  -- the hart goes on where it was, with its register, and memory has its words again
  unfoldable pub core_undone : {U : Type 0} → CoreState T → Record T U → CoreState T
  core_undone core r = record {
    harts = slice_set core.harts r.hart (moved_to (with_old_reg (hart_at core r.hart) r.reg) r.pc r.pc_tag);
    stops = slice_set core.stops r.hart None;
    ram = with_old_words (with_old_word core.ram r.word) r.range;
  }

module _ {S T : Type 0} (m : PolicyModel T S) where
  -- the policy before the plan, where one was committed
  abbrev pub policy_undone : S → Option (Plan T) → S
  policy_undone s None = s
  policy_undone s (Some plan) = m.uncommit s plan

  -- the machine before the turn
  abbrev pub undone : Machine S T → Record T T → Machine S T
  undone s r = record { policy = policy_undone s.policy r.plan; core = core_undone s.core r }

-- ---- runs of which the last turn is taken back

-- whether a list has a turn
abbrev pub has_turn : List Item → Bool
has_turn [] = false
has_turn (turn h ∷ items) = true
has_turn (fed byte ∷ items) = has_turn items

-- the list without its last turn; what is fed stays
abbrev pub without_last : List Item → List Item
without_last [] = []
without_last (turn h ∷ items) = if has_turn items then turn h ∷ without_last items else items
without_last (fed byte ∷ items) = fed byte ∷ without_last items

-- without its last turns, so many of them
abbrev pub without_lasts : ℕ → List Item → List Item
without_lasts zero items = items
without_lasts (suc n) items = without_last (without_lasts n items)

module _ {S T : Type 0} (m : PolicyModel T S) where
  -- the records of a run's turns, the oldest first
  abbrev pub records_along : Machine S T → Tape → List Item → List (Record T T)
  records_along s feed [] = []
  records_along s feed (turn h ∷ items) =
      record_of m s feed h ∷ records_along (turn_of m s feed h).machine (turn_of m s feed h).feed items
  records_along s feed (fed byte ∷ items) = records_along s (with_fed feed (byte ∷ [])) items

  -- each turn of the run is that of a hart that is ready
  abbrev pub AreMade : Machine S T → Tape → List Item → Type 0
  AreMade s feed [] = Unit {0}
  AreMade s feed (turn h ∷ items) =
      (is_ready_in s.core h ≡ true) × AreMade (turn_of m s feed h).machine (turn_of m s feed h).feed items
  AreMade s feed (fed byte ∷ items) = AreMade s (with_fed feed (byte ∷ [])) items

-- ---- all turns of a run taken back

-- where a run stands: the machine and its feed
pub record Reached (S T : Type 0) : Type 0 where
  pub machine : Machine S T
  pub feed : Tape

module _ {S T : Type 0} (m : PolicyModel T S) where
  -- one turn taken back
  abbrev pub reached_undone : Reached S T → Record T T → Reached S T
  reached_undone reached r = record { machine = undone m reached.machine r; feed = unread r.fed reached.feed }

  -- those of the records, of which the last is the newest
  abbrev pub all_undone : Reached S T → List (Record T T) → Reached S T
  all_undone reached [] = reached
  all_undone reached (r ∷ records) = reached_undone (all_undone reached records) r

  -- where the run ends
  abbrev pub reached_after : Machine S T → Tape → List Item → Reached S T
  reached_after s feed items = record { machine = (run_along m s feed items).machine; feed = (run_along m s feed items).feed }

-- the bytes that a run feeds
abbrev pub bytes_fed : List Item → List ℕ
bytes_fed [] = []
bytes_fed (turn h ∷ items) = bytes_fed items
bytes_fed (fed byte ∷ items) = byte ∷ bytes_fed items
