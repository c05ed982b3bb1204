-- A change of each tag goes through the record of a turn, and through what a record takes back.
use Rattle.std.proofs.Common.{◌≡◌, ℕ, ◌-◌, ◌%◌, ◌==◌, Bool, true, false, List, [], ◌∷◌, map, Option, Some, None, if◌then◌else◌, slice_set, refl, ap, sym, ◌∙◌}
use Rattle.std.proofs.lemmas.List.{map-set}
use Rattle.rv_decode.specs.Groups.{a0}
use Rattle.rv_decode.specs.declared.groups.Group.{Group}
use Rattle.rv_decode.specs.declared.groups.Group.TheVariants as group
use Rattle.rv_step.specs.declared.accesses.Access.{Access}
use Rattle.rv_step.specs.declared.accesses.Access.TheVariants as access
use Rattle.policy_trait.specs.declared.services.Answer.{Answer}
use Rattle.policy_trait.specs.declared.services.Plan.{Plan}
use Rattle.tag_memory.specs.Hart.{HartState, moved_to, reg_value, with_reg, with_reg_tag}
use Rattle.tag_memory.specs.Maps.{hart_by, ram_by}
use Rattle.tag_memory.specs.Ram.{RamState, ram_word, with_ram_word}
use Rattle.tag_memory.proofs.MapLemmas.{ram_tag_by, reg_tag_by, with_ram_tag_by, with_reg_by, with_reg_tag_by}
use Rattle.turn_steps.specs.declared.look.Look.{Look}
use Rattle.undo_log.specs.Past.{Record, record_with, replaced_by, some_replaced_by}
use Rattle.undo_log.specs.declared.record.Replaced.{Replaced}
use Rattle.engine_trait.specs.History.{answer_before, bare_record, core_undone, record_by, record_served, reg_before, replaced, with_old_reg, with_old_word, with_old_words, word_at, words_before, written_record}
use Rattle.engine_trait.specs.Machine.{CoreState, hart_at}
use Rattle.engine_trait.specs.Maps.{core_by, words_by}
use Rattle.engine_trait.proofs.MapLemmas.{hart_at_by}

module _ {T V : Type 0} (f : T → V) where
  -- ---- what stood at the places that a turn writes

  abbrev some_before : {X : Type 0} → Bool → ℕ → ℕ → X → Option (Replaced X)
  some_before none r value tag = if none then None else Some (replaced r value tag)

  some_before_by : (none : Bool) (r value : ℕ) (tag : T) → some_before none r value (f tag) ≡ some_replaced_by f (some_before none r value tag)
  some_before_by true r value tag = refl
  some_before_by false r value tag = refl

  reg_before_by : (hart : HartState T) (r : ℕ) → reg_before (hart_by f hart) r ≡ some_replaced_by f (reg_before hart r)
  reg_before_by hart r =
      ap (some_before (r == 0) r (reg_value hart r)) (reg_tag_by f hart r) ∙ some_before_by (r == 0) r (reg_value hart r) _

  -- a register of a hart of the core
  reg_at : (core : CoreState T) (h r : ℕ) → reg_before (hart_at (core_by f core) h) r ≡ some_replaced_by f (reg_before (hart_at core h) r)
  reg_at core h r = ap (λ hart. reg_before hart r) (hart_at_by f core h) ∙ reg_before_by (hart_at core h) r

  answer_before_by : {U : Type 0} (hart : HartState T) (answer : Option (Answer U))
      → answer_before (hart_by f hart) answer ≡ some_replaced_by f (answer_before hart answer)
  answer_before_by hart None = refl
  answer_before_by hart (Some answer) = reg_before_by hart a0

  word_at_by : (ram : RamState T) (address : ℕ) → word_at (ram_by f ram) address ≡ replaced_by f (word_at ram address)
  word_at_by ram address = ap (replaced address (ram_word ram address)) (ram_tag_by f ram address)

  -- whatever tags the service writes there
  words_before_by : {A B : Type 0} (g : A → B) (ram : RamState T) (words : List (ℕ × ℕ × A))
      → words_before (ram_by f ram) (words_by g words) ≡ map (replaced_by f) (words_before ram words)
  words_before_by g ram [] = refl
  words_before_by g ram (word ∷ words) = λ j. word_at_by ram word.0 j ∷ words_before_by g ram words j

  -- ---- what is put back there

  with_old_reg_by : (hart : HartState T) (old : Option (Replaced T)) → with_old_reg (hart_by f hart) (some_replaced_by f old) ≡ hart_by f (with_old_reg hart old)
  with_old_reg_by hart None = refl
  with_old_reg_by hart (Some old) =
      ap (λ (h : HartState V). with_reg_tag h old.place (f old.tag)) (with_reg_by f hart old.place old.value)
      ∙ with_reg_tag_by f (with_reg hart old.place old.value) old.place old.tag

  with_old_word_by : (ram : RamState T) (old : Option (Replaced T)) → with_old_word (ram_by f ram) (some_replaced_by f old) ≡ ram_by f (with_old_word ram old)
  with_old_word_by ram None = refl
  with_old_word_by ram (Some old) = with_ram_tag_by f (with_ram_word ram old.place old.value) old.place old.tag

  with_old_words_by : (ram : RamState T) (range : List (Replaced T)) → with_old_words (ram_by f ram) (map (replaced_by f) range) ≡ ram_by f (with_old_words ram range)
  with_old_words_by ram [] = refl
  with_old_words_by ram (old ∷ range) =
      ap (λ (r : RamState V). with_old_words r (map (replaced_by f) range)) (with_old_word_by ram (Some old))
      ∙ with_old_words_by (with_old_word ram (Some old)) range

module _ {T V U : Type 0} (f : T → V) (core : CoreState T) where
  -- ---- records

  module _ (h : ℕ) where
    -- a record of these parts
    parts_by : (reg : Option (Replaced V)) (reg_is : Option (Replaced T)) → reg ≡ some_replaced_by f reg_is
        → (word : Option (Replaced V)) (word_is : Option (Replaced T)) → word ≡ some_replaced_by f word_is
        → (range : List (Replaced V)) (range_is : List (Replaced T)) → range ≡ map (replaced_by f) range_is
        → (plan : Option (Plan U)) (fed : Option ℕ)
        → record (bare_record {U = U} (core_by f core) h) { reg = reg; word = word; range = range; plan = plan; fed = fed }
        ≡ record_with f (record (bare_record {U = U} core h) { reg = reg_is; word = word_is; range = range_is; plan = plan; fed = fed })
    parts_by reg reg_is same_reg word word_is same_word range range_is same_range plan fed = λ j. record {
      hart = h;
      pc = (hart_at_by f core h j).pc;
      pc_tag = (hart_at_by f core h j).pc_tag;
      reg = same_reg j;
      word = same_word j;
      range = same_range j;
      plan = plan;
      fed = fed;
    }

    pub bare_record_by : bare_record {U = U} (core_by f core) h ≡ record_with f (bare_record core h)
    bare_record_by = parts_by None None refl None None refl [] [] refl None None

    written_record_by : (r : ℕ) (accessed : Access) → written_record {U = U} (core_by f core) h r accessed ≡ record_with f (written_record core h r accessed)
    written_record_by r (access.Store addr width value) =
        parts_by None None refl (Some (word_at (ram_by f core.ram) (addr - addr % 4))) (Some (word_at core.ram (addr - addr % 4)))
        (ap Some (word_at_by f core.ram (addr - addr % 4))) [] [] refl None None
    written_record_by r _ =
        parts_by (reg_before (hart_at (core_by f core) h) r) (reg_before (hart_at core h) r) (reg_at f core h r) None None refl [] [] refl None None

    pub record_by_by : (called : Group) (next : Option ℕ) (look : Look) → record_by {U = U} called (core_by f core) next h look ≡ record_with f (record_by called core next h look)
    record_by_by group.Exit next look = bare_record_by
    record_by_by group.Put next look = bare_record_by
    record_by_by group.Get next look = parts_by (reg_before (hart_at (core_by f core) h) a0) (reg_before (hart_at core h) a0) (reg_at f core h a0) None None refl [] [] refl None next
    record_by_by group.Break next look =
        parts_by (reg_before (hart_at (core_by f core) h) look.places.result) (reg_before (hart_at core h) look.places.result) (reg_at f core h look.places.result)
        None None refl [] [] refl None None
    record_by_by _ next look = written_record_by look.places.result look.effect.access

    pub record_served_by : {A B : Type 0} (g : A → B) (words : List (ℕ × ℕ × A)) (plan : Plan U)
        → record_served (core_by f core) h (words_by g words) plan ≡ record_with f (record_served core h words plan)
    record_served_by g words plan =
        parts_by (answer_before (hart_at (core_by f core) h) plan.answer) (answer_before (hart_at core h) plan.answer)
        (ap (λ hart. answer_before hart plan.answer) (hart_at_by f core h) ∙ answer_before_by f (hart_at core h) plan.answer)
        None None refl
        (words_before (ram_by f core.ram) (words_by g words)) (words_before core.ram words) (words_before_by f g core.ram words)
        (Some plan) None

  -- ---- what a record takes back

  module _ (made : Record T U) where
    hart_back : moved_to (with_old_reg (hart_at (core_by f core) made.hart) (some_replaced_by f made.reg)) made.pc (f made.pc_tag)
        ≡ hart_by f (moved_to (with_old_reg (hart_at core made.hart) made.reg) made.pc made.pc_tag)
    hart_back =
        ap (λ hart. moved_to hart made.pc (f made.pc_tag))
        (ap (λ hart. with_old_reg hart (some_replaced_by f made.reg)) (hart_at_by f core made.hart) ∙ with_old_reg_by f (hart_at core made.hart) made.reg)

    ram_back : with_old_words (with_old_word (ram_by f core.ram) (some_replaced_by f made.word)) (map (replaced_by f) made.range)
        ≡ ram_by f (with_old_words (with_old_word core.ram made.word) made.range)
    ram_back =
        ap (λ (ram : RamState V). with_old_words ram (map (replaced_by f) made.range)) (with_old_word_by f core.ram made.word)
        ∙ with_old_words_by f (with_old_word core.ram made.word) made.range

    pub core_undone_by : core_undone (core_by f core) (record_with f made) ≡ core_by f (core_undone core made)
    unfolding core_undone
    core_undone_by = λ j. record {
      harts = (ap (slice_set (map (hart_by f) core.harts) made.hart) hart_back
          ∙ sym (map-set (hart_by f) core.harts made.hart (moved_to (with_old_reg (hart_at core made.hart) made.reg) made.pc made.pc_tag))) j;
      stops = slice_set core.stops made.hart None;
      ram = ram_back j;
    }
