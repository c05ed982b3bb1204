-- A sweep where tags are words: the table is made again, every word gets its new number, and no rule is kept.
use Rattle.std.proofs.Common.{◌≡◌, ℕ, ◌≤◌, Bool, List, [], ◌∷◌, ◌++◌, All, length, map, slice_index, refl, ap, sym, subst, ◌∙◌}
use Rattle.std.specs.Cmp.{IsEquivalence}
use Rattle.std.specs.List.{Contains}
use Rattle.std.proofs.lemmas.List.Elements.{All-contains_itself, All-weaker, Contains-append_left, Contains-append_right, recursion_from_All}
use Rattle.std.proofs.lemmas.List.{append_assoc, map-append}
use Rattle.policy_trait.specs.Model.{PolicyModel}
use Rattle.pump_words.specs.Same.{TellsApart}
use Rattle.undo_log.specs.Past.{Past, past_by, past_tags}
use Rattle.undo_log.proofs.MapLemmas.{past_by_past_by, past_tags_by}
use Rattle.undo_log.proofs.TagLemmas.{past_by_same}
use Rattle.engine_trait.specs.Accounts.{Key, standing_tags, swept, with_tags}
use Rattle.shared_terms.specs.Counts.{next_count}
use Rattle.engine_trait.specs.Machine.{CoreState, IsMachine, core_tags}
use Rattle.engine_trait.specs.Maps.{core_by}
use Rattle.rule_cache.specs.Named.{keys_by}
use Rattle.rule_cache.specs.Stores.{Rules, Store, store_without_rules}
use Rattle.tag_intern.specs.Sweep.{Renumbers, remade_table}
use Rattle.tag_intern.specs.Table.{TableState}
use Rattle.tag_intern.specs.Words.{tag_at}
use Rattle.tag_intern.proofs.SweepLemmas.{live_first, swept_below, swept_core, swept_first, swept_more, swept_word}
use Rattle.miss_handler.specs.Asked.{AreRules}
use Rattle.miss_handler.specs.Books.{Rulebook, rulebook_of}
use Rattle.pump_engine.specs.Pump.{IsPump, PumpState, account_by_words, machine_by_words, pump_of}
use Rattle.pump_engine.specs.Steps.{IsSwept, Moves, standing_with}
use Rattle.pump_engine.proofs.LowLemmas.{low_swept}
use Rattle.pump_engine.proofs.PastLemmas.{low_past_swept}

-- sets without a rule have no key, whatever their words stand for, and each rule of theirs is the policy's
emptied : {T : Type 0} (f g : ℕ → T) (sets : List Rules) → map (keys_by f) (map (λ (kept : Rules). []) sets) ≡ map (λ (keys : List (Key T)). []) (map (keys_by g) sets)
emptied f g [] = refl
emptied f g (kept ∷ sets) = ap (λ rest. [] ∷ rest) (emptied f g sets)

none_kept : {T : Type 0} (book : Rulebook T) (tags : List T) (sets : List Rules) → AreRules book tags (map (λ (kept : Rules). []) sets)
none_kept book tags [] = tt
none_kept book tags (kept ∷ sets) = (tt, none_kept book tags sets)

module _ {S T : Type 0} (eq : T → T → Bool) (laws : IsEquivalence eq) (exact : TellsApart eq) (m : PolicyModel T S) (p : PumpState S T) (is : IsPump m p) (made numbers : List ℕ)
    (table : TableState T) (remade : table ≡ remade_table eq p.table (m.plain p.policy) (core_tags p.core ++ (made ++ past_tags p.past))) (leads : Renumbers p.table.tags table.tags numbers) where
  -- the engine behind it
  abbrev pub swept_pump : PumpState S T
  swept_pump = pump_of p.policy (core_by (slice_index numbers) p.core) table (store_without_rules p.store) p.turns (next_count p.sweeps) p.halt
      (past_by (slice_index numbers) p.past)

  -- the words that stand beside those of the core
  abbrev beside : List ℕ
  beside = made ++ past_tags p.past

  abbrev live : List ℕ
  live = core_tags p.core ++ beside

  -- what a word stood for, and what it stands for now
  abbrev before : ℕ → T
  before = tag_at (m.plain p.policy) p.table.tags

  abbrev after : ℕ → T
  after = tag_at (m.plain p.policy) table.tags

  tags_are : table.tags ≡ with_tags eq [] (m.plain p.policy ∷ map (tag_at (m.plain p.policy) p.table.tags) live)
  tags_are = ap (λ (t : TableState T). t.tags) remade

  swept_machine : machine_by_words m swept_pump ≡ machine_by_words m p
  swept_machine =
      ap (λ (core : CoreState T). record { policy = p.policy; core = core })
      (swept_core eq laws exact p.table.tags live (m.plain p.policy) numbers table.tags tags_are leads p.core (live_first p.core beside live refl) is.machine.harts is.machine.ram)

  -- a word that a record has is live
  past_live : All (Contains live) (past_tags p.past)
  past_live =
      All-weaker (Contains (past_tags p.past)) (Contains live)
      (λ word there. Contains-append_right (core_tags p.core) beside word (Contains-append_right made (past_tags p.past) word there))
      (past_tags p.past) (All-contains_itself (past_tags p.past))

  swept_past : past_by after (past_by (slice_index numbers) p.past) ≡ past_by before p.past
  swept_past =
      let alike : ℕ → Type 0 = λ word. after (slice_index numbers word) ≡ before word in
      past_by_past_by (slice_index numbers) after p.past
      ∙ past_by_same (λ word. after (slice_index numbers word)) before p.past
      (All-weaker (Contains live) alike (swept_word eq laws exact p.table.tags live (m.plain p.policy) numbers table.tags tags_are leads) (past_tags p.past) past_live)

  -- the tags of the words beside those of the core: of those that were made, and of those in the records
  beside_tags : map before beside ≡ map before made ++ past_tags (past_by before p.past)
  beside_tags = map-append before made (past_tags p.past) ∙ ap (λ tags. map before made ++ tags) (sym (past_tags_by before p.past))

  -- which come behind those that stand somewhere
  table_tags : with_tags eq [] (standing_tags m (machine_by_words m p) ++ map before beside)
      ≡ with_tags eq [] (standing_with m p made ++ past_tags (past_by before p.past))
  table_tags =
      ap (λ tags. with_tags eq [] (standing_tags m (machine_by_words m p) ++ tags)) beside_tags
      ∙ ap (with_tags eq []) (sym (append_assoc (standing_tags m (machine_by_words m p)) (map before made) (past_tags (past_by before p.past))))

  swept_account : account_by_words m swept_pump ≡ swept eq (standing_with m p made) (account_by_words m p)
  swept_account =
      let same = remade ∙ swept_more eq p.table (m.plain p.policy) p.core beside in
      λ j. record (account_by_words m p) {
        table = (ap (λ (t : TableState T). t.tags) same ∙ table_tags) j;
        limit = (same j).limit;
        sets = emptied (tag_at (m.plain p.policy) table.tags) (tag_at (m.plain p.policy) p.table.tags) p.store.sets j;
        sweeps = next_count p.sweeps;
        past = swept_past j;
      }

  -- a word that was made beside those of the core
  made_live : All (Contains live) made
  made_live =
      All-weaker (Contains made) (Contains live) (λ word there. Contains-append_right (core_tags p.core) beside word (Contains-append_left made (past_tags p.past) word there)) made (All-contains_itself made)

  moves : (word : ℕ) → Contains live word → Moves m p numbers swept_pump word
  moves word there = record {
    same = swept_word eq laws exact p.table.tags live (m.plain p.policy) numbers table.tags tags_are leads word there;
    below = swept_below eq laws exact p.table.tags live (m.plain p.policy) numbers table.tags tags_are leads word;
  }

  pub is_swept : IsSwept eq m p made numbers swept_pump
  is_swept = record {
    parts = record { policy = refl; turns = refl; halt = refl };
    machine = swept_machine;
    account = swept_account;
    moved = recursion_from_All (Moves m p numbers swept_pump) made (All-weaker (Contains live) (Moves m p numbers swept_pump) moves made made_live);
  }

  -- it is an engine still
  pub pump_swept : length table.tags ≤ table.limit → IsPump m swept_pump
  pump_swept within = record {
    machine = subst (IsMachine m) (sym swept_machine) is.machine;
    plain_word = swept_first eq laws exact p.table.tags live (m.plain p.policy) numbers table.tags tags_are leads;
    within = within;
    words = low_swept (length p.table.tags) p.core is.words (length table.tags) numbers
        (swept_below eq laws exact p.table.tags live (m.plain p.policy) numbers table.tags tags_are leads);
    rules = none_kept (rulebook_of m p.policy) table.tags p.store.sets;
    room = is.room;
    remembered = low_past_swept (length p.table.tags) p.past is.remembered (length table.tags) numbers
        (swept_below eq laws exact p.table.tags live (m.plain p.policy) numbers table.tags tags_are leads);
  }

  -- as its parts are written
  module _ (core : CoreState ℕ) (core_is : core ≡ core_by (slice_index numbers) p.core) (store : Store) (store_is : store ≡ store_without_rules p.store) (past : Past ℕ T)
      (past_is : past ≡ past_by (slice_index numbers) p.past) (sweeps : ℕ) where
    pub pump_as : length table.tags ≤ table.limit → IsPump m (pump_of p.policy core table store p.turns sweeps p.halt past)
    pump_as within =
        let written : IsPump m (pump_of p.policy core table store p.turns (next_count p.sweeps) p.halt past) =
        subst (IsPump m) (λ j. pump_of p.policy (sym core_is j) table (sym store_is j) p.turns (next_count p.sweeps) p.halt (sym past_is j)) (pump_swept within) in
        record {
          machine = written.machine;
          plain_word = written.plain_word;
          within = written.within;
          words = written.words;
          rules = written.rules;
          room = written.room;
          remembered = written.remembered;
        }

    pub swept_as : sweeps ≡ next_count p.sweeps → IsSwept eq m p made numbers (pump_of p.policy core table store p.turns sweeps p.halt past)
    swept_as sweeps_are =
        subst (IsSwept eq m p made numbers) (λ j. pump_of p.policy (sym core_is j) table (sym store_is j) p.turns (sym sweeps_are j) p.halt (sym past_is j)) is_swept
