-- The start on the engine that keeps rules: it is sound, and its words stand for the start.
use Rattle.std.proofs.Common.{◌≡◌, ℕ, zero, suc, ◌/◌, ◌*◌, ◌≤◌, Bool, List, [], ◌∷◌, replicate, Option, None, Some, length, map, slice_get, refl, sym, ap, subst, ◌∙◌, arith}
use Rattle.std.specs.List.{All, range_with_len}
use Rattle.std.proofs.lemmas.List.{length-map, length-replicate}
use Rattle.std.proofs.lemmas.List.FromFn.{length-map-range_with_len}
use Rattle.std.proofs.lemmas.Option.{get_or_from_slice_get, slice_get_within}
use Rattle.image_format.specs.Conditions.{IsPlace}
use Rattle.image_format.specs.Picture.{Picture}
use Rattle.policy_trait.specs.Model.{PolicyModel}
use Rattle.tag_memory.specs.Hart.{HartState}
use Rattle.tag_memory.specs.Ram.{IsRam, RamState}
use Rattle.turn_steps.specs.declared.stop.Stop.{Stop}
use Rattle.engine_trait.specs.Accounts.{plain_account, with_tags}
use Rattle.engine_trait.specs.Machine.{CoreState, IsMachine, fresh_core}
use Rattle.engine_trait.specs.Maps.{core_by}
use Rattle.engine_trait.proofs.MapLemmas.{core_on}
use Rattle.rule_cache.specs.Named.{keys_by}
use Rattle.rule_cache.specs.Stores.{empty_store}
use Rattle.tag_intern.specs.Table.{TableState}
use Rattle.tag_intern.specs.Words.{tag_at}
use Rattle.miss_handler.specs.Asked.{AreRules}
use Rattle.miss_handler.specs.Books.{Rulebook, rulebook_of}
use Rattle.pump_engine.specs.Low.{IsLowCore, Low}
use Rattle.undo_log.specs.Past.{Past, past_by, past_of}
use Rattle.engine_trait.specs.Standing.{with_history_for}
use Rattle.pump_engine.proofs.PastLemmas.{low_none}
use Rattle.pump_engine.specs.Pump.{IsPump, decode, machine_by_words, standing_by_words}
use Rattle.pump_engine.specs.Steps.{pump_start}
use Rattle.word_loader.specs.Named.{AreHartsOf, AreWordsOf, Named}
use Rattle.tag_loader.specs.Start.{memory_of, start_hart, start_harts, start_machine, start_ram, start_tag, start_tags}
use Rattle.word_loader.specs.CachedStart.{cached_standing, first_tags}
use Rattle.word_loader.proofs.NamedLemmas.{tag_of, word_of}
use Rattle.tag_loader.proofs.StartLemmas.{harts_are_plain}

-- what an image says of its sizes and its entries
pub record HasSizes (g : Picture) : Type 0 where
  pub some : 4 ≤ g.ram
  pub few : g.ram ≤ 16777216
  pub harts : 1 ≤ length g.entries
  pub most : length g.entries ≤ 8
  pub places : All (IsPlace g.ram) g.entries
  pub words : 4 * length (memory_of g) ≡ g.ram

pub has_sizes : (g : Picture) (ram : ℕ) → ram ≡ g.ram → 4 ≤ ram → ram ≤ 16777216
    → (entries : List ℕ) → entries ≡ g.entries → 1 ≤ length entries → length entries ≤ 8 → All (IsPlace g.ram) entries
    → (memory : List ℕ) → memory ≡ memory_of g → 4 * length memory ≡ g.ram → HasSizes g
has_sizes g ram ram_is some few entries entries_are harts most places memory memory_is words = record {
  some = subst (λ bytes. 4 ≤ bytes) ram_is some;
  few = subst (λ bytes. bytes ≤ 16777216) ram_is few;
  harts = subst (λ all. 1 ≤ length all) entries_are harts;
  most = subst (λ all. length all ≤ 8) entries_are most;
  places = subst (All (IsPlace g.ram)) entries_are places;
  words = subst (λ all. 4 * length all ≡ g.ram) memory_is words;
}

-- memory whose tags are words; word 0 is that of the plain tag
abbrev pub ram_in_words : List ℕ → List ℕ → RamState ℕ
ram_in_words memory tags = record { words = memory; tags = tags; plain = 0 }

-- sets without rules
no_rules : {T : Type 0} (book : Rulebook T) (tags : List T) (sets : ℕ) → AreRules book tags (replicate sets [])
no_rules book tags zero = tt
no_rules book tags (suc sets) = (tt, no_rules book tags sets)

none_read : {T : Type 0} (read : ℕ → T) (sets : ℕ) → map (keys_by read) (replicate sets []) ≡ replicate sets []
none_read read zero = refl
none_read read (suc sets) = ap (λ rest. [] ∷ rest) (none_read read sets)

module _ {S T : Type 0} (m : PolicyModel T S) (policy : S) (g : Picture) where
  ram_is : HasSizes g → IsRam (start_ram m policy g)
  unfolding start_ram start_tags
  ram_is has =
      let words = has.words in
      let some = has.some in
      let few = has.few in
      let tags : length (map (start_tag m policy g) (range_with_len 0 (g.ram / 4))) ≡ g.ram / 4 = length-map-range_with_len (start_tag m policy g) 0 (g.ram / 4) in
      record { tagged = omega (arith, words, tags); some = omega (arith, words, some); few = omega (arith, words, few) }

  start_is_sound : HasSizes g → m.room policy ≤ g.ram → IsMachine m (start_machine m policy g)
  unfolding start_machine start_harts start_ram
  start_is_sound has room =
      let words = has.words in
      let harts = has.harts in
      let most = has.most in
      let count : length (map (start_hart m policy g) g.entries) ≡ length g.entries = length-map g.entries (start_hart m policy g) in
      record {
        core = record { some = omega (arith, harts, count); few = omega (arith, most, count); stops = length-replicate {A = Option Stop} 8 None };
        harts = harts_are_plain m policy g has.places;
        ram = record { shape = ram_is has; plain = refl };
        room = omega (arith, room, words);
      }

  module _ (table : TableState T) (plain_is : slice_get table.tags 0 ≡ Some (m.plain policy)) (harts : List (HartState ℕ)) (words : List ℕ)
      (are_harts : AreHartsOf table.tags (start_harts m policy g) harts) (are_words : AreWordsOf table.tags (start_tags m policy g) words) where
    abbrev named_core : CoreState (Named table.tags)
    named_core =
        fresh_core are_harts.named
        (record { words = memory_of g; tags = are_words.named; plain = record { word = 0; tag = m.plain policy; has = plain_is } })

    abbrev own_ram : RamState ℕ
    own_ram = ram_in_words (memory_of g) words

    core_written : fresh_core harts own_ram ≡ core_by word_of named_core
    core_written = λ j. fresh_core (are_harts.written j) (record { words = memory_of g; tags = are_words.written j; plain = 0 })

    core_meant : (start_machine m policy g).core ≡ core_by tag_of named_core
    unfolding start_machine start_ram
    core_meant = λ j. fresh_core (are_harts.meant j) (record { words = memory_of g; tags = are_words.meant j; plain = m.plain policy })

    abbrev reading : ℕ → T
    reading word = tag_at (m.plain policy) table.tags word

    core_read : core_by reading (fresh_core harts own_ram) ≡ (start_machine m policy g).core
    core_read =
        ap (core_by reading) core_written ∙ core_on word_of reading named_core
        ∙ (λ j. core_by (λ (n : Named table.tags). get_or_from_slice_get table.tags n.word n.tag (m.plain policy) n.has j) named_core)
        ∙ sym core_meant

    abbrev lowered : Named table.tags → Low (length table.tags)
    lowered n = record { word = n.word; below = slice_get_within table.tags n.word n.tag n.has }

    core_low : IsLowCore (length table.tags) (fresh_core harts own_ram)
    core_low = record {
      low = core_by lowered named_core;
      is = core_written ∙ sym (core_on lowered (λ (w : Low (length table.tags)). w.word) named_core);
    }

    module _ (sets ways : ℕ) (past : Past ℕ T) (none : past.kept ≡ []) where
      machine_read : machine_by_words m (pump_start policy harts own_ram table (empty_store sets ways) past) ≡ start_machine m policy g
      unfolding start_machine
      machine_read = λ j. record { policy = policy; core = core_read j }

      pub start_is_pump : HasSizes g → m.room policy ≤ g.ram → length table.tags ≤ table.limit → 1 ≤ ways
          → IsPump m (pump_start policy harts own_ram table (empty_store sets ways) past)
      start_is_pump has room within some = record {
        machine = subst (IsMachine m) (sym machine_read) (start_is_sound has room);
        plain_word = plain_is;
        within = within;
        words = core_low;
        rules = no_rules (rulebook_of m policy) table.tags sets;
        room = some;
        remembered = low_none (length table.tags) past none;
      }

      pub start_is_read : (eq : T → T → Bool) (limit : ℕ) → table.tags ≡ with_tags eq [] (first_tags m policy g) → table.limit ≡ limit
          → standing_by_words m (pump_start policy harts own_ram table (empty_store sets ways) past)
          ≡ with_history_for past.most (cached_standing eq m policy g sets ways limit)
      start_is_read eq limit seen limit_is = λ j. record {
        machine = machine_read j;
        account = record plain_account {
          table = seen j;
          limit = limit_is j;
          sets = none_read (decode m (pump_start policy harts own_ram table (empty_store sets ways) past)) sets j;
          ways = ways;
          past = past_by reading (past_of (none j) past.most);
        };
      }
