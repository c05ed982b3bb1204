-- What was replaced stands again where each replaced value is put back.
use Rattle.std.proofs.Common.{◌≡◌, ◌≢◌, ◌⊎◌, ℕ, ◌-◌, ◌/◌, ◌%◌, ◌<◌, ◌≤◌, ◌==◌, Bool, true, false, List, [], ◌∷◌, length, map, get_or, Some, None, refl, sym, ap, ◌∙◌, subst, inl, inr, if◌then◌else◌, arith}
use Rattle.std.specs.Prelude.{slice_index, slice_index_or, slice_set}
use Rattle.std.proofs.lemmas.Bool.{cases_lt, cases_order}
use Rattle.std.proofs.lemmas.List.{ext_get_or, get_or-set_other, get_or-set_same, get_or_past, length-set, set-get_or, set-set}
use Rattle.tag_memory.specs.Hart.{HartState, moved_to, reg_tag, reg_value}
use Rattle.tag_memory.specs.Ram.{RamState, ram_tag, ram_word, with_ram_tag, with_ram_word}
use Rattle.rv_step.specs.Accesses.{stored_in}
use Rattle.rv_step.specs.declared.accesses.Access.TheVariants as access
use Rattle.rv_step.specs.declared.accesses.Width.{Width}
use Rattle.turn_steps.specs.Effects.{with_store, with_tagged}
use Rattle.turn_steps.specs.Services.{with_words}
use Rattle.undo_log.specs.declared.record.Replaced.{Replaced}
use Rattle.engine_trait.specs.History.{reg_before, replaced, with_old_reg, with_old_word, with_old_words, word_at, words_before}

-- ---- lists

-- a number is one of a list
abbrev Among : ℕ → List ℕ → Type 0
Among k [] = ⊥
Among k (place ∷ places) = (k ≡ place) ⊎ Among k places

module _ {X : Type 0} where
  -- each value goes to its place, in order
  abbrev pub with_all : List X → List (ℕ × X) → List X
  with_all xs [] = xs
  with_all xs (put ∷ puts) = with_all (slice_set xs put.0 put.1) puts

  -- what stands at these places
  abbrev pub standing_at : X → List X → List ℕ → List (ℕ × X)
  standing_at d xs places = map (λ (place : ℕ). (place, slice_index_or xs place d)) places

  abbrev pub places_of : List (ℕ × X) → List ℕ
  places_of puts = map (λ (put : ℕ × X). put.0) puts

  length_with : (xs : List X) (puts : List (ℕ × X)) → length (with_all xs puts) ≡ length xs
  length_with xs [] = refl
  length_with xs (put ∷ puts) = length_with (slice_set xs put.0 put.1) puts ∙ length-set xs put.0 put.1

  -- what is written differs at most at its places
  abbrev AgreesBut : X → List X → List X → List ℕ → Type 0
  AgreesBut d ys xs places = (k : ℕ) → (get_or ys k d ≡ get_or xs k d) ⊎ Among k places

  written_but : (d : X) (xs : List X) (puts : List (ℕ × X)) → AgreesBut d (with_all xs puts) xs (places_of puts)
  written_but d xs [] k = inl refl
  written_but d xs (put ∷ puts) k = elim (written_but d (slice_set xs put.0 put.1) puts k) [
    | inr later ↦ inr (inr later)
    | inl same ↦ elim (cases_order k put.0) [
      | inl here ↦ inr (inl here)
      | inr other ↦ inl (same ∙ get_or-set_other xs put.0 k put.1 d (differs other))
    ]
  ]
    where
      differs : (k < put.0) ⊎ (put.0 < k) → k ≢ put.0
      differs (inl below) is = omega arith
      differs (inr above) is = omega arith

  -- one place is as it was
  once : (d : X) (xs ys : List X) (place k : ℕ) (places : List ℕ) → length ys ≡ length xs
      → (get_or ys k d ≡ get_or xs k d) ⊎ Among k (place ∷ places)
      → (get_or (slice_set ys place (get_or xs place d)) k d ≡ get_or xs k d) ⊎ Among k places
  once d xs ys place k places same agrees = elim (cases_order k place) [
    | inl here ↦ inl (subst (λ (n : ℕ). get_or (slice_set ys place (get_or xs place d)) n d ≡ get_or xs n d) (sym here) (at (cases_lt place (length ys))))
    | inr other ↦ elim agrees [
      | inl as_before ↦ inl (get_or-set_other ys place k (get_or xs place d) d (differs other) ∙ as_before)
      | inr (inl here) ↦ absurd (differs other here)
      | inr (inr later) ↦ inr later
    ]
  ]
    where
      differs : (k < place) ⊎ (place < k) → k ≢ place
      differs (inl below) is = omega arith
      differs (inr above) is = omega arith

      at : (place < length ys) ⊎ (length ys ≤ place) → get_or (slice_set ys place (get_or xs place d)) place d ≡ get_or xs place d
      at (inl within) = get_or-set_same ys place (get_or xs place d) d within
      at (inr past) =
          get_or_past (slice_set ys place (get_or xs place d)) place d (omega (arith, length-set ys place (get_or xs place d)))
          ∙ sym (get_or_past xs place d (omega arith))

  restored : (d : X) (xs ys : List X) (places : List ℕ) → length ys ≡ length xs → AgreesBut d ys xs places → with_all ys (standing_at d xs places) ≡ xs
  restored d xs ys [] same agrees = ext_get_or d ys xs same (λ k lower. elim (agrees k) [ inl is ↦ is | inr none ↦ absurd none ])
  restored d xs ys (place ∷ places) same agrees =
      restored d xs (slice_set ys place (get_or xs place d)) places (length-set ys place (get_or xs place d) ∙ same)
      (λ k. once d xs ys place k places same (agrees k))

  -- whatever is written, in whatever order and how often at one place: with the old values back the list is the old one
  pub all_restored : (d : X) (xs : List X) (puts : List (ℕ × X)) → with_all (with_all xs puts) (standing_at d xs (places_of puts)) ≡ xs
  all_restored d xs puts = restored d xs (with_all xs puts) (places_of puts) (length_with xs puts) (written_but d xs puts)

-- ---- a register

value_again : {T : Type 0} (is_zero : Bool) (hart : HartState T) (r value next : ℕ) (tag pc_tag : T) → (r == 0) ≡ is_zero
    → moved_to (with_tagged (moved_to (with_tagged hart r value tag) next pc_tag) r (reg_value hart r) (reg_tag hart r)) hart.pc hart.pc_tag ≡ hart
value_again true hart r value next tag pc_tag is = rw is refl
value_again false hart r value next tag pc_tag is =
    rw is (λ j. record hart {
      values = (set-set hart.values (r - 1) value (get_or hart.values (r - 1) 0) ∙ set-get_or hart.values (r - 1) 0) j;
      tags = (set-set hart.tags (r - 1) tag (get_or hart.tags (r - 1) hart.plain) ∙ set-get_or hart.tags (r - 1) hart.plain) j;
    })

reg_restored_by : {T : Type 0} (is_zero : Bool) (hart : HartState T) (r value next : ℕ) (tag pc_tag : T) → (r == 0) ≡ is_zero
    → moved_to (with_old_reg (moved_to (with_tagged hart r value tag) next pc_tag) (reg_before hart r)) hart.pc hart.pc_tag ≡ hart
reg_restored_by true hart r value next tag pc_tag is = rw is refl
reg_restored_by false hart r value next tag pc_tag is =
    ap (λ (test : Bool). moved_to (with_old_reg (moved_to (with_tagged hart r value tag) next pc_tag)
    (if test then None else Some (replaced r (reg_value hart r) (reg_tag hart r)))) hart.pc hart.pc_tag) is
    ∙ value_again false hart r value next tag pc_tag is

-- written, and written with what it was
pub reg_restored : {T : Type 0} (hart : HartState T) (r value next : ℕ) (tag pc_tag : T)
    → moved_to (with_old_reg (moved_to (with_tagged hart r value tag) next pc_tag) (reg_before hart r)) hart.pc hart.pc_tag ≡ hart
reg_restored hart r value next tag pc_tag = reg_restored_by (r == 0) hart r value next tag pc_tag refl

-- x0 stays as it is
pub zero_kept : {T : Type 0} (hart : HartState T) (r value next : ℕ) (tag pc_tag : T) → r ≡ 0
    → moved_to (moved_to (with_tagged hart r value tag) next pc_tag) hart.pc hart.pc_tag ≡ hart
zero_kept hart r value next tag pc_tag is =
    subst (λ (n : ℕ). moved_to (moved_to (with_tagged hart n value tag) next pc_tag) hart.pc hart.pc_tag ≡ hart) (sym is) refl

-- ---- words of memory

module _ {T : Type 0} where
  -- what writing words puts to the words of memory, and what to its tags
  abbrev value_puts : List (ℕ × ℕ × T) → List (ℕ × ℕ)
  value_puts words = map (λ (word : ℕ × ℕ × T). (word.0 / 4, word.1)) words

  abbrev tag_puts : List (ℕ × ℕ × T) → List (ℕ × T)
  tag_puts words = map (λ (word : ℕ × ℕ × T). (word.0 / 4, word.2)) words

  abbrev old_values : List (Replaced T) → List (ℕ × ℕ)
  old_values olds = map (λ (old : Replaced T). (old.place / 4, old.value)) olds

  abbrev old_tags : List (Replaced T) → List (ℕ × T)
  old_tags olds = map (λ (old : Replaced T). (old.place / 4, old.tag)) olds

  abbrev with_puts : RamState T → List (ℕ × ℕ) → List (ℕ × T) → RamState T
  with_puts ram values tags = record { words = with_all ram.words values; tags = with_all ram.tags tags; plain = ram.plain }

  written_puts : (ram : RamState T) (words : List (ℕ × ℕ × T)) → with_words ram words ≡ with_puts ram (value_puts words) (tag_puts words)
  written_puts ram [] = refl
  written_puts ram (word ∷ words) = written_puts (with_ram_tag (with_ram_word ram word.0 word.1) word.0 word.2) words

  old_puts : (ram : RamState T) (olds : List (Replaced T)) → with_old_words ram olds ≡ with_puts ram (old_values olds) (old_tags olds)
  old_puts ram [] = refl
  old_puts ram (old ∷ olds) = old_puts (with_old_word ram (Some old)) olds

  values_before : (ram : RamState T) (words : List (ℕ × ℕ × T)) → old_values (words_before ram words) ≡ standing_at 0 ram.words (places_of (value_puts words))
  values_before ram [] = refl
  values_before ram (word ∷ words) = ap (λ (rest : List (ℕ × ℕ)). (word.0 / 4, ram_word ram word.0) ∷ rest) (values_before ram words)

  tags_before : (ram : RamState T) (words : List (ℕ × ℕ × T)) → old_tags (words_before ram words) ≡ standing_at ram.plain ram.tags (places_of (tag_puts words))
  tags_before ram [] = refl
  tags_before ram (word ∷ words) = ap (λ (rest : List (ℕ × T)). (word.0 / 4, ram_tag ram word.0) ∷ rest) (tags_before ram words)

  -- the words of a range, in whatever order and how often each
  pub words_restored : (ram : RamState T) (words : List (ℕ × ℕ × T)) → with_old_words (with_words ram words) (words_before ram words) ≡ ram
  words_restored ram words =
      let values = value_puts words in
      let tags = tag_puts words in
      let old_words : with_all (with_all ram.words values) (old_values (words_before ram words)) ≡ ram.words =
      ap (with_all (with_all ram.words values)) (values_before ram words) ∙ all_restored 0 ram.words values in
      let old_tags_are : with_all (with_all ram.tags tags) (old_tags (words_before ram words)) ≡ ram.tags =
      ap (with_all (with_all ram.tags tags)) (tags_before ram words) ∙ all_restored ram.plain ram.tags tags in
      ap (λ after. with_old_words after (words_before ram words)) (written_puts ram words)
      ∙ old_puts (with_puts ram values tags) (words_before ram words)
      ∙ (λ j. record { words = old_words j; tags = old_tags_are j; plain = ram.plain })

  -- ---- the word of a store

  word_restored : (ram : RamState T) (place old value : ℕ) (tag : T) → old ≡ place
      → (let after : RamState T = record ram { words = slice_set ram.words place value; tags = slice_set ram.tags place tag } in
      record after { words = slice_set after.words old (slice_index ram.words old); tags = slice_set after.tags old (slice_index_or ram.tags old ram.plain) }) ≡ ram
  word_restored ram place old value tag is =
      subst (λ (k : ℕ). (record ram {
        words = slice_set (slice_set ram.words place value) k (slice_index ram.words k);
        tags = slice_set (slice_set ram.tags place tag) k (slice_index_or ram.tags k ram.plain);
      }) ≡ ram) (sym is) (λ j. record ram {
        words = (set-set ram.words place value (get_or ram.words place 0) ∙ set-get_or ram.words place 0) j;
        tags = (set-set ram.tags place tag (get_or ram.tags place ram.plain) ∙ set-get_or ram.tags place ram.plain) j;
      })

  pub store_restored : (ram : RamState T) (addr : ℕ) (width : Width) (value : ℕ) (tag : T)
      → with_old_word (with_store ram (access.Store addr width value) tag) (Some (word_at ram (addr - addr % 4))) ≡ ram
  store_restored ram addr width value tag =
      word_restored ram (addr / 4) ((addr - addr % 4) / 4) (stored_in (ram_word ram addr) addr width value) tag (omega arith)
