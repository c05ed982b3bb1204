-- What memory reads once the words of a row are written.
use Rattle.std.proofs.Common.{◌≡◌, ◌≢◌, ℕ, zero, suc, ◌+◌, ◌*◌, ◌/◌, ◌%◌, inl, inr, List, [], ◌∷◌, length, Some, refl, sym, ap, ◌∙◌, subst, arith}
use Rattle.std.specs.Prelude.{slice_get}
use Rattle.std.specs.List.{All}
use Rattle.std.proofs.lemmas.List.Elements.{All-head, All-tail}
use Rattle.std.proofs.lemmas.Option.{same_Some}
use Rattle.tag_memory.specs.Ram.{IsPlace, IsRam, RamState, ram_bytes, ram_tag, ram_word, with_ram_tag, with_ram_word}
use Rattle.tag_memory.specs.Rows.{LiesOutsideRow, StandFrom}
use Rattle.tag_memory.proofs.RamLemmas.{word_bytes, word_keeps, word_tag_keeps, writes_word, writes_word_tag}
use Rattle.tag_memory.proofs.RowLemmas.{next_place}
use Rattle.turn_steps.specs.Services.{WritesRow, with_words}

-- the list's words are places of memory
abbrev pub ArePlaces : {T : Type 0} → ℕ → List (ℕ × ℕ × T) → Type 0
ArePlaces {T} bytes words = All (λ (word : ℕ × ℕ × T). IsPlace bytes word.0) words

-- ---- addresses of a row

apart : (base count other : ℕ) → base % 4 ≡ 0 → LiesOutsideRow base (suc count) other → other / 4 ≢ base / 4
apart base count other aligned (inl before) same = omega arith
apart base count other aligned (inr behind) same = omega arith

outside_rest : (base count other : ℕ) → LiesOutsideRow base (suc count) other → LiesOutsideRow (base + 4) count other
outside_rest base count other (inl before) = inl (omega arith)
outside_rest base count other (inr behind) = inr (omega arith)

before_rest : (base count : ℕ) → LiesOutsideRow (base + 4) count base
before_rest base count = inl (omega arith)

-- ---- one word written

module _ {T : Type 0} where
  abbrev put : RamState T → ℕ × ℕ × T → RamState T
  put ram word = with_ram_tag (with_ram_word ram word.0 word.1) word.0 word.2

  put_is : (ram : RamState T) (word : ℕ × ℕ × T) → IsRam ram → IsRam (put ram word)
  put_is ram word is =
      (word_tag_keeps ram.plain (with_ram_word ram word.0 word.1) word.0 word.2 (word_keeps ram.plain ram word.0 word.1 (record { shape = is; plain = refl }))).shape

  put_place : (ram : RamState T) (word : ℕ × ℕ × T) (address : ℕ) → IsPlace (ram_bytes ram) address → IsPlace (ram_bytes (with_ram_word ram word.0 word.1)) address
  put_place ram word address place = subst (λ (bytes : ℕ). IsPlace bytes address) (sym (word_bytes ram word.0 word.1)) place

  -- the word that was put
  word_here : (ram : RamState T) (word : ℕ × ℕ × T) → IsPlace (ram_bytes ram) word.0 → ram_word (put ram word) word.0 ≡ word.1
  word_here ram word place = (writes_word ram word.0 word.1 place).written

  tag_here : (ram : RamState T) (word : ℕ × ℕ × T) → IsRam ram → IsPlace (ram_bytes ram) word.0 → ram_tag (put ram word) word.0 ≡ word.2
  tag_here ram word is place =
      (writes_word_tag (with_ram_word ram word.0 word.1) word.0 word.2 (word_keeps ram.plain ram word.0 word.1 (record { shape = is; plain = refl })).shape (put_place ram word word.0 place)).written

  -- and every other
  word_elsewhere : (ram : RamState T) (word : ℕ × ℕ × T) (other : ℕ) → IsPlace (ram_bytes ram) word.0 → other / 4 ≢ word.0 / 4 → ram_word (put ram word) other ≡ ram_word ram other
  word_elsewhere ram word other place differs = (writes_word ram word.0 word.1 place).others other differs

  tag_elsewhere : (ram : RamState T) (word : ℕ × ℕ × T) (other : ℕ) → IsRam ram → IsPlace (ram_bytes ram) word.0 → other / 4 ≢ word.0 / 4 → ram_tag (put ram word) other ≡ ram_tag ram other
  tag_elsewhere ram word other is place differs =
      (writes_word_tag (with_ram_word ram word.0 word.1) word.0 word.2 (word_keeps ram.plain ram word.0 word.1 (record { shape = is; plain = refl })).shape (put_place ram word word.0 place)).others other differs

  rest_places : (ram : RamState T) (word : ℕ × ℕ × T) (words : List (ℕ × ℕ × T)) → ArePlaces (ram_bytes ram) (word ∷ words) → ArePlaces (ram_bytes (put ram word)) words
  rest_places ram word words places =
      subst (λ (bytes : ℕ). ArePlaces bytes words) (sym (word_bytes ram word.0 word.1)) (All-tail (λ (word : ℕ × ℕ × T). IsPlace (ram_bytes ram) word.0) word words places)

  -- ---- a row

  first_place : (base : ℕ) (word : ℕ × ℕ × T) (words : List (ℕ × ℕ × T)) → StandFrom base (word ∷ words) → word.0 ≡ base
  first_place base word words row = row 0 word refl ∙ (let e : base + 4 * 0 ≡ base = omega arith in e)

  rest_stands : (base : ℕ) (word : ℕ × ℕ × T) (words : List (ℕ × ℕ × T)) → StandFrom base (word ∷ words) → StandFrom (base + 4) words
  rest_stands base word words row k item is = row (suc k) item is ∙ next_place base k

  -- a word outside of a row stays
  other_words : (ram : RamState T) (base : ℕ) (words : List (ℕ × ℕ × T)) → base % 4 ≡ 0 → StandFrom base words → ArePlaces (ram_bytes ram) words
      → (other : ℕ) → LiesOutsideRow base (length words) other → ram_word (with_words ram words) other ≡ ram_word ram other
  other_words ram base [] aligned row places other outside = refl
  other_words ram base (word ∷ words) aligned row places other outside =
      other_words (put ram word) (base + 4) words (omega arith) (rest_stands base word words row) (rest_places ram word words places) other (outside_rest base (length words) other outside)
      ∙ word_elsewhere ram word other (All-head (λ (word : ℕ × ℕ × T). IsPlace (ram_bytes ram) word.0) word words places)
      (subst (λ (a : ℕ). other / 4 ≢ a / 4) (sym (first_place base word words row)) (apart base (length words) other aligned outside))

  other_tags : (ram : RamState T) (base : ℕ) (words : List (ℕ × ℕ × T)) → IsRam ram → base % 4 ≡ 0 → StandFrom base words → ArePlaces (ram_bytes ram) words
      → (other : ℕ) → LiesOutsideRow base (length words) other → ram_tag (with_words ram words) other ≡ ram_tag ram other
  other_tags ram base [] is aligned row places other outside = refl
  other_tags ram base (word ∷ words) is aligned row places other outside =
      other_tags (put ram word) (base + 4) words (put_is ram word is) (omega arith) (rest_stands base word words row) (rest_places ram word words places) other (outside_rest base (length words) other outside)
      ∙ tag_elsewhere ram word other is (All-head (λ (word : ℕ × ℕ × T). IsPlace (ram_bytes ram) word.0) word words places)
      (subst (λ (a : ℕ). other / 4 ≢ a / 4) (sym (first_place base word words row)) (apart base (length words) other aligned outside))

  -- a word of a row has its item
  row_words : (ram : RamState T) (base : ℕ) (words : List (ℕ × ℕ × T)) → base % 4 ≡ 0 → StandFrom base words → ArePlaces (ram_bytes ram) words
      → (k : ℕ) (item : ℕ × ℕ × T) → slice_get words k ≡ Some item → ram_word (with_words ram words) (base + 4 * k) ≡ item.1
  row_words ram base [] aligned row places k item is = absurd cc
  row_words ram base (word ∷ words) aligned row places zero item is =
      ap (ram_word (with_words (put ram word) words)) (let e : base + 4 * 0 ≡ base = omega arith in e)
      ∙ other_words (put ram word) (base + 4) words (omega arith) (rest_stands base word words row) (rest_places ram word words places) base (before_rest base (length words))
      ∙ ap (ram_word (put ram word)) (sym (first_place base word words row))
      ∙ word_here ram word (All-head (λ (word : ℕ × ℕ × T). IsPlace (ram_bytes ram) word.0) word words places)
      ∙ ap (λ (item : ℕ × ℕ × T). item.1) (same_Some word item is)
  row_words ram base (word ∷ words) aligned row places (suc k) item is =
      ap (ram_word (with_words (put ram word) words)) (next_place base k)
      ∙ row_words (put ram word) (base + 4) words (omega arith) (rest_stands base word words row) (rest_places ram word words places) k item is

  row_tags : (ram : RamState T) (base : ℕ) (words : List (ℕ × ℕ × T)) → IsRam ram → base % 4 ≡ 0 → StandFrom base words → ArePlaces (ram_bytes ram) words
      → (k : ℕ) (item : ℕ × ℕ × T) → slice_get words k ≡ Some item → ram_tag (with_words ram words) (base + 4 * k) ≡ item.2
  row_tags ram base [] ram_is aligned row places k item is = absurd cc
  row_tags ram base (word ∷ words) ram_is aligned row places zero item is =
      ap (ram_tag (with_words (put ram word) words)) (let e : base + 4 * 0 ≡ base = omega arith in e)
      ∙ other_tags (put ram word) (base + 4) words (put_is ram word ram_is) (omega arith) (rest_stands base word words row) (rest_places ram word words places) base (before_rest base (length words))
      ∙ ap (ram_tag (put ram word)) (sym (first_place base word words row))
      ∙ tag_here ram word ram_is (All-head (λ (word : ℕ × ℕ × T). IsPlace (ram_bytes ram) word.0) word words places)
      ∙ ap (λ (item : ℕ × ℕ × T). item.2) (same_Some word item is)
  row_tags ram base (word ∷ words) ram_is aligned row places (suc k) item is =
      ap (ram_tag (with_words (put ram word) words)) (next_place base k)
      ∙ row_tags (put ram word) (base + 4) words (put_is ram word ram_is) (omega arith) (rest_stands base word words row) (rest_places ram word words places) k item is

  pub writes_row : (ram : RamState T) (base : ℕ) (words : List (ℕ × ℕ × T)) → IsRam ram → base % 4 ≡ 0 → StandFrom base words → ArePlaces (ram_bytes ram) words
      → WritesRow ram base words (with_words ram words)
  writes_row ram base words is aligned row places = record {
    words_of = row_words ram base words aligned row places;
    tags_of = row_tags ram base words is aligned row places;
    other_words = other_words ram base words aligned row places;
    other_tags = other_tags ram base words is aligned row places;
  }
