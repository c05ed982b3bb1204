-- Memory: words of 32 bits at addresses that are multiples of 4, each with a tag.
use Rattle.std.specs.Prelude.{◌≡◌, ℕ, ◌+◌, ◌*◌, ◌/◌, ◌%◌, ◌≤◌, Bool, List, [], ◌∷◌, ◌++◌, drop, length, replicate, take, Option, Some, None, if◌then◌else◌, slice_index, slice_index_or, slice_set}
use Rattle.std.specs.List.{list_all}

pub record RamState (T : Type 0) : Type 0 where
  pub words : List ℕ
  pub tags : List T
  -- the tag of a word that nothing has tagged
  pub plain : T

-- one tag for each word, and from one word to 4,194,304
pub record IsRam {T : Type 0} (ram : RamState T) : Type 0 where
  pub tagged : length ram.tags ≡ length ram.words
  pub some : 1 ≤ length ram.words
  pub few : length ram.words ≤ 4194304

-- a memory whose plain tag is that one
pub record IsRamOf {T : Type 0} (tag : T) (ram : RamState T) : Type 0 where
  pub shape : IsRam ram
  pub plain : ram.plain ≡ tag

abbrev pub ram_bytes : {T : Type 0} → RamState T → ℕ
ram_bytes ram = 4 * length ram.words

-- the address of a whole word in a memory of so many bytes
pub record IsPlace (bytes address : ℕ) : Type 0 where
  pub aligned : address % 4 ≡ 0
  pub within : address + 4 ≤ bytes

-- the word that holds an address, and its tag
abbrev pub ram_word : {T : Type 0} → RamState T → ℕ → ℕ
ram_word ram address = slice_index ram.words (address / 4)

abbrev pub ram_tag : {T : Type 0} → RamState T → ℕ → T
ram_tag ram address = slice_index_or ram.tags (address / 4) ram.plain

-- that word or its tag written, and every other as it was
abbrev pub with_ram_word : {T : Type 0} → RamState T → ℕ → ℕ → RamState T
with_ram_word ram address word = record ram { words = slice_set ram.words (address / 4) word }

abbrev pub with_ram_tag : {T : Type 0} → RamState T → ℕ → T → RamState T
with_ram_tag ram address tag = record ram { tags = slice_set ram.tags (address / 4) tag }

-- memory of that many bytes at the start: words 0, all tags plain
abbrev pub fresh_ram : {T : Type 0} → ℕ → T → RamState T
fresh_ram bytes plain = record { words = replicate (bytes / 4) 0; tags = replicate (bytes / 4) plain; plain = plain }

-- that tag for so many words from an address on, and every other as it was
abbrev pub with_ram_filled : {T : Type 0} → RamState T → ℕ → ℕ → T → RamState T
with_ram_filled ram address words tag =
    record ram { tags = take (address / 4) ram.tags ++ (replicate words tag ++ drop words (drop (address / 4) ram.tags)) }

-- ---- pages of 64 words, of which the last may be shorter

abbrev pub page_tags : {T : Type 0} → RamState T → ℕ → List T
page_tags ram page = take 64 (drop (64 * page) ram.tags)

-- what all of a list are, where they are one
abbrev pub only_one : {T : Type 0} → (T → T → Bool) → List T → Option T
only_one eq [] = None
only_one eq (tag ∷ tags) = if list_all (eq tag) tags then Some tag else None
