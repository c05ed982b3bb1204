-- A heap region and its live blocks. All addresses are of bytes, and a word has four.
use Rattle.std.specs.Prelude.{◌≡◌, ◌⊎◌, ℕ, zero, suc, ◌+◌, ◌*◌, ◌^◌, ◌%◌, ◌<◌, ◌≤◌, ◌==◌, nat_le, nat_lt, Bool, not, ◌&&◌, ◌||◌, List, [], ◌∷◌, ◌++◌, Option, Some, None, option_map, if◌then◌else◌}
use Rattle.std.specs.List.{All, AllPairs, filter, list_all}
use Rattle.std.specs.Option.{option_or}
use Rattle.live_blocks.specs.declared.block.Block.{Block}

-- the region from `base` up to `top`, and its live blocks in the order of their numbers
pub record Space : Type 0 where
  pub base : ℕ
  pub top : ℕ
  pub live : List Block

-- from `base` up to `top`, with these live blocks
abbrev pub region : ℕ → ℕ → List Block → Space
region base top live = record { base = base; top = top; live = live }

-- the address after the block's last word
abbrev pub end_of : Block → ℕ
end_of block = block.base + 4 * block.words

-- ---- where a range fits

-- so many words from `at` on end before the block, or begin after it
abbrev pub is_apart : ℕ → ℕ → Block → Bool
is_apart at words block = nat_le (at + 4 * words) block.base || nat_le (end_of block) at

-- so many words from `at` on lie in the region and meet no live block
abbrev pub fits : Space → ℕ → ℕ → Bool
fits space words at =
    nat_le space.base at && (nat_le (at + 4 * words) space.top && list_all (is_apart at words) space.live)

-- the least number below a bound that passes a test
abbrev pub least : (ℕ → Bool) → ℕ → Option ℕ
least test zero = None
least test (suc bound) = option_or (least test bound) (if test bound then Some bound else None)

-- the lowest multiple of 4 at which so many words fit
unfoldable pub first_fit : Space → ℕ → Option ℕ
first_fit space words = option_map (λ k. 4 * k) (least (λ k. fits space words (4 * k)) space.top)

-- ---- the same as facts

-- what `is_apart` tests
abbrev pub IsApart : ℕ → ℕ → Block → Type 0
IsApart at words block = (at + 4 * words ≤ block.base) ⊎ (end_of block ≤ at)

-- what `fits` tests
pub record LiesFree (space : Space) (words at : ℕ) : Type 0 where
  pub from : space.base ≤ at
  pub to : at + 4 * words ≤ space.top
  pub free : All (IsApart at words) space.live

-- so many words lie free at `at`, a multiple of 4, and at no lower one
pub record IsFirstFit (space : Space) (words at : ℕ) : Type 0 where
  pub aligned : at % 4 ≡ 0
  pub lies_free : LiesFree space words at
  pub first : (lower : ℕ) → lower % 4 ≡ 0 → lower < at → LiesFree space words lower → ⊥

-- the block is one of a region: whole words, at least one, and all of them in it
pub record IsWithin (base top : ℕ) (block : Block) : Type 0 where
  pub aligned : block.base % 4 ≡ 0
  pub some : 1 ≤ block.words
  pub from : base ≤ block.base
  pub to : end_of block ≤ top

-- what always holds: the live blocks lie in the region, each has a number of its own, and no two meet
pub record IsSpace (space : Space) : Type 0 where
  pub aligned : space.base % 4 ≡ 0
  pub rising : space.base ≤ space.top
  pub small : space.top < 2 ^ 32
  pub within : All (IsWithin space.base space.top) space.live
  pub numbered : AllPairs (λ x y. x.number < y.number) space.live
  pub disjoint : AllPairs (λ x y. IsApart x.base x.words y) space.live

-- ---- edits

-- a block more, the newest
abbrev pub with_block : Space → Block → Space
with_block space block = region space.base space.top (space.live ++ block ∷ [])

-- the blocks with one more among them, before the first whose number is not below its own
abbrev pub by_number : List Block → Block → List Block
by_number [] block = block ∷ []
by_number (head ∷ others) block =
    if nat_lt head.number block.number then head ∷ by_number others block else block ∷ head ∷ others

-- a block more, at the place of its number
abbrev pub put_block : Space → Block → Space
put_block space block = region space.base space.top (by_number space.live block)

-- all but the block of that number
abbrev pub without_block : Space → ℕ → Space
without_block space number =
    region space.base space.top (filter (λ block. not (block.number == number)) space.live)
