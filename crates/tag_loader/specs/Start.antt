-- The start: what an image makes of a machine under a policy.
use Rattle.std.specs.Prelude.{ℕ, ◌+◌, ◌*◌, ◌/◌, List, [], ◌∷◌, ◌++◌, length, map, take, drop, replicate}
use Rattle.std.specs.List.{range_with_len}
use Rattle.image_format.specs.Picture.{Picture, Segment}
use Rattle.policy_trait.specs.Model.{PolicyModel}
use Rattle.tag_memory.specs.Hart.{HartState, fresh_hart}
use Rattle.tag_memory.specs.Ram.{RamState}
use Rattle.engine_trait.specs.Machine.{Machine, fresh_core}
use Rattle.engine_trait.specs.Accounts.{plain_account}
use Rattle.engine_trait.specs.Standing.{Standing}
use Rattle.tag_loader.specs.Births.{birth_of}

-- words put over those from a place on
abbrev pub words_over : List ℕ → ℕ → List ℕ → List ℕ
words_over memory place words = take place memory ++ (words ++ drop (place + length words) memory)

-- each segment's words at its address
abbrev pub with_segments : List ℕ → List Segment → List ℕ
with_segments memory [] = memory
with_segments memory (segment ∷ segments) = with_segments (words_over memory (segment.address / 4) segment.words) segments

-- the words of the image; those outside its segments are 0
unfoldable pub memory_of : Picture → List ℕ
memory_of g = with_segments (replicate (g.ram / 4) 0) g.segments

module _ {S T : Type 0} (m : PolicyModel T S) (policy : S) (g : Picture) where
  -- the tag of a word, by its number
  abbrev pub start_tag : ℕ → T
  start_tag n = m.start_word policy (birth_of g (4 * n))

  unfoldable pub start_tags : List T
  start_tags = map start_tag (range_with_len 0 (g.ram / 4))

  -- each entry's hart: registers 0 and plain
  abbrev pub start_hart : ℕ → HartState T
  start_hart entry = fresh_hart entry (m.start_pc policy (birth_of g entry)) (m.plain policy)

  unfoldable pub start_ram : RamState T
  start_ram = record { words = memory_of g; tags = start_tags; plain = m.plain policy }

  unfoldable pub start_harts : List (HartState T)
  start_harts = map start_hart g.entries

  unfoldable pub start_machine : Machine S T
  start_machine = record { policy = policy; core = fresh_core start_harts start_ram }

  abbrev pub start_standing : Standing S T
  start_standing = record { machine = start_machine; account = plain_account }
