-- What a policy's service is asked with, and what it writes when nothing refuses it.
use Rattle.std.specs.Prelude.{◌≡◌, ℕ, ◌+◌, ◌*◌, List, [], ◌∷◌, length, Option, Some, None, slice_get}
use Rattle.rv_decode.specs.Groups.{a0, a1, a2}
use Rattle.policy_trait.specs.declared.services.Answer.{Answer}
use Rattle.policy_trait.specs.declared.services.Args.{Args}
use Rattle.tag_memory.specs.Hart.{HartState, reg_tag, reg_value, with_reg, with_reg_tag}
use Rattle.tag_memory.specs.Ram.{RamState, ram_bytes, ram_tag, ram_word, with_ram_tag, with_ram_word}
use Rattle.tag_memory.specs.Rows.{LiesOutsideRow}

-- the values and tags of a0, a1 and a2
abbrev pub args_on : {T : Type 0} → HartState T → RamState T → Args T
args_on hart ram = record {
  a0 = reg_value hart a0;
  a1 = reg_value hart a1;
  a2 = reg_value hart a2;
  t0 = reg_tag hart a0;
  t1 = reg_tag hart a1;
  t2 = reg_tag hart a2;
  ram = ram_bytes ram;
}

-- each word of a list (address, value, tag) written in turn
abbrev pub with_words : {T : Type 0} → RamState T → List (ℕ × ℕ × T) → RamState T
with_words ram [] = ram
with_words ram (word ∷ words) = with_words (with_ram_tag (with_ram_word ram word.0 word.1) word.0 word.2) words

-- memory has the words of a row from base on written: item k at base + 4 * k, and what lies outside as it was
pub record WritesRow {T : Type 0} (old : RamState T) (base : ℕ) (words : List (ℕ × ℕ × T)) (new : RamState T) : Type 0 where
  pub words_of : (k : ℕ) (item : ℕ × ℕ × T) → slice_get words k ≡ Some item → ram_word new (base + 4 * k) ≡ item.1
  pub tags_of : (k : ℕ) (item : ℕ × ℕ × T) → slice_get words k ≡ Some item → ram_tag new (base + 4 * k) ≡ item.2
  pub other_words : (other : ℕ) → LiesOutsideRow base (length words) other → ram_word new other ≡ ram_word old other
  pub other_tags : (other : ℕ) → LiesOutsideRow base (length words) other → ram_tag new other ≡ ram_tag old other

-- the answer in a0; without one a0 stays
abbrev pub with_answer : {T : Type 0} → HartState T → Option (Answer T) → HartState T
with_answer hart None = hart
with_answer hart (Some answer) = with_reg_tag (with_reg hart a0 answer.value) a0 answer.tag
