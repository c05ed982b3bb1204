-- What a hart and a memory read after each write: the place that was written, and every other.
use Rattle.std.specs.Prelude.{◌≡◌, ◌≢◌, ℕ, ◌/◌}
use Rattle.tag_memory.specs.Hart.{HartState, reg_tag, reg_value}
use Rattle.tag_memory.specs.Ram.{RamState, ram_bytes, ram_tag, ram_word}

-- the hart has a value written to register r; x0 stays 0
pub record WritesValue {T : Type 0} (old : HartState T) (r value : ℕ) (new : HartState T) : Type 0 where
  pub written : r ≢ 0 → reg_value new r ≡ value
  pub zero : reg_value new 0 ≡ 0
  pub others : (other : ℕ) → other ≢ r → reg_value new other ≡ reg_value old other
  pub tags : (other : ℕ) → reg_tag new other ≡ reg_tag old other
  pub pc : new.pc ≡ old.pc
  pub pc_tag : new.pc_tag ≡ old.pc_tag
  pub plain : new.plain ≡ old.plain

-- the hart has a tag written to register r; x0 stays plain
pub record WritesTag {T : Type 0} (old : HartState T) (r : ℕ) (tag : T) (new : HartState T) : Type 0 where
  pub written : r ≢ 0 → reg_tag new r ≡ tag
  pub zero : reg_tag new 0 ≡ old.plain
  pub others : (other : ℕ) → other ≢ r → reg_tag new other ≡ reg_tag old other
  pub values : (other : ℕ) → reg_value new other ≡ reg_value old other
  pub pc : new.pc ≡ old.pc
  pub pc_tag : new.pc_tag ≡ old.pc_tag
  pub plain : new.plain ≡ old.plain

-- the hart has its pc written, with its tag
pub record WritesPc {T : Type 0} (old : HartState T) (pc : ℕ) (tag : T) (new : HartState T) : Type 0 where
  pub written : new.pc ≡ pc
  pub tagged : new.pc_tag ≡ tag
  pub values : (r : ℕ) → reg_value new r ≡ reg_value old r
  pub tags : (r : ℕ) → reg_tag new r ≡ reg_tag old r
  pub plain : new.plain ≡ old.plain

-- memory has the word at an address written
pub record WritesWord {T : Type 0} (old : RamState T) (address word : ℕ) (new : RamState T) : Type 0 where
  pub written : ram_word new address ≡ word
  pub others : (other : ℕ) → other / 4 ≢ address / 4 → ram_word new other ≡ ram_word old other
  pub tags : (other : ℕ) → ram_tag new other ≡ ram_tag old other
  pub bytes : ram_bytes new ≡ ram_bytes old
  pub plain : new.plain ≡ old.plain

-- memory has the tag of the word at an address written
pub record WritesWordTag {T : Type 0} (old : RamState T) (address : ℕ) (tag : T) (new : RamState T) : Type 0 where
  pub written : ram_tag new address ≡ tag
  pub others : (other : ℕ) → other / 4 ≢ address / 4 → ram_tag new other ≡ ram_tag old other
  pub words : (other : ℕ) → ram_word new other ≡ ram_word old other
  pub bytes : ram_bytes new ≡ ram_bytes old
  pub plain : new.plain ≡ old.plain
