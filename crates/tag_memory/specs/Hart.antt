-- A hart: the registers x1 to x31 with their tags, and the pc with its tag. x0 is not kept: it is 0 and plain.
use Rattle.std.specs.Prelude.{◌≡◌, ℕ, ◌-◌, ◌%◌, ◌==◌, List, ◌∷◌, drop, length, replicate, slice_index, slice_index_or, slice_set, if◌then◌else◌}

pub record HartState (T : Type 0) : Type 0 where
  -- x1 is the first
  pub values : List ℕ
  pub tags : List T
  pub pc : ℕ
  pub pc_tag : T
  -- the tag of a register that nothing has tagged
  pub plain : T

pub record IsHart {T : Type 0} (hart : HartState T) : Type 0 where
  pub values : length hart.values ≡ 31
  pub tags : length hart.tags ≡ 31
  pub aligned : hart.pc % 4 ≡ 0

-- a hart whose x0, which is 0, has that plain tag, and whose pc is that of a word
pub record IsHartOf {T : Type 0} (tag : T) (hart : HartState T) : Type 0 where
  pub shape : IsHart hart
  pub plain : hart.plain ≡ tag

-- the hart of thirty-two values and tags, of which the first are those of x0
abbrev pub hart_of : {T : Type 0} → List ℕ → List T → ℕ → T → T → HartState T
hart_of values tags pc pc_tag plain = record { values = drop 1 values; tags = drop 1 tags; pc = pc; pc_tag = pc_tag; plain = plain }

-- such values and tags, 0 and plain at the place of x0, and the pc of a word
pub record IsKept {T : Type 0} (values : List ℕ) (tags : List T) (pc : ℕ) (plain : T) : Type 0 where
  pub all : length tags ≡ 32
  pub zero : slice_index values 0 ≡ 0
  pub untagged : slice_index_or tags 0 plain ≡ plain
  pub aligned : pc % 4 ≡ 0

-- the tags that stand in it: that of the pc, and those of x1 to x31
abbrev pub hart_tags : {T : Type 0} → HartState T → List T
hart_tags hart = hart.pc_tag ∷ hart.tags

abbrev pub reg_value : {T : Type 0} → HartState T → ℕ → ℕ
reg_value hart r = if r == 0 then 0 else slice_index hart.values (r - 1)

abbrev pub reg_tag : {T : Type 0} → HartState T → ℕ → T
reg_tag hart r = if r == 0 then hart.plain else slice_index_or hart.tags (r - 1) hart.plain

-- that register or its tag written, and every other as it was; a write to x0 is dropped
abbrev pub with_reg : {T : Type 0} → HartState T → ℕ → ℕ → HartState T
with_reg hart r value = if r == 0 then hart else record hart { values = slice_set hart.values (r - 1) value }

abbrev pub with_reg_tag : {T : Type 0} → HartState T → ℕ → T → HartState T
with_reg_tag hart r tag = if r == 0 then hart else record hart { tags = slice_set hart.tags (r - 1) tag }

-- the pc with its tag written, and every register as it was
abbrev pub moved_to : {T : Type 0} → HartState T → ℕ → T → HartState T
moved_to hart pc tag = record hart { pc = pc; pc_tag = tag }

-- a hart at the start: registers 0 and plain
abbrev pub fresh_hart : {T : Type 0} → ℕ → T → T → HartState T
fresh_hart pc pc_tag plain = record { values = replicate 31 0; tags = replicate 31 plain; pc = pc; pc_tag = pc_tag; plain = plain }
