-- The state of a machine: the policy's value, and the core of harts with their stops and of memory. The feed stands
-- beside it.
use Rattle.std.specs.Prelude.{◌≡◌, ℕ, ◌≤◌, Bool, true, false, ◌&&◌, nat_lt, List, ◌++◌, All, length, Option, Some, None, replicate, slice_index_or, slice_set}
use Rattle.policy_trait.specs.Model.{PolicyModel}
use Rattle.std.specs.List.{flat_map}
use Rattle.tag_memory.specs.Hart.{HartState, IsHartOf, fresh_hart, hart_tags}
use Rattle.tag_memory.specs.Ram.{IsRamOf, RamState, ram_bytes}
use Rattle.turn_steps.specs.Values.{HartHasWords, RamHasWords}
use Rattle.turn_steps.specs.declared.stop.Stop.{Stop}

-- harts, their stops, and memory
pub record CoreState (T : Type 0) : Type 0 where
  pub harts : List (HartState T)
  -- why each hart stopped, if it did: a place for each of at most eight harts
  pub stops : List (Option Stop)
  pub ram : RamState T

-- one to eight harts, and eight places for their stops
pub record IsCore {T : Type 0} (core : CoreState T) : Type 0 where
  pub some : 1 ≤ length core.harts
  pub few : length core.harts ≤ 8
  pub stops : length core.stops ≡ 8

-- every value is a word: each register's, and each place of memory's
pub record HasWords {T : Type 0} (core : CoreState T) : Type 0 where
  pub harts : All HartHasWords core.harts
  pub ram : RamHasWords core.ram

-- the policy's value, and the harts and memory that run under it
pub record Machine (S T : Type 0) : Type 0 where
  pub policy : S
  pub core : CoreState T

-- one to eight harts; x0 of each is 0 and has the policy's plain tag, as an absent operand has; each pc is that of a word;
-- memory has a tag for each word, and the bytes that the policy counts on
pub record IsMachine {S T : Type 0} (m : PolicyModel T S) (s : Machine S T) : Type 0 where
  pub core : IsCore s.core
  pub harts : All (IsHartOf (m.plain s.policy)) s.core.harts
  pub ram : IsRamOf (m.plain s.policy) s.core.ram
  pub room : m.room s.policy ≤ ram_bytes s.core.ram

-- the tags that stand somewhere: those of each hart, and those of memory
abbrev pub core_tags : {T : Type 0} → CoreState T → List T
core_tags core = flat_map hart_tags core.harts ++ core.ram.tags

-- no hart has stopped
abbrev pub fresh_core : {T : Type 0} → List (HartState T) → RamState T → CoreState T
fresh_core harts ram = record { harts = harts; stops = replicate 8 None; ram = ram }

-- the hart of a number
abbrev pub hart_at : {T : Type 0} → CoreState T → ℕ → HartState T
hart_at core h = slice_index_or core.harts h (fresh_hart 0 core.ram.plain core.ram.plain)

-- why the hart of a number stopped, if it did
abbrev pub stop_at : {T : Type 0} → CoreState T → ℕ → Option Stop
stop_at core h = slice_index_or core.stops h None

-- whether there is no stop
abbrev pub has_no_stop : Option Stop → Bool
has_no_stop None = true
has_no_stop (Some why) = false

-- the hart is there and has not stopped
abbrev pub is_ready_in : {T : Type 0} → CoreState T → ℕ → Bool
is_ready_in core h = nat_lt h (length core.harts) && has_no_stop (stop_at core h)

-- with that hart and that memory
abbrev pub with_hart : {T : Type 0} → CoreState T → ℕ → HartState T → RamState T → CoreState T
with_hart core h hart ram = record core { harts = slice_set core.harts h hart; ram = ram }

-- with that hart stopped
abbrev pub stopping : {T : Type 0} → CoreState T → ℕ → Stop → CoreState T
stopping core h why = record core { stops = slice_set core.stops h (Some why) }
