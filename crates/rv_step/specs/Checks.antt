-- The faults of an effect, in their order: alignment of the access, range of the access, alignment of the jump.
use Rattle.std.specs.Prelude.{◌≡◌, ℕ, ◌+◌, ◌%◌, ◌==◌, nat_lt, ◌&&◌, not, if◌then◌else◌, IsTrue, IsFalse, Option, Some, None}
use Rattle.rv_step.specs.Actions.{is_store}
use Rattle.rv_step.specs.declared.actions.Use.{Use}
use Rattle.rv_step.specs.Accesses.{bytes_of, IsAligned, EndsWithin}
use Rattle.rv_step.specs.declared.accesses.Access.{Access}
use Rattle.rv_step.specs.declared.accesses.Access.TheVariants as access
use Rattle.rv_step.specs.declared.effects.Effect.{Effect}
use Rattle.rv_step.specs.declared.faults.Fault.{Fault}
use Rattle.rv_step.specs.declared.faults.Fault.TheVariants.{LoadAlign, StoreAlign, LoadRange, StoreRange, JumpAlign}

-- the fault of an access to a memory of so many bytes
abbrev pub access_fault : Access → ℕ → Option Fault
access_fault access.None ram = None
access_fault (access.Load addr width _) ram =
    if not (addr % bytes_of width == 0) then Some (LoadAlign addr) else
    if nat_lt ram (addr + bytes_of width) then Some (LoadRange addr) else
    None
access_fault (access.Store addr width _) ram =
    if not (addr % bytes_of width == 0) then Some (StoreAlign addr) else
    if nat_lt ram (addr + bytes_of width) then Some (StoreRange addr) else
    None

-- the faults of an access by its kind
abbrev pub alignment_fault : Use → ℕ → Fault
alignment_fault purpose addr = if is_store purpose then StoreAlign addr else LoadAlign addr

abbrev pub range_fault : Use → ℕ → Fault
range_fault purpose addr = if is_store purpose then StoreRange addr else LoadRange addr

-- the fault of a jump or a taken branch; one that is not taken has none
abbrev pub jump_fault : Effect → Option Fault
jump_fault effect = if effect.taken && not (effect.next % 4 == 0) then Some (JumpAlign effect.next) else None

abbrev pub first_of : Option Fault → Option Fault → Option Fault
first_of None later = later
first_of (Some fault) later = Some fault

abbrev pub first_fault : Effect → ℕ → Option Fault
first_fault effect ram = first_of (access_fault effect.access ram) (jump_fault effect)

-- if the effect doesn't jump, the next pc is a multiple of 4
abbrev pub GoesOnToWord : Effect → Type 0
GoesOnToWord effect = IsFalse effect.taken → effect.next % 4 ≡ 0

-- nothing that the effect does is outside the machine: its access is aligned and in memory, and a jump goes to a word
pub record IsSafe (ram : ℕ) (effect : Effect) : Type 0 where
  pub aligned : IsAligned effect.access
  pub in_memory : EndsWithin ram effect.access
  pub to_word : IsTrue effect.taken → effect.next % 4 ≡ 0
