-- The fault of an access, by its kind.
use Rattle.std.proofs.Common.{◌≡◌, ℕ, ◌+◌, ◌%◌, ◌==◌, nat_lt, not, if◌then◌else◌, Some, None, refl}
use Rattle.rv_step.specs.Actions.{IsAccess, access_by, width_by}
use Rattle.rv_step.specs.Accesses.{bytes_of}
use Rattle.rv_step.specs.Checks.{access_fault, alignment_fault, range_fault}
use Rattle.rv_step.specs.declared.actions.Use.{Use}
use Rattle.rv_step.specs.declared.actions.Use.TheVariants as used

pub touch_fault_is : (purpose : Use) (addr stored ram : ℕ) → IsAccess purpose → access_fault (access_by purpose addr stored) ram
    ≡ (if not (addr % bytes_of (width_by purpose) == 0) then Some (alignment_fault purpose addr) else
    if nat_lt ram (addr + bytes_of (width_by purpose)) then Some (range_fault purpose addr) else None)
touch_fault_is used.LoadByte addr stored ram is = refl
touch_fault_is used.LoadHalf addr stored ram is = refl
touch_fault_is used.LoadWord addr stored ram is = refl
touch_fault_is used.LoadByteUnsigned addr stored ram is = refl
touch_fault_is used.LoadHalfUnsigned addr stored ram is = refl
touch_fault_is used.StoreByte addr stored ram is = refl
touch_fault_is used.StoreHalf addr stored ram is = refl
touch_fault_is used.StoreWord addr stored ram is = refl
touch_fault_is used.Nothing addr stored ram is = absurd is
touch_fault_is used.Value addr stored ram is = absurd is
