-- The effect of an instruction in the form that a turn carries: one number, and what it is for.
use Rattle.std.specs.Prelude.{◌≡◌, ℕ, Bool, true, false, Option, Some, None}
use Rattle.rv_step.specs.declared.accesses.Access.{Access}
use Rattle.rv_step.specs.declared.accesses.Access.TheVariants as access
use Rattle.rv_step.specs.declared.accesses.Width.{Width}
use Rattle.rv_step.specs.declared.accesses.Width.TheVariants.{Byte, Half, Full}
use Rattle.rv_step.specs.declared.actions.Use.{Use}
use Rattle.rv_step.specs.declared.actions.Use.TheVariants as used
use Rattle.rv_step.specs.declared.effects.Effect.{Effect}

-- the value for rd, where the number is one
abbrev pub value_by : Use → ℕ → Option ℕ
value_by used.Value number = Some number
value_by _ number = None

-- the access, where the number is its address; a store stores the other value
abbrev pub access_by : Use → ℕ → ℕ → Access
access_by used.LoadByte addr stored = access.Load addr Byte true
access_by used.LoadHalf addr stored = access.Load addr Half true
access_by used.LoadWord addr stored = access.Load addr Full false
access_by used.LoadByteUnsigned addr stored = access.Load addr Byte false
access_by used.LoadHalfUnsigned addr stored = access.Load addr Half false
access_by used.StoreByte addr stored = access.Store addr Byte stored
access_by used.StoreHalf addr stored = access.Store addr Half stored
access_by used.StoreWord addr stored = access.Store addr Full stored
access_by _ addr stored = access.None

-- the effect of a number with its use
abbrev pub effect_by : Use → ℕ → ℕ → ℕ → Bool → Effect
effect_by purpose number stored next taken =
    record { next = next; value = value_by purpose number; access = access_by purpose number stored; taken = taken }

-- whether it is an access at all
abbrev pub touches : Access → Bool
touches access.None = false
touches (access.Load addr width signed) = true
touches (access.Store addr width stored) = true

-- a number that is used for nothing is 0
abbrev pub IsZeroIfUnused : Use → ℕ → Type 0
IsZeroIfUnused used.Nothing number = number ≡ 0
IsZeroIfUnused _ number = Unit {0}

-- a number that is an address
abbrev pub IsAccess : Use → Type 0
IsAccess used.Nothing = ⊥
IsAccess used.Value = ⊥
IsAccess _ = Unit {0}

-- how much an access of this kind touches
abbrev pub width_by : Use → Width
width_by used.LoadHalf = Half
width_by used.LoadHalfUnsigned = Half
width_by used.StoreHalf = Half
width_by used.LoadWord = Full
width_by used.StoreWord = Full
width_by _ = Byte

-- whether the number is the address of a store
abbrev pub is_store : Use → Bool
is_store used.StoreByte = true
is_store used.StoreHalf = true
is_store used.StoreWord = true
is_store _ = false
