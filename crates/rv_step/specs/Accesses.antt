-- Accesses to memory: how many bytes they touch, and what they read and write in the word that holds them.
use Rattle.std.specs.Prelude.{◌≡◌, ℕ, ◌+◌, ◌/◌, ◌%◌, ◌≤◌, Bool, if◌then◌else◌}
use Rattle.pump_words.specs.Words.{sign_extended, byte_at, half_at, with_byte_at, with_half_at}
use Rattle.rv_step.specs.declared.accesses.Access.{Access}
use Rattle.rv_step.specs.declared.accesses.Access.TheVariants as access
use Rattle.rv_step.specs.declared.accesses.Width.{Width}
use Rattle.rv_step.specs.declared.accesses.Width.TheVariants.{Byte, Half, Full}

abbrev pub bytes_of : Width → ℕ
bytes_of Byte = 1
bytes_of Half = 2
bytes_of Full = 4

-- the address is a multiple of the width, so that one aligned word holds the access
abbrev pub IsAligned : Access → Type 0
IsAligned access.None = Unit {0}
IsAligned (access.Load addr width _) = addr % bytes_of width ≡ 0
IsAligned (access.Store addr width _) = addr % bytes_of width ≡ 0

-- the access ends within a memory of so many bytes
abbrev pub EndsWithin : ℕ → Access → Type 0
EndsWithin ram access.None = Unit {0}
EndsWithin ram (access.Load addr width _) = addr + bytes_of width ≤ ram
EndsWithin ram (access.Store addr width _) = addr + bytes_of width ≤ ram

-- what a load from this address puts in rd, from the memory word that holds it
abbrev pub loaded_from : ℕ → ℕ → Width → Bool → ℕ
loaded_from word addr Byte signed =
    if signed then sign_extended 8 (byte_at word (addr % 4)) else byte_at word (addr % 4)
loaded_from word addr Half signed =
    if signed then sign_extended 16 (half_at word (addr % 4 / 2)) else half_at word (addr % 4 / 2)
loaded_from word addr Full signed = word

-- what a store to this address leaves in the memory word that holds it
abbrev pub stored_in : ℕ → ℕ → Width → ℕ → ℕ
stored_in word addr Byte value = with_byte_at word (addr % 4) value
stored_in word addr Half value = with_half_at word (addr % 4 / 2) value
stored_in word addr Full value = value
