-- Numbers of the source as fields of instructions, each within its range.
use Rattle.std.specs.Prelude.{ℕ, ◌+◌, ◌-◌, ◌*◌, ◌/◌, ◌%◌, ◌^◌, ◌==◌, ℤ, pos, neg_ℤ, Bool, ◌&&◌, int_le, unsigned_abs, Result, Ok, Err, if◌then◌else◌}
use Rattle.std.specs.Int.{int_rem_euclid}
use Rattle.pump_words.specs.Words.{signed}
use Rattle.asm_read.specs.declared.errors.AsmErrorKind.{AsmErrorKind}
use Rattle.asm_read.specs.declared.errors.AsmErrorKind.TheVariants as kinds
use Rattle.shared_terms.specs.Steps.{result_view}

-- the word that is the number modulo 2 ^ 32
abbrev pub word_modulo : ℤ → ℕ
word_modulo n = unsigned_abs (int_rem_euclid n (pos (2 ^ 32)))

-- the number lies from `least` to `most`, both included
abbrev pub is_within : ℤ → ℤ → ℤ → Bool
is_within least most n = int_le least n && int_le n most

-- the word of a number that lies from `least` to `most`, as it is written
unfoldable pub within : ℤ → ℤ → ℤ → Result ℕ AsmErrorKind
within least most n = if is_within least most n then Ok (word_modulo n) else Err kinds.Range

-- an immediate of 12 bits, sign-extended
abbrev pub immediate_at : ℤ → Result ℕ AsmErrorKind
immediate_at n = within (neg_ℤ (pos 2048)) (pos 2047) n

-- the amount of a shift
abbrev pub amount_at : ℤ → Result ℕ AsmErrorKind
amount_at n = within (pos 0) (pos 31) n

-- the word whose upper 20 bits are the number, with twelve zeros below
abbrev pub upper_at : ℤ → Result ℕ AsmErrorKind
upper_at n = result_view (λ bits. bits * 2 ^ 12) (within (pos 0) (pos 1048575) n)

-- ---- offsets

-- how far the address `target` lies behind `place`, modulo 2 ^ 32
abbrev pub distance : ℕ → ℕ → ℕ
distance place target = (target + (2 ^ 32 - place)) % 2 ^ 32

-- an offset that is even and, as a signed number, lies from `least` to `most`
unfoldable pub even_within : ℤ → ℤ → ℕ → Result ℕ AsmErrorKind
even_within least most offset =
    if is_within least most (signed offset) && (offset % 2 == 0) then Ok offset else Err kinds.Range

-- from a branch at `place` to its target
abbrev pub branch_offset : ℕ → ℕ → Result ℕ AsmErrorKind
branch_offset place target = even_within (neg_ℤ (pos 4096)) (pos 4094) (distance place target)

-- from a jump at `place` to its target
abbrev pub jump_offset : ℕ → ℕ → Result ℕ AsmErrorKind
jump_offset place target = even_within (neg_ℤ (pos 1048576)) (pos 1048574) (distance place target)

-- ---- a word as what `lui` and `addi` write

-- an immediate of 12 bits can be sign-extended to this word
abbrev pub is_short : ℕ → Bool
is_short word = is_within (neg_ℤ (pos 2048)) (pos 2047) (signed word)

-- the upper 20 bits, which a negative lower part brings back to those of the word
abbrev pub high_part : ℕ → ℕ
high_part word = (word + 0x800) % 2 ^ 32 / 2 ^ 12

-- what the upper part leaves, modulo 2 ^ 32: a sign-extended immediate of 12 bits
abbrev pub low_part : ℕ → ℕ
low_part word = (word + (2 ^ 32 - high_part word * 2 ^ 12)) % 2 ^ 32
