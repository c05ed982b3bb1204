-- The products of two words, as the RISC-V unprivileged ISA's extension M has them. The product of two words has 64 bits: MUL
-- gives the low 32 of them, and MULH, MULHSU and MULHU the high 32, as the words are read.
use Rattle.std.specs.Prelude.{ℕ, ◌*◌, ◌%◌, ◌^◌, ℤ, pos, ◌*ℤ◌}
use Rattle.pump_words.specs.Words.{signed, unsigned, shifted_down}

-- the low word of the product, however the two are read: MUL
abbrev pub low_product : ℕ → ℕ → ℕ
low_product a b = a * b % 2 ^ 32

-- the high word of z, whose 64 bits are in two's complement: z over 2 ^ 32, rounded down
abbrev pub high_word : ℤ → ℕ
high_word z = unsigned (shifted_down z 32)

-- both read as signed numbers: MULH
abbrev pub high_product : ℕ → ℕ → ℕ
high_product a b = high_word (signed a *ℤ signed b)

-- the first read as a signed number, and the second as an unsigned one: MULHSU
abbrev pub high_product_mixed : ℕ → ℕ → ℕ
high_product_mixed a b = high_word (signed a *ℤ pos b)

-- both read as unsigned numbers: MULHU
abbrev pub high_product_unsigned : ℕ → ℕ → ℕ
high_product_unsigned a b = high_word (pos a *ℤ pos b)
