-- The quotients and remainders of two words, as the RISC-V unprivileged ISA's extension M has them: first what numbers are a
-- quotient and a remainder, and then what DIV, DIVU, REM and REMU give, with the cases that the ISA sets apart.
use Rattle.std.specs.Prelude.{◌≡◌, ℕ, ◌+◌, ◌-◌, ◌*◌, ◌/◌, ◌%◌, ◌^◌, ◌<◌, ◌==◌, ◌&&◌, ◌⊎◌, Bool, if◌then◌else◌, ℤ, pos, ◌+ℤ◌, ◌*ℤ◌, int_div, int_rem, unsigned_abs}
use Rattle.std.specs.Int.{is_negative}
use Rattle.pump_words.specs.Words.{signed, unsigned}

-- ---- the relations

-- r is zero or has a's sign
abbrev pub IsZeroOrHasSignOf : ℤ → ℤ → Type 0
IsZeroOrHasSignOf r a = (r ≡ pos 0) ⊎ (is_negative r ≡ is_negative a)

-- q times b and r make a, where r is smaller than b in absolute value, and is zero or has a's sign
pub record IsQuotientAndRemainder (a b q r : ℤ) : Type 0 where
  pub whole : q *ℤ b +ℤ r ≡ a
  pub small : unsigned_abs r < unsigned_abs b
  pub sign : IsZeroOrHasSignOf r a

-- the same of unsigned numbers
pub record IsUnsignedQuotientAndRemainder (a b q r : ℕ) : Type 0 where
  pub whole : q * b + r ≡ a
  pub small : r < b

-- ---- the words that the instructions give

-- -2 ^ 31 over -1, whose quotient 2 ^ 31 is too large for a signed word
abbrev pub overflows : ℕ → ℕ → Bool
overflows a b = (a == 2 ^ 31) && (b == 2 ^ 32 - 1)

-- DIV, rounded toward zero
abbrev pub quotient : ℕ → ℕ → ℕ
quotient a b =
    if b == 0 then 2 ^ 32 - 1 else
    if overflows a b then 2 ^ 31 else
    unsigned (int_div (signed a) (signed b))

-- REM
abbrev pub remainder : ℕ → ℕ → ℕ
remainder a b =
    if b == 0 then a else
    if overflows a b then 0 else
    unsigned (int_rem (signed a) (signed b))

-- DIVU
abbrev pub quotient_unsigned : ℕ → ℕ → ℕ
quotient_unsigned a b = if b == 0 then 2 ^ 32 - 1 else a / b

-- REMU
abbrev pub remainder_unsigned : ℕ → ℕ → ℕ
remainder_unsigned a b = if b == 0 then a else a % b
