-- Sets of compartments, each a bit for each compartment.
use Rattle.std.specs.Prelude.{ℕ, ◌/◌, ◌%◌, ◌^◌, ◌==◌, nat_lt, Bool, bit_or, List, ◌++◌, if◌then◌else◌}
use Rattle.pump_words.specs.Texts.{hex8_text}

-- a set of compartments, by its bits
pub record CompartmentSet : Type 0 where
  pub bits : ℕ

-- the set of the compartments whose bits are 1
abbrev pub set_of : ℕ → CompartmentSet
set_of bits = record { bits = bits }

-- the bit of compartment n
abbrev pub has : CompartmentSet → ℕ → Bool
has set n = (set.bits / 2 ^ n) % 2 == 1

-- the set with compartment n too
abbrev pub set_with : CompartmentSet → ℕ → CompartmentSet
set_with set n = set_of (bit_or set.bits (2 ^ n))

-- 128 bits in hexadecimal digits
abbrev pub hex32_text : ℕ → List ℕ
hex32_text bits = hex8_text (bits / 2 ^ 96) ++ hex8_text (bits / 2 ^ 64 % 2 ^ 32) ++ hex8_text (bits / 2 ^ 32 % 2 ^ 32) ++ hex8_text (bits % 2 ^ 32)

-- the bits of a set in hexadecimal digits: eight where they are below 2 ^ 32, else thirty-two
abbrev pub mask_text : ℕ → List ℕ
mask_text bits = if nat_lt bits (2 ^ 32) then hex8_text bits else hex32_text bits
