-- The bytes that programs get: those that they have read, and those that are left.
use Rattle.std.specs.Prelude.{ℕ, ◌-◌, ◌%◌, ◌^◌, List, [], ◌∷◌, ◌++◌, drop, length, take, Option, Some, None}

-- what was read, in its order, and what is left, the next byte first
pub record Tape : Type 0 where
  pub read : List ℕ
  pub left : List ℕ

-- these bytes, of which none is read yet
abbrev pub tape_of : List ℕ → Tape
tape_of bytes = record { read = []; left = bytes }

-- these bytes too, behind those that are left
abbrev pub with_fed : Tape → List ℕ → Tape
with_fed tape bytes = record tape { left = tape.left ++ bytes }

-- the next byte of those that are left, if there is one
abbrev pub first_fed : List ℕ → Option ℕ
first_fed [] = None
first_fed (byte ∷ rest) = Some byte

-- the next byte, if there is one, is read
abbrev pub fed_after : Tape → Tape
fed_after tape = record { read = tape.read ++ take 1 tape.left; left = drop 1 tape.left }

-- the last byte that was read is the next one again
abbrev pub byte_unread : Tape → Tape
byte_unread tape = record {
  read = take (length tape.read - 1) tape.read;
  left = drop (length tape.read - 1) tape.read ++ tape.left;
}

-- the same, where a byte was read
abbrev pub unread : Option ℕ → Tape → Tape
unread None tape = tape
unread (Some byte) tape = byte_unread tape

-- what get puts into a0: the next byte of those that are left, or FFFFFFFF where none is. Of a number that is no byte, which
-- no feed has, it is the low byte, so that a0 gets a word whatever stands in the list.
abbrev pub fed_value : List ℕ → ℕ
fed_value [] = 4294967295
fed_value (byte ∷ rest) = byte % 2 ^ 8
