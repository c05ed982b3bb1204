-- A number of sixteen bytes is read from them and written to them as two numbers of eight.
use Rattle.std.proofs.Common.{◌≡◌, ℕ, ◌+◌, ◌*◌, ◌/◌, ◌%◌, ◌^◌, ◌<◌, List, ◌∷◌, [], ◌++◌, get_or, take, drop, refl, inl, inr, ap, ◌∙◌, arith}
use Rattle.std.specs.Int.{w64, w128, from_le_bytes, to_le_bytes}
use Rattle.std.proofs.lemmas.Bool.{cases_lt}
use Rattle.std.proofs.lemmas.List.{take-append-drop, length-take, length-drop, get_or-take, get_or-drop, get_or_past}
use Rattle.std.proofs.lemmas.Nat.{le_bytes_8, from_le_bytes-to_le_bytes_8}
use Rattle.image_format.specs.Masks.{AreSixteenBytes}

-- the bytes of two numbers of eight bytes each, the low one first
split : (n low high : ℕ) → low < 2 ^ 64 → n ≡ low + 2 ^ 64 * high → to_le_bytes w128 n ≡ to_le_bytes w64 low ++ to_le_bytes w64 high
split n low high small is =
    let at_0 : n % 256 ≡ low % 256 = omega arith in
    let at_1 : n / 256 % 256 ≡ low / 256 % 256 = omega arith in
    let at_2 : n / 65536 % 256 ≡ low / 65536 % 256 = omega arith in
    let at_3 : n / 16777216 % 256 ≡ low / 16777216 % 256 = omega arith in
    let at_4 : n / 4294967296 % 256 ≡ low / 4294967296 % 256 = omega arith in
    let at_5 : n / 1099511627776 % 256 ≡ low / 1099511627776 % 256 = omega arith in
    let at_6 : n / 281474976710656 % 256 ≡ low / 281474976710656 % 256 = omega arith in
    let at_7 : n / 72057594037927936 % 256 ≡ low / 72057594037927936 % 256 = omega arith in
    let at_8 : n / 18446744073709551616 % 256 ≡ high % 256 = omega arith in
    let at_9 : n / 4722366482869645213696 % 256 ≡ high / 256 % 256 = omega arith in
    let at_10 : n / 1208925819614629174706176 % 256 ≡ high / 65536 % 256 = omega arith in
    let at_11 : n / 309485009821345068724781056 % 256 ≡ high / 16777216 % 256 = omega arith in
    let at_12 : n / 79228162514264337593543950336 % 256 ≡ high / 4294967296 % 256 = omega arith in
    let at_13 : n / 20282409603651670423947251286016 % 256 ≡ high / 1099511627776 % 256 = omega arith in
    let at_14 : n / 5192296858534827628530496329220096 % 256 ≡ high / 281474976710656 % 256 = omega arith in
    let at_15 : n / 1329227995784915872903807060280344576 % 256 ≡ high / 72057594037927936 % 256 = omega arith in
    λ i. at_0 i ∷ at_1 i ∷ at_2 i ∷ at_3 i ∷ at_4 i ∷ at_5 i ∷ at_6 i ∷ at_7 i ∷ at_8 i ∷ at_9 i ∷ at_10 i ∷ at_11 i ∷ at_12 i ∷ at_13 i ∷ at_14 i ∷ at_15 i ∷ []

-- the number of sixteen bytes is made of those of the first eight and of the others
joined : (bytes : List ℕ) → from_le_bytes w128 bytes ≡ from_le_bytes w64 (take 8 bytes) + 2 ^ 64 * from_le_bytes w64 (drop 8 bytes)
joined bytes =
    omega (
      arith,
      get_or-take 8 bytes 0 0 (omega arith),
      get_or-take 8 bytes 1 0 (omega arith),
      get_or-take 8 bytes 2 0 (omega arith),
      get_or-take 8 bytes 3 0 (omega arith),
      get_or-take 8 bytes 4 0 (omega arith),
      get_or-take 8 bytes 5 0 (omega arith),
      get_or-take 8 bytes 6 0 (omega arith),
      get_or-take 8 bytes 7 0 (omega arith),
      get_or-drop 8 bytes 0 0,
      get_or-drop 8 bytes 1 0,
      get_or-drop 8 bytes 2 0,
      get_or-drop 8 bytes 3 0,
      get_or-drop 8 bytes 4 0,
      get_or-drop 8 bytes 5 0,
      get_or-drop 8 bytes 6 0,
      get_or-drop 8 bytes 7 0,
    )

-- bytes stay bytes where only the first ones are taken
take_below : (n : ℕ) (bytes : List ℕ) → ((i : ℕ) → get_or bytes i 0 < 256) → (i : ℕ) → get_or (take n bytes) i 0 < 256
take_below n bytes below i =
    elim (cases_lt i n) [
      | inl lt ↦ rw (get_or-take n bytes i 0 lt) (below i)
      | inr le ↦ rw (get_or_past (take n bytes) i 0 (omega (arith, length-take n bytes))) (omega arith)
    ]

-- a number of eight bytes has a limit
eight_below : (bytes : List ℕ) → ((i : ℕ) → get_or bytes i 0 < 256) → from_le_bytes w64 bytes < 2 ^ 64
eight_below bytes below = omega (arith, below 0, below 1, below 2, below 3, below 4, below 5, below 6, below 7)

-- Both halves of sixteen bytes are written again as they were read, and each is below its limit.
record Halves (bytes : List ℕ) : Type 0 where
  low : to_le_bytes w64 (from_le_bytes w64 (take 8 bytes)) ≡ take 8 bytes
  high : to_le_bytes w64 (from_le_bytes w64 (drop 8 bytes)) ≡ drop 8 bytes
  low_small : from_le_bytes w64 (take 8 bytes) < 2 ^ 64
  high_small : from_le_bytes w64 (drop 8 bytes) < 2 ^ 64

halves : (bytes : List ℕ) → AreSixteenBytes bytes → Halves bytes
halves bytes are =
    let low_below : (i : ℕ) → get_or (take 8 bytes) i 0 < 256 = take_below 8 bytes are.below in
    let high_below : (i : ℕ) → get_or (drop 8 bytes) i 0 < 256 = λ i. rw get_or-drop (are.below (8 + i)) in
    record {
      low = le_bytes_8 (take 8 bytes) _ (omega (arith, length-take 8 bytes, are.count)) low_below refl;
      high = le_bytes_8 (drop 8 bytes) _ (omega (arith, length-drop 8 bytes, are.count)) high_below refl;
      low_small = eight_below (take 8 bytes) low_below;
      high_small = eight_below (drop 8 bytes) high_below;
    }

-- the number that was read is written as the same bytes
pub written_again : (bytes : List ℕ) → AreSixteenBytes bytes → to_le_bytes w128 (from_le_bytes w128 bytes) ≡ bytes
written_again bytes are =
    let h = halves bytes are in
    split (from_le_bytes w128 bytes) (from_le_bytes w64 (take 8 bytes)) (from_le_bytes w64 (drop 8 bytes)) h.low_small (joined bytes)
    ∙ ap (λ (text : List ℕ). text ++ to_le_bytes w64 (from_le_bytes w64 (drop 8 bytes))) h.low
    ∙ ap (λ (text : List ℕ). take 8 bytes ++ text) h.high ∙ take-append-drop 8 bytes

-- a number of sixteen bytes has a limit
pub sixteen_below : (bytes : List ℕ) → AreSixteenBytes bytes → from_le_bytes w128 bytes < 2 ^ 128
sixteen_below bytes are = let h = halves bytes are in omega (arith, joined bytes, h.low_small, h.high_small)

-- the bytes that were written are read as the same number
pub read_again : (n : ℕ) → n < 2 ^ 128 → from_le_bytes w128 (to_le_bytes w128 n) ≡ n
read_again n small =
    let low = n % 2 ^ 64 in
    let high = n / 2 ^ 64 in
    let parts = split n low high (omega arith) (omega arith) in
    let low_again = from_le_bytes-to_le_bytes_8 low (omega arith) in
    let high_again = from_le_bytes-to_le_bytes_8 high (omega arith) in
    ap (from_le_bytes w128) parts ∙ joined (to_le_bytes w64 low ++ to_le_bytes w64 high) ∙ omega (arith, low_again, high_again)
