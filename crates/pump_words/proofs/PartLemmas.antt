-- A part of a word that is cleared by a mask and then set.
use Rattle.std.proofs.Common.{◌≡◌, ℕ, ◌+◌, ◌-◌, ◌*◌, ◌/◌, ◌%◌, ◌^◌, ◌<◌, ◌≤◌, add-zero, sym, ap, ◌∙◌, arith, lit<}
use Rattle.std.specs.Prelude.{bit_and, bit_or}
use Rattle.std.proofs.Math.Nat.{mod-lt, mod-eq_of_lt, mul_comm, mul-sub, pow-le-pow_right}
use Rattle.std.proofs.lemmas.Nat.{and-not, and_comm, and_mask, or_block, or_shifted, pow-add, pow_pos, shr-shr, shr_split, mul-add-lt}
use Rattle.std.proofs.lemmas.Nat.Bits.{and_high}
use Rattle.std.specs.Int.Bits.{or_zero_r}
use Rattle.pump_words.specs.Words.{with_part}

-- what a mask of `count` ones from `place` on clears: the bits above and below stay
cleared : (w place count : ℕ) → w < 2 ^ 32 → 2 ^ (count + place) ≤ 2 ^ 32
    → bit_and w (2 ^ 32 - 1 - (2 ^ (count + place) - 2 ^ place))
    ≡ w / 2 ^ place / 2 ^ count * 2 ^ count * 2 ^ place + w % 2 ^ place
cleared w place count fits within =
    let mask : ℕ = 2 ^ (count + place) - 2 ^ place in
    let kept = and-not 32 mask w (omega (arith, pow_pos place)) fits in
    let part = and_high w count place in
    let whole = shr_split w place in
    let upper = ap (λ q. q * 2 ^ place) (shr_split (w / 2 ^ place) count) in
    let turned = and_comm w (2 ^ 32 - 1 - mask) in
    let turned_part = and_comm mask w in
    turned ∙ omega (arith, kept, part, whole, upper, turned_part)

-- two parts that share no bit, side by side
joined : (high place n low count : ℕ) → low < 2 ^ place → n < 2 ^ count
    → bit_or (high * 2 ^ count * 2 ^ place + low) (n * 2 ^ place) ≡ high * 2 ^ count * 2 ^ place + n * 2 ^ place + low
joined high place n low count low_fits n_fits =
    let blocks = or_block place (high * 2 ^ count) n low 0 low_fits (pow_pos place) in
    let upper = ap (λ m. m * 2 ^ place) (or_shifted high count n n_fits) in
    let lower = or_zero_r low in
    ap (λ m. bit_or (high * 2 ^ count * 2 ^ place + low) m) (sym (add-zero (n * 2 ^ place)))
    ∙ omega (arith, blocks, upper, lower)

-- the mask of `count` ones from `place` on
mask_is : (place count : ℕ) → (2 ^ count - 1) * 2 ^ place ≡ 2 ^ (count + place) - 2 ^ place
mask_is place count =
    mul_comm (2 ^ count - 1) (2 ^ place)
    ∙ mul-sub (2 ^ place) (2 ^ count) 1
    ∙ omega (arith, pow-add 2 count place)

-- `(w & !(ones << place)) | ((n & ones) << place)`
pub merged : (w place count n : ℕ) → w < 2 ^ 32 → place + count ≤ 32
    → bit_or (bit_and w (2 ^ 32 - 1 - (2 ^ count - 1) * 2 ^ place % 2 ^ 32)) (bit_and n (2 ^ count - 1) * 2 ^ place % 2 ^ 32)
    ≡ with_part w place count n
merged w place count n fits within =
    let place_positive : 0 < 2 ^ place = pow_pos place in
    let top : 2 ^ (count + place) ≤ 2 ^ 32 = pow-le-pow_right {n = 2} (lit< tt) {i = count + place} {j = 32} (omega arith) in
    let product : 2 ^ (count + place) ≡ 2 ^ count * 2 ^ place = pow-add 2 count place in
    let mask_fits : (2 ^ count - 1) * 2 ^ place < 2 ^ 32 = omega (arith, mask_is place count) in
    let part_fits : n % 2 ^ count < 2 ^ count = mod-lt n (pow_pos count) in
    let shifted_fits : n % 2 ^ count * 2 ^ place < 2 ^ 32 =
    omega (arith, mul-add-lt (n % 2 ^ count) (2 ^ place) 0 (2 ^ count) part_fits place_positive) in
    let low_fits : w % 2 ^ place < 2 ^ place = mod-lt w place_positive in
    rw (and_mask n count, mod-eq_of_lt mask_fits, mask_is place count, mod-eq_of_lt shifted_fits, cleared w place count fits top)
    (joined (w / 2 ^ place / 2 ^ count) place (n % 2 ^ count) (w % 2 ^ place) count low_fits part_fits
    ∙ rw (← shr-shr w place count, pow-add 2 place count) (omega arith))
