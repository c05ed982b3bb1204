-- Offsets that a branch or a jump reaches.
use Rattle.std.proofs.Common.{◌≡◌, ◌⊎◌, ℕ, ◌+◌, ◌%◌, ◌^◌, ◌<◌, ◌≤◌, true, refl, arith}
use Rattle.std.specs.Prelude.{◌==◌, ◌&&◌, pos, neg_ℤ, Ok}
use Rattle.std.proofs.lemmas.Bool.Decides.{nat_tests}
use Rattle.pump_words.specs.Words.{signed}
use Rattle.asm_words.specs.Ranges.{even_within, is_within}
use Rattle.asm_words.proofs.RangeLemmas.{signed_by}

branch_reached : (w : ℕ) → (w ≤ 4094) ⊎ (2 ^ 32 ≤ w + 4096) → w < 2 ^ 32 → w % 2 ≡ 0 → (is_within (neg_ℤ (pos 4096)) (pos 4094) (signed w) && (w % 2 == 0)) ≡ true
branch_reached w near fits even =
    signed_by (λ z. (is_within (neg_ℤ (pos 4096)) (pos 4094) z && (w % 2 == 0)) ≡ true) w
    (λ low. grind (arith, nat_tests)) (λ high. grind (arith, nat_tests))

-- an even word within 4096 bytes is an offset of a branch
pub branch_within : (w : ℕ) → (w ≤ 4094) ⊎ (2 ^ 32 ≤ w + 4096) → w < 2 ^ 32 → w % 2 ≡ 0 → even_within (neg_ℤ (pos 4096)) (pos 4094) w ≡ Ok w
unfolding even_within
branch_within w near fits even = rw (branch_reached w near fits even) refl

jump_reached : (w : ℕ) → (w ≤ 1048574) ⊎ (2 ^ 32 ≤ w + 1048576) → w < 2 ^ 32 → w % 2 ≡ 0 → (is_within (neg_ℤ (pos 1048576)) (pos 1048574) (signed w) && (w % 2 == 0)) ≡ true
jump_reached w near fits even =
    signed_by (λ z. (is_within (neg_ℤ (pos 1048576)) (pos 1048574) z && (w % 2 == 0)) ≡ true) w
    (λ low. grind (arith, nat_tests)) (λ high. grind (arith, nat_tests))

-- an even word within 1048576 bytes is an offset of a jump
pub jump_within : (w : ℕ) → (w ≤ 1048574) ⊎ (2 ^ 32 ≤ w + 1048576) → w < 2 ^ 32 → w % 2 ≡ 0 → even_within (neg_ℤ (pos 1048576)) (pos 1048574) w ≡ Ok w
unfolding even_within
jump_within w near fits even = rw (jump_reached w near fits even) refl
