-- Where the place of a number is among the blocks, and how many blocks there are.
use Rattle.std.proofs.Common.{◌≡◌, ℕ, zero, suc, ◌+◌, ◌<◌, ◌≤◌, nat_lt, Bool, true, false, List, [], ◌∷◌, length, if◌then◌else◌, refl, ap, arith}
use Rattle.std.specs.List.{All, insert}
use Rattle.std.proofs.lemmas.Bool.{le-ltb, lt-ltb}
use Rattle.std.proofs.lemmas.List.Elements.{All-tail}
use Rattle.live_blocks.specs.declared.block.Block.{Block}
use Rattle.live_blocks.specs.Run.{AreEarlier, AreNumbered}
use Rattle.live_blocks.specs.Space.{by_number}
use Rattle.live_blocks.proofs.ListLemmas.{pairs_head, pairs_tail}

-- the blocks with a lower number come before it, and the others after it
pub placed : (live : List Block) (block : Block) (place : ℕ) → AreEarlier live block.number place → by_number live block ≡ insert live place block
placed [] block zero earlier = refl
placed [] block (suc place) earlier = absurd (omega (arith, earlier.within))
placed (head ∷ others) block zero earlier = rw (le-ltb _ _ (earlier.others zero head (omega arith) (omega arith))) refl
placed (head ∷ others) block (suc place) earlier =
    rw (lt-ltb _ _ (earlier.below zero head (omega arith) (omega arith))) (ap (λ (l : List Block). head ∷ l) (placed others block place (record {
      within = omega (arith, earlier.within);
      below = λ k d low high. earlier.below (suc k) d (omega arith) (omega arith);
      others = λ k d low high. earlier.others (suc k) d (omega arith) (omega arith);
    })))

-- ---- how many blocks there are

length_by : (earlier : Bool) (head block : Block) (others put : List Block) → length put ≡ length others + 1
    → length (if earlier then head ∷ put else block ∷ head ∷ others) ≡ length (head ∷ others) + 1
length_by true head block others put more = omega arith
length_by false head block others put more = omega arith

-- with one more, one more
pub length_put : (live : List Block) (block : Block) → length (by_number live block) ≡ length live + 1
length_put [] block = omega arith
length_put (head ∷ others) block =
    length_by (nat_lt head.number block.number) head block others (by_number others block) (length_put others block)

few_from : (live : List Block) (low bound : ℕ) → AreNumbered live → All (λ block. low ≤ block.number) live → All (λ block. block.number < bound) live
    → low ≤ bound → length live + low ≤ bound
few_from [] low bound numbered from below le = omega arith
few_from (head ∷ others) low bound numbered from below le =
    let above : All (λ other. head.number < other.number) others = pairs_head (λ x y. x.number < y.number) head others numbered in
    omega (
      arith,
      from zero head (omega arith),
      few_from others (head.number + 1) bound
          (pairs_tail (λ x y. x.number < y.number) head others numbered) (λ k d lower. omega (arith, above k d lower))
          (All-tail (λ block. block.number < bound) head others below) (omega (arith, below zero head (omega arith))),
    )

-- blocks with numbers below a bound are no more than that
pub few_below : (live : List Block) (bound : ℕ) → AreNumbered live → All (λ block. block.number < bound) live → length live ≤ bound
few_below live bound numbered below = omega (arith, few_from live 0 bound numbered (λ k d lower. omega arith) below (omega arith))
