-- A walk over the blocks in their order finds the lowest place where a range lies free.
use Rattle.std.proofs.Common.{◌≡◌, ◌⊎◌, ℕ, suc, ◌+◌, ◌*◌, ◌%◌, ◌<◌, ◌≤◌, nat_le, Bool, true, false, List, [], ◌∷◌, length, get_or, drop, if◌then◌else◌, refl, subst, inl, inr, arith}
use Rattle.std.specs.List.{All, Contains}
use Rattle.std.proofs.lemmas.Bool.{cases_lt, leb-false, leb-true}
use Rattle.std.proofs.lemmas.List.Elements.{All-contains, All-drop, All-head, All-tail, Contains-get_or}
use Rattle.live_blocks.specs.declared.block.Block.{Block}
use Rattle.live_blocks.specs.Run.{AreBegun, IsKept, IsRising, gap_at}
use Rattle.live_blocks.specs.Space.{IsApart, IsFirstFit, IsSpace, IsWithin, LiesFree, Space, end_of}
use Rattle.live_blocks.proofs.ListLemmas.{all_drop, contains_drop, pairs_drop, pairs_tail}
use Rattle.live_blocks.proofs.RisingLemmas.{after_head, begins_after, ended_or_after}

-- where a walk stands: so many words lie free at no lower place, and the blocks that do not end there are still ahead
pub record IsReached (space : Space) (blocks : List Block) (words at : ℕ) : Type 0 where
  pub aligned : at % 4 ≡ 0
  pub from : space.base ≤ at
  pub none : (lower : ℕ) → lower % 4 ≡ 0 → lower < at → LiesFree space words lower → ⊥
  pub passed : (block : Block) → Contains space.live block → (end_of block ≤ at) ⊎ Contains blocks block
  pub known : All (Contains space.live) blocks
  pub rising : IsRising blocks
  pub ahead : All (λ block. at < end_of block) blocks

-- where it ends: the words meet no live block
pub record IsGap (space : Space) (words at : ℕ) : Type 0 where
  pub aligned : at % 4 ≡ 0
  pub from : space.base ≤ at
  pub none : (lower : ℕ) → lower % 4 ≡ 0 → lower < at → LiesFree space words lower → ⊥
  pub free : All (IsApart at words) space.live

module _ (space : Space) (is : IsSpace space) (words : ℕ) where
  within : (block : Block) → Contains space.live block → IsWithin space.base space.top block
  within block has = All-contains (IsWithin space.base space.top) space.live block is.within has

  -- no block is left
  ended : (at : ℕ) → IsReached space [] words at → IsGap space words at
  ended at reached = record {
    aligned = reached.aligned;
    from = reached.from;
    none = reached.none;
    free = λ k d in_range. elim (reached.passed (get_or space.live k d) (Contains-get_or space.live k d in_range)) [
      | inl before ↦ inr before
      | inr has ↦ absurd (omega (arith, has.1))
    ];
  }

  module _ (head : Block) (blocks : List Block) (at : ℕ) (reached : IsReached space (head ∷ blocks) words at) where
    -- the words end before the next block, and so before those after it
    stopped : at + 4 * words ≤ head.base → IsGap space words at
    stopped fits = record {
      aligned = reached.aligned;
      from = reached.from;
      none = reached.none;
      free = λ k d in_range. elim (reached.passed (get_or space.live k d) (Contains-get_or space.live k d in_range)) [
        | inl before ↦ inr before
        | inr has ↦ inl (begins_after head blocks (at + 4 * words) reached.rising fits _ has)
      ];
    }

    head_live : Contains space.live head
    head_live = All-head (Contains space.live) head blocks reached.known

    -- no words lie free up to the end of a block that comes too soon
    none_to_end : head.base < at + 4 * words → (lower : ℕ) → lower % 4 ≡ 0 → lower < end_of head → LiesFree space words lower → ⊥
    none_to_end soon lower aligned below lies = elim (All-contains (IsApart lower words) space.live head lies.free head_live) [
      | inl before ↦ reached.none lower aligned (omega arith) lies
      | inr after ↦ omega arith
    ]

    left : head.base < at + 4 * words → IsReached space blocks words (end_of head)
    left soon = let head_is = within head head_live in record {
      aligned = omega (arith, head_is.aligned);
      from = omega (arith, head_is.from);
      none = none_to_end soon;
      passed = λ block has. elim (reached.passed block has) [
        | inl before ↦ inl (omega (arith, All-head (λ (other : Block). at < end_of other) head blocks reached.ahead))
        | inr later ↦ ended_or_after head blocks block later
      ];
      known = All-tail (Contains space.live) head blocks reached.known;
      rising = pairs_tail (λ x y. end_of x ≤ y.base) head blocks reached.rising;
      ahead = λ k d in_range. omega (
        arith,
        after_head head blocks reached.rising (get_or blocks k d) (Contains-get_or blocks k d in_range),
        (within (get_or blocks k d) (reached.known (suc k) d (omega arith))).some,
      );
    }

  gap_by : (head : Block) (blocks : List Block) (at : ℕ) → IsReached space (head ∷ blocks) words at → (fits : Bool) → nat_le (at + 4 * words) head.base ≡ fits
      → (IsReached space blocks words (end_of head) → IsGap space words (gap_at blocks words (end_of head)))
      → IsGap space words (if fits then at else gap_at blocks words (end_of head))
  gap_by head blocks at reached true tests next = stopped head blocks at reached (leb-true _ _ tests)
  gap_by head blocks at reached false tests next = next (left head blocks at reached (leb-false _ _ tests))

  pub walk_ends : (blocks : List Block) (at : ℕ) → IsReached space blocks words at → IsGap space words (gap_at blocks words at)
  walk_ends [] at reached = ended at reached
  walk_ends (head ∷ blocks) at reached = gap_by head blocks at reached (nat_le (at + 4 * words) head.base) refl (λ next. walk_ends blocks (end_of head) next)

-- a gap that ends in the region is the first fit, and where it does not nothing fits
pub first_in_gap : (space : Space) (words at : ℕ) → IsGap space words at → at + 4 * words ≤ space.top → IsFirstFit space words at
first_in_gap space words at gap to = record { aligned = gap.aligned; lies_free = record { from = gap.from; to = to; free = gap.free }; first = gap.none }

pub none_past_gap : (space : Space) (words gap : ℕ) → IsGap space words gap → space.top < gap + 4 * words → (at : ℕ) → at % 4 ≡ 0 → LiesFree space words at → ⊥
none_past_gap space words gap is past at aligned lies = elim (cases_lt at gap) [
  | inl below ↦ is.none at aligned below lies
  | inr above ↦ omega (arith, lies.to)
]

-- ---- where a walk begins

-- fewer words lie free where more do
pub one_lies_free : (space : Space) (words at : ℕ) → 1 ≤ words → LiesFree space words at → LiesFree space 1 at
one_lies_free space words at some lies = record {
  from = lies.from;
  to = omega (arith, lies.to);
  free = λ k d in_range. elim (lies.free k d in_range) [ inl before ↦ inl (omega arith) | inr after ↦ inr after ];
}

module _ (space : Space) (by_base : List Block) (full : ℕ) (kept : IsKept space by_base full) where
  open_at : (block : Block) → Contains space.live block → IsApart full 1 block
  open_at block has = All-contains (IsApart full 1) space.live block kept.open_there has

  -- a block that begins below the full address ends there
  pub ends_by : (block : Block) → Contains space.live block → block.base < full → end_of block ≤ full
  ends_by block has below = elim (open_at block has) [ inl above ↦ omega arith | inr ended ↦ ended ]

  pub walk_begins : (words : ℕ) → 1 ≤ words → (next : ℕ) → AreBegun by_base full next → IsReached space (drop next by_base) words full
  walk_begins words some next begun = record {
    aligned = kept.filled.aligned;
    from = kept.filled.from;
    none = λ lower aligned below lies. kept.filled.none lower aligned below (one_lies_free space words lower some lies);
    passed = λ block has. passed_at block has (All-contains (Contains by_base) space.live block kept.ordered.listed has);
    known = All-drop (Contains space.live) next by_base kept.ordered.known;
    rising = pairs_drop (λ x y. end_of x ≤ y.base) next by_base kept.ordered.rising;
    ahead = all_drop (λ block. full < end_of block) next by_base (λ k d low high. omega (arith, begun.others k d low high, some_at k d high));
  }
    where
      passed_at : (block : Block) → Contains space.live block → Contains by_base block → (end_of block ≤ full) ⊎ Contains (drop next by_base) block
      passed_at block live has = elim (cases_lt has.0 next) [
        | inl before ↦ inl (ends_by block live (subst (λ (other : Block). other.base < full) has.2 (begun.below has.0 block (omega arith) before)))
        | inr after ↦ inr (contains_drop next by_base block has.0 after has.1 has.2)
      ]

      some_at : (k : ℕ) (d : Block) → k < length by_base → 1 ≤ (get_or by_base k d).words
      some_at k d in_range = (All-contains (IsWithin space.base space.top) space.live (get_or by_base k d) kept.sound.within (kept.ordered.known k d in_range)).some
