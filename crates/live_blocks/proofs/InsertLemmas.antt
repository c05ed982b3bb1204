-- What a heap's live blocks keep where a block comes.
use Rattle.std.proofs.Common.{◌≢◌, ◌⊎◌, ℕ, ◌^◌, ◌<◌, ◌≤◌, List, length, get_or, drop, ap, subst, inl, inr, arith}
use Rattle.std.specs.List.{All, Contains, insert}
use Rattle.std.proofs.lemmas.Bool.{cases_lt}
use Rattle.std.proofs.lemmas.List.Elements.{All-contains, All-drop, All-weaker, Contains-get_or}
use Rattle.live_blocks.specs.declared.block.Block.{Block}
use Rattle.live_blocks.specs.Run.{AreBegun, AreEarlier, IsByBase, IsFull, IsKept, run_end}
use Rattle.live_blocks.specs.Space.{IsApart, IsSpace, IsWithin, LiesFree, Space, end_of, region}
use Rattle.live_blocks.proofs.GapLemmas.{ends_by, one_lies_free}
use Rattle.live_blocks.proofs.ListLemmas.{all_drop, all_insert, contains_drop, contains_insert, contains_inserted, inserted_cases, pairs_drop, pairs_insert}
use Rattle.live_blocks.proofs.RisingLemmas.{small_ends}
use Rattle.live_blocks.proofs.RunLemmas.{run_full, run_open}

-- the block goes to these places among the numbers and among the addresses
module _ (space : Space) (by_base : List Block) (full : ℕ) (kept : IsKept space by_base full) (block : Block) (at place : ℕ) (within : IsWithin space.base space.top block)
    (lies : LiesFree space block.words block.base) (another : All (λ other. other.number ≢ block.number) space.live) (earlier : AreEarlier space.live block.number at)
    (begun : AreBegun by_base block.base place) where
  -- the live blocks with it
  abbrev live : List Block
  live = insert space.live at block

  abbrev with_it : Space
  with_it = region space.base space.top live

  -- each block ends before the new one or begins after it
  apart : (k : ℕ) (d : Block) → k < length by_base → (end_of block ≤ (get_or by_base k d).base) ⊎ (end_of (get_or by_base k d) ≤ block.base)
  apart k d lower = All-contains (IsApart block.base block.words) space.live (get_or by_base k d) lies.free (kept.ordered.known k d lower)

  -- each has a word
  some : (k : ℕ) (d : Block) → k < length by_base → 1 ≤ (get_or by_base k d).words
  some k d lower = (All-contains (IsWithin space.base space.top) space.live (get_or by_base k d) kept.sound.within (kept.ordered.known k d lower)).some

  -- both orders have the new block
  pub ordered : IsByBase live (insert by_base place block)
  ordered = record {
    listed = all_insert (Contains (insert by_base place block)) space.live at block
        (All-weaker (Contains by_base) (Contains (insert by_base place block)) (λ x has. contains_insert by_base place block x has) space.live kept.ordered.listed)
        (contains_inserted by_base place block);
    known = all_insert (Contains live) by_base place block
        (All-weaker (Contains space.live) (Contains live) (λ x has. contains_insert space.live at block x has) by_base kept.ordered.known)
        (contains_inserted space.live at block);
    rising = pairs_insert (λ x y. end_of x ≤ y.base) by_base place block begun.within kept.ordered.rising
        (λ k d low high. elim (apart k d (omega arith)) [ inl after ↦ omega (arith, begun.below k d (omega arith) high) | inr before ↦ before ])
        (λ k d low high. elim (apart k d high) [ inl after ↦ after | inr before ↦ omega (arith, begun.others k d low high, some k d high, within.some) ]);
  }

  -- where words lie free beside the block they lay free before
  lay_free : (words from : ℕ) → LiesFree with_it words from → LiesFree space words from
  lay_free words from free = record {
    from = free.from;
    to = free.to;
    free = λ k d lower. All-contains (IsApart from words) live (get_or space.live k d) free.free
        (contains_insert space.live at block (get_or space.live k d) (Contains-get_or space.live k d lower));
  }

  -- what was full is full
  still_full : IsFull with_it full
  still_full = record {
    aligned = kept.filled.aligned;
    from = kept.filled.from;
    to = kept.filled.to;
    none = λ lower aligned below free. kept.filled.none lower aligned below (lay_free 1 lower free);
  }

  -- the region has the block as it has the others
  sound : IsSpace with_it
  sound = record {
    aligned = kept.sound.aligned;
    rising = kept.sound.rising;
    small = kept.sound.small;
    within = all_insert (IsWithin space.base space.top) space.live at block kept.sound.within within;
    numbered = pairs_insert (λ x y. x.number < y.number) space.live at block earlier.within kept.sound.numbered
        (λ k d low high. earlier.below k d low high)
        (λ k d low high. omega (arith, earlier.others k d low high, another k d high));
    disjoint = pairs_insert (λ x y. IsApart x.base x.words y) space.live at block earlier.within kept.sound.disjoint
        (λ k d low high. elim (lies.free k d (omega (arith, earlier.within))) [ inl before ↦ inr before | inr after ↦ inl after ])
        (λ k d low high. lies.free k d high);
  }

  -- the block begins at the full address or above
  not_below : full ≤ block.base
  not_below = elim (cases_lt block.base full) [
    | inl below ↦ absurd (kept.filled.none block.base within.aligned below (one_lies_free space block.words block.base within.some lies))
    | inr above ↦ above
  ]

  -- a block that begins below the full address ends there, the new one too
  all_end_by : (x : Block) → Contains live x → x.base < full → end_of x ≤ full
  all_end_by x has below = elim (inserted_cases space.live at block x has) [
    | inl old ↦ ends_by space by_base full kept x old below
    | inr same ↦ absurd (omega (arith, ap (λ (b : Block). b.base) same, not_below))
  ]

  module _ (next : ℕ) (begun' : AreBegun (insert by_base place block) full next) where
    -- so each block ends there, or is among those from the full address on
    passed_by : (x : Block) → Contains live x → Contains (insert by_base place block) x
        → (end_of x ≤ full) ⊎ Contains (drop next (insert by_base place block)) x
    passed_by x is_live has = elim (cases_lt has.0 next) [
      | inl before ↦ inl (all_end_by x is_live (subst (λ (b : Block). b.base < full) has.2 (begun'.below has.0 x (omega arith) before)))
      | inr after ↦ inr (contains_drop next (insert by_base place block) x has.0 after has.1 has.2)
    ]

    -- and so all is kept
    pub kept_insert : IsKept with_it (insert by_base place block) (run_end (drop next (insert by_base place block)) full)
    kept_insert =
        let new = insert by_base place block in
        let known = All-drop (Contains live) next new ordered.known in
        record {
          sound = sound;
          ordered = ordered;
          filled = run_full with_it sound (drop next new) full known still_full;
          open_there = λ k d lower. run_open with_it sound (drop next new) full kept.filled.aligned (pairs_drop (λ x y. end_of x ≤ y.base) next new ordered.rising)
              (all_drop (λ other. full ≤ other.base) next new begun'.others) known
              (λ x has. passed_by x has (All-contains (Contains new) live x ordered.listed has))
              (get_or live k d) (Contains-get_or live k d lower);
        }

  -- each block's end fits a word
  pub inserted_small : All (λ other. end_of other < 2 ^ 32) (insert by_base place block)
  inserted_small = small_ends with_it (insert by_base place block) sound ordered.known
