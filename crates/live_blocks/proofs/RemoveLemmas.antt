-- What a heap's live blocks keep where a block goes.
use Rattle.std.proofs.Common.{◌≡◌, ◌≢◌, ◌⊎◌, ℕ, ◌+◌, ◌*◌, ◌%◌, ◌<◌, ◌≤◌, ◌==◌, min, true, false, not, List, length, get_or, sym, ap, ◌∙◌, subst, inl, inr, arith}
use mathlib.Core.Bool.{false≢true}
use Rattle.std.specs.List.{Contains, filter, remove}
use Rattle.std.proofs.lemmas.Bool.{cases_lt}
use Rattle.std.proofs.lemmas.Bool.Decides.{eqb_tells, nat_tests}
use Rattle.std.proofs.lemmas.List.{get_or_default}
use Rattle.std.proofs.lemmas.List.Elements.{All-contains, All-contains_itself, All-filter, Contains-get_or, filter_passes}
use Rattle.std.proofs.lemmas.List.Kept.{AllPairs-filter}
use Rattle.live_blocks.specs.declared.block.Block.{Block}
use Rattle.live_blocks.specs.Run.{AreBegun, IsByBase, IsFull, IsKept, IsPlaceOf}
use Rattle.live_blocks.specs.Space.{IsApart, IsWithin, LiesFree, Space, end_of, without_block}
use Rattle.live_blocks.specs.SpaceEdits.{space_filter}
use Rattle.live_blocks.proofs.ListLemmas.{contains_filter, remove_is_filter}
use Rattle.live_blocks.proofs.NumberLemmas.{same_block, same_place}

-- the test of a number, at another one and at the same
pub other_passes : (x number : ℕ) → x ≢ number → not (x == number) ≡ true
other_passes x number differs = grind (arith, nat_tests)

pub same_fails : (x number : ℕ) → x ≡ number → not (x == number) ≡ false
same_fails x number same = grind (arith, nat_tests)

module _ (space : Space) (by_base : List Block) (full : ℕ) (kept : IsKept space by_base full) (number place : ℕ) (is : IsPlaceOf space.live number place)
    (block : Block) (read : block ≡ get_or space.live place block) where
  -- the block that goes is live
  block_live : Contains space.live block
  block_live = (place, is.in_range, sym read)

  block_number : block.number ≡ number
  block_number = ap (λ (b : Block). b.number) read ∙ is.has_number block

  block_within : IsWithin space.base space.top block
  block_within = All-contains (IsWithin space.base space.top) space.live block kept.sound.within block_live

  -- the list without that place is that without the number
  pub removed : remove space.live place ≡ filter (λ other. not (other.number == number)) space.live
  removed = remove_is_filter (λ other. not (other.number == number)) space.live place block is.in_range (same_fails _ number (is.has_number block))
      (λ k lower differs. other_passes _ number (λ same. differs (same_place space.live kept.sound.numbered k place block lower is.in_range (same ∙ sym (is.has_number block)))))

  words_of_place : (k : ℕ) → k < length by_base → 1 ≤ (get_or by_base k block).words
  words_of_place k lower = (All-contains (IsWithin space.base space.top) space.live (get_or by_base k block) kept.sound.within (kept.ordered.known k block lower)).some

  -- no two blocks begin at one address
  one_place : (i j : ℕ) → i < length by_base → j < length by_base → (get_or by_base i block).base ≡ (get_or by_base j block).base → i ≡ j
  one_place i j lower lower' same = elim (cases_lt i j) [
    | inl before ↦ absurd (omega (arith, kept.ordered.rising i j block before lower', words_of_place i lower))
    | inr from ↦ elim (cases_lt j i) [
      | inl after ↦ absurd (omega (arith, kept.ordered.rising j i block after lower, words_of_place j lower'))
      | inr to ↦ omega arith
    ]
  ]

  module _ (at : ℕ) (begun : AreBegun by_base block.base at) where
    -- where the search by its address ends, the block stands
    stands_by : Contains by_base block → (at < length by_base) × (get_or by_base at block ≡ block)
    stands_by has = let base_is : (get_or by_base has.0 block).base ≡ block.base = ap (λ (b : Block). b.base) has.2 in elim (cases_lt has.0 at) [
      | inl before ↦ absurd (omega (arith, begun.below has.0 block (omega arith) before))
      | inr from ↦ elim (cases_lt at has.0) [
        | inl after ↦
            let lower : at < length by_base = omega (arith, has.1) in
            absurd (omega (arith, has.1, begun.others at block (omega arith) lower, kept.ordered.rising at has.0 block after has.1, words_of_place at lower))
        | inr to ↦ subst (λ k. (k < length by_base) × (get_or by_base k block ≡ block)) {x = has.0} (omega arith) (has.1, has.2)
      ]
    ]

    -- the block's place among the addresses
    pub stands : (at < length by_base) × (get_or by_base at block ≡ block)
    stands = stands_by (All-contains (Contains by_base) space.live block kept.ordered.listed block_live)

    -- the order of addresses without that place is that without the number
    removed_by_base : remove by_base at ≡ filter (λ other. not (other.number == number)) by_base
    removed_by_base = remove_is_filter (λ other. not (other.number == number)) by_base at block stands.0
        (same_fails _ number (ap (λ (b : Block). b.number) stands.1 ∙ block_number))
        (λ k lower differs. other_passes _ number (λ same.
        let is_block : get_or by_base k block ≡ block = same_block space.live kept.sound.numbered (get_or by_base k block) block
        (kept.ordered.known k block lower) block_live (same ∙ sym block_number) in
        differs (one_place k at lower stands.0 (ap (λ (b : Block). b.base) (is_block ∙ sym stands.1)))))

    -- both orders have the blocks of other numbers
    ordered_without : IsByBase (without_block space number).live (filter (λ other. not (other.number == number)) by_base)
    ordered_without = let test = λ (other : Block). not (other.number == number) in record {
      listed = λ k d lower. contains_filter test by_base (get_or (filter test space.live) k d)
          (All-filter test (Contains by_base) space.live kept.ordered.listed k d lower) (filter_passes test space.live k d lower);
      known = λ k d lower. contains_filter test space.live (get_or (filter test by_base) k d)
          (All-filter test (Contains space.live) by_base kept.ordered.known k d lower) (filter_passes test by_base k d lower);
      rising = AllPairs-filter (λ x y. end_of x ≤ y.base) test by_base kept.ordered.rising;
    }

    -- what lies free below the block lay free before
    lay_free_by : (lower : ℕ) → lower + 4 * 1 ≤ block.base → LiesFree (without_block space number) 1 lower → (x : Block) → Contains space.live x
        → (lower + 4 * 1 ≤ x.base) ⊎ (end_of x ≤ lower)
    lay_free_by lower below lies x has = elim (eqb_tells x.number number) [
      | inl same ↦ inl (subst (λ (b : Block). lower + 4 * 1 ≤ b.base) (sym (same_block space.live kept.sound.numbered x block has block_live (same.1 ∙ sym block_number))) below)
      | inr differs ↦ All-contains (IsApart lower 1) (without_block space number).live x lies.free
          (contains_filter (λ other. not (other.number == number)) space.live x has (other_passes x.number number differs.1))
    ]

    -- below the block, what was full is full
    filled_without : IsFull (without_block space number) (min full block.base)
    filled_without = record {
      aligned = elim (cases_lt full block.base) [
        | inl lower ↦ subst (λ k. k % 4 ≡ 0) {x = full} (omega arith) kept.filled.aligned
        | inr from ↦ subst (λ k. k % 4 ≡ 0) {x = block.base} (omega arith) block_within.aligned
      ];
      from = omega (arith, kept.filled.from, block_within.from);
      to = omega (arith, kept.filled.to);
      none = λ lower aligned below lies. kept.filled.none lower aligned (omega arith) (record {
        from = lies.from;
        to = lies.to;
        free = λ k d in_range. lay_free_by lower (omega (arith, block_within.aligned)) lies (get_or space.live k d) (Contains-get_or space.live k d in_range);
      });
    }

    -- the word where the block began is in no other
    apart_from_block : (x : Block) → Contains space.live x → not (x.number == number) ≡ true → IsApart block.base 1 x
    apart_from_block x has passes =
        let listed = All-contains (Contains by_base) space.live x kept.ordered.listed has in
        let x_is : get_or by_base listed.0 block ≡ x = get_or_default by_base listed.0 block x listed.1 ∙ listed.2 in
        let base_is : (get_or by_base listed.0 block).base ≡ x.base = ap (λ (b : Block). b.base) x_is in
        let end_is : end_of (get_or by_base listed.0 block) ≡ end_of x = ap end_of x_is in
        let at_base : (get_or by_base at block).base ≡ block.base = ap (λ (b : Block). b.base) stands.1 in
        let at_end : end_of (get_or by_base at block) ≡ end_of block = ap end_of stands.1 in
        elim (cases_lt listed.0 at) [
          | inl before ↦ inr (omega (arith, kept.ordered.rising listed.0 at block before stands.0))
          | inr from ↦ elim (cases_lt at listed.0) [
            | inl after ↦ inl (omega (arith, kept.ordered.rising at listed.0 block after listed.1, block_within.some))
            | inr to ↦
                let place_is : listed.0 ≡ at = omega arith in
                let x_block : x ≡ block = sym x_is ∙ (ap (λ k. get_or by_base k block) place_is ∙ stands.1) in
                let x_number : x.number ≡ number = ap (λ (b : Block). b.number) x_block ∙ block_number in
                absurd (false≢true (sym (same_fails x.number number x_number) ∙ passes))
          ]
        ]

    -- the lower of the two addresses has a word that is in no block
    open_without : (x : Block) → Contains space.live x → not (x.number == number) ≡ true → IsApart (min full block.base) 1 x
    open_without x has passes = elim (cases_lt block.base full) [
      | inl below ↦ subst (λ k. IsApart k 1 x) {x = block.base} (omega arith) (apart_from_block x has passes)
      | inr from ↦ subst (λ k. IsApart k 1 x) {x = full} (omega arith) (All-contains (IsApart full 1) space.live x kept.open_there has)
    ]

    -- and so all is kept
    pub kept_remove : IsKept (record { base = space.base; top = space.top; live = remove space.live place }) (remove by_base at) (min full block.base)
    kept_remove = subst (λ live. IsKept (record { base = space.base; top = space.top; live = live }) (remove by_base at) (min full block.base)) (sym removed)
        (subst (λ blocks. IsKept (without_block space number) blocks (min full block.base)) (sym removed_by_base)
        (record {
          sound = space_filter space number kept.sound;
          ordered = ordered_without;
          filled = filled_without;
          open_there = λ k d lower. open_without (get_or (filter (λ other. not (other.number == number)) space.live) k d)
              (All-filter (λ other. not (other.number == number)) (Contains space.live) space.live (All-contains_itself space.live) k d lower)
              (filter_passes (λ other. not (other.number == number)) space.live k d lower);
        }))
