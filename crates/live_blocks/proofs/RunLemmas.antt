-- A run of blocks that follow each other without a gap: it is full, and the word where it ends is in no block.
use Rattle.std.proofs.Common.{◌≡◌, ◌⊎◌, ℕ, ◌+◌, ◌*◌, ◌%◌, ◌≤◌, ◌==◌, Bool, true, false, List, [], ◌∷◌, if◌then◌else◌, refl, sym, subst, inl, inr, arith}
use Rattle.std.specs.List.{All, Contains}
use Rattle.std.proofs.lemmas.Bool.{cases_lt, eqb-false, eqb-true}
use Rattle.std.proofs.lemmas.List.Elements.{All-contains, All-head, All-tail}
use Rattle.live_blocks.specs.declared.block.Block.{Block}
use Rattle.live_blocks.specs.Run.{IsFull, IsRising, run_end}
use Rattle.live_blocks.specs.Space.{IsApart, IsSpace, IsWithin, Space, end_of}
use Rattle.live_blocks.proofs.ListLemmas.{pairs_head, pairs_tail}
use Rattle.live_blocks.proofs.RisingLemmas.{begins_after, ended_or_after}

module _ (space : Space) (is : IsSpace space) where
  within : (block : Block) → Contains space.live block → IsWithin space.base space.top block
  within block has = All-contains (IsWithin space.base space.top) space.live block is.within has

  -- below the end of a block that begins where all is full, all is full
  full_past : (block : Block) → Contains space.live block → IsFull space block.base → IsFull space (end_of block)
  full_past block has full = let block_is = within block has in record {
    aligned = omega (arith, block_is.aligned);
    from = omega (arith, block_is.from);
    to = block_is.to;
    none = λ lower aligned below lies. elim (cases_lt lower block.base) [
      | inl before ↦ full.none lower aligned before lies
      | inr after ↦ elim (All-contains (IsApart lower 1) space.live block lies.free has) [
        | inl ends ↦ omega arith
        | inr begins ↦ omega arith
      ]
    ];
  }

  -- the same at the head of a list, if the head begins there
  run_full_by : (head : Block) (blocks : List Block) (full : ℕ) → Contains space.live head → IsFull space full → (follows : Bool) → (head.base == full) ≡ follows
      → (IsFull space (end_of head) → IsFull space (run_end blocks (end_of head))) → IsFull space (if follows then run_end blocks (end_of head) else full)
  run_full_by head blocks full has is_full true tests next = next (full_past head has (subst (IsFull space) (sym (eqb-true _ _ tests)) is_full))
  run_full_by head blocks full has is_full false tests next = is_full

  -- below the end of a run all is full
  pub run_full : (blocks : List Block) (full : ℕ) → All (Contains space.live) blocks → IsFull space full → IsFull space (run_end blocks full)
  run_full [] full known is_full = is_full
  run_full (head ∷ blocks) full known is_full = run_full_by head blocks full (All-head (Contains space.live) head blocks known) is_full (head.base == full) refl
      (λ next. run_full blocks (end_of head) (All-tail (Contains space.live) head blocks known) next)

  -- the word where a run ends is in no block
  run_open_by : (head : Block) (blocks : List Block) (at : ℕ) → at % 4 ≡ 0 → IsRising (head ∷ blocks) → at ≤ head.base → Contains space.live head
      → ((block : Block) → Contains space.live block → (end_of block ≤ at) ⊎ Contains (head ∷ blocks) block) → (follows : Bool) → (head.base == at) ≡ follows
      → (((block : Block) → Contains space.live block → (end_of block ≤ end_of head) ⊎ Contains blocks block)
      → (block : Block) → Contains space.live block → IsApart (run_end blocks (end_of head)) 1 block)
      → (block : Block) → Contains space.live block → IsApart (if follows then run_end blocks (end_of head) else at) 1 block
  run_open_by head blocks at aligned rising ahead has passed true tests next =
      let follows = eqb-true _ _ tests in
      next (λ block live. elim (passed block live) [
        | inl before ↦ inl (omega arith)
        | inr here ↦ ended_or_after head blocks block here
      ])
  run_open_by head blocks at aligned rising ahead has passed false tests next =
      let differs = eqb-false _ _ tests in
      let above : at + 4 * 1 ≤ head.base = omega (arith, (within head has).aligned) in
      λ block live. elim (passed block live) [
        | inl before ↦ inr before
        | inr here ↦ inl (begins_after head blocks (at + 4 * 1) rising above block here)
      ]

  pub run_open : (blocks : List Block) (at : ℕ) → at % 4 ≡ 0 → IsRising blocks → All (λ block. at ≤ block.base) blocks → All (Contains space.live) blocks
      → ((block : Block) → Contains space.live block → (end_of block ≤ at) ⊎ Contains blocks block)
      → (block : Block) → Contains space.live block → IsApart (run_end blocks at) 1 block
  run_open [] at aligned rising ahead known passed = λ block live. elim (passed block live) [ inl before ↦ inr before | inr here ↦ absurd (omega (arith, here.1)) ]
  run_open (head ∷ blocks) at aligned rising ahead known passed =
      let has = All-head (Contains space.live) head blocks known in
      run_open_by head blocks at aligned rising (All-head (λ block. at ≤ block.base) head blocks ahead) has passed (head.base == at) refl
      (λ passed'. run_open blocks (end_of head) (omega (arith, (within head has).aligned)) (pairs_tail (λ x y. end_of x ≤ y.base) head blocks rising)
      (pairs_head (λ x y. end_of x ≤ y.base) head blocks rising) (All-tail (Contains space.live) head blocks known) passed')
