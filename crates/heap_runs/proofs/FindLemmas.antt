-- Which live block has a word: what a search for it finds, also where a block comes or goes.
use Rattle.std.proofs.Common.{◌≡◌, ◌≢◌, ◌⊎◌, inl, inr, ℕ, zero, suc, ◌+◌, ◌*◌, ◌<◌, ◌≤◌, Bool, true, false, cond, List, [], ◌∷◌, ◌++◌, get_or, Option, Some, None, refl, sym, ap, ◌∙◌, subst, arith}
use Rattle.std.specs.List.{All, Contains, filter, find}
use Rattle.std.specs.Option.{option_or}
use Rattle.std.proofs.lemmas.Bool.{and_from, and_left, and_parts, and_right, cases_order, eqb-true, le-leb, le-ltb, leb-true, lt-leb, lt-ltb, ltb-true, not-false}
use Rattle.std.proofs.lemmas.List.{get_or_default}
use Rattle.std.proofs.lemmas.List.Elements.{All-contains_itself, All-filter, filter_passes}
use Rattle.std.proofs.lemmas.List.Folds.{find-append}
use Rattle.live_blocks.proofs.ListLemmas.{find_fails}
use Rattle.live_blocks.proofs.NumberLemmas.{same_block}
use Rattle.live_blocks.specs.declared.block.Block.{Block}
use Rattle.live_blocks.specs.Space.{IsApart, IsSpace, LiesFree, Space, end_of, without_block}
use Rattle.heap_runs.proofs.BookLemmas.{is_other}
use Rattle.heap_runs.specs.HeapInvariant.{is_in_block}

-- ---- a search

module _ {X : Type 0} (test : X → Bool) where
  -- where none is found none passes
  none_by : (y x : X) (ys : List X) (passes : Bool) → test y ≡ passes → cond passes (Some y) (find test ys) ≡ None
      → (find test ys ≡ None → Contains ys x → test x ≡ false) → Contains (y ∷ ys) x → test x ≡ false
  none_by y x ys true is e rest has = absurd cc
  none_by y x ys false is e rest (zero, lower, same) = ap test (sym same) ∙ is
  none_by y x ys false is e rest (suc k, lower, same) = rest e (k, omega arith, same)

  pub none_passes : (xs : List X) (x : X) → find test xs ≡ None → Contains xs x → test x ≡ false
  none_passes [] x e has = absurd (omega (arith, has.1))
  none_passes (y ∷ ys) x e has = none_by y x ys (test y) refl e (none_passes ys x) has

  or_none : (first : Option X) → option_or first None ≡ first
  or_none None = refl
  or_none (Some x) = refl

  -- an element more at the end: found where no other is, and else of no account
  pub found_last : (xs : List X) (x : X) → find test xs ≡ None → test x ≡ true → find test (xs ++ x ∷ []) ≡ Some x
  found_last xs x none passes =
      find-append test xs (x ∷ [])
      ∙ ap (λ (o : Option X). option_or o (cond (test x) (Some x) None)) none
      ∙ ap (λ (b : Bool). cond b (Some x) None) passes

  pub found_before : (xs : List X) (x : X) → test x ≡ false → find test (xs ++ x ∷ []) ≡ find test xs
  found_before xs x fails =
      find-append test xs (x ∷ [])
      ∙ ap (λ (b : Bool). option_or (find test xs) (cond b (Some x) None)) fails
      ∙ or_none (find test xs)

  -- a filter that loses none that passes
  kept_by : (keeps : X → Bool) (x : X) (xs : List X) (kept : Bool) → (kept ≡ false → test x ≡ false)
      → find test (filter keeps xs) ≡ find test xs → find test (cond kept (x ∷ filter keeps xs) (filter keeps xs)) ≡ find test (x ∷ xs)
  kept_by keeps x xs true fails rest = ap (cond (test x) (Some x)) rest
  kept_by keeps x xs false fails rest = rw (fails refl) rest

  found_kept : (keeps : X → Bool) (xs : List X) → All (λ x. keeps x ≡ false → test x ≡ false) xs
      → find test (filter keeps xs) ≡ find test xs
  found_kept keeps [] fails = refl
  found_kept keeps (x ∷ xs) fails =
      kept_by keeps x xs (keeps x) (fails zero x (omega arith))
      (found_kept keeps xs (λ k d lower. fails (suc k) d (omega arith)))

-- ---- a word and a block

-- the word at the address lies in the block, or before or behind it
pub lies_in : (address : ℕ) (block : Block) → is_in_block address block ≡ true → (block.base ≤ address) × (address < end_of block)
lies_in address block e = let parts = and_parts _ _ e in (leb-true _ _ parts.0, ltb-true _ _ parts.1)

pub has_word : (address : ℕ) (block : Block) → block.base ≤ address → address < end_of block → is_in_block address block ≡ true
has_word address block from below = and_from _ _ (le-leb _ _ from) (lt-ltb _ _ below)

pub lies_out : (address : ℕ) (block : Block) → (address < block.base) ⊎ (end_of block ≤ address) → is_in_block address block ≡ false
lies_out address block (inl before) = and_left _ _ (lt-leb _ _ before)
lies_out address block (inr behind) = and_right _ _ (le-ltb _ _ behind)

-- ---- a block more

-- no live block has a word that lies free
pub free_word : (space : Space) (words at address : ℕ) → LiesFree space words at → at ≤ address → address < at + 4 * words
    → find (is_in_block address) space.live ≡ None
free_word space words at address free from below = find_fails (is_in_block address) space.live (λ k d lower.
    lies_out address (get_or space.live k d) (out (get_or space.live k d) (free.free k d lower)))
  where
    out : (block : Block) → IsApart at words block → (address < block.base) ⊎ (end_of block ≤ address)
    out block (inl before) = inl (omega arith)
    out block (inr behind) = inr (omega arith)

-- ---- a block less

module _ (space : Space) (is : IsSpace space) where
  there : (x d : Block) (has : Contains space.live x) → get_or space.live has.0 d ≡ x
  there x d has = get_or_default space.live has.0 d x has.1 ∙ has.2

  -- live blocks of two numbers are apart
  pub apart : (x y : Block) → Contains space.live x → Contains space.live y → x.number ≢ y.number → IsApart x.base x.words y
  apart x y has_x has_y differ = elim (cases_order has_x.0 has_y.0) [
    | inl same ↦
        let at : get_or space.live has_y.0 x ≡ x = ap (λ (k : ℕ). get_or space.live k x) (sym same) ∙ there x x has_x in
        absurd (differ (ap (λ (b : Block). b.number) (sym at ∙ there y x has_y)))
    | inr (inl before) ↦
        subst (λ (b : Block). IsApart x.base x.words b) (there y x has_y)
        (subst (λ (b : Block). IsApart b.base b.words (get_or space.live has_y.0 x)) (there x x has_x) (is.disjoint has_x.0 has_y.0 x before has_y.1))
    | inr (inr after) ↦ turned
        (subst (λ (b : Block). IsApart y.base y.words b) (there x x has_x)
        (subst (λ (b : Block). IsApart b.base b.words (get_or space.live has_x.0 x)) (there y x has_y) (is.disjoint has_y.0 has_x.0 x after has_x.1)))
  ]
    where
      turned : IsApart y.base y.words x → IsApart x.base x.words y
      turned (inl before) = inr before
      turned (inr behind) = inl behind

  module _ (block : Block) (live : Contains space.live block) (address : ℕ) where
    -- no other live block has a word of the block
    gone_by : address < end_of block → block.base ≤ address → (x : Block) → Contains space.live x → is_other block.number x ≡ true
        → is_in_block address x ≡ false
    gone_by below from x has other = lies_out address x (out (apart block x live has (λ same. absurd (grind (arith, other, same)))))
      where
        out : IsApart block.base block.words x → (address < x.base) ⊎ (end_of x ≤ address)
        out (inl before) = inl (omega arith)
        out (inr behind) = inr (omega arith)

    pub gone : is_in_block address block ≡ true → find (is_in_block address) (without_block space block.number).live ≡ None
    gone within = let lies = lies_in address block within in
        find_fails (is_in_block address) (without_block space block.number).live (λ k d lower.
        gone_by lies.1 lies.0 (get_or (filter (is_other block.number) space.live) k d)
        (All-filter (is_other block.number) (Contains space.live) space.live (All-contains_itself space.live) k d lower)
        (filter_passes (is_other block.number) space.live k d lower))

    -- a word outside of the block is where it was
    pub stays : is_in_block address block ≡ false
        → find (is_in_block address) (without_block space block.number).live ≡ find (is_in_block address) space.live
    stays outside = found_kept (is_in_block address) (is_other block.number) space.live (λ k d lower fails.
        let x = get_or space.live k d in
        let same : x.number ≡ block.number = eqb-true _ _ (not-false _ fails) in
        subst (λ (b : Block). is_in_block address b ≡ false)
        (sym (same_block space.live is.numbered x block (All-contains_itself space.live k d lower) live same)) outside)
