-- What tags say of words and of blocks, and what of that stays where a word holds something else.
use Rattle.std.proofs.Common.{◌≡◌, ℕ, ◌≤◌, true, Option, Some, None, Result, Ok, refl, ap, subst, arith}
use Rattle.std.proofs.lemmas.Option.{same_Some}
use Rattle.shared_terms.proofs.StepLemmas.{ok_is}
use Rattle.policy_trait.specs.declared.rules.Refused.{Refused}
use Rattle.live_blocks.specs.declared.block.Block.{Block}
use Rattle.heap_policy.specs.Heap.{holding, is_static, wipe_tag}
use Rattle.heap_policy.specs.declared.tag.Content.{Content}
use Rattle.heap_policy.specs.declared.tag.Content.TheVariants as contents
use Rattle.heap_policy.specs.declared.tag.HeapTag.{HeapTag}
use Rattle.heap_policy.specs.declared.tag.HeapTag.TheVariants.{Val, Ptr, Static, Cell, Free}
use Rattle.heap_runs.specs.HeapInvariant.{IsBelow, IsCellOf, IsContentBelow, IsStatic}

-- what is given where nothing refuses
abbrev pub given : {A : Type 0} → A → Result A Refused
given x = Ok x

-- ---- blocks that a tag names

content_more : (low high : ℕ) → low ≤ high → (content : Content) → IsContentBelow low content → IsContentBelow high content
content_more low high le contents.Val below = tt
content_more low high le (contents.Ptr number) below = omega (arith, le, below)

pub below_more : (low high : ℕ) → low ≤ high → (tag : HeapTag) → IsBelow low tag → IsBelow high tag
below_more low high le Val below = tt
below_more low high le (Ptr number) below = omega (arith, le, below)
below_more low high le (Static content) below = content_more low high le content below
below_more low high le (Cell number content) below = (omega (arith, le, below.0), content_more low high le content below.1)
below_more low high le Free below = tt

-- ---- what kind of word a tag is of

-- the tag of a word outside the heap stays one, and so does that of a word of a block and of a free one
pub record IsKept (old new : HeapTag) : Type 0 where
  pub static : IsStatic old → IsStatic new
  pub cell : (found : Option Block) → IsCellOf found old → IsCellOf found new

pub same_kept : (tag : HeapTag) → IsKept tag tag
same_kept tag = record { static = λ is. is; cell = λ found is. is }

static_kept : (old new : Content) → IsKept (Static old) (Static new)
static_kept old new = record { static = λ is. (new, refl); cell = not_cell }
  where
    not_cell : (found : Option Block) → IsCellOf found (Static old) → IsCellOf found (Static new)
    not_cell None is = absurd cc
    not_cell (Some block) is = absurd (let e = is.1 in cc)

cell_kept : (number : ℕ) (old new : Content) → IsKept (Cell number old) (Cell number new)
cell_kept number old new = record { static = λ is. absurd (let e = is.1 in cc); cell = still }
  where
    numbers : (block : Block) (content : Content) → Cell number old ≡ Cell block.number content → number ≡ block.number
    numbers block content e = cc

    still : (found : Option Block) → IsCellOf found (Cell number old) → IsCellOf found (Cell number new)
    still None is = absurd cc
    still (Some block) is = (new, ap (λ (n : ℕ). Cell n new) (numbers block is.0 is.1))

pub holding_kept : (content : Content) (old new : HeapTag) → holding content old ≡ Some new → IsKept old new
holding_kept content (Static old) new e = subst (IsKept (Static old)) (same_Some (Static content) new e) (static_kept old content)
holding_kept content (Cell number old) new e = subst (IsKept (Cell number old)) (same_Some (Cell number content) new e) (cell_kept number old content)
holding_kept content Val new e = absurd cc
holding_kept content (Ptr number) new e = absurd cc
holding_kept content Free new e = absurd cc

pub wiped_kept : (old new : HeapTag) → wipe_tag old ≡ Ok new → IsKept old new
wiped_kept (Static old) new e = subst (IsKept (Static old)) (ok_is (Static contents.Val) new e) (static_kept old contents.Val)
wiped_kept (Cell number old) new e = subst (IsKept (Cell number old)) (ok_is (Cell number contents.Val) new e) (cell_kept number old contents.Val)
wiped_kept Free new e = subst (IsKept Free) (ok_is Free new e) (same_kept Free)
wiped_kept Val new e = absurd cc
wiped_kept (Ptr number) new e = absurd cc

pub wiped_below : (next : ℕ) (old new : HeapTag) → IsBelow next old → wipe_tag old ≡ Ok new → IsBelow next new
wiped_below next (Static old) new below e = subst (IsBelow next) (ok_is (Static contents.Val) new e) tt
wiped_below next (Cell number old) new below e = subst (IsBelow next) (ok_is (Cell number contents.Val) new e) (below.0, tt)
wiped_below next Free new below e = subst (IsBelow next) (ok_is Free new e) tt
wiped_below next Val new below e = absurd cc
wiped_below next (Ptr number) new below e = absurd cc

pub static_is : (tag : HeapTag) → is_static tag ≡ true → IsStatic tag
static_is (Static content) is = (content, refl)
static_is Val is = absurd cc
static_is (Ptr number) is = absurd cc
static_is (Cell number content) is = absurd cc
static_is Free is = absurd cc

-- no word is static and of the heap
pub not_both : {P : Type 0} (found : Option Block) (tag : HeapTag) → IsStatic tag → IsCellOf found tag → P
not_both None tag static cell = absurd (let e = static.1 in cc)
not_both (Some block) tag static cell = absurd (let e = static.1 in let f = cell.1 in cc)
