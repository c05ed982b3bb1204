-- The texts of tags tell them apart.
use Rattle.std.specs.Prelude.{◌≡◌, ℕ, ◌^◌, ◌<◌, List}
use Rattle.heap_policy.specs.declared.tag.Content.{Content}
use Rattle.heap_policy.specs.declared.tag.Content.TheVariants as contents
use Rattle.heap_policy.specs.declared.tag.HeapTag.{HeapTag}
use Rattle.heap_policy.specs.declared.tag.HeapTag.TheVariants.{Val, Ptr, Static, Cell, Free}

abbrev pub HasSmallBlock : Content → Type 0
HasSmallBlock contents.Val = Unit {0}
HasSmallBlock (contents.Ptr block) = block < 2 ^ 32

-- each number in the tag is one of 32 bits
abbrev pub HasSmallBlocks : HeapTag → Type 0
HasSmallBlocks Val = Unit {0}
HasSmallBlocks (Ptr block) = block < 2 ^ 32
HasSmallBlocks (Static content) = HasSmallBlock content
HasSmallBlocks (Cell block content) = (block < 2 ^ 32) × HasSmallBlock content
HasSmallBlocks Free = Unit {0}

-- the texts tell any two such tags apart
abbrev pub TellsApart : (HeapTag → List ℕ) → Type 0
TellsApart text = (x y : HeapTag) → HasSmallBlocks x → HasSmallBlocks y → text x ≡ text y → x ≡ y
