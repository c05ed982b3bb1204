-- What a region keeps where a block comes or goes.
use Rattle.std.proofs.Common.{ℕ, ◌<◌, ◌≤◌, inl, inr}
use Rattle.std.specs.List.{All}
use Rattle.std.proofs.lemmas.List.Elements.{All-filter, All-push}
use Rattle.std.proofs.lemmas.List.Kept.{AllPairs-filter}
use Rattle.std.proofs.lemmas.List.Quantifiers.{all_pairs_push}
use Rattle.live_blocks.specs.declared.block.Block.{Block}
use Rattle.live_blocks.specs.Space.{IsApart, IsFirstFit, IsSpace, IsWithin, LiesFree, Space, with_block, without_block}

-- a block that lies free, with a number above the others
pub space_insert : (space : Space) (block : Block) → IsSpace space → IsWithin space.base space.top block
    → LiesFree space block.words block.base → All (λ other. other.number < block.number) space.live → IsSpace (with_block space block)
space_insert space block is within lies newest = record {
  aligned = is.aligned;
  rising = is.rising;
  small = is.small;
  within = All-push (IsWithin space.base space.top) _ _ is.within within;
  numbered = all_pairs_push (λ x y. x.number < y.number) _ _ is.numbered newest;
  disjoint = all_pairs_push (λ x y. IsApart x.base x.words y) _ _ is.disjoint (λ k d in_range.
      elim (lies.free k d in_range) [ inl before ↦ inr before | inr after ↦ inl after ]);
}

-- words that fit first make a block of the region
pub first_within : (space : Space) (number words at : ℕ) → 1 ≤ words → IsFirstFit space words at
    → IsWithin space.base space.top (record { number = number; base = at; words = words })
first_within space number words at some is = record {
  aligned = is.aligned;
  some = some;
  from = is.lies_free.from;
  to = is.lies_free.to;
}

-- no block of some number
pub space_filter : (space : Space) (number : ℕ) → IsSpace space → IsSpace (without_block space number)
space_filter space number is = record {
  aligned = is.aligned;
  rising = is.rising;
  small = is.small;
  within = All-filter _ (IsWithin space.base space.top) _ is.within;
  numbered = AllPairs-filter (λ x y. x.number < y.number) _ _ is.numbered;
  disjoint = AllPairs-filter (λ x y. IsApart x.base x.words y) _ _ is.disjoint;
}
