-- The numbers rise, so the blocks with a number below another stand first.
use Rattle.std.proofs.Common.{nat_lt, rules}
use Rattle.std.proofs.lemmas.Bool.{ltb-false, ltb-true}
use Rattle.std.proofs.lemmas.List.Sorted.{IsPartitionPoint-from_clause, IsPartitionedBy-ltb}
use Rattle.live_blocks.specs.declared.block.Block.{Block}
use Rattle.live_blocks.proofs.NumberLemmas.{numbers_rise}
use Rattle.live_blocks.proofs.walk.numbered_below.Goals as goal

pub returns : goal.returns
returns c =
    let blocks = c.args.blocks.now in
    let parted = IsPartitionPoint-from_clause (λ (block : Block). nat_lt block.number c.args.number) blocks c.partition_point.result c.partition_point.ensures.partitioned
    (IsPartitionedBy-ltb (λ (block : Block). block.number) blocks c.args.number (numbers_rise blocks c.requires)) (λ a r f called. search rules) in
    record {
      within = c.partition_point.ensures.bound;
      below = λ k d low high. ltb-true _ _ (parted.0 k d low high);
      others = λ k d low high. ltb-false _ _ (parted.1 k d low high);
    }
