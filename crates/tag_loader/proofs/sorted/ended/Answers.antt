use Rattle.std.proofs.Common.{leb, rules}
use Rattle.std.proofs.lemmas.List.Sorted.{IsPartitionPoint-from_clause, IsPartitionedBy-leb}
use Rattle.tag_loader.proofs.SortedLemmas.{ends_rise}
use Rattle.tag_loader.proofs.sorted.ended.Goals as goal

pub returns-clause-point : goal.returns-clause-point
returns-clause-point g c =
    let past = g.R.Placed.past in
    let parted = IsPartitionedBy-leb past c.args.rows.now c.args.address (ends_rise g.R.Placed.first past c.args.rows.now c.requires) in
    IsPartitionPoint-from_clause (λ row. leb (past row) c.args.address) _ _ c.partition_point.ensures.partitioned parted (λ a r q k. search rules)
