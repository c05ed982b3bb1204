use Rattle.std.proofs.Common.{◌≤◌, arith}
use Rattle.tag_pairs.proofs.StateLemmas.{read_as}
use Rattle.tag_pairs.proofs.pairs.PairsTagTable.tag_or.Goals as goal

pub returns : goal.returns
returns g c =
    let high : c.self.inside.pairs.limit ≤ 4294967295 = omega (arith, c.self.invariant.table.small) in
    read_as (g.A.TagTable.state c.self.inside.lefts) (g.B.TagTable.state c.self.inside.rights) c.self.inside.pairs c.self.invariant c.args.self.now c.self.view_is
    4294967295 high c.args.other c.args.word c.tag_or-left.result c.tag_or.result c.tag_or-2.result c.tag_or-left.ensures c.tag_or.ensures c.tag_or-2.ensures
