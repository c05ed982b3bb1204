use Rattle.std.proofs.Common.{◌∙◌, ap}
use Rattle.tag_pairs.specs.Mapped.{mapped}
use Rattle.tag_pairs.proofs.MappedLemmas.{cut-mapped}
use Rattle.tag_pairs.proofs.mapped.MappedTagTable.cut.Goals as goal

pub returns : goal.returns
returns g c =
    ap (mapped g.M.TagBijection.image) c.cut.ensures ∙ cut-mapped g.M.TagBijection.image (g.T.TagTable.state c.args.self.now.table) c.args.len
