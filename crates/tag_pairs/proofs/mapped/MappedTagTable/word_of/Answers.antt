use Rattle.std.proofs.Common.{◌∙◌, ap}
use Rattle.tag_pairs.proofs.MappedLemmas.{image_there, tag_there}
use Rattle.tag_pairs.proofs.mapped.MappedTagTable.word_of.Goals as goal

pub returns-clause-exact : goal.returns-clause-exact
returns-clause-exact g c word =
    let image = g.M.TagBijection.image in
    let preimage = g.M.TagBijection.preimage in
    let tags = (g.T.TagTable.state c.args.self.now.table).tags in
    let is = ap image c.preimage.ensures ∙ g.met.M.TagBijection.onto c.args.tag.now in
    let exact = c.word_of.ensures.exact word in (
      λ found. image_there image preimage g.met.M.TagBijection.apart tags c.preimage.result c.args.tag.now is word (exact.0 found),
      λ there. exact.1 (tag_there image preimage g.met.M.TagBijection.apart tags c.preimage.result c.args.tag.now is word there),
    )
