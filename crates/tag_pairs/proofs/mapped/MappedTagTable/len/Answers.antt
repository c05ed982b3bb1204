use Rattle.tag_pairs.proofs.MappedLemmas.{mapped_table}
use Rattle.tag_pairs.proofs.mapped.MappedTagTable.len.Goals as goal

pub returns-clause-sound : goal.returns-clause-sound
returns-clause-sound g c =
    mapped_table g.M.TagBijection.image g.M.TagBijection.preimage g.met.M.TagBijection.apart (g.T.TagTable.state c.args.self.now.table) c.len.ensures.sound
