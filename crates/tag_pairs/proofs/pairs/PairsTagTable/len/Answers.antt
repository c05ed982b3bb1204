use Rattle.std.proofs.Common.{◌∙◌, ap, length, subst, sym}
use Rattle.tag_intern.specs.Table.{IsTable}
use Rattle.tag_pairs.proofs.PairedLemmas.{length-paired, paired_table}
use Rattle.tag_pairs.proofs.pairs.PairsTagTable.len.Goals as goal

pub returns-clause-len : goal.returns-clause-len
returns-clause-len g c =
    c.len.ensures.len
    ∙ sym (length-paired (g.A.TagTable.state c.self.inside.lefts) (g.B.TagTable.state c.self.inside.rights) c.self.inside.pairs c.self.invariant)
    ∙ ap (λ table. length table.tags) c.self.view_is

pub returns-clause-sound : goal.returns-clause-sound
returns-clause-sound g c =
    subst IsTable c.self.view_is
    (paired_table (g.A.TagTable.state c.self.inside.lefts) (g.B.TagTable.state c.self.inside.rights) c.self.inside.pairs c.self.invariant)
