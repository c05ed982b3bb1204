use Rattle.std.proofs.Common.{ℕ, ◌<◌, ◌≤◌, ◌^◌, ◌∙◌, ap, length, subst, sym}
use Rattle.tag_intern.specs.Table.{TableState, cut_to}
use Rattle.tag_pairs.specs.Pairs.{left_count, right_count}
use Rattle.tag_pairs.proofs.PairedLemmas.{cut_fits, cut_small, cut_state, cut_stays, length-paired}
use Rattle.tag_pairs.proofs.pairs.PairsTagTable.cut.Goals as goal

pub cut-requires : goal.cut-requires
cut-requires g c =
    subst (λ (n : ℕ). c.args.len ≤ n)
    (ap (λ table. length table.tags) (sym c.self.view_is)
    ∙ length-paired (g.A.TagTable.state c.self.inside.lefts) (g.B.TagTable.state c.self.inside.rights) c.self.inside.pairs c.self.invariant) c.requires

pub word_counts-lefts-requires-clause-left : goal.word_counts-lefts-requires-clause-left
word_counts-lefts-requires-clause-left g c =
    subst (λ (table : TableState (ℕ × ℕ)). left_count table.tags < 2 ^ 32) (sym c.cut.ensures)
    (cut_small (g.A.TagTable.state c.self.inside.lefts) (g.B.TagTable.state c.self.inside.rights) c.self.inside.pairs c.self.invariant c.args.len).0

pub word_counts-lefts-requires-clause-right : goal.word_counts-lefts-requires-clause-right
word_counts-lefts-requires-clause-right g c =
    subst (λ (table : TableState (ℕ × ℕ)). right_count table.tags < 2 ^ 32) (sym c.cut.ensures)
    (cut_small (g.A.TagTable.state c.self.inside.lefts) (g.B.TagTable.state c.self.inside.rights) c.self.inside.pairs c.self.invariant c.args.len).1

pub cut-requires-2 : goal.cut-requires-2
cut-requires-2 g c =
    subst (λ (n : ℕ). n ≤ length (g.A.TagTable.state c.self.inside.lefts).tags)
    (sym (c.word_counts-lefts.ensures.left ∙ ap (λ (table : TableState (ℕ × ℕ)). left_count table.tags) c.cut.ensures))
    (cut_fits (g.A.TagTable.state c.self.inside.lefts) (g.B.TagTable.state c.self.inside.rights) c.self.inside.pairs c.self.invariant c.args.len).0

pub cut-requires-3 : goal.cut-requires-3
cut-requires-3 g c =
    subst (λ (n : ℕ). n ≤ length (g.B.TagTable.state c.self.inside.rights).tags)
    (sym (c.word_counts-lefts.ensures.right ∙ ap (λ (table : TableState (ℕ × ℕ)). right_count table.tags) c.cut.ensures))
    (cut_fits (g.A.TagTable.state c.self.inside.lefts) (g.B.TagTable.state c.self.inside.rights) c.self.inside.pairs c.self.invariant c.args.len).1

pub invariant_of-self : goal.invariant_of-self
invariant_of-self g c =
    cut_stays (g.A.TagTable.state c.self.inside.lefts) (g.B.TagTable.state c.self.inside.rights) c.self.inside.pairs c.self.invariant c.args.len
    (g.A.TagTable.state c.cut-2.new.self) (g.B.TagTable.state c.cut-3.new.self) c.cut.new.self c.word_counts-lefts.result.0 c.word_counts-lefts.result.1
    c.cut.ensures c.word_counts-lefts.ensures.left c.word_counts-lefts.ensures.right c.cut-2.ensures c.cut-3.ensures

pub returns : goal.returns
returns g c =
    cut_state (g.A.TagTable.state c.self.inside.lefts) (g.B.TagTable.state c.self.inside.rights) c.self.inside.pairs c.self.invariant c.args.len
    (g.A.TagTable.state c.cut-2.new.self) (g.B.TagTable.state c.cut-3.new.self) c.cut.new.self c.word_counts-lefts.result.0 c.word_counts-lefts.result.1
    c.cut.ensures c.word_counts-lefts.ensures.left c.word_counts-lefts.ensures.right c.cut-2.ensures c.cut-3.ensures
    ∙ ap (λ table. cut_to table c.args.len) c.self.view_is
