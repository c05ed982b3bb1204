use Rattle.std.proofs.Common.{◌≡◌, ◌++◌, ◌∷◌, [], ◌∙◌, ap, arith, length, refl, subst, sym}
use Rattle.tag_intern.specs.Table.{IsTable}
use Rattle.tag_intern.proofs.TableLemmas.{over_where_full}
use Rattle.tag_pairs.specs.Pairs.{paired}
use Rattle.tag_pairs.proofs.PairedLemmas.{length-paired, paired_table}
use Rattle.tag_pairs.proofs.StateLemmas.{both_apart, both_eq, both_equiv, known_fits, new_extends, new_state, new_word, pushed_same}
use Rattle.tag_pairs.proofs.pairs.PairsTagTable.intern.Given.{Over}
use Rattle.tag_pairs.proofs.pairs.PairsTagTable.intern.Goals as goal

-- the pair of tags stands at the end of the table
grown : (g : Over) (c : goal.In_ok-intern_new g)
    → paired (g.A.TagTable.state c.intern_new.new.lefts) (g.B.TagTable.state c.intern_new.new.rights) c.intern_new.new.pairs
    ≡ record c.args.self.now { tags = c.args.self.now.tags ++ c.args.tag ∷ [] }
grown g c =
    pushed_same (paired (g.A.TagTable.state c.self.inside.lefts) (g.B.TagTable.state c.self.inside.rights) c.self.inside.pairs) c.args.self.now _ c.args.tag
    c.self.view_is c.in_ok-intern_new.ensures.grown

pub returns-in-Some-clause-over : goal.returns-in-Some-clause-over
returns-in-Some-clause-over g c =
    let is = subst IsTable c.self.view_is
    (paired_table (g.A.TagTable.state c.self.inside.lefts) (g.B.TagTable.state c.self.inside.rights) c.self.inside.pairs c.self.invariant) in (
      λ full. absurd cc,
      λ over. absurd (known_fits (both_eq g.A.Tag.PartialEq.eq g.B.Tag.PartialEq.eq)
          (both_equiv g.A.Tag.PartialEq.eq g.B.Tag.PartialEq.eq g.met.A.Tag.Eq.laws g.met.B.Tag.Eq.laws)
          c.args.self.now is c.args.tag c.in-Some.word ((c.word_of.ensures.exact c.in-Some.word).0 c.in-Some.is) over),
    )

pub returns-then-word-limit-clause-over : goal.returns-then-word-limit-clause-over
returns-then-word-limit-clause-over g c = (
  λ _. over_where_full (both_eq g.A.Tag.PartialEq.eq g.B.Tag.PartialEq.eq)
      (both_equiv g.A.Tag.PartialEq.eq g.B.Tag.PartialEq.eq g.met.A.Tag.Eq.laws g.met.B.Tag.Eq.laws)
      (both_apart g.A.Tag.PartialEq.eq g.B.Tag.PartialEq.eq g.met.A.Tag.Same.same g.met.B.Tag.Same.same)
      c.args.self.now.tags c.args.tag (c.in_default.ensures.missing.0 refl) c.args.self.now.limit
      (sym c.len-word.ensures.len ∙ c.if-word-limit.true ∙ c.limit.ensures),
  λ _. refl,
)

pub intern_new-requires-clause-room : goal.intern_new-requires-clause-room
intern_new-requires-clause-room g c =
    let size = length-paired (g.A.TagTable.state c.self.inside.lefts) (g.B.TagTable.state c.self.inside.rights) c.self.inside.pairs c.self.invariant in
    let same = ap (λ table. length table.tags) c.self.view_is in
    let limit = ap (λ table. table.limit) c.self.view_is in
    let within = c.self.invariant.table.within in
    omega (arith, size, same, limit, within, c.if-word-limit.false, c.limit.ensures, c.len-word.ensures.len)

pub returns-clause-word : goal.returns-clause-word
returns-clause-word g c =
    new_word c.args.self.now
    (paired (g.A.TagTable.state c.intern_new.new.lefts) (g.B.TagTable.state c.intern_new.new.rights) c.intern_new.new.pairs) c.args.tag (grown g c)
    c.len-word.result c.len-word.ensures.len

pub returns-clause-grown : goal.returns-clause-grown
returns-clause-grown g c =
    new_state c.args.self.now
    (paired (g.A.TagTable.state c.intern_new.new.lefts) (g.B.TagTable.state c.intern_new.new.rights) c.intern_new.new.pairs) c.args.tag (grown g c)
    (both_eq g.A.Tag.PartialEq.eq g.B.Tag.PartialEq.eq)
    (both_apart g.A.Tag.PartialEq.eq g.B.Tag.PartialEq.eq g.met.A.Tag.Same.same g.met.B.Tag.Same.same) (c.in_default.ensures.missing.0 refl)

pub returns-clause-extends : goal.returns-clause-extends
returns-clause-extends g c =
    new_extends c.args.self.now
    (paired (g.A.TagTable.state c.intern_new.new.lefts) (g.B.TagTable.state c.intern_new.new.rights) c.intern_new.new.pairs) c.args.tag (grown g c)
