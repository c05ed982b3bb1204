use Rattle.std.proofs.Common.{◌∙◌, ap, length, refl, subst, sym}
use Rattle.std.specs.List.{Contains}
use Rattle.engine_trait.specs.Accounts.{with_tag}
use Rattle.tag_intern.proofs.TableLemmas.{over_where_full, table_with, word_of_new}
use Rattle.tag_intern.proofs.interner.InternerTagTable.intern.Goals as goal

pub returns-then-word-self-clause-over : goal.returns-then-word-self-clause-over
returns-then-word-self-clause-over g c = (
  λ _. over_where_full g.T.PartialEq.eq g.met.T.Eq.laws g.met.T.Same.same c.args.self.now.tags c.args.tag
      (c.in_default.ensures.missing.0 refl) c.args.self.now.limit
      (sym c.len-word.ensures.len ∙ c.if-word-self.true ∙ ap (λ table. table.limit) c.self.view_is),
  λ _. refl,
)

pub invariant_of-self-2 : goal.invariant_of-self-2
invariant_of-self-2 g c =
    let is = ap (λ table. table.tags) c.self.view_is in
    table_with g.T.PartialEq.eq g.met.T.Eq.laws g.met.T.Same.same c.self.inside.tags.keys c.args.tag
    (λ there. c.in_default.ensures.missing.0 refl (subst (λ tags. Contains tags c.args.tag) is there)) c.self.inside.limit c.self.invariant
    (λ full. c.if-word-self.false (c.len-word.ensures.len ∙ ap length (sym is) ∙ full)) c.insert.new.self.keys c.in-Ok.ensures.keys

pub returns-clause-word : goal.returns-clause-word
returns-clause-word g c =
    word_of_new g.T.PartialEq.eq g.met.T.Eq.laws g.met.T.Same.same c.args.self.now.tags c.args.tag
    (c.in_default.ensures.missing.0 refl) c.insert.new.self.keys
    (c.in-Ok.ensures.keys ∙ ap (λ table. with_tag g.T.PartialEq.eq table.tags c.args.tag) c.self.view_is)
    c.len-word.result c.len-word.ensures.len
