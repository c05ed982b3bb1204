use Rattle.std.proofs.Common.{◌<◌, ap, get_or, length, refl, rules, subst}
use Rattle.std.proofs.lemmas.Result.{err_from_is_err_and}
use Rattle.engine_trait.specs.Accounts.{with_tag}
use Rattle.tag_intern.specs.Words.{tag_at}
use Rattle.tag_intern.specs.declared.table.InternEnd.TheVariants as intern_end
use Rattle.tag_intern.proofs.ComingLemmas.{passed_on}
use Rattle.tag_intern.proofs.SweepLemmas.{remade_more, swept_fits}
use Rattle.tag_intern.proofs.sweep.remade.Goals as goal

pub returns-in_err-known-clause-memory : goal.returns-in_err-known-clause-memory
returns-in_err-known-clause-memory g c there full =
    let eq = g.T.Tag.PartialEq.eq in
    let old = g.T.TagTable.state c.args.tags.now in
    let now = g.T.TagTable.state c.loop-word.made in
    let tag = tag_at c.args.plain old.tags (get_or c.args.live.now c.loop-word.word-index 0) in
    let end = err_from_is_err_and c.from_residual-in_err-known.result c.from_residual-in_err-known.ensures.1 in
    let told = passed_on c.from_residual-in_err-known.result end.0 c.in_err-known.field-0.0 intern_end.Full end.1 end.2 full in
    swept_fits eq g.met.T.Tag.Eq.laws g.met.T.Tag.Same.same old.tags c.args.plain there old.limit c.len-len.ensures.sound.within c.args.live.now c.loop-word.word-index
    tag c.loop-word-test.true refl now.tags (ap (λ table. table.tags) c.loop-word.invariant.so_far)
    (subst (λ limit. limit < length (with_tag eq now.tags tag)) (ap (λ table. table.limit) c.loop-word.invariant.so_far) (c.in_err-known.ensures.over.0 told))

pub loop-word-preserved : goal.loop-word-preserved
loop-word-preserved g c = record {
  so_far = remade_more g.T.Tag.PartialEq.eq (g.T.TagTable.state c.args.tags.now) c.args.plain c.args.live.now c.loop-word.word-index
      (tag_at c.args.plain (g.T.TagTable.state c.args.tags.now).tags (get_or c.args.live.now c.loop-word.word-index 0)) c.loop-word-test.true refl
      (g.T.TagTable.state c.loop-word.made) (g.T.TagTable.state c.next_word.new.made) c.loop-word.invariant.so_far c.in_ok-known.ensures.grown;
  last = search rules;
}
