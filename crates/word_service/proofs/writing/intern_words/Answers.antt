use Rattle.std.proofs.Common.{rules, arith, ◌<◌, ◌≤◌, length, subst, take}
use Rattle.std.proofs.lemmas.Result.{err_from_is_err_and}
use Rattle.engine_trait.specs.Accounts.{with_tags}
use Rattle.tag_intern.specs.declared.table.InternEnd.TheVariants as intern_end
use Rattle.word_service.specs.Written.{tags_of}
use Rattle.tag_intern.proofs.TableLemmas.{extends_on}
use Rattle.tag_intern.proofs.ComingLemmas.{passed_on}
use Rattle.tag_intern.proofs.ComingLemmas.{never_full}
use Rattle.word_service.proofs.WordLemmas.{not_full, stand_on, word_came, word_fits, word_over, word_written}
use Rattle.word_service.proofs.writing.intern_words.Goals as goal

pub returns-in_err-word-clause-full : goal.returns-in_err-word-clause-full
returns-in_err-word-clause-full g c e =
    let eq = g.T.Tag.PartialEq.eq in
    let before = (g.T.TagTable.state c.args.tags.now).tags in
    let now = g.T.TagTable.state c.loop-item.tags in
    let end = err_from_is_err_and c.from_residual.result c.from_residual.ensures.1 in
    let told = passed_on c.from_residual.result end.0 c.in_err-word.field-0.0 intern_end.Full end.1 end.2 e in
    subst (λ limit. limit < length (with_tags eq before (tags_of c.args.words.now))) c.loop-item.invariant.limit
    (word_over c.args.words.now c.loop-item.item-index c.item-item.result c.loop-item-test.true c.item-item.is eq before now.tags c.loop-item.invariant.seen
    g.met.T.Tag.Eq.laws now.limit (c.in_err-word.ensures.over.0 told))

pub returns-in_err-word-clause-memory : goal.returns-in_err-word-clause-memory
returns-in_err-word-clause-memory g c e =
    let eq = g.T.Tag.PartialEq.eq in
    let before = (g.T.TagTable.state c.args.tags.now).tags in
    let now = g.T.TagTable.state c.loop-item.tags in
    let end = err_from_is_err_and c.from_residual.result c.from_residual.ensures.1 in
    let told = passed_on c.from_residual.result end.0 c.in_err-word.field-0.0 intern_end.Memory end.1 end.2 e in
    subst (λ limit. length (with_tags eq before (take 1 (tags_of c.args.words.now))) ≤ limit) c.loop-item.invariant.limit
    (word_fits c.args.words.now c.loop-item.item-index c.item-item.result c.loop-item-test.true c.item-item.is eq before now.tags c.loop-item.invariant.seen
    g.met.T.Tag.Eq.laws now.limit (λ over. not_full c.in_err-word.field-0.0 told (c.in_err-word.ensures.over.1 over)))

pub returns-in_err-word-clause-some : goal.returns-in_err-word-clause-some
returns-in_err-word-clause-some g c e = omega (arith, c.loop-item-test.true)

pub returns-in_default-clause-extends : goal.returns-in_default-clause-extends
returns-in_default-clause-extends g c =
    let before = g.T.TagTable.state c.args.tags.now in
    extends_on before.tags (g.T.TagTable.state c.loop-item.tags).tags (g.T.TagTable.state c.next_word.new.tags).tags c.loop-item.invariant.extends c.next_word.ensures.extends

pub returns-in_default-clause-memory : goal.returns-in_default-clause-memory
returns-in_default-clause-memory g c e =
    let eq = g.T.Tag.PartialEq.eq in
    let before = (g.T.TagTable.state c.args.tags.now).tags in
    let now = g.T.TagTable.state c.loop-item.tags in
    subst (λ limit. length (with_tags eq before (take 1 (tags_of c.args.words.now))) ≤ limit) c.loop-item.invariant.limit
    (word_fits c.args.words.now c.loop-item.item-index c.item-item.result c.loop-item-test.true c.item-item.is eq before now.tags c.loop-item.invariant.seen
    g.met.T.Tag.Eq.laws now.limit (λ over. never_full c.in_ok-word.word (c.in_ok-word.ensures.over.1 over)))

pub returns-in_default-clause-some : goal.returns-in_default-clause-some
returns-in_default-clause-some g c e = omega (arith, c.loop-item-test.true)

pub loop-item-preserved : goal.loop-item-preserved
loop-item-preserved g c =
    let before = (g.T.TagTable.state c.args.tags.now).tags in
    let old = (g.T.TagTable.state c.loop-item.tags).tags in
    let new = (g.T.TagTable.state c.next_word.new.tags).tags in
    record {
      seen = word_came c.args.words.now c.loop-item.item-index c.item-item.result c.loop-item-test.true c.item-item.is g.T.Tag.PartialEq.eq before old c.loop-item.invariant.seen
          new (λ j. (c.in_ok-word.ensures.grown j).tags);
      limit = search rules;
      within = search rules;
      extends = extends_on before old new c.loop-item.invariant.extends c.next_word.ensures.extends;
      last = search rules;
      words = word_written new c.loop-item.written.items c.push.new.self.items c.args.words.now c.loop-item.item-index c.item-item.result c.in_ok-word.word
          c.loop-item-test.true c.item-item.is c.in_ok-word.ensures.word c.in-Ok.ensures.items
          (stand_on old new c.next_word.ensures.extends c.loop-item.written.items _ c.loop-item.invariant.words);
    }
