use Rattle.std.proofs.Common.{◌<◌, ◌∙◌, [], Some, ap, length, map, refl, subst, sym}
use Rattle.std.specs.List.{All}
use Rattle.std.proofs.lemmas.List.{take_all}
use Rattle.std.proofs.lemmas.Result.{err_from_is_err_and}
use Rattle.engine_trait.specs.Accounts.{with_tags}
use Rattle.tag_intern.specs.declared.table.InternEnd.TheVariants as intern_end
use Rattle.tag_intern.proofs.TableLemmas.{extends_on, extends_same, grown_word}
use Rattle.tag_intern.proofs.ComingLemmas.{passed_on, tag_came, tag_over}
use Rattle.tag_memory.specs.Hart.{HartState, fresh_hart}
use Rattle.word_loader.specs.Named.{AreHartsOf}
use Rattle.word_loader.proofs.NamedLemmas.{IsFresh, hart_came, harts_grow}
use Rattle.word_loader.proofs.StartLemmas.{harts_are_fresh}
use Rattle.word_loader.proofs.words.word_harts.Goals as goal

pub returns-in_err-pc_tag-clause-full : goal.returns-in_err-pc_tag-clause-full
returns-in_err-pc_tag-clause-full g c e =
    let eq = g.P.Tag.PartialEq.eq in
    let before = (g.T.TagTable.state c.args.table.now).tags in
    let now = g.T.TagTable.state c.loop-start.table in
    let starts = c.deref-start-items.result.now in
    let k = c.loop-start.start-index in
    let f = λ (hart : HartState _). hart.pc_tag in
    let end = err_from_is_err_and c.from_residual.result c.from_residual.ensures.1 in
    let told = passed_on c.from_residual.result end.0 c.in_err-pc_tag.field-0.0 intern_end.Full end.1 end.2 e in
    let over = tag_over f starts k c.start-item.result c.loop-start-test.true eq before now.tags c.loop-start.invariant.seen
    c.pc_tag.result (c.pc_tag.ensures ∙ ap f c.start-item.is) g.met.P.Tag.Eq.laws now.limit (c.in_err-pc_tag.ensures.over.0 told) in
    let all = c.deref-start-items.ensures.value ∙ c.in-Ok.ensures.harts in
    subst (λ harts. (g.T.TagTable.state c.args.table.now).limit < length (with_tags eq before (map f harts))) all
    (subst (λ limit. limit < length (with_tags eq before (map f starts))) c.loop-start.invariant.limit over)

pub returns-in_default-new-clause-extends : goal.returns-in_default-new-clause-extends
returns-in_default-new-clause-extends g c =
    extends_on (g.T.TagTable.state c.args.table.now).tags (g.T.TagTable.state c.loop-start.table).tags (g.T.TagTable.state c.intern.new.self).tags
    c.loop-start.invariant.extends c.intern.ensures.extends

pub returns-in_default-push-clause-extends : goal.returns-in_default-push-clause-extends
returns-in_default-push-clause-extends g c =
    extends_on (g.T.TagTable.state c.args.table.now).tags (g.T.TagTable.state c.loop-start.table).tags (g.T.TagTable.state c.intern.new.self).tags
    c.loop-start.invariant.extends c.intern.ensures.extends

pub loop-start-init : goal.loop-start-init
loop-start-init g c = record {
  seen = refl;
  limit = refl;
  extends = extends_same (g.T.TagTable.state c.args.table.now).tags;
  harts = record { named = []; written = c.in-Ok-with_capacity.ensures.items; meant = refl };
}

pub loop-start-preserved : goal.loop-start-preserved
loop-start-preserved g c =
    let model = g.P.Policy.model in
    let policy = c.args.policy.now in
    let before = (g.T.TagTable.state c.args.table.now).tags in
    let old = (g.T.TagTable.state c.loop-start.table).tags in
    let new = (g.T.TagTable.state c.intern.new.self).tags in
    let starts = c.deref-start-items.result.now in
    let k = c.loop-start.start-index in
    let start = c.start-item.result in
    let f = λ (hart : HartState _). hart.pc_tag in
    let grows = extends_on before old new c.loop-start.invariant.extends c.intern.ensures.extends in
    let all = c.deref-start-items.ensures.value ∙ c.in-Ok.ensures.harts in
    let are_fresh = subst (All (IsFresh (model.plain policy))) (sym all) (harts_are_fresh model policy c.args.image.now) in
    let fresh = subst (IsFresh (model.plain policy)) (sym c.start-item.is) (are_fresh k start c.loop-start-test.true) in
    record {
      seen = tag_came f starts k start c.loop-start-test.true g.P.Tag.PartialEq.eq before old c.loop-start.invariant.seen
          c.pc_tag.result (c.pc_tag.ensures ∙ ap f c.start-item.is) new (λ j. (c.in_ok-pc_tag.ensures.grown j).tags);
      limit = (λ j. (c.in_ok-pc_tag.ensures.grown j).limit) ∙ c.loop-start.invariant.limit;
      extends = grows;
      harts = hart_came starts k c.loop-start-test.true new c.loop-start.harts.items
          (harts_grow old new c.intern.ensures.extends _ c.loop-start.harts.items c.loop-start.invariant.harts)
          start (model.plain policy) c.start-item.is fresh
          c.in_ok-pc_tag.pc_tag (c.in_ok-pc_tag.ensures.word ∙ ap (λ tag. Some tag) c.pc_tag.ensures) (grown_word before new grows 0 _ c.requires)
          c.in-Ok-new.hart (c.in-Ok-new.ensures ∙ (λ j. fresh_hart (c.pc.ensures.pc j) c.in_ok-pc_tag.pc_tag 0)) c.push.new.self.items c.in-Ok-push.ensures.items;
    }

pub returns-clause-seen : goal.returns-clause-seen
returns-clause-seen g c =
    let before = (g.T.TagTable.state c.args.table.now).tags in
    let all = take_all c.loop-start.start-index c.deref-start-items.result.now c.loop-start-test.false ∙ c.deref-start-items.ensures.value ∙ c.in-Ok.ensures.harts in
    c.loop-start.invariant.seen ∙ ap (λ read. with_tags g.P.Tag.PartialEq.eq before (map (λ (hart : HartState _). hart.pc_tag) read)) all

pub returns-clause-harts : goal.returns-clause-harts
returns-clause-harts g c =
    let all = take_all c.loop-start.start-index c.deref-start-items.result.now c.loop-start-test.false ∙ c.deref-start-items.ensures.value ∙ c.in-Ok.ensures.harts in
    subst (λ means. AreHartsOf (g.T.TagTable.state c.loop-start.table).tags means c.loop-start.harts.items) all c.loop-start.invariant.harts
