use Rattle.std.proofs.Common.{rules, arith, ◌≡◌, ◌+◌, ◌/◌, ◌<◌, ◌≤◌, ◌∙◌, Some, ap, length, map, refl, subst}
use Rattle.std.specs.List.{range_with_len}
use Rattle.std.proofs.lemmas.Result.{err_from_is_err_and}
use Rattle.engine_trait.specs.Accounts.{with_tags}
use Rattle.tag_intern.specs.declared.table.InternEnd.TheVariants as intern_end
use Rattle.tag_intern.proofs.TableLemmas.{extends_on, extends_same}
use Rattle.word_loader.specs.Named.{AreWordsOf}
use Rattle.tag_memory.specs.Pages.{items_of}
use Rattle.tag_loader.specs.Start.{start_tag, start_tags}
use Rattle.tag_intern.proofs.ComingLemmas.{passed_on}
use Rattle.word_loader.proofs.NamedLemmas.{run_made, run_over, run_seen, words_made}
use Rattle.tag_loader.proofs.StartLemmas.{run_tag}
use Rattle.word_loader.proofs.words.word_tags.Goals as goal

pub returns-in_err-word-clause-full : goal.returns-in_err-word-clause-full
unfolding start_tags
returns-in_err-word-clause-full g c e =
    let eq = g.P.Tag.PartialEq.eq in
    let model = g.P.Policy.model in
    let f = start_tag model c.args.policy.now c.args.image.now in
    let before = (g.T.TagTable.state c.args.table.now).tags in
    let now = g.T.TagTable.state c.loop-n.table in
    let run = c.words_from-run.result in
    let ram = c.args.image.now.ram in
    let n = c.loop-n.n in
    let most : run.end ≤ ram / 4 = omega (arith, c.words_from-run.ensures.within, c.loop-n.invariant.ram) in
    let same = run_tag model c.args.policy.now c.args.image.now c.loop-n.births n run.end run.birth c.start_word.result
    c.loop-n.invariant.rest c.words_from-run.ensures.told c.start_word.ensures in
    let end = err_from_is_err_and c.from_residual.result c.from_residual.ensures.1 in
    let told = passed_on c.from_residual.result end.0 c.in_err-word.field-0.0 intern_end.Full end.1 end.2 e in
    subst (λ limit. limit < length (with_tags eq before (map f (range_with_len 0 (ram / 4))))) c.loop-n.invariant.limit
    (run_over f eq g.met.P.Tag.Eq.laws c.start_word.result before now.tags n run.end c.words_from-run.ensures.some c.loop-n.invariant.seen same now.limit (ram / 4) most
    (c.in_err-word.ensures.over.0 told))

pub returns-in_default-extended-clause-extends : goal.returns-in_default-extended-clause-extends
returns-in_default-extended-clause-extends g c =
    extends_on (g.T.TagTable.state c.args.table.now).tags (g.T.TagTable.state c.loop-n.table).tags (g.T.TagTable.state c.intern.new.self).tags
    c.loop-n.invariant.extends c.intern.ensures.extends

pub loop-n-init : goal.loop-n-init
loop-n-init g c = record {
  seen = refl;
  limit = refl;
  extends = extends_same (g.T.TagTable.state c.args.table.now).tags;
  made = λ k d lt. absurd (omega (arith, lt));
  size = ap length c.in-Ok.ensures;
  most = omega arith;
  ram = search rules;
  rest = λ at least. search rules;
}

pub loop-n-preserved : goal.loop-n-preserved
loop-n-preserved g c =
    let eq = g.P.Tag.PartialEq.eq in
    let model = g.P.Policy.model in
    let f = start_tag model c.args.policy.now c.args.image.now in
    let before = (g.T.TagTable.state c.args.table.now).tags in
    let old = (g.T.TagTable.state c.loop-n.table).tags in
    let new = (g.T.TagTable.state c.intern.new.self).tags in
    let run = c.words_from-run.result in
    let n = c.loop-n.n in
    let some = c.words_from-run.ensures.some in
    let same = run_tag model c.args.policy.now c.args.image.now c.loop-n.births n run.end run.birth c.start_word.result
    c.loop-n.invariant.rest c.words_from-run.ensures.told c.start_word.ensures in
    record {
      seen = run_seen f eq g.met.P.Tag.Eq.laws c.start_word.result before old n run.end some c.loop-n.invariant.seen same new (λ j. (c.in_ok-word.ensures.grown j).tags);
      limit = search rules;
      extends = extends_on before old new c.loop-n.invariant.extends c.intern.ensures.extends;
      made = run_made f old new c.intern.ensures.extends (items_of c.loop-n.words) (items_of c.in-Ok-extended.longer) n run.end c.in_ok-word.word c.start_word.result
          c.loop-n.invariant.made (λ k d lt below. c.in-Ok-extended.ensures.old k d below)
          (λ k d least lt. c.in-Ok-extended.ensures.new k d least lt)
          c.in_ok-word.ensures.word same c.loop-n.invariant.size;
      size = search rules;
      most = omega (arith, c.words_from-run.ensures.within, c.loop-n.invariant.ram, c.ram-count.ensures.value);
      ram = c.words_from-run.ensures.ram ∙ c.loop-n.invariant.ram;
      rest = λ at least. c.words_from-run.ensures.later at (omega (arith, least, some)) ∙ c.loop-n.invariant.rest at (omega (arith, least, some));
    }

pub returns-clause-seen : goal.returns-clause-seen
unfolding start_tags
returns-clause-seen g c =
    let before = (g.T.TagTable.state c.args.table.now).tags in
    let f = start_tag g.P.Policy.model c.args.policy.now c.args.image.now in
    let all : c.loop-n.n ≡ c.args.image.now.ram / 4 = omega (arith, c.ram-count.ensures.value, c.loop-n.invariant.most, c.loop-n-test.false) in
    c.loop-n.invariant.seen ∙ ap (λ count. with_tags g.P.Tag.PartialEq.eq before (map f (range_with_len 0 count))) all

pub returns-clause-words : goal.returns-clause-words
unfolding start_tags
returns-clause-words g c =
    let f = start_tag g.P.Policy.model c.args.policy.now c.args.image.now in
    let now = (g.T.TagTable.state c.loop-n.table).tags in
    let long : length (items_of c.loop-n.words) ≡ c.args.image.now.ram / 4 =
    omega (arith, c.ram-count.ensures.value, c.loop-n.invariant.most, c.loop-n-test.false, c.loop-n.invariant.size) in
    subst (λ count. AreWordsOf now (map f (range_with_len 0 count)) (items_of c.loop-n.words)) long
    (words_made f now 0 (items_of c.loop-n.words) (λ k d lt. c.loop-n.invariant.made k d (omega (arith, lt, c.loop-n.invariant.size)) ∙ (let at : k ≡ 0 + k = omega arith in ap (λ n. Some (f n)) at)))

pub returns-clause-size : goal.returns-clause-size
returns-clause-size g c =
    omega (arith, c.ram-count.ensures.value, c.ram-count.ensures.aligned, c.loop-n.invariant.most, c.loop-n-test.false, c.loop-n.invariant.size)
