use Rattle.std.proofs.Common.{◌≡◌, ◌∙◌, ◌/◌, arith, length}
use Rattle.std.proofs.lemmas.List.FromFn.{fill_by_all}
use Rattle.tag_memory.specs.Pages.{items_of}
use Rattle.tag_loader.specs.Start.{start_tag, start_tags}
use Rattle.tag_loader.proofs.StartLemmas.{run_more, run_tag}
use Rattle.tag_loader.proofs.parts.tags_of.Goals as goal

pub returns-clause-tags : goal.returns-clause-tags
unfolding start_tags
returns-clause-tags g c =
    let model = g.P.Policy.model in
    let plain = model.plain c.args.policy.now in
    let all : c.loop-n.n ≡ c.args.image.now.ram / 4 = omega (arith, c.ram-count.ensures.value, c.loop-n.invariant.most, c.loop-n-test.false) in
    let long : length (items_of c.loop-n.tags) ≡ c.args.image.now.ram / 4 = omega (arith, c.loop-n.invariant.size, all) in
    fill_by_all (start_tag model c.args.policy.now c.args.image.now) (items_of c.loop-n.tags) (c.args.image.now.ram / 4) plain long
    (λ k lt. c.loop-n.invariant.made k plain (omega (arith, lt, all)))

pub loop-n-preserved : goal.loop-n-preserved
loop-n-preserved g c =
    let model = g.P.Policy.model in
    let policy = c.args.policy.now in
    let image = c.args.image.now in
    let before = c.loop-n.invariant in
    let run = c.words_from-run in
    let n = c.loop-n.n in
    let same = run_tag model policy image c.loop-n.births n run.result.end run.result.birth c.start_word.result before.rest run.ensures.told c.start_word.ensures in
    record {
      made = run_more (start_tag model policy image) (items_of c.loop-n.tags) (items_of c.in_ok-tags-2.tags) n run.result.end c.start_word.result before.made before.size
          c.in_ok-tags-2.ensures.old c.in_ok-tags-2.ensures.new same;
      size = c.in_ok-tags-2.ensures.length;
      most = omega (arith, run.ensures.within, before.ram, c.ram-count.ensures.value);
      ram = run.ensures.ram ∙ before.ram;
      rest = λ at least. run.ensures.later at (omega (arith, least, run.ensures.some)) ∙ before.rest at (omega (arith, least, run.ensures.some));
    }
