use Rattle.std.proofs.Common.{◌∙◌, ap, sym, subst, map}
use Rattle.std.specs.List.{All}
use Rattle.std.proofs.lemmas.List.{take_all}
use Rattle.image_format.specs.Conditions.{IsPlace}
use Rattle.tag_memory.specs.Hart.{IsHartOf}
use Rattle.tag_loader.specs.Start.{start_hart, start_harts}
use Rattle.tag_loader.proofs.StartLemmas.{few_counted, harts_are_plain, harts_more, one_counted, one_more}
use Rattle.tag_loader.proofs.parts.harts_of.Goals as goal

pub new-requires : goal.new-requires
new-requires g c = (c.entries-entry-items.ensures.places c.loop-entry.entry-index 0 c.loop-entry-test.true).aligned

pub loop-entry-preserved : goal.loop-entry-preserved
loop-entry-preserved g c = record {
  made = harts_more g.P.Policy.model c.args.policy.now c.args.image.now c.entries-entry-items.result.now
      c.loop-entry.entry-index c.loop-entry.harts.items c.push.new.self.items c.in_ok-hart.hart c.birth.result
      c.start_pc-pc_tag.result c.plain.result
      c.loop-entry-test.true c.loop-entry.invariant.made c.in_ok-push.ensures.items c.in_ok-hart.ensures
      c.start_pc-pc_tag.ensures c.birth.ensures c.plain.ensures.value;
  size = one_more c.loop-entry.harts.items c.push.new.self.items c.in_ok-hart.hart c.loop-entry.entry-index
      c.loop-entry.invariant.size c.in_ok-push.ensures.items;
}

pub returns-clause-harts : goal.returns-clause-harts
unfolding start_harts
returns-clause-harts g c =
    c.loop-entry.invariant.made
    ∙ ap (map (start_hart g.P.Policy.model c.args.policy.now c.args.image.now))
    (take_all c.loop-entry.entry-index c.entries-entry-items.result.now c.loop-entry-test.false
    ∙ c.entries-entry-items.ensures.value)

pub returns-clause-some : goal.returns-clause-some
returns-clause-some g c =
    one_counted _ _ _ c.loop-entry.invariant.size c.loop-entry-test.false c.entries-entry-items.ensures.least

pub returns-clause-few : goal.returns-clause-few
returns-clause-few g c =
    few_counted _ _ _ c.loop-entry.invariant.size c.loop-entry.auto.entry-index-end c.entries-entry-items.ensures.most

pub returns-clause-plain : goal.returns-clause-plain
unfolding start_harts
returns-clause-plain g c =
    subst (All (IsHartOf (g.P.Policy.model.plain c.args.policy.now))) (sym (returns-clause-harts g c))
    (harts_are_plain g.P.Policy.model c.args.policy.now c.args.image.now
    (subst (All (IsPlace c.args.image.now.ram)) c.entries.ensures.value c.entries.ensures.places))
