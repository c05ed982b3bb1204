use Rattle.std.proofs.Common.{◌≡◌, ℕ, rules, sym, ◌∙◌, ◌+◌, ◌*◌, Ok}
use Rattle.tag_memory.specs.Ram.{IsPlace}
use Rattle.monitor_calls.proofs.StepLemmas.{all_grown, begins, ends_whole, goes_on, is_refused}
use Rattle.monitor_calls.proofs.serving.retag_words.Goals as goal

pub loop-place-init : goal.loop-place-init
loop-place-init g c = record {
  whole = begins g.P.Policy.model c.args.policy.now (g.W.View.word_at c.args.view.now) (g.W.View.tag_at c.args.view.now) c.args.plan.now c.new-words.result.items c.args.range.base c.args.range.count c.new-words.ensures.items;
  places = search rules;
  tags = search rules;
}

pub returns-in-Err-clause-err : goal.returns-in-Err-clause-err
returns-in-Err-clause-err g c =
    is_refused g.P.Policy.model c.args.policy.now (g.W.View.word_at c.args.view.now) (g.W.View.tag_at c.args.view.now) c.args.plan.now c.loop-place.words.items c.args.range.base c.args.range.count c.loop-place.place c.in-Err.refused _ c.loop-place-test.true
    (sym c.next_tag.ensures ∙ c.in-Err.is) c.loop-place.invariant.whole

pub loop-place-preserved : goal.loop-place-preserved
loop-place-preserved g c = record {
  whole = goes_on g.P.Policy.model c.args.policy.now (g.W.View.word_at c.args.view.now) (g.W.View.tag_at c.args.view.now) c.args.plan.now c.loop-place.words.items c.push.new.self.items c.args.range.base c.args.range.count c.loop-place.place c.new_value-value.result c.in-Ok.tag _ c.loop-place-test.true
      (sym c.next_tag.ensures ∙ c.in-Ok.is) c.new_value-value.ensures c.in-Ok-push.ensures.items c.loop-place.invariant.whole;
  places = all_grown (λ (word : ℕ × ℕ × g.row.P-Tag.Denot). IsPlace (g.W.View.bytes_of c.args.view.now) word.0) c.loop-place.words.items c.push.new.self.items
      (c.args.range.base + 4 * c.loop-place.place, c.new_value-value.result, c.in-Ok.tag) c.loop-place.invariant.places (record { aligned = search rules; within = search rules }) c.in-Ok-push.ensures.items;
  tags = all_grown (λ (word : ℕ × ℕ × g.row.P-Tag.Denot). g.P.Policy.model.retag c.args.policy.now c.args.plan.now (g.W.View.tag_at c.args.view.now word.0) ≡ Ok word.2) c.loop-place.words.items c.push.new.self.items
      (c.args.range.base + 4 * c.loop-place.place, c.new_value-value.result, c.in-Ok.tag) c.loop-place.invariant.tags (sym c.next_tag.ensures ∙ c.in-Ok.is) c.in-Ok-push.ensures.items;
}

pub returns-in_default-clause-err : goal.returns-in_default-clause-err
returns-in_default-clause-err g c =
    ends_whole g.P.Policy.model c.args.policy.now (g.W.View.word_at c.args.view.now) (g.W.View.tag_at c.args.view.now) c.args.plan.now c.end_without_memory.result c.loop-place.words.items c.args.range.base c.args.range.count c.loop-place.place c.in-Ok.tag _ c.loop-place-test.true
    (sym c.next_tag.ensures ∙ c.in-Ok.is) c.loop-place.invariant.whole c.end_without_memory.ensures
