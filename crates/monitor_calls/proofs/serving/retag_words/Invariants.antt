use Rattle.std.proofs.Common.{◌≡◌, ◌+◌, ◌-◌, ◌*◌, Ok}
use Rattle.std.specs.List.{All}
use Rattle.tag_memory.specs.Ram.{IsPlace}
use Rattle.monitor_calls.specs.Service.{new_tags}
use Rattle.monitor_calls.proofs.StepLemmas.{with_prefix}
use Rattle.monitor_calls.proofs.serving.retag_words.Given as goal

abbrev pub invariant-loop-place : goal.invariant-loop-place
invariant-loop-place g l =
    let from = new_tags g.P.Policy.model l.policy (g.W.View.word_at l.view) (g.W.View.tag_at l.view) l.plan in
    record {
      whole : with_prefix l.words.items (from (l.range.base + 4 * l.place) (l.range.count - l.place)) ≡ from l.range.base l.range.count;
      places : All (λ word. IsPlace (g.W.View.bytes_of l.view) word.0) l.words.items;
      tags : All (λ word. g.P.Policy.model.retag l.policy l.plan (g.W.View.tag_at l.view word.0) ≡ Ok word.2) l.words.items;
    }
