use Rattle.std.proofs.Common.{◌+◌, ◌-◌, ◌*◌}
use Rattle.monitor_calls.specs.Ends.{EndsAs}
use Rattle.monitor_calls.specs.Service.{new_tags}
use Rattle.monitor_calls.specs.declared.serving.ServeEnd.{ServeEnd}
use Rattle.monitor_calls.proofs.serving.end_without_memory.Given as goal

-- as the range ends from here on, it ends from its first word here on
abbrev pub invariant-loop-place : goal.invariant-loop-place
invariant-loop-place g l =
    let from = new_tags g.P.Policy.model l.policy (g.W.View.word_at l.view) (g.W.View.tag_at l.view) l.plan in
    (e : ServeEnd) → EndsAs e (from (l.range.base + 4 * l.place) (l.range.count - l.place)) → EndsAs e (from (l.range.base + 4 * l.first) (l.range.count - l.first))
