use Rattle.std.proofs.Common.{sym, ◌∙◌}
use Rattle.image_format.proofs.BuildingLemmas.{is_joined, is_first, is_begun}
use Rattle.image_format.proofs.segments.Segments.put_word.Goals as goal
use Rattle.image_format.proofs.segments.Segments.put_word.Goals.{else-count-gt0-via-then-count-gt0+else-is_up_to, else-count-gt0-via-else-count-gt0}

pub returns-then-is_up_to-clause-put : goal.returns-then-is_up_to-clause-put
returns-then-is_up_to-clause-put c =
    rw (c.in_ok-push.ensures.items, sym c.self.view_is)
    (is_joined c.self.inside.contents.items c.self.inside.extents.items c.args.address c.args.word c.len-count.result c.index.result.now c.index_mut.result.now c.self.invariant (c.len-count.ensures ∙ c.self.inside.extents.ok.0) c.if-count-gt0.true c.index.ensures c.index_mut.ensures.value (sym c.is_up_to.ensures ∙ c.if-is_up_to.true))

pub returns-clause-put : goal.returns-clause-put
returns-clause-put c =
    elim c.else-count-gt0.branch [
      | else-count-gt0-via-then-count-gt0+else-is_up_to w ↦
          rw (c.in_ok-push-2.ensures.items, c.push-3.ensures.items, c.if-is_err.ensures.negation, sym c.self.view_is)
          (is_begun c.self.inside.contents.items c.self.inside.extents.items c.args.address c.args.word c.len-count.result c.len-first.result w.index.result.now c.self.invariant (c.len-count.ensures ∙ c.self.inside.extents.ok.0) w.if-count-gt0.true w.index.ensures (sym w.is_up_to.ensures ∙ w.if-is_up_to.false) (c.len-first.ensures ∙ c.self.inside.contents.ok.0))
      | else-count-gt0-via-else-count-gt0 w ↦
          rw (c.in_ok-push-2.ensures.items, c.push-3.ensures.items, c.if-is_err.ensures.negation, sym c.self.view_is)
          (is_first c.self.inside.contents.items c.self.inside.extents.items c.args.address c.args.word c.len-count.result c.len-first.result c.self.invariant (c.len-count.ensures ∙ c.self.inside.extents.ok.0) w.if-count-gt0.false (c.len-first.ensures ∙ c.self.inside.contents.ok.0))
    ]
