use Rattle.std.proofs.Common.{◌∙◌, ap, slice_index, slice_set, sym}
use Rattle.std.proofs.lemmas.List.Edits.{map_over_more}
use Rattle.tag_memory.specs.Maps.{hart_by}
use Rattle.engine_trait.proofs.cores.renumber_harts.Goals as goal

pub loop-hart-preserved : goal.loop-hart-preserved
loop-hart-preserved c =
    let now = c.loop-hart.harts in
    let number = c.loop-hart.hart-index in
    let hart = c.hart-item.result in
    let renumbered = hart_by (slice_index c.args.numbers.now) in
    ap (slice_set now number) (c.renumber.ensures ∙ ap renumbered (sym c.hart-item.is))
    ∙ map_over_more renumbered c.args.harts.now now number hart c.loop-hart-test.true c.loop-hart.invariant c.hart-item.is
