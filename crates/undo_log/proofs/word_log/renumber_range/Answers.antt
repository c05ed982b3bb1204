use Rattle.std.proofs.Common.{◌∙◌, ◌<◌, ℕ, ap, arith, length, slice_index, slice_index_or, slice_set}
use Rattle.std.proofs.lemmas.List.{get_or_default}
use Rattle.std.proofs.lemmas.List.Edits.{map_over_more}
use Rattle.undo_log.specs.Past.{replaced_by}
use Rattle.undo_log.specs.declared.record.Replaced.{Replaced}
use Rattle.undo_log.proofs.word_log.renumber_range.Goals as goal

pub loop-old-preserved : goal.loop-old-preserved
loop-old-preserved c =
    let now = c.loop-old.old-items in
    let index = c.loop-old.old-index in
    let blank : Replaced ℕ = record { place = 0; value = 0; tag = 0 } in
    let old = slice_index_or now index blank in
    let size = ap length c.words_mut-old-items.ensures.value in
    let lt : index < length c.args.range.now = omega (arith, size, c.loop-old-test.true) in
    let within : index < length now = omega (arith, c.loop-old.auto.old-items, c.loop-old-test.true) in
    ap (λ tag. slice_set now index (record { place = old.place; value = old.value; tag = tag })) c.number_at-old.ensures
    ∙ map_over_more (replaced_by (slice_index c.args.numbers.now)) c.args.range.now now index old lt c.loop-old.invariant
    (get_or_default now index blank old within)
