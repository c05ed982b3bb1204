use Rattle.std.proofs.Common.{map, rules, arith}
use Rattle.std.proofs.lemmas.Result.{err_from_is_err_and}
use Rattle.image_format.specs.Parts.{part_of}
use Rattle.image_format.specs.Reading.{segment_at, times}
use Rattle.image_format.proofs.LoopLemmas.{placed, start, refuses, is_done, rows_refused, rows_done}
use Rattle.image_format.proofs.PartLemmas.{range_refused, words_refused, reads_on}
use Rattle.image_format.proofs.RoomLemmas.{has_place, places_on}
use Rattle.image_format.proofs.SegmentRoomLemmas.{segment_takes, word_places_on, words_have_places}
use Rattle.image_format.proofs.segments.segments_of.Goals as goal

pub loop-row-init : goal.loop-row-init
loop-row-init c = record {
  read = search rules;
  extents = λ n few there. c.in_ok-extents.ensures.enough n (omega arith) there;
  contents = λ n few there. c.in_ok-contents.ensures.enough n (omega arith) there;
}

pub returns-in_err-range : goal.returns-in_err-range
returns-in_err-range c =
    let p = err_from_is_err_and c.from_residual-in_err-range.result c.from_residual-in_err-range.ensures.1 in
    let e = c.in_err-range.field-0.0 in
    let step = segment_at c.args.bounds.size c.args.bounds.ram in
    let place = placed c.loop-row.row c.loop-row.before c.loop-row.rest.now in
    let refused = range_refused e c.args.bounds.size c.args.bounds.ram c.loop-row.row c.loop-row.before c.loop-row.rest.now c.in_err-range.ensures in
    rw (p.1, p.2) (rows_refused e c.args.count step c.args.bytes.now (refuses e step (map (part_of c.loop-row.contents.items) c.loop-row.extents.items) c.args.count c.loop-row.row place (times c.args.count step (start c.args.bytes.now)) c.loop-row-test.true refused c.loop-row.invariant.read.read))

pub returns-in_err-rest : goal.returns-in_err-rest
returns-in_err-rest c =
    let p = err_from_is_err_and c.from_residual-in_err-rest.result c.from_residual-in_err-rest.ensures.1 in
    let e = c.in_err-rest.field-0.0 in
    let step = segment_at c.args.bounds.size c.args.bounds.ram in
    let place = placed c.loop-row.row c.loop-row.before c.loop-row.rest.now in
    let refused = words_refused e c.args.bounds.size c.args.bounds.ram c.loop-row.row c.loop-row.before c.loop-row.rest.now c.in_ok-range.range c.in_ok-range.after.now c.loop-row.contents.items c.in_ok-range.ensures c.in_err-rest.ensures.read in
    rw (p.1, p.2) (rows_refused e c.args.count step c.args.bytes.now (refuses e step (map (part_of c.loop-row.contents.items) c.loop-row.extents.items) c.args.count c.loop-row.row place (times c.args.count step (start c.args.bytes.now)) c.loop-row-test.true refused c.loop-row.invariant.read.read))

pub words_of-requires : goal.words_of-requires
words_of-requires c =
    words_have_places c.args.bounds.size c.args.bounds.ram c.loop-row.row c.loop-row.before c.loop-row.rest.now c.in_ok-range.range c.in_ok-range.after.now c.loop-row.contents c.in_ok-range.ensures c.loop-row.invariant.contents

pub push-requires : goal.push-requires
push-requires c =
    let takes = segment_takes c.args.bounds.size c.args.bounds.ram c.loop-row.row c.loop-row.before c.loop-row.rest.now c.in_ok-range.range c.in_ok-range.after.now c.in_ok-rest.rest.now c.loop-row.contents c.words_of.new.contents c.in_ok-range.ensures c.in_ok-rest.ensures.read in
    has_place c.args.count 12 c.loop-row.row c.loop-row.rest.now c.in_ok-rest.rest.now c.loop-row.extents c.loop-row-test.true takes c.loop-row.invariant.extents

pub loop-row-preserved : goal.loop-row-preserved
loop-row-preserved c =
    let takes = segment_takes c.args.bounds.size c.args.bounds.ram c.loop-row.row c.loop-row.before c.loop-row.rest.now c.in_ok-range.range c.in_ok-range.after.now c.in_ok-rest.rest.now c.loop-row.contents c.words_of.new.contents c.in_ok-range.ensures c.in_ok-rest.ensures.read in
    record {
      read = rw c.push.ensures.items (reads_on c.args.count c.args.bounds.size c.args.bounds.ram c.args.bytes.now c.loop-row.row c.loop-row.before c.loop-row.extents.items c.loop-row.contents.items c.loop-row.rest.now c.in_ok-range.range c.len-first.result c.in_ok-range.after.now c.words_of.new.contents.items c.in_ok-rest.rest.now c.loop-row-test.true c.len-first.ensures c.in_ok-range.ensures c.in_ok-rest.ensures.read c.loop-row.invariant.read);
      extents = places_on c.args.count 12 c.loop-row.row c.loop-row.rest.now c.in_ok-rest.rest.now c.loop-row.extents c.push.new.self _ c.loop-row-test.true takes c.push.ensures.items c.push.ensures.places c.loop-row.invariant.extents;
      contents = word_places_on c.args.bounds.size c.args.bounds.ram c.loop-row.row c.loop-row.before c.loop-row.rest.now c.in_ok-range.range c.in_ok-range.after.now c.in_ok-rest.rest.now c.loop-row.contents c.words_of.new.contents c.in_ok-range.ensures c.in_ok-rest.ensures.read c.in_ok-rest.ensures.places c.loop-row.invariant.contents;
    }

pub returns : goal.returns
returns c =
    let step = segment_at c.args.bounds.size c.args.bounds.ram in
    let segments = map (part_of c.loop-row.contents.items) c.loop-row.extents.items in
    let place = placed c.loop-row.row c.loop-row.before c.loop-row.rest.now in
    rw (c.into_items.ensures.items, c.into_items-2.ensures.items) (rows_done c.args.count step c.args.bytes.now segments place (is_done step segments c.args.count c.loop-row.row place (times c.args.count step (start c.args.bytes.now)) c.loop-row-test.false c.loop-row.invariant.read.read))
