use Rattle.std.proofs.Common.{rules, arith}
use Rattle.std.proofs.lemmas.Result.{err_from_is_err_and}
use Rattle.image_format.specs.Conditions.{is_place}
use Rattle.image_format.specs.Reading.{field_at, entries_at}
use Rattle.image_format.proofs.LoopLemmas.{goes_on, refuses, is_done}
use Rattle.image_format.proofs.RoomLemmas.{field_takes, has_place, places_on}
use Rattle.image_format.proofs.reading.entries_of.Goals as goal

pub loop-init : goal.loop-init
loop-init c = record { read = search rules; left = λ n few there. c.in_ok-entries.ensures.enough n (omega arith) there }

pub push-requires : goal.push-requires
push-requires c =
    let takes = field_takes c.args.size 5 (is_place c.args.sizes.ram) c.loop.rest.now (c.in_ok-entry.entry, c.in_ok-entry.after.now) c.in_ok-entry.ensures in
    has_place c.args.sizes.harts 4 c.loop.counter c.loop.rest.now c.in_ok-entry.after.now c.loop.entries c.loop-test.true takes c.loop.invariant.left

pub returns-in_err-entry : goal.returns-in_err-entry
returns-in_err-entry c =
    let p = err_from_is_err_and c.from_residual-in_err-entry.result c.from_residual-in_err-entry.ensures.1 in
    rw (p.1, p.2) (refuses c.in_err-entry.field-0.0 (field_at c.args.size 5 (is_place c.args.sizes.ram)) c.loop.entries.items c.args.sizes.harts c.loop.counter c.loop.rest.now (entries_at c.args.size c.args.sizes c.args.bytes.now) c.loop-test.true c.in_err-entry.ensures c.loop.invariant.read)

pub loop-preserved : goal.loop-preserved
loop-preserved c =
    let takes = field_takes c.args.size 5 (is_place c.args.sizes.ram) c.loop.rest.now (c.in_ok-entry.entry, c.in_ok-entry.after.now) c.in_ok-entry.ensures in
    record {
      read = rw c.push.ensures.items (goes_on (field_at c.args.size 5 (is_place c.args.sizes.ram)) c.loop.entries.items c.args.sizes.harts c.loop.counter c.loop.rest.now _ c.in_ok-entry.entry (entries_at c.args.size c.args.sizes c.args.bytes.now) c.loop-test.true c.in_ok-entry.ensures c.loop.invariant.read);
      left = places_on c.args.sizes.harts 4 c.loop.counter c.loop.rest.now c.in_ok-entry.after.now c.loop.entries c.push.new.self c.in_ok-entry.entry c.loop-test.true takes c.push.ensures.items c.push.ensures.places c.loop.invariant.left;
    }

pub returns : goal.returns
returns c =
    rw c.into_items.ensures.items (is_done (field_at c.args.size 5 (is_place c.args.sizes.ram)) c.loop.entries.items c.args.sizes.harts c.loop.counter c.loop.rest.now (entries_at c.args.size c.args.sizes c.args.bytes.now) c.loop-test.false c.loop.invariant.read)
