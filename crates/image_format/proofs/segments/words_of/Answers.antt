use Rattle.std.proofs.Common.{◌∙◌, refl, rules, arith}
use Rattle.std.specs.Int.{w32}
use Rattle.std.proofs.lemmas.Result.{err_from_is_err_and}
use Rattle.image_format.specs.Reading.{number_at, times, with_prefix}
use Rattle.image_format.proofs.LoopLemmas.{goes_on, refuses, is_done}
use Rattle.image_format.proofs.RoomLemmas.{has_place, number_takes, places_on}
use Rattle.image_format.proofs.segments.words_of.Goals as goal

pub loop-init : goal.loop-init
loop-init c = record { read = search rules; left = λ n few there. c.requires n (omega arith) there; places = refl }

pub push-requires : goal.push-requires
push-requires c =
    let takes = number_takes w32 c.args.size c.loop.rest.now (c.in_ok-word.word, c.in_ok-word.after.now) c.in_ok-word.ensures in
    has_place c.args.count 4 c.loop.counter c.loop.rest.now c.in_ok-word.after.now c.loop.contents c.loop-test.true takes c.loop.invariant.left

pub returns-in_err-word-clause-read : goal.returns-in_err-word-clause-read
returns-in_err-word-clause-read c =
    let p = err_from_is_err_and c.from_residual.result c.from_residual.ensures.1 in
    rw (p.1, p.2) (refuses c.in_err-word.field-0.0 (number_at w32 c.args.size) c.loop.contents.items c.args.count c.loop.counter c.loop.rest.now (with_prefix c.args.contents.now.items (times c.args.count (number_at w32 c.args.size) c.args.bytes.now)) c.loop-test.true c.in_err-word.ensures c.loop.invariant.read)

pub loop-preserved : goal.loop-preserved
loop-preserved c =
    let takes = number_takes w32 c.args.size c.loop.rest.now (c.in_ok-word.word, c.in_ok-word.after.now) c.in_ok-word.ensures in
    record {
      read = rw c.push.ensures.items (goes_on (number_at w32 c.args.size) c.loop.contents.items c.args.count c.loop.counter c.loop.rest.now _ c.in_ok-word.word (with_prefix c.args.contents.now.items (times c.args.count (number_at w32 c.args.size) c.args.bytes.now)) c.loop-test.true c.in_ok-word.ensures c.loop.invariant.read);
      left = places_on c.args.count 4 c.loop.counter c.loop.rest.now c.in_ok-word.after.now c.loop.contents c.push.new.self c.in_ok-word.word c.loop-test.true takes c.push.ensures.items c.push.ensures.places c.loop.invariant.left;
      places = c.push.ensures.places ∙ c.loop.invariant.places;
    }

pub returns-clause-read : goal.returns-clause-read
returns-clause-read c =
    is_done (number_at w32 c.args.size) c.loop.contents.items c.args.count c.loop.counter c.loop.rest.now (with_prefix c.args.contents.now.items (times c.args.count (number_at w32 c.args.size) c.args.bytes.now)) c.loop-test.false c.loop.invariant.read
