use Rattle.std.proofs.Common.{arith}
use Rattle.std.specs.Int.{w128}
use Rattle.image_format.specs.declared.version.Version.TheVariants.{Two}
use Rattle.image_format.specs.Conditions.{is_owner}
use Rattle.image_format.proofs.RoomLemmas.{field_takes, number_takes, range_takes}
use Rattle.image_format.proofs.lists.WideCompartmentRangeRow.read.Goals as goal

pub returns-clause-takes : goal.returns-clause-takes
returns-clause-takes c =
    let size = c.args.bounds.size in
    let range = range_takes size c.args.bounds.ram 12 c.args.bytes.now (c.in_ok-range.range, c.in_ok-range.rest.now) c.in_ok-range.ensures in
    let owner = field_takes size 14 (is_owner Two) c.in_ok-range.rest.now (c.in_ok-owner.owner, c.in_ok-owner.rest.now) c.in_ok-owner.ensures in
    let into = number_takes w128 size c.in_ok-owner.rest.now (c.in_ok-into.into, c.in_ok-into.rest.now) c.in_ok-into.ensures in
    let write = number_takes w128 size c.in_ok-into.rest.now (c.in_ok-write.write, c.in_ok-write.rest.now) c.in_ok-write.ensures in
    omega arith
