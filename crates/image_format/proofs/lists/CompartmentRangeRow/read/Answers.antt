use Rattle.std.proofs.Common.{arith}
use Rattle.std.specs.Int.{w32}
use Rattle.image_format.specs.declared.version.Version.TheVariants.{One}
use Rattle.image_format.specs.Conditions.{is_owner}
use Rattle.image_format.proofs.RoomLemmas.{field_takes, number_takes, range_takes}
use Rattle.image_format.proofs.lists.CompartmentRangeRow.read.Goals as goal

pub returns-clause-takes : goal.returns-clause-takes
returns-clause-takes c =
    let size = c.args.bounds.size in
    let range = range_takes size c.args.bounds.ram 12 c.args.bytes.now (c.in_ok-range.range, c.in_ok-range.rest.now) c.in_ok-range.ensures in
    let owner = field_takes size 14 (is_owner One) c.in_ok-range.rest.now (c.in_ok-owner.owner, c.in_ok-owner.rest.now) c.in_ok-owner.ensures in
    let into = number_takes w32 size c.in_ok-owner.rest.now (c.in_ok-into.into, c.in_ok-into.rest.now) c.in_ok-into.ensures in
    let write = number_takes w32 size c.in_ok-into.rest.now (c.in_ok-write.write, c.in_ok-write.rest.now) c.in_ok-write.ensures in
    omega arith
