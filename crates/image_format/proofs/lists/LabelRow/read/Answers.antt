use Rattle.std.proofs.Common.{arith}
use Rattle.std.specs.Int.{w32}
use Rattle.image_format.specs.Conditions.{is_place}
use Rattle.image_format.proofs.RoomLemmas.{field_takes, number_takes}
use Rattle.image_format.proofs.lists.LabelRow.read.Goals as goal

pub returns-clause-takes : goal.returns-clause-takes
returns-clause-takes c =
    let address = field_takes c.args.bounds.size 10 (is_place c.args.bounds.ram) c.args.bytes.now (c.in_ok-address.address, c.in_ok-address.rest.now) c.in_ok-address.ensures in
    let id = number_takes w32 c.args.bounds.size c.in_ok-address.rest.now (c.in_ok-id.id, c.in_ok-id.rest.now) c.in_ok-id.ensures in
    omega arith
