use Rattle.image_format.specs.Reading.{range_at}
use Rattle.image_format.proofs.RoomLemmas.{given_takes, range_takes}
use Rattle.image_format.proofs.lists.WordRangeRow.read.Goals as goal

pub returns-clause-takes : goal.returns-clause-takes
returns-clause-takes c =
    let size = c.args.bounds.size in
    let ram = c.args.bounds.ram in
    given_takes 8 (range_at size ram 8) (range_takes size ram 8) c.args.bytes.now (λ x. (x.0, x.1.now)) c.range_of.result c.range_of.ensures
