use Rattle.std.proofs.Common.{◌≡◌, Err, ap}
use Rattle.pump_cli.specs.declared.reading.EarlyEnd.TheVariants.{Refused}
use Rattle.pump_cli.proofs.GatheringLemmas.{source_refused, source_taken, lent_taken, no_source_taken}
use Rattle.pump_cli.proofs.reading.load_source.Goals as goal

pub returns-in-Ok-clause-taken : goal.returns-in-Ok-clause-taken
returns-in-Ok-clause-taken g c =
    let held = g.F.Files.held c.args.files.now c.args.name.now in
    source_taken held c.deref.result.now (lent_taken held c.deref.result.now c.in-Ok.bytes.items c.deref.ensures.value c.in-Ok.ensures.taken) c.image_of_source.result c.image_of_source.ensures.taken

pub returns-in-Ok-clause-refused : goal.returns-in-Ok-clause-refused
returns-in-Ok-clause-refused g c = λ refusal is.
    let held = g.F.Files.held c.args.files.now c.args.name.now in
    source_refused held c.deref.result.now (lent_taken held c.deref.result.now c.in-Ok.bytes.items c.deref.ensures.value c.in-Ok.ensures.taken) refusal
    (c.image_of_source.ensures.refused refusal is)

pub returns-in-Err-clause-refused : goal.returns-in-Err-clause-refused
returns-in-Err-clause-refused g c = λ refusal is.
    let same : c.in-Err.end ≡ Refused refusal = cc in
    no_source_taken (g.F.Files.held c.args.files.now c.args.name.now) refusal (c.in-Err.ensures.refused refusal (ap Err same))
