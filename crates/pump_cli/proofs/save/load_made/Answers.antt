use Rattle.std.proofs.Common.{◌≡◌, Err, IfSome, ap, subst, sym}
use Rattle.pump_line.specs.declared.task.Making.{Making}
use Rattle.pump_cli.specs.Reading.{made_read}
use Rattle.pump_cli.specs.declared.reading.EarlyEnd.TheVariants.{Refused}
use Rattle.pump_cli.proofs.GatheringLemmas.{migrated_refused}
use Rattle.pump_cli.proofs.save.load_made.Goals as goal

pub returns-in-Assemble-clause-refused : goal.returns-in-Assemble-clause-refused
returns-in-Assemble-clause-refused g c = λ refusal is.
    let held = g.F.Files.held c.args.files.now c.args.name.now in
    subst (λ (making : Making). IfSome held (λ bytes. made_read making bytes ≡ Err refusal)) (sym c.in-Assemble.is) (c.load_source.ensures.refused refusal is)

pub returns-in-Err-clause-refused : goal.returns-in-Err-clause-refused
returns-in-Err-clause-refused g c = λ refusal is.
    let held = g.F.Files.held c.args.files.now c.args.name.now in
    let same : c.in-Err.end ≡ Refused refusal = cc in
    subst (λ (making : Making). IfSome held (λ bytes. made_read making bytes ≡ Err refusal)) (sym c.in-Migrate.is)
    (migrated_refused held refusal (c.in-Err.ensures.refused refusal (ap Err same)))
