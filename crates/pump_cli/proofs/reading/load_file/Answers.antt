use Rattle.std.proofs.Common.{◌≡◌, List, ℕ, rules, Err, IfSome, ap, subst}
use Rattle.pump_cli.specs.Reading.{file_limit, within_limit}
use Rattle.pump_cli.specs.declared.refusal.Refusal.{Refusal}
use Rattle.pump_cli.specs.declared.refusal.Refusal.TheVariants.{TooLong}
use Rattle.pump_cli.proofs.GatheringLemmas.{file_taken, file_too_long}
use Rattle.pump_cli.proofs.reading.load_file.Goals as goal

pub returns-in-Ok-clause-taken : goal.returns-in-Ok-clause-taken
returns-in-Ok-clause-taken g c =
    file_taken (g.F.Files.held c.args.files.now c.args.name.now) c.in-Ok.bytes.items c.in-Ok.ensures.ok (search (rules, c.in-Ok.ensures.within))

pub returns-in-Err-TooLong-clause-refused : goal.returns-in-Err-TooLong-clause-refused
returns-in-Err-TooLong-clause-refused g c = λ refusal is.
    let same : TooLong ≡ refusal = cc in
    subst (λ (r : Refusal). IfSome (g.F.Files.held c.args.files.now c.args.name.now) (λ (bytes : List ℕ). within_limit file_limit bytes ≡ Err r)) same
    (file_too_long (g.F.Files.held c.args.files.now c.args.name.now) (c.in-Err-TooLong.ensures.too_long (ap Err c.in-Err-TooLong.field-0-is)))
