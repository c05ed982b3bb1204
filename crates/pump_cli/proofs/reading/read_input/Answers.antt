use Rattle.std.proofs.Common.{◌≡◌, List, ℕ, rules, Err, IfSome, ap, subst}
use Rattle.pump_cli.specs.Reading.{input_read}
use Rattle.pump_cli.specs.declared.refusal.Refusal.{Refusal}
use Rattle.pump_cli.specs.declared.refusal.Refusal.TheVariants.{TooLong}
use Rattle.pump_cli.proofs.GatheringLemmas.{input_taken, input_too_long}
use Rattle.pump_cli.proofs.reading.read_input.Goals as goal

pub returns-in-Ok-clause-taken : goal.returns-in-Ok-clause-taken
returns-in-Ok-clause-taken g c =
    input_taken (g.S.Source.left c.args.input.now) c.in-Ok.fed.items c.in-Ok.ensures.ok (search (rules, c.in-Ok.ensures.within))

pub returns-in-Err-TooLong-clause-refused : goal.returns-in-Err-TooLong-clause-refused
returns-in-Err-TooLong-clause-refused g c = λ refusal is.
    let same : TooLong ≡ refusal = cc in
    subst (λ (r : Refusal). IfSome (g.S.Source.left c.args.input.now) (λ (all : List ℕ). input_read all ≡ Err r)) same
    (input_too_long (g.S.Source.left c.args.input.now) (c.in-Err-TooLong.ensures.too_long (ap Err c.in-Err-TooLong.field-0-is)))
