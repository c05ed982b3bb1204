use Rattle.std.proofs.Common.{◌≡◌, ◌<◌, ◌≤◌, Some, Err, List, ℕ, length, arith, subst}
use Rattle.workload.specs.Source.{source_of_workload}
use Rattle.pump_cli.specs.Reading.{source_read}
use Rattle.pump_cli.specs.declared.refusal.Refusal.{Refusal}
use Rattle.pump_cli.specs.declared.refusal.Refusal.TheVariants.{TooLong}
use Rattle.pump_cli.proofs.GatheringLemmas.{file_taken, file_too_long, lent_taken, no_source_taken, source_refused, source_taken}
use Rattle.pump_cli.proofs.load.make_workload.Goals as goal

pub returns-then-len-gt-FILE_LIMIT-clause-refused :
    goal.returns-then-len-gt-FILE_LIMIT-clause-refused
returns-then-len-gt-FILE_LIMIT-clause-refused c = λ refusal is.
    let source = source_of_workload c.args.count in
    let same : TooLong ≡ refusal = cc in
    let past : 33554432 < length c.in-Ok.source.items = omega arith in
    subst (λ (r : Refusal). source_read source ≡ Err r) same
    (no_source_taken (Some source) TooLong (file_too_long (Some source) (subst (λ (bytes : List ℕ). 33554432 < length bytes) c.in-Ok.ensures past)))

pub returns-clause-taken : goal.returns-clause-taken
returns-clause-taken c =
    let source = source_of_workload c.args.count in
    let short : length c.in-Ok.source.items ≤ 33554432 = omega arith in
    source_taken (Some source) c.deref.result.now
    (lent_taken (Some source) c.deref.result.now c.in-Ok.source.items c.deref.ensures.value (file_taken (Some source) c.in-Ok.source.items c.in-Ok.ensures short))
    c.image_of_source.result c.image_of_source.ensures.taken

pub returns-clause-refused : goal.returns-clause-refused
returns-clause-refused c = λ refusal is.
    let source = source_of_workload c.args.count in
    let short : length c.in-Ok.source.items ≤ 33554432 = omega arith in
    source_refused (Some source) c.deref.result.now
    (lent_taken (Some source) c.deref.result.now c.in-Ok.source.items c.deref.ensures.value (file_taken (Some source) c.in-Ok.source.items c.in-Ok.ensures short))
    refusal (c.image_of_source.ensures.refused refusal is)
