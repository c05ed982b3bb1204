use Rattle.std.proofs.Common.{inl, inr, arith}
use Rattle.std.proofs.lemmas.Bool.Decides.{nat_tests}
use Rattle.std.proofs.lemmas.Grind.{common_steps}
use Rattle.asm_text.proofs.NumberLemmas.{number-positive}
use Rattle.asm_text.proofs.numbers.number.Goals.{then-text-lt1, else-text-lt1+in_default-1}
use Rattle.asm_text.proofs.numbers.number.Goals as goal

pub returns : goal.returns
returns c =
    let positive = number-positive c.args.text.now
    (elim c.if-text-lt1.branch [ then-text-lt1 w ↦ inl (grind (arith, nat_tests)) | else-text-lt1+in_default-1 w ↦ inr (grind (arith, nat_tests)) ]) in
    rw positive (grind (arith, common_steps))
