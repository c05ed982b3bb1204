use Rattle.std.proofs.Common.{◌⊎◌, ◌≢◌, ◌<◌, length, get_or, inl, inr, rules, arith}
use Rattle.std.proofs.lemmas.Bool.Decides.{nat_tests}
use Rattle.asm_text.proofs.NumberLemmas.{unsigned-decimal}
use Rattle.asm_text.proofs.numbers.unsigned.Goals.{then-text-lt2, else-text-lt2+in-48+in_default-1, else-text-lt2+in_default-1}
use Rattle.asm_text.proofs.numbers.unsigned.Goals as goal

pub returns : goal.returns
returns c =
    let other : (length c.args.text.now < 2) ⊎ (get_or c.args.text.now 0 0 ≢ 48) ⊎ (get_or c.args.text.now 1 0 ≢ 120) =
    elim c.if-text-lt2.branch [ then-text-lt2 w ↦ inl (grind (arith, nat_tests)) | else-text-lt2+in-48+in_default-1 w ↦ inr (inr (grind (arith, nat_tests))) | else-text-lt2+in_default-1 w ↦ inr (inl (grind (arith, nat_tests))) ] in
    rw (unsigned-decimal c.args.most c.args.text.now other) (search rules)
