use Rattle.std.proofs.Common.{◌≡◌, ◌∙◌, sym, w64}
use Rattle.std.proofs.lemmas.Int.{to_z-of_z}
use Rattle.std.specs.Int.{cast_signed, cast_unsigned}
use Rattle.std.specs.Prelude.{pos, neg_ℤ, Ok}
use Rattle.asm_words.proofs.RangeLemmas.{immediate_kept}
use Rattle.asm_words.specs.Ranges.{within}
use Rattle.asm_words.proofs.ranges.immediate_at.Goals as goal

pub returns : goal.returns
returns c =
    let number : cast_signed w64 (cast_unsigned w64 c.args.number) ≡ c.args.number = to_z-of_z w64 c.args.number c.ranges.number in
    let read : within (neg_ℤ (pos 2048)) (pos 2047) c.args.number ≡ Ok c.in_ok-word.word = rw number at (sym c.within.ensures ∙ c.in_ok-word.was) in
    let kept : c.of_bits.result ≡ c.in_ok-word.word = c.of_bits.ensures ∙ immediate_kept c.args.number c.in_ok-word.word read in
    rw kept (sym read)
