use Rattle.std.proofs.Common.{append_assoc, refl, arith}
use Rattle.std.proofs.lemmas.List.FromFn.{map-range_with_len_more}
use Rattle.pump_words.specs.Texts.{hex_digit_of}
use Rattle.pump_words.proofs.texts.write_digits.Goals as goal

pub loop-k-preserved : goal.loop-k-preserved
loop-k-preserved c =
    rw (c.push.ensures.items, c.loop-k.invariant, map-range_with_len_more (hex_digit_of c.args.word) 0 c.loop-k.k c.loop-k.k (omega arith), append_assoc)
    refl
