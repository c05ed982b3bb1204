-- A mask of `count` ones keeps the remainder by 2 ^ count.
use Rattle.std.proofs.Common.{◌∙◌, ap}
use Rattle.std.proofs.lemmas.Nat.{and_mask, one_shl}
use Rattle.std.specs.Prelude.{bit_and, ◌/◌, ◌^◌, ◌-◌}
use Rattle.rv_decode.proofs.bits.field.Goals as goal

pub returns : goal.returns
returns c =
    ap (λ n. bit_and (c.args.word / 2 ^ c.args.low) (n - 1)) (one_shl c.args.count 32 c.requires.count_in_word)
    ∙ and_mask (c.args.word / 2 ^ c.args.low) c.args.count
