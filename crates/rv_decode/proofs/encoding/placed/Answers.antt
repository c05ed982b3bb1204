use Rattle.std.proofs.Common.{◌∙◌, ap, ◌*◌, ◌^◌}
use Rattle.std.specs.Prelude.{bit_or}
use Rattle.std.proofs.Math.Nat.{mod-eq_of_lt, add_comm}
use Rattle.std.proofs.lemmas.Nat.{or_comm, or_shifted}
use Rattle.rv_decode.proofs.encoding.placed.Goals as goal

pub returns : goal.returns
returns c =
    ap (λ n. bit_or c.args.below n) (mod-eq_of_lt c.requires.fits)
    ∙ or_comm c.args.below (c.args.part * 2 ^ c.args.place)
    ∙ or_shifted c.args.part c.args.place c.args.below c.requires.apart
    ∙ add_comm (c.args.part * 2 ^ c.args.place) c.args.below
