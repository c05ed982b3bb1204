use Rattle.std.proofs.Common.{arith}
use Rattle.rv_products.proofs.WordLemmas.{quotient_wrapped}
use Rattle.rv_products.proofs.quotients.div.Goals as goal

pub returns : goal.returns
returns c =
    quotient_wrapped c.args.dividend c.args.divisor _ _ _ _ (omega arith) (omega arith) c.if-divisor-eq0.false
    c.cast_signed.ensures c.cast_signed-2.ensures c.wrapping_div-quotient.ensures c.cast_unsigned.ensures
