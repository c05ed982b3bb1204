use Rattle.std.proofs.Common.{arith}
use Rattle.rv_products.proofs.ProductLemmas.{high_multiplied}
use Rattle.rv_products.proofs.products.mul_high.Goals as goal

pub returns : goal.returns
returns c =
    high_multiplied c.args.left c.args.right _ _ _ _ _ (omega arith) (omega arith)
    c.cast_signed.ensures c.from.ensures c.cast_signed-2.ensures c.from-2.ensures c.high_word.ensures
