use Rattle.std.proofs.Common.{arith}
use Rattle.rv_products.proofs.QuotientLemmas.{parts_are}
use Rattle.rv_products.proofs.WordLemmas.{words_divided, words_divided_alone}
use Rattle.rv_products.proofs.law.quotient_law.Goals as goal

pub returns-clause-signed : goal.returns-clause-signed
returns-clause-signed c = words_divided

pub returns-clause-signed_alone : goal.returns-clause-signed_alone
returns-clause-signed_alone c = words_divided_alone

pub returns-clause-unsigned_alone : goal.returns-clause-unsigned_alone
returns-clause-unsigned_alone c a b q r some is = let parts = parts_are a b q r is.whole is.small in grind arith
