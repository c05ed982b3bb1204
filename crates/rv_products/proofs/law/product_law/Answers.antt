use Rattle.rv_products.proofs.ProductLemmas.{mixed_words, signed_words, unsigned_words}
use Rattle.rv_products.proofs.law.product_law.Goals as goal

pub returns-clause-signed : goal.returns-clause-signed
returns-clause-signed c = signed_words

pub returns-clause-mixed : goal.returns-clause-mixed
returns-clause-mixed c = mixed_words

pub returns-clause-unsigned : goal.returns-clause-unsigned
returns-clause-unsigned c = unsigned_words
