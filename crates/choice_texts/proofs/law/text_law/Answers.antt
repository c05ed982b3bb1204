use Rattle.choice_texts.proofs.TextLemmas.{starts_so, texts_tell}
use Rattle.choice_texts.proofs.law.text_law.Goals as goal

pub returns : goal.returns
returns c = record { apart = texts_tell; start = starts_so }
