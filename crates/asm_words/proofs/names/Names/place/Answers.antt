use Rattle.asm_words.proofs.NamePlaceLemmas.{get_is}
use Rattle.asm_words.proofs.names.Names.place.Goals as goal

pub returns : goal.returns
returns c = cc (get_is c.self.inside.places c.args.name.now)
