use Rattle.asm_words.proofs.NamePlaceLemmas.{insert_is}
use Rattle.asm_words.proofs.names.Names.give.Goals as goal

pub returns-clause-ok : goal.returns-clause-ok
returns-clause-ok c =
    cc (insert_is c.self.inside.places c.insert.new.self c.args.name.now c.args.place c.in_ok-insert.ensures.updates)
