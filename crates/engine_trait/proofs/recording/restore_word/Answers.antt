use Rattle.engine_trait.proofs.recording.restore_word.Goals as goal

pub set_word-requires-clause-within : goal.set_word-requires-clause-within
set_word-requires-clause-within g c = (c.requires c.in-Some.word c.in-Some.is).within
