use Rattle.pump_words.proofs.texts.+dec.Given as goal

abbrev pub decreases-dec : goal.decreases-dec
decreases-dec l = l.number
