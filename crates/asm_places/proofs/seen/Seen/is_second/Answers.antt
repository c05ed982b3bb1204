use Rattle.asm_places.proofs.seen.Seen.is_second.Goals as goal

pub returns-in-Entry : goal.returns-in-Entry
returns-in-Entry c = λ before seen. rw c.in-Entry.is (c.has_entry.ensures before seen)
