use Rattle.std.proofs.Common.{◌≡◌, ◌++◌, drop, length, map, take}
use Rattle.open_words.specs.Open.{is_open}
use Rattle.open_words.proofs.open.learn_from.Given as goal

-- the words so far have been told
abbrev pub invariant-loop-word : goal.invariant-loop-word
invariant-loop-word g l =
    l.known.items
    ≡ l.fn.known.items ++ map (is_open g.P.Policy.model l.policy) (drop (length l.fn.known.items) (take l.word (g.T.TagTable.state l.words.tags.now).tags))
