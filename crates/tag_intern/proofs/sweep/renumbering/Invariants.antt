use Rattle.std.proofs.Common.{take}
use Rattle.tag_intern.specs.Sweep.{Renumbers}
use Rattle.tag_intern.proofs.sweep.renumbering.Given as goal

-- the words so far have their numbers
abbrev pub invariant-loop-word : goal.invariant-loop-word
invariant-loop-word g l = Renumbers (take l.word (g.T.TagTable.state l.old).tags) (g.T.TagTable.state l.new).tags l.numbers.items
