use Rattle.std.proofs.Common.{◌≡◌, IfSome, Some, slice_get, take}
use Rattle.tag_intern.specs.Sweep.{remade_table}
use Rattle.tag_intern.specs.Words.{tag_at}
use Rattle.tag_intern.proofs.sweep.remade.Given as goal

abbrev pub invariant-loop-word : goal.invariant-loop-word
invariant-loop-word g l =
    let made = g.T.TagTable.state l.made in
    let old = g.T.TagTable.state l.tags in
    record {
      -- the tags of the words so far are in the table
      so_far : made ≡ remade_table g.T.Tag.PartialEq.eq old l.plain (take l.word-index l.live);
      -- and the last of them has this word
      last : IfSome l.last (λ known. slice_get made.tags known.1 ≡ Some (tag_at l.plain old.tags known.0));
    }
