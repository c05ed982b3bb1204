use Rattle.std.proofs.Common.{◌≡◌, take}
use Rattle.tag_pairs.specs.Pairs.{left_count, right_count}
use Rattle.tag_pairs.proofs.counts.word_counts.Given as goal

abbrev pub invariant-loop-word : goal.invariant-loop-word
invariant-loop-word l = record {
  left : l.lefts ≡ left_count (take l.word l.pairs.tags);
  right : l.rights ≡ right_count (take l.word l.pairs.tags);
}
