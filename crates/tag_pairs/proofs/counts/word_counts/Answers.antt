use Rattle.std.proofs.Common.{ℕ, ◌<◌, ◌∙◌, ap, arith, length, sym}
use Rattle.tag_pairs.specs.Order.{next}
use Rattle.tag_pairs.proofs.OrderLemmas.{counted_next, word_counted}
use Rattle.tag_pairs.proofs.counts.word_counts.Goals as goal

pub count_with-lefts-requires : goal.count_with-lefts-requires
count_with-lefts-requires c =
    let within : c.loop-word.word < length c.args.pairs.now.tags = omega (arith, c.loop-word-test.true, c.len-len.ensures.len) in
    let is = ap (λ (pair : ℕ × ℕ). pair.0) c.tag_or-left.ensures in
    let below = word_counted (λ (pair : ℕ × ℕ). pair.0) c.args.pairs.now.tags c.loop-word.word (0, 0) within in
    omega (arith, is, below, c.requires.left)

pub count_with-rights-requires : goal.count_with-rights-requires
count_with-rights-requires c =
    let within : c.loop-word.word < length c.args.pairs.now.tags = omega (arith, c.loop-word-test.true, c.len-len.ensures.len) in
    let is = ap (λ (pair : ℕ × ℕ). pair.1) c.tag_or-left.ensures in
    let below = word_counted (λ (pair : ℕ × ℕ). pair.1) c.args.pairs.now.tags c.loop-word.word (0, 0) within in
    omega (arith, is, below, c.requires.right)

pub loop-word-preserved : goal.loop-word-preserved
loop-word-preserved c =
    let within : c.loop-word.word < length c.args.pairs.now.tags = omega (arith, c.loop-word-test.true, c.len-len.ensures.len) in
    record {
      left = c.count_with-lefts.ensures ∙ (λ j. next (c.loop-word.invariant.left j) (c.tag_or-left.ensures j).0)
          ∙ sym (counted_next (λ (pair : ℕ × ℕ). pair.0) c.args.pairs.now.tags c.loop-word.word (0, 0) within);
      right = c.count_with-rights.ensures ∙ (λ j. next (c.loop-word.invariant.right j) (c.tag_or-left.ensures j).1)
          ∙ sym (counted_next (λ (pair : ℕ × ℕ). pair.1) c.args.pairs.now.tags c.loop-word.word (0, 0) within);
    }
